-- Refusal 10. Document 01: "Refusal 10 comes if and only if no eligible arena has n neighbouring clear used bits, written without any search; a claim that says 10
-- before looking, or always, fails demands 2 and 3". Of any layer. Assumes nothing.
use Rattle.std.specs.Prelude.{◌≡◌, Bool, true, false, List, ◌↔◌, ℕ, suc, ◌+◌, ◌≤◌, ◌<◌, ℤ, pos, negsuc}
use Rattle.bitmap.specs.Bits.{bit_at}
use Rattle.options.specs.Options.{arena_allowed}
use Rattle.refusals.specs.declared.Refusal.TheVariants.{NoRun}
use Rattle.arena.specs.declared.Arena.{Arena}
use Rattle.arena.specs.Flags.{is_on}
use Rattle.arena.specs.Registering.{reserved_arena}
use Rattle.layer.specs.declared.Settings.{Settings}
use Rattle.layer.specs.declared.Question.TheVariants.{Idle, Reserving}
use Rattle.layer.specs.declared.Waiting.TheVariants.{Claim}
use Rattle.layer.specs.declared.Kind.TheVariants.{ForMemory}
use Rattle.layer.specs.declared.Ask.TheVariants.{AskCommit, AskPurge, AskMemory, AskGiveBack}
use Rattle.layer.specs.declared.Answer.{Answer}
use Rattle.layer.specs.declared.Answer.TheVariants.{Refused, Asks, Registered, Claimed, Released, Swept, Owns, Area}
use Rattle.layer.specs.World.{World, size_of}
use Rattle.layer.specs.Table.{at, sound}
use Rattle.layer.specs.Registering.{with_record}
use Rattle.layer.specs.Step.{claim, act, answer}
use Rattle.layer.specs.History.{Layer, Registrable}

-- "A negative arena id means every arena that is not exclusive; other ids mean that one arena."
abbrev pub Eligible : ℤ → ℕ → Arena → Type 0
Eligible (pos x) i a = i ≡ x
Eligible (negsuc x) i a = is_on a.exclusive ≡ false

-- n neighbouring chunks from s on, their used bits clear
abbrev pub ClearFrom : Arena → ℕ → ℕ → Type 0
ClearFrom a n s = (s + n ≤ a.chunks) × ((j : ℕ) → s ≤ j → j < s + n → bit_at a.used j ≡ false)

-- none of the first k arenas that is eligible has such a run
abbrev pub NoneHas : ℤ → ℕ → List Arena → ℕ → Type 0
NoneHas id n l k = (i : ℕ) → i < k → Eligible id i (at l i) → (s : ℕ) → ClearFrom (at l i) n s → ⊥

-- 10, or the miss goes to memory
abbrev pub IsMiss : Answer → Type 0
IsMiss (Refused why) = why ≡ NoRun
IsMiss (Asks (AskMemory bytes align commit large)) = Unit {0}
IsMiss (Asks (AskCommit address bytes)) = ⊥
IsMiss (Asks (AskPurge address bytes decommit)) = ⊥
IsMiss (Asks (AskGiveBack address bytes)) = ⊥
IsMiss (Registered id) = ⊥
IsMiss (Claimed address fresh committed) = ⊥
IsMiss Released = ⊥
IsMiss (Swept count) = ⊥
IsMiss (Owns whether) = ⊥
IsMiss (Area base bytes) = ⊥

-- a claim on a table that row 1 lets pass, where rows 2, 4 and 5 let it pass too
abbrev pub TenExactly : Layer → Type 0
TenExactly L =
    (w : World) (ns : ℕ) (settings : Settings) (id : ℤ) (n : ℕ) (commits : Bool) → sound (size_of w.state) w settings.page ≡ true → w.state.question ≡ Idle
    → 1 ≤ n → arena_allowed settings.off id ≡ true
    → IsMiss (L.does w ns settings (act (claim id n commits))).answer ↔ NoneHas id n w.records w.state.count

-- the same of a claim that waited for memory, once the memory is registered: it "searches once more"
abbrev pub TenAfterMemory : Layer → Type 0
TenAfterMemory L =
    (w : World) (ns : ℕ) (settings : Settings) (chunks bytes n base : ℕ) (commit exclusive commits : Bool) → sound (size_of w.state) w settings.page ≡ true
    → w.state.question ≡ Reserving chunks bytes commit exclusive (Claim n commits) → Registrable w base chunks
    → IsMiss (L.does w ns settings (answer ForMemory true base)).answer
    ↔ NoneHas (negsuc 0) n (with_record w.records w.state.count (reserved_arena base chunks commit exclusive)) (suc w.state.count)
