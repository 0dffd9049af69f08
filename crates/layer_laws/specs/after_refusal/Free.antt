-- Answers that document 01 leaves free: "an answer that these papers leave free is named, with what holds of it". They are those to a question about no
-- chunk. Row 1 lets a state with such a question pass; the layer makes none. Assumes nothing.
use Rattle.std.specs.Prelude.{◌≡◌, Bool, true, false, not, ℕ, ◌+◌, ◌*◌, ◌<◌, eqb, Option, Some, None}
use Rattle.refusals.specs.declared.Refusal.TheVariants.{NoRun, CommitRefused}
use Rattle.bitmap.specs.Lowest.{least}
use Rattle.arena.specs.Flags.{is_on}
use Rattle.arena.specs.Registering.{reserved_arena}
use Rattle.arena.specs.Rows.{Rows}
use Rattle.layer.specs.declared.Settings.{Settings}
use Rattle.layer.specs.declared.Question.{Question}
use Rattle.layer.specs.declared.Question.TheVariants.{Idle, Committing, Purging, Reserving, GivingBack}
use Rattle.layer.specs.declared.Waiting.TheVariants.{Reserve, Claim}
use Rattle.layer.specs.declared.Kind.TheVariants.{ForCommit, ForMemory}
use Rattle.layer.specs.declared.Answer.TheVariants.{Refused, Claimed}
use Rattle.layer.specs.World.{World, Outcome, outcome, first_of}
use Rattle.layer.specs.Table.{at, sound}
use Rattle.layer.specs.Answering.{yes_rows}
use Rattle.layer.specs.Step.{Call, answer, rules}
use Rattle.layer_laws.specs.after_refusal.Left.{closed, with_arena}

-- an open commit question of no chunk, or a memory question for which a claim of no chunk waits
abbrev pub is_empty : Question → Bool
is_empty Idle = false
is_empty (Committing i s n) = eqb n 0
is_empty (Purging i j w) = false
is_empty (Reserving chunks bytes commit exclusive Reserve) = false
is_empty (Reserving chunks bytes commit exclusive (Claim n commits)) = eqb n 0
is_empty (GivingBack cause waiting) = false

-- the layer makes none: a call on a world with no such question leaves none. The empty layer has no question at all.
abbrev pub NoneMade : ℕ → Type 0
NoneMade S =
    (w : World) (ns : ℕ) (settings : Settings) (c : Call) → is_empty w.state.question ≡ false → is_empty (rules S w ns settings c).world.state.question ≡ false

-- a world that a call can be lent: row 1 lets it pass, and its maps are of machine words
abbrev pub Lendable : ℕ → World → Settings → Type 0
Lendable S w settings = ((i : ℕ) → i < w.state.count → Rows (at w.records i)) × (sound S w settings.page ≡ true)

-- The commit question of no chunk: a yes grants the empty run at the asked place, fresh and committed, and a no is refused with 11. The question is closed,
-- and nothing else changes.
abbrev pub empty_commit : ℕ → World → ℕ → ℕ → Bool → Outcome
empty_commit S w i s true = outcome (Claimed ((at w.records i).base + s * S) true true) (closed w)
empty_commit S w i s false = outcome (Refused CommitRefused) (closed w)

abbrev pub EmptyCommit : ℕ → Type 0
EmptyCommit S =
    (w : World) (ns : ℕ) (settings : Settings) (i s : ℕ) (granted : Bool) (base : ℕ) → Lendable S w settings → w.state.question ≡ Committing i s 0
    → rules S w ns settings (answer ForCommit granted base) ≡ empty_commit S w i s granted

-- The claim of no chunk that waits for memory. A no is answered as to every claim: 10, and the mark (`Left`). A yes goes through the same rows as
-- for every claim; where the memory is registered, the claim is granted the empty run at the base of the lowest arena that is not exclusive, fresh
-- and committed, or refused with 10 if there is none. The new arena stands, and nothing else changes.
abbrev pub empty_run : World → Option ℕ → Outcome
empty_run v (Some i) = outcome (Claimed (at v.records i).base true true) v
empty_run v None = outcome (Refused NoRun) v

abbrev pub empty_claim : World → Outcome
empty_claim v = empty_run v (least (λ i. not (is_on (at v.records i).exclusive)) 0 v.state.count)

abbrev pub EmptyClaim : ℕ → Type 0
EmptyClaim S =
    (w : World) (ns : ℕ) (settings : Settings) (chunks bytes : ℕ) (commit exclusive commits : Bool) (base : ℕ) → Lendable S w settings
    → w.state.question ≡ Reserving chunks bytes commit exclusive (Claim 0 commits)
    → rules S w ns settings (answer ForMemory true base)
    ≡ first_of (yes_rows S w.records w.stamps w.state.count w.state.mark chunks bytes commit exclusive (Claim 0 commits) base)
    (empty_claim (with_arena w (reserved_arena base chunks commit exclusive)))
