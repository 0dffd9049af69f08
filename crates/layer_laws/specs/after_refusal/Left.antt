-- What a refused call leaves. Document 01: "Each refusal leaves all state and lent memory untouched, but: answering closes the question (1, 3 and 6 keep
-- it open); 11 restores the used bits; 10 may leave a new arena or the mark, and 11 a new arena." The new arena that 11 leaves was registered by the
-- answer before it, which put the commit question. Assumes nothing.
use Rattle.std.specs.Prelude.{◌≡◌, Bool, true, ◌⊎◌, ℕ, suc, set}
use Rattle.refusals.specs.declared.Refusal.{Refusal}
use Rattle.refusals.specs.declared.Refusal.TheVariants.{Broken, QuestionOpen, NoSuchQuestion, Zero, ArenasOff, Range, NotWhole, NotInside, PastEnd, NoRun, CommitRefused, ChunkCount, TableFull, MemoryRefused, NoWholeChunk, HostRefused, TablesOverlap, TooManyArenas, ListLength}
use Rattle.arena.specs.declared.Arena.{Arena}
use Rattle.arena.specs.Registering.{reserved_arena}
use Rattle.arena.specs.Claiming.{give_back_run}
use Rattle.layer.specs.declared.Question.TheVariants.{Committing, Reserving}
use Rattle.layer.specs.declared.Waiting.TheVariants.{Claim}
use Rattle.layer.specs.World.{World, world_of, calm}
use Rattle.layer.specs.Table.{at}
use Rattle.layer.specs.Registering.{with_record, with_stamps}
use Rattle.layer.specs.Step.{Call, reserve, manage, adopt, claim, release, sweep, answer, owns, area, act, query}

-- ---- the world w with its question closed, and

-- all else as it was
abbrev pub closed : World → World
closed w = world_of w.records w.stamps (calm w.state.count w.state.mark)

-- the give-up mark set
abbrev pub mark_set : World → World
mark_set w = world_of w.records w.stamps (calm w.state.count true)

-- the arena a registered behind those that stand
abbrev pub with_arena : World → Arena → World
with_arena w a =
    world_of (with_record w.records w.state.count a) (with_stamps w.stamps w.state.count) (calm (suc w.state.count) w.state.mark)

-- the used bits of the n chunks from s on in arena i clear
abbrev pub used_cleared : World → ℕ → ℕ → ℕ → World
used_cleared w i s n = world_of (set w.records i (give_back_run (at w.records i) s n)) w.stamps (calm w.state.count w.state.mark)

-- ---- v is what is left of w

-- by a no to the open commit question
abbrev pub Restored : World → World → Type 0
Restored w v = (i : ℕ) × (s : ℕ) × (n : ℕ) × (w.state.question ≡ Committing i s n) × (v ≡ used_cleared w i s n)

-- by a yes at base to the open memory question, for which a claim waits: the range is registered
abbrev pub LeftReserved : World → ℕ → World → Type 0
LeftReserved w base v =
    (chunks : ℕ) × (bytes : ℕ) × (commit : Bool) × (exclusive : Bool) × (n : ℕ) × (commits : Bool)
    × (w.state.question ≡ Reserving chunks bytes commit exclusive (Claim n commits)) × (v ≡ with_arena w (reserved_arena base chunks commit exclusive))

-- by an answer with a base: a line for each number; no other comes
abbrev pub LeftByAnswer : World → ℕ → Refusal → World → Type 0
LeftByAnswer w base Broken v = v ≡ w
LeftByAnswer w base NoSuchQuestion v = v ≡ w
LeftByAnswer w base Range v = v ≡ w
LeftByAnswer w base NotWhole v = v ≡ closed w
LeftByAnswer w base NoRun v = (v ≡ mark_set w) ⊎ LeftReserved w base v
LeftByAnswer w base CommitRefused v = Restored w v
LeftByAnswer w base ChunkCount v = v ≡ closed w
LeftByAnswer w base TableFull v = v ≡ closed w
LeftByAnswer w base MemoryRefused v = v ≡ closed w
LeftByAnswer w base QuestionOpen v = ⊥
LeftByAnswer w base Zero v = ⊥
LeftByAnswer w base ArenasOff v = ⊥
LeftByAnswer w base NotInside v = ⊥
LeftByAnswer w base PastEnd v = ⊥
LeftByAnswer w base NoWholeChunk v = ⊥
LeftByAnswer w base HostRefused v = ⊥
LeftByAnswer w base TablesOverlap v = ⊥
LeftByAnswer w base TooManyArenas v = ⊥
LeftByAnswer w base ListLength v = ⊥

-- by any call: of the calls that are no answers, a claim alone may leave more than it found, the mark
abbrev pub LeftBy : World → Call → Refusal → World → Type 0
LeftBy w (act (reserve size commit large exclusive)) why v = v ≡ w
LeftBy w (act (manage start size exclusive node mapped reserved)) why v = v ≡ w
LeftBy w (act (adopt address size)) why v = v ≡ w
LeftBy w (act (claim id n commits)) why v = (v ≡ w) ⊎ ((why ≡ NoRun) × (v ≡ mark_set w))
LeftBy w (act (release address n told pending)) why v = v ≡ w
LeftBy w (act (sweep force)) why v = v ≡ w
LeftBy w (answer kind granted base) why v = LeftByAnswer w base why v
LeftBy w (query (owns address)) why v = v ≡ w
LeftBy w (query (area id)) why v = v ≡ w
