-- Wish 1 of document 02, worked by hand: the smallest pairs of tables that tell its readings apart, over the definition of a join. Most cases are an equation of the
-- answer and of all that is left on both sides; the others are what a call on the joined table answers. Assumes nothing.
use Rattle.std.specs.Prelude.{◌≡◌, Bool, true, false, List, ◌∷◌, ◌++◌, ℕ, ◌-◌, ◌*◌, pos, negsuc, replicate, Ok, Err}
use Rattle.refusals.specs.declared.Refusal.{Refusal}
use Rattle.refusals.specs.declared.Refusal.TheVariants.{Broken, QuestionOpen, Range, TablesOverlap, TooManyArenas}
use Rattle.arena.specs.declared.Arena.{Arena}
use Rattle.layer.specs.declared.Settings.{Settings}
use Rattle.layer.specs.declared.Question.{Question}
use Rattle.layer.specs.declared.Question.TheVariants.{Idle, Committing, Purging, Reserving, GivingBack}
use Rattle.layer.specs.declared.Waiting.TheVariants.{Reserve}
use Rattle.layer.specs.declared.Unusable.TheVariants.{Full}
use Rattle.layer.specs.declared.Ask.TheVariants.{AskPurge}
use Rattle.layer.specs.declared.Answer.TheVariants.{Refused, Asks, Swept}
use Rattle.layer.specs.World.{World, blank, state_with, world_of, calm, empty}
use Rattle.layer.specs.Step.{adopt, sweep, act, step}
use Rattle.layer.specs.Joining.{join_outcome, join}
use Rattle.document_cases.specs.Refused.{S, plain, blocks, full, short}

-- ---- the tables

abbrev pub row : ℕ → List ℕ
row w = w ∷ replicate 31 0

-- an exclusive arena of 4 chunks: its base, the first word of the used, the dirty and the pending map, and the deadline
abbrev pub four : ℕ → ℕ → ℕ → ℕ → ℕ → Arena
four base used dirty pending deadline =
    record {
      base = base;
      chunks = 4;
      exclusive = 1;
      owned = 1;
      node = negsuc 0;
      deadline = deadline;
      used = row used;
      dirty = row dirty;
      committed = row dirty;
      pending = row pending;
    }

-- all chunks free; chunks 0 and 2 held, chunk 1 pending, the deadline at 20 ms
abbrev pub free : ℕ → Arena
free base = four base 0 0 0 0

abbrev pub held : ℕ → Arena
held base = four base 5 7 2 20

abbrev pub zeros : List ℕ
zeros = replicate 32768 0

-- tables of one and of two arenas, blank past them
abbrev pub one : Arena → List ℕ → Bool → Question → World
one a stamps mark q = world_of (a ∷ replicate 31 blank) stamps (state_with 1 mark q)

abbrev pub two : Arena → Arena → List ℕ → Bool → World
two a b stamps mark = world_of (a ∷ b ∷ replicate 30 blank) stamps (calm 2 mark)

-- at so many chunks from 0, and no stamp set
abbrev pub free_at : ℕ → World
free_at chunks = one (free (chunks * S)) zeros false Idle

-- chunk 1 of arena 0 was released at 10 ms, and chunk 1 of arena 1
abbrev pub stamp_in0 : List ℕ
stamp_in0 = 0 ∷ 10 ∷ replicate 32766 0

abbrev pub stamp_in1 : List ℕ
stamp_in1 = replicate 1024 0 ++ 0 ∷ 10 ∷ replicate 31742 0

abbrev pub held_at : ℕ → Question → World
held_at chunks q = one (held (chunks * S)) stamp_in0 false q

abbrev pub marked : ℕ → Bool → World
marked chunks mark = one (free (chunks * S)) zeros mark Idle

-- n arenas of 1,024 chunks from the i-th block on
abbrev pub block_table : ℕ → ℕ → World
block_table i n = world_of (blocks i n ++ replicate (32 - n) blank) zeros (calm n false)

-- a table of 33 arenas; a page of one byte; a purge delay of 40 ms
abbrev pub miscounted : World
miscounted = world_of (replicate 32 blank) zeros (calm 33 false)

abbrev pub tiny_page : Settings
tiny_page = record { delay = pos 0; decommits = false; off = false; reserve = 0; page = 1 }

abbrev pub delayed : Settings
delayed = record { delay = pos 40; decommits = false; off = false; reserve = 0; page = 4096 }

-- more stands in the table than its one arena: two records, and the stamps of the parts 0, 1 and 2
abbrev pub littered : Arena → Arena → Arena → ℕ → ℕ → ℕ → World
littered a b c s t u = world_of (a ∷ b ∷ c ∷ replicate 29 blank) (replicate 1024 s ++ replicate 1024 t ++ replicate 1024 u ++ replicate 29696 0) (calm 1 false)

-- ---- the open questions

abbrev pub commit_asked : Question
commit_asked = Committing 0 0 1

abbrev pub purge_asked : Question
purge_asked = Purging 0 0 (record { force = true; now = 9; delay = 0; decommit = false; purged = 0 })

abbrev pub memory_asked : Question
memory_asked = Reserving 3 100663296 false true Reserve

abbrev pub give_back_asked : Question
give_back_asked = GivingBack Full Reserve

-- ---- what is said

-- granted: the rise, the first's table after it, and the empty layer as the second's
abbrev pub Joins : World → World → ℕ → World → Type 0
Joins w v rise both = join w v 0 plain ≡ join_outcome (Ok rise) both empty

-- refused: both tables as they were
abbrev pub RefusesBy : Settings → World → World → Refusal → Type 0
RefusesBy settings w v why = join w v 0 settings ≡ join_outcome (Err why) w v

abbrev pub Refuses : World → World → Refusal → Type 0
Refuses w v why = RefusesBy plain w v why

-- the question is open in the one table, then in the other
abbrev pub EitherSide : Question → Type 0
EitherSide q = Refuses (held_at 64 q) (free_at 32) QuestionOpen × Refuses (free_at 32) (held_at 64 q) QuestionOpen

-- ---- what holds

pub record Cases : Type 0 where
  -- "the first keeps its ids, the second's rise by the first's arena count, stamps and deadlines move along", "The second is left empty"
  pub apart : Joins (free_at 32) (held_at 64 Idle) 1 (two (free (32 * S)) (held (64 * S)) stamp_in1 false)
  -- by table, and not by base
  pub below : Joins (free_at 64) (held_at 32 Idle) 1 (two (free (64 * S)) (held (32 * S)) stamp_in1 false)
  -- so the joined layer's sweep asks about the second's chunk when it is due, and not before
  pub not-yet-due : (step (two (free (32 * S)) (held (64 * S)) stamp_in1 false) 49000000 delayed (act (sweep false))).answer ≡ Swept 0
  pub due : (step (two (free (32 * S)) (held (64 * S)) stamp_in1 false) 50000000 delayed (act (sweep false))).answer ≡ Asks (AskPurge (65 * S) S false)
  -- neighbours share no address; they stay two arenas, and nothing is adopted at the seam
  pub neighbours : Joins (free_at 32) (free_at 36) 1 (two (free (32 * S)) (free (36 * S)) zeros false)
  pub neighbours-below : Joins (free_at 36) (free_at 32) 1 (two (free (36 * S)) (free (32 * S)) zeros false)
  pub seam : (step (two (free (32 * S)) (free (36 * S)) zeros false) 0 plain (act (adopt (36 * S) S))).answer ≡ Refused Range
  -- between two arenas of the first there is room for one of the second
  pub between : Joins (two (free (32 * S)) (free (64 * S)) zeros false) (free_at 48) 2
      (world_of (free (32 * S) ∷ free (64 * S) ∷ free (48 * S) ∷ replicate 29 blank) zeros (calm 3 false))
  -- "17 when a range of one overlaps a range of the other": in one chunk, from above and from below, in all, and the last of the one with the last of the other
  pub last-shared : Refuses (free_at 32) (free_at 35) TablesOverlap
  pub first-shared : Refuses (free_at 35) (free_at 32) TablesOverlap
  pub all-shared : Refuses (free_at 32) (free_at 32) TablesOverlap
  pub last-of-both : Refuses (two (free (32 * S)) (free (64 * S)) zeros false) (two (free (96 * S)) (free (67 * S)) zeros false) TablesOverlap
  -- "18 when more than 32 arenas result, checked in that order after 2": 33 arenas, of which two overlap; 33 apart; 32
  pub overlap-of-33 : Refuses full (free_at 1024) TablesOverlap
  pub many : Refuses full (free_at 32) TooManyArenas
  pub many-behind : Refuses (free_at 32) full TooManyArenas
  pub as_many : Joins (block_table 0 16) (block_table 16 16) 16 full
  -- "An open question on either side is 2", of any kind, and where two ranges overlap
  pub commit-open : EitherSide commit_asked
  pub purge-open : EitherSide purge_asked
  pub memory-open : EitherSide memory_asked
  pub give-back-open : EitherSide give_back_asked
  pub open-and-overlap : Refuses (held_at 32 purge_asked) (free_at 32) QuestionOpen × Refuses (free_at 32) (held_at 32 purge_asked) QuestionOpen
  -- all of row 1, on both sides, comes before any 2
  pub broken-second : Refuses (held_at 64 purge_asked) miscounted Broken
  pub broken-first : Refuses miscounted (held_at 64 purge_asked) Broken
  pub short-second : Refuses (held_at 64 purge_asked) short Broken
  pub short-first : Refuses short (held_at 64 purge_asked) Broken
  pub bad-page : RefusesBy tiny_page (held_at 64 purge_asked) (free_at 32) Broken
  -- "the give-up mark stands only if it stood in both"
  pub no-mark : Joins (marked 32 false) (marked 64 false) 1 (two (free (32 * S)) (free (64 * S)) zeros false)
  pub first-mark : Joins (marked 32 true) (marked 64 false) 1 (two (free (32 * S)) (free (64 * S)) zeros false)
  pub second-mark : Joins (marked 32 false) (marked 64 true) 1 (two (free (32 * S)) (free (64 * S)) zeros false)
  pub both-marks : Joins (marked 32 true) (marked 64 true) 1 (two (free (32 * S)) (free (64 * S)) zeros true)
  -- an empty side: nothing rises, or nothing comes; its mark counts too
  pub empty-first : Joins empty (held_at 64 Idle) 0 (held_at 64 Idle)
  pub empty-second : Joins (held_at 64 Idle) empty 1 (held_at 64 Idle)
  pub both-empty : Joins empty empty 0 empty
  pub mark-unmet : Joins empty (marked 64 true) 0 (marked 64 false)
  -- what stood past the second's count is gone, what stands past the sum in the first stays; past a count nothing overlaps
  pub past-counts : Joins (littered (free (32 * S)) (held (64 * S)) (held (96 * S)) 1 2 3) (littered (held (64 * S)) (free (32 * S)) (free (96 * S)) 4 5 6) 1
      (world_of (free (32 * S) ∷ held (64 * S) ∷ held (96 * S) ∷ replicate 29 blank) (replicate 1024 1 ++ replicate 1024 4 ++ replicate 1024 3 ++ replicate 29696 0) (calm 2 false))
