-- The answer to an open question. Document 01: "A second call brings yes or no, for memory a base too." Assumes nothing.
use Rattle.std.specs.Prelude.{◌∷◌, ◌+◌, ◌-◌, ◌*◌, ◌%◌}
use Rattle.layer.specs.Prelude.{Bool, true, false, cond, not, List, [], ℕ, suc, eqb, leb, negsuc, set, Refusal, NoSuchQuestion, Range, NotWhole, NoRun, CommitRefused, ChunkCount, TableFull, MemoryRefused, Arena, reserved_arena, run_fresh, give_back_run, finish_grant, return_chunk, Sweep, Question, Idle, Committing, Purging, Reserving, GivingBack, Waiting, Reserve, Claim, Unusable, Count, Misaligned, Full, Kind, ForCommit, ForPurge, ForMemory, ForGiveBack, ForNone, AskGiveBack, Asks, Claimed, Reply}
use Rattle.layer.specs.World.{Outcome, state_with, calm, world_of, reply, after, turn_down, Row, row, refuse, first_of}
use Rattle.layer.specs.Table.{at, bad_range}
use Rattle.layer.specs.Registering.{bad_count, with_record, with_stamps, registered}
use Rattle.layer.specs.Claiming.{search_of}
use Rattle.layer.specs.Sweeping.{visit, sweep_from}

-- the kinds of questions, numbered; no question is open at 0, and an answer of no kind of ours is 5
abbrev pub kind_open : Question → ℕ
kind_open Idle = 0
kind_open (Committing id start n) = 1
kind_open (Purging id chunk w) = 2
kind_open (Reserving chunks bytes commit exclusive waiting) = 3
kind_open (GivingBack cause waiting) = 4

abbrev pub kind_answered : Kind → ℕ
kind_answered ForCommit = 1
kind_answered ForPurge = 2
kind_answered ForMemory = 3
kind_answered ForGiveBack = 4
kind_answered ForNone = 5

abbrev pub is_idle : Question → Bool
is_idle Idle = true
is_idle (Committing id start n) = false
is_idle (Purging id chunk w) = false
is_idle (Reserving chunks bytes commit exclusive waiting) = false
is_idle (GivingBack cause waiting) = false

unfoldable pub is_for : Question → Kind → Bool
is_for q kind = eqb (kind_open q) (kind_answered kind)

-- 12, 7 or 13
abbrev pub cause_refusal : Unusable → Refusal
cause_refusal Count = ChunkCount
cause_refusal Misaligned = NotWhole
cause_refusal Full = TableFull

-- a sweep with one yes more
abbrev pub counted : Sweep → Bool → Sweep
counted w granted = record { force = w.force; now = w.now; delay = w.delay; decommit = w.decommit; purged = w.purged + cond granted 1 0 }

-- "11 restores the used bits"; after a yes the chunks are committed, and dirty
abbrev pub commit_arena : Arena → ℕ → ℕ → Bool → Arena
commit_arena a s n true = finish_grant a s n true
commit_arena a s n false = give_back_run a s n

abbrev pub commit_reply : ℕ → ℕ → Bool → Arena → ℕ → ℕ → Bool → Reply
commit_reply S k mark a s n true = reply (Claimed (a.base + s * S) (run_fresh a s n) true) (calm k mark)
commit_reply S k mark a s n false = turn_down CommitRefused (calm k mark)

-- the memory did not come, or could not be used: "a failed reserve sets the mark for good"
abbrev pub fail_reply : ℕ → Bool → Refusal → Waiting → Reply
fail_reply k mark why Reserve = turn_down why (calm k mark)
fail_reply k mark why (Claim n commits) = turn_down NoRun (calm k true)

-- "A block that cannot be registered is given back (answer ignored), then refused"
abbrev pub give_back_reply : ℕ → Bool → ℕ → ℕ → Unusable → Waiting → Reply
give_back_reply k mark base bytes cause waiting = reply (Asks (AskGiveBack base bytes)) (state_with k mark (GivingBack cause waiting))

module _ (S : ℕ) (l : List Arena) (stamps : List ℕ) (k : ℕ) (mark : Bool) where
  abbrev pub answer_commit : ℕ → ℕ → ℕ → Bool → Outcome
  answer_commit i s n granted = after (commit_reply S k mark (at l i) s n granted) (set l i (commit_arena (at l i) s n granted)) stamps

  -- the borrowed chunk comes back, and the sweep goes on behind it
  abbrev pub answer_purge : ℕ → ℕ → Sweep → Bool → Outcome
  answer_purge i j w granted =
      visit S stamps k mark (counted w granted) l i (return_chunk (at l i) j granted w.decommit) (j + 1)
      (sweep_from S stamps k mark (counted w granted) (k - (i + 1)) (i + 1))

  -- the arena is registered, and who waits goes on: a claim "searches once more"
  abbrev pub resume : Arena → Waiting → Outcome
  resume a Reserve = registered l stamps k mark a
  resume a (Claim n commits) =
      search_of S (with_record l k a) (with_stamps stamps k) (suc k) mark (negsuc 0) n commits (turn_down NoRun (calm (suc k) mark))

  -- "Reserve after yes: 6, 12, 7, 13." 6 keeps the question open; past it the block is given back.
  abbrev pub yes_rows : ℕ → ℕ → Bool → Bool → Waiting → ℕ → List (Row Outcome)
  yes_rows chunks bytes commit exclusive waiting base =
      refuse (world_of l stamps (state_with k mark (Reserving chunks bytes commit exclusive waiting))) Range (bad_range S l k base (chunks * S))
      ∷ row (after (give_back_reply k mark base bytes Count waiting) l stamps) (bad_count chunks)
      ∷ row (after (give_back_reply k mark base bytes Misaligned waiting) l stamps) (not (eqb (base % S) 0))
      ∷ row (after (give_back_reply k mark base bytes Full waiting) l stamps) (leb 32 k)
      ∷ []

  abbrev pub answer_memory : ℕ → ℕ → Bool → Bool → Waiting → Bool → ℕ → Outcome
  answer_memory chunks bytes commit exclusive waiting false base = after (fail_reply k mark MemoryRefused waiting) l stamps
  answer_memory chunks bytes commit exclusive waiting true base =
      first_of (yes_rows chunks bytes commit exclusive waiting base) (resume (reserved_arena base chunks commit exclusive) waiting)

  -- what the answer does, once it is for the question that is open
  abbrev pub answer_to : Question → Bool → ℕ → Outcome
  answer_to Idle granted base = after (turn_down NoSuchQuestion (calm k mark)) l stamps
  answer_to (Committing i s n) granted base = answer_commit i s n granted
  answer_to (Purging i j w) granted base = answer_purge i j w granted
  answer_to (Reserving chunks bytes commit exclusive waiting) granted base = answer_memory chunks bytes commit exclusive waiting granted base
  answer_to (GivingBack cause waiting) granted base = after (fail_reply k mark (cause_refusal cause) waiting) l stamps

  -- row 3: "none open, or other kind"
  unfoldable pub answer_of : Question → Kind → Bool → ℕ → Outcome
  answer_of q kind granted base =
      first_of (refuse (world_of l stamps (state_with k mark q)) NoSuchQuestion (not (is_for q kind)) ∷ []) (answer_to q granted base)
