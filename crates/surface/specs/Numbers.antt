-- The layer's state in numbers, as include/sirqobal.h declares them: document 01's number and values for each case. Assumes nothing.
use Rattle.std.specs.Prelude.{Bool, cond, ◌&&◌, ℕ, eqb}
use Rattle.refusals.specs.Number.{number}
use Rattle.arena.specs.Flags.{as_flag}
use Rattle.layer.specs.declared.State.{State}
use Rattle.layer.specs.declared.Sweep.{Sweep}
use Rattle.layer.specs.declared.Question.{Question}
use Rattle.layer.specs.declared.Question.TheVariants.{Idle, Committing, Purging, Reserving, GivingBack}
use Rattle.layer.specs.declared.Waiting.{Waiting}
use Rattle.layer.specs.declared.Waiting.TheVariants.{Reserve, Claim}
use Rattle.layer.specs.declared.Unusable.{Unusable}
use Rattle.layer.specs.declared.Unusable.TheVariants.{Count, Misaligned, Full}
use Rattle.layer.specs.Answering.{cause_refusal}
use Rattle.surface.specs.declared.StateNumbers.{StateNumbers}

-- ---- the state, read from numbers. A flag of it is on if it is 1: a state that has another number there than 0 or 1 is none.

abbrev pub sweep_in : StateNumbers → Sweep
sweep_in f =
    record { force = eqb f.force 1; now = f.now; delay = f.delay; decommit = eqb f.decommit 1; purged = f.purged }

abbrev pub waiting_of : StateNumbers → Waiting
waiting_of f = cond (eqb f.waiting 1) (Claim f.n (eqb f.commits 1)) Reserve

abbrev pub cause_of : ℕ → Unusable
cause_of cause = cond (eqb cause 12) Count (cond (eqb cause 7) Misaligned Full)

abbrev pub question_of : StateNumbers → Question
question_of f =
    cond (eqb f.question 1) (Committing f.id f.start f.n)
    (cond (eqb f.question 2) (Purging f.id f.start (sweep_in f))
    (cond (eqb f.question 3) (Reserving f.chunks f.bytes (eqb f.commit 1) (eqb f.exclusive 1) (waiting_of f))
    (cond (eqb f.question 4) (GivingBack (cause_of f.cause) (waiting_of f)) Idle)))

unfoldable pub state_of : StateNumbers → State
state_of f = record { count = f.count; mark = eqb f.mark 1; question = question_of f }

-- ---- the state, written in numbers

abbrev pub state_numbers : ℕ → ℕ → ℕ → ℕ → ℕ → ℕ → ℕ → ℕ → ℕ → ℕ → ℕ → ℕ → ℕ → ℕ → ℕ → ℕ → ℕ → ℕ → StateNumbers
state_numbers count mark question id start n chunks bytes commit exclusive waiting commits cause force now delay decommit purged =
    record {
      count = count;
      mark = mark;
      question = question;
      id = id;
      start = start;
      n = n;
      chunks = chunks;
      bytes = bytes;
      commit = commit;
      exclusive = exclusive;
      waiting = waiting;
      commits = commits;
      cause = cause;
      force = force;
      now = now;
      delay = delay;
      decommit = decommit;
      purged = purged;
    }

abbrev pub waiting_number : Waiting → ℕ
waiting_number Reserve = 0
waiting_number (Claim n commits) = 1

abbrev pub waiting_chunks : Waiting → ℕ
waiting_chunks Reserve = 0
waiting_chunks (Claim n commits) = n

abbrev pub waiting_commits : Waiting → ℕ
waiting_commits Reserve = 0
waiting_commits (Claim n commits) = as_flag commits

-- 12, 7 or 13
abbrev pub cause_number : Unusable → ℕ
cause_number cause = number (cause_refusal cause)

-- count, mark, question; id, start, n; chunks, bytes, commit, exclusive; waiting, commits, cause; the sweep's five
abbrev pub question_numbers : ℕ → ℕ → Question → StateNumbers
question_numbers k m Idle = state_numbers k m 0 0 0 0 0 0 0 0 0 0 0 0 0 0 0 0
question_numbers k m (Committing id start n) = state_numbers k m 1 id start n 0 0 0 0 0 0 0 0 0 0 0 0
question_numbers k m (Purging id chunk w) =
    state_numbers k m 2 id chunk 0 0 0 0 0 0 0 0 (as_flag w.force) w.now w.delay (as_flag w.decommit) w.purged
question_numbers k m (Reserving chunks bytes commit exclusive w) =
    state_numbers k m 3 0 0 (waiting_chunks w) chunks bytes (as_flag commit) (as_flag exclusive) (waiting_number w) (waiting_commits w) 0 0 0 0 0 0
question_numbers k m (GivingBack cause w) =
    state_numbers k m 4 0 0 (waiting_chunks w) 0 0 0 0 (waiting_number w) (waiting_commits w) (cause_number cause) 0 0 0 0 0

unfoldable pub numbers_of : State → StateNumbers
numbers_of s = question_numbers s.count (as_flag s.mark) s.question

-- ---- whether numbers are a state's

abbrev pub same_numbers : StateNumbers → StateNumbers → Bool
same_numbers f g =
    (eqb f.count g.count && eqb f.mark g.mark && eqb f.question g.question)
    && (eqb f.id g.id && eqb f.start g.start && eqb f.n g.n)
    && (eqb f.chunks g.chunks && eqb f.bytes g.bytes && eqb f.commit g.commit)
    && (eqb f.exclusive g.exclusive && eqb f.waiting g.waiting && eqb f.commits g.commits)
    && (eqb f.cause g.cause && eqb f.force g.force && eqb f.now g.now)
    && (eqb f.delay g.delay && eqb f.decommit g.decommit && eqb f.purged g.purged)

-- the numbers of some state; others make the table broken
unfoldable pub is_state : StateNumbers → Bool
is_state f = same_numbers (numbers_of (state_of f)) f
