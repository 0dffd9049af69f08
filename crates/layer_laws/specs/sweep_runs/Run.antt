-- A sweep from its first call to its end, with whatever is called meanwhile. Document 01, "Sweeping": "The count is the number of yes answers. [..] It puts
-- at most as many questions as bits were pending at its start." Assumes nothing.
use Rattle.std.specs.Prelude.{Bool, true, false, cond, not, ◌&&◌, List, [], ◌∷◌, ℕ, zero, suc, ◌+◌}
use Rattle.bitmap.specs.Bits.{bit_at}
use Rattle.arena.specs.declared.Arena.{Arena}
use Rattle.layer.specs.declared.Settings.{Settings}
use Rattle.layer.specs.declared.Sweep.{Sweep}
use Rattle.layer.specs.declared.Question.{Question}
use Rattle.layer.specs.declared.Question.TheVariants.{Idle, Committing, Purging, Reserving, GivingBack}
use Rattle.layer.specs.declared.Kind.TheVariants.{ForCommit, ForPurge, ForMemory, ForGiveBack, ForNone}
use Rattle.layer.specs.declared.Ask.TheVariants.{AskCommit, AskPurge, AskMemory, AskGiveBack}
use Rattle.layer.specs.declared.Answer.{Answer}
use Rattle.layer.specs.declared.Answer.TheVariants.{Refused, Asks, Registered, Claimed, Released, Swept, Owns, Area}
use Rattle.layer.specs.World.{World, Outcome}
use Rattle.layer.specs.Table.{at}
use Rattle.layer.specs.Step.{Call, reserve, manage, adopt, claim, release, sweep, answer, owns, area, act, query, rules}

-- ---- pending bits

-- how many of s, s + 1, .., s + n - 1 the test p holds at
unfoldable pub count : (ℕ → Bool) → ℕ → ℕ → ℕ
count p s zero = 0
count p s (suc n) = cond (p s) 1 0 + count p (suc s) n

-- the pending bits of an arena's chunks
unfoldable pub pending_in : Arena → ℕ
pending_in a = count (bit_at a.pending) 0 a.chunks

-- the pending bits of the first k arenas
unfoldable pub pending_bits : List Arena → ℕ → ℕ
pending_bits l zero = 0
pending_bits l (suc k) = pending_bits l k + pending_in (at l k)

-- ---- what is said

-- 1 for a purge question
abbrev pub asks_purge : Answer → ℕ
asks_purge (Refused why) = 0
asks_purge (Asks (AskCommit address bytes)) = 0
asks_purge (Asks (AskPurge address bytes decommit)) = 1
asks_purge (Asks (AskMemory bytes align commit large)) = 0
asks_purge (Asks (AskGiveBack address bytes)) = 0
asks_purge (Registered id) = 0
asks_purge (Claimed address fresh committed) = 0
asks_purge Released = 0
asks_purge (Swept c) = 0
asks_purge (Owns whether) = 0
asks_purge (Area base bytes) = 0

abbrev pub is_refused : Answer → Bool
is_refused (Refused why) = true
is_refused (Asks ask) = false
is_refused (Registered id) = false
is_refused (Claimed address fresh committed) = false
is_refused Released = false
is_refused (Swept c) = false
is_refused (Owns whether) = false
is_refused (Area base bytes) = false

-- a call that says yes to a purge question
abbrev pub is_yes : Call → Bool
is_yes (act (reserve size commit large exclusive)) = false
is_yes (act (manage start size exclusive node mapped reserved)) = false
is_yes (act (adopt address size)) = false
is_yes (act (claim id n commits)) = false
is_yes (act (release address n told pending)) = false
is_yes (act (sweep force)) = false
is_yes (answer ForCommit granted base) = false
is_yes (answer ForPurge granted base) = granted
is_yes (answer ForMemory granted base) = false
is_yes (answer ForGiveBack granted base) = false
is_yes (answer ForNone granted base) = false
is_yes (query (owns address)) = false
is_yes (query (area id)) = false

-- 1 for a yes that is not refused
abbrev pub says_yes : Call → Answer → ℕ
says_yes c a = cond (is_yes c && not (is_refused a)) 1 0

abbrev pub is_purging : Question → Bool
is_purging Idle = false
is_purging (Committing id start n) = false
is_purging (Purging id chunk w) = true
is_purging (Reserving chunks bytes commit exclusive waiting) = false
is_purging (GivingBack cause waiting) = false

-- ---- the run

-- a call with its clock and settings
pub record Made : Type 0 where
  pub call : Call
  pub ns : ℕ
  pub settings : Settings

-- a sweep so far: the questions that it put, the yes answers that it got, and what the last call left
pub record Run : Type 0 where
  pub questions : ℕ
  pub yes : ℕ
  pub last : Outcome

abbrev pub is_open : Run → Bool
is_open r = is_purging r.last.world.state.question

-- one call more, on what the last left; a sweep that has ended stays
abbrev pub more : ℕ → Run → Made → Run
more S r c =
    let o = rules S r.last.world c.ns c.settings c.call in
    cond (is_open r) (record { questions = r.questions + asks_purge o.answer; yes = r.yes + says_yes c.call o.answer; last = o }) r

unfoldable pub go_on : ℕ → Run → List Made → Run
go_on S r [] = r
go_on S r (c ∷ cs) = go_on S (more S r c) cs

-- the sweep's own clock and settings, with so many yes answers counted
abbrev pub with_count : Sweep → ℕ → Sweep
with_count w n = record { force = w.force; now = w.now; delay = w.delay; decommit = w.decommit; purged = n }

-- the sweep's own call on the world w, and then any calls
abbrev pub run_sweep : ℕ → World → ℕ → Settings → Bool → List Made → Run
run_sweep S w ns settings force calls =
    let o = rules S w ns settings (act (sweep force)) in
    go_on S (record { questions = asks_purge o.answer; yes = 0; last = o }) calls
