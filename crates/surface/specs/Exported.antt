-- The exported calls as a layer: the state and the settings are written in numbers, the call is made as include/sirqobal.h declares it, and its reply is read back. So
-- demand 3 is stated of what people link. Assumes nothing.
use Rattle.std.specs.Prelude.{cond, ℕ, eqb, Result, Ok, Err}
use Rattle.refusals.specs.declared.Refusal.{Refusal}
use Rattle.refusals.specs.declared.Refusal.TheVariants.{Broken, QuestionOpen, NoSuchQuestion, Zero, ArenasOff, Range, NotWhole, NotInside, PastEnd, NoRun, CommitRefused, ChunkCount, TableFull, MemoryRefused, NoWholeChunk, HostRefused, TablesOverlap, TooManyArenas, ListLength}
use Rattle.arena.specs.Flags.{as_flag}
use Rattle.layer.specs.declared.Settings.{Settings}
use Rattle.layer.specs.declared.Question.{Question}
use Rattle.layer.specs.declared.Question.TheVariants.{Idle, Committing, Purging, Reserving, GivingBack}
use Rattle.layer.specs.declared.Waiting.{Waiting}
use Rattle.layer.specs.declared.Waiting.TheVariants.{Reserve, Claim}
use Rattle.layer.specs.declared.Ask.{Ask}
use Rattle.layer.specs.declared.Ask.TheVariants.{AskCommit, AskPurge, AskMemory, AskGiveBack}
use Rattle.layer.specs.declared.Answer.{Answer}
use Rattle.layer.specs.declared.Answer.TheVariants.{Refused, Asks, Registered, Claimed, Released, Swept, Owns, Area}
use Rattle.layer.specs.World.{World, Outcome, outcome, world_of}
use Rattle.layer.specs.Step.{Act, reserve, manage, adopt, claim, release, sweep, Query, owns, area, Call, act, query, answer}
use Rattle.layer.specs.Listing.{ListOutcome, list_outcome}
use Rattle.layer.specs.Joining.{JoinOutcome, join_outcome}
use Rattle.layer.specs.History.{Layer}
use Rattle.surface.specs.Numbers.{state_of, numbers_of}
use Rattle.surface.specs.declared.told.SettingsNumbers.{SettingsNumbers}
use Rattle.surface.specs.declared.reply.ReplyNumbers.{ReplyNumbers}
use Rattle.surface.specs.Replies.{Left, step_numbers}
use Rattle.surface.specs.Lists.{LeftList, list_numbers}
use Rattle.surface.specs.declared.joins.JoinNumbers.{JoinNumbers}
use Rattle.surface.specs.Joins.{LeftBoth, join_numbers}

-- the settings, written in numbers
abbrev pub settings_numbers : Settings → SettingsNumbers
settings_numbers s = record { delay = s.delay; decommits = as_flag s.decommits; off = as_flag s.off; reserve = s.reserve; page = s.page }

-- ---- a reply, read back

-- what a call is granted
pub data Grant : Type 0 where
  registering : Grant
  claiming : Grant
  releasing : Grant
  sweeping : Grant
  owning : Grant
  lying : Grant

abbrev pub grant_of_act : Act → Grant
grant_of_act (reserve size commit large exclusive) = registering
grant_of_act (manage from size exclusive node mapped reserved) = registering
grant_of_act (adopt address size) = registering
grant_of_act (claim id n commits) = claiming
grant_of_act (release address n told pending) = releasing
grant_of_act (sweep force) = sweeping

abbrev pub grant_of_query : Query → Grant
grant_of_query (owns address) = owning
grant_of_query (area id) = lying

abbrev pub grant_of_waiting : Waiting → Grant
grant_of_waiting Reserve = registering
grant_of_waiting (Claim n commits) = claiming

-- by an answer, the call that put the question; an answer for no question, or for a give-back, grants nothing
abbrev pub grant_of_question : Question → Grant
grant_of_question Idle = releasing
grant_of_question (Committing i s n) = claiming
grant_of_question (Purging i j w) = sweeping
grant_of_question (Reserving chunks bytes commit exclusive waiting) = grant_of_waiting waiting
grant_of_question (GivingBack cause waiting) = releasing

abbrev pub grant_of : Question → Call → Grant
grant_of q (act a) = grant_of_act a
grant_of q (query c) = grant_of_query c
grant_of q (answer kind accepted base) = grant_of_question q

abbrev pub granting : Grant → ReplyNumbers → Answer
granting registering r = Registered r.id
granting claiming r = Claimed r.address r.fresh r.committed
granting releasing r = Released
granting sweeping r = Swept r.count
granting owning r = Owns r.owns
granting lying r = Area r.address r.bytes

-- the question, by the number of its kind
abbrev pub ask_of : ReplyNumbers → Ask
ask_of r =
    cond (eqb r.kind 1) (AskCommit r.address r.bytes)
    (cond (eqb r.kind 2) (AskPurge r.address r.bytes r.decommit)
    (cond (eqb r.kind 3) (AskMemory r.bytes r.align r.commit r.large) (AskGiveBack r.address r.bytes)))

-- the refusal of a number
abbrev pub refusal_of : ℕ → Refusal
refusal_of n =
    cond (eqb n 1) Broken
    (cond (eqb n 2) QuestionOpen
    (cond (eqb n 3) NoSuchQuestion
    (cond (eqb n 4) Zero
    (cond (eqb n 5) ArenasOff
    (cond (eqb n 6) Range
    (cond (eqb n 7) NotWhole
    (cond (eqb n 8) NotInside
    (cond (eqb n 9) PastEnd
    (cond (eqb n 10) NoRun
    (cond (eqb n 11) CommitRefused
    (cond (eqb n 12) ChunkCount
    (cond (eqb n 13) TableFull
    (cond (eqb n 14) MemoryRefused
    (cond (eqb n 15) NoWholeChunk
    (cond (eqb n 16) HostRefused
    (cond (eqb n 17) TablesOverlap
    (cond (eqb n 18) TooManyArenas ListLength)))))))))))))))))

-- the reply's number, as include/sirqobal.h has it: 0 granted, 255 a question, else the refusal
abbrev pub answer_of : Grant → ReplyNumbers → Answer
answer_of g r = cond (eqb r.number 0) (granting g r) (cond (eqb r.number 255) (Asks (ask_of r)) (Refused (refusal_of r.number)))

-- of a join: 0 joined, else the refusal
abbrev pub join_answer_of : JoinNumbers → Result ℕ Refusal
join_answer_of r = cond (eqb r.number 0) (Ok r.rise) (Err (refusal_of r.number))

-- ---- the layer

abbrev pub read_back : World → Call → Left → Outcome
read_back w c o = outcome (answer_of (grant_of w.state.question c) o.reply) (world_of o.records o.stamps (state_of o.reply.state))

-- a list is granted as a release is
abbrev pub read_list_back : LeftList → ListOutcome
read_list_back o = list_outcome (outcome (answer_of releasing o.whole.reply) (world_of o.whole.records o.whole.stamps (state_of o.whole.reply.state))) o.numbers

abbrev pub read_both_back : LeftBoth → JoinOutcome
read_both_back o =
    join_outcome (join_answer_of o.reply) (world_of o.records o.stamps (state_of o.reply.first))
    (world_of o.second-records o.second-stamps (state_of o.reply.second))

abbrev pub exported : Layer
exported =
    record {
      does = λ w ns settings c. read_back w c (step_numbers w.records w.stamps (numbers_of w.state) ns (settings_numbers settings) c);
      lists = λ w ns settings t. read_list_back (list_numbers w.records w.stamps (numbers_of w.state) ns (settings_numbers settings) t);
      joins = λ w v ns settings. read_both_back (join_numbers w.records w.stamps v.records v.stamps (numbers_of w.state) (numbers_of v.state) ns (settings_numbers settings));
    }
