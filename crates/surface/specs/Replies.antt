-- The layer's answers in numbers, as include/sirqobal.h declares them, document 01's number and values for each case; and a call in numbers. Assumes nothing.
use Rattle.std.specs.Prelude.{◌≡◌, Bool, false, cond, List, ℕ}
use Rattle.refusals.specs.declared.Refusal.TheVariants.{Broken}
use Rattle.refusals.specs.Number.{number}
use Rattle.arena.specs.declared.Arena.{Arena}
use Rattle.layer.specs.declared.Ask.{Ask}
use Rattle.layer.specs.declared.Ask.TheVariants.{AskCommit, AskPurge, AskMemory, AskGiveBack}
use Rattle.layer.specs.declared.Answer.{Answer}
use Rattle.layer.specs.declared.Answer.TheVariants.{Refused, Asks, Registered, Claimed, Released, Swept, Owns, Area}
use Rattle.layer.specs.declared.Reply.{Reply}
use Rattle.layer.specs.World.{Outcome, world_of}
use Rattle.layer.specs.Step.{Call, step}
use Rattle.surface.specs.declared.StateNumbers.{StateNumbers}
use Rattle.surface.specs.Numbers.{state_of, numbers_of, is_state}
use Rattle.surface.specs.declared.told.SettingsNumbers.{SettingsNumbers}
use Rattle.surface.specs.Told.{settings_of}
use Rattle.surface.specs.declared.reply.ReplyNumbers.{ReplyNumbers}

-- ---- the answer

abbrev pub reply_numbers : ℕ → ℕ → ℕ → ℕ → ℕ → ℕ → ℕ → Bool → Bool → Bool → Bool → Bool → Bool → StateNumbers → ReplyNumbers
reply_numbers number kind address bytes align id count fresh committed owns decommit commit large state =
    record {
      number = number;
      kind = kind;
      address = address;
      bytes = bytes;
      align = align;
      id = id;
      count = count;
      fresh = fresh;
      committed = committed;
      owns = owns;
      decommit = decommit;
      commit = commit;
      large = large;
      spare = 0;
      state = state;
    }

-- number, kind; address, bytes, align, id, count; fresh, committed, owns; decommit, commit, large
abbrev pub ask_numbers : Ask → StateNumbers → ReplyNumbers
ask_numbers (AskCommit address bytes) = reply_numbers 255 1 address bytes 0 0 0 false false false false false false
ask_numbers (AskPurge address bytes decommit) = reply_numbers 255 2 address bytes 0 0 0 false false false decommit false false
ask_numbers (AskMemory bytes align commit large) = reply_numbers 255 3 0 bytes align 0 0 false false false false commit large
ask_numbers (AskGiveBack address bytes) = reply_numbers 255 4 address bytes 0 0 0 false false false false false false

abbrev pub answer_numbers : Answer → StateNumbers → ReplyNumbers
answer_numbers (Refused why) = reply_numbers (number why) 0 0 0 0 0 0 false false false false false false
answer_numbers (Asks ask) = ask_numbers ask
answer_numbers (Registered id) = reply_numbers 0 0 0 0 0 id 0 false false false false false false
answer_numbers (Claimed address fresh committed) = reply_numbers 0 0 address 0 0 0 0 fresh committed false false false false
answer_numbers Released = reply_numbers 0 0 0 0 0 0 0 false false false false false false
answer_numbers (Swept count) = reply_numbers 0 0 0 0 0 0 count false false false false false false
answer_numbers (Owns owns) = reply_numbers 0 0 0 0 0 0 0 false false owns false false false
answer_numbers (Area base bytes) = reply_numbers 0 0 base bytes 0 0 0 false false false false false false

-- row 1, with all as it came
abbrev pub broken_numbers : StateNumbers → ReplyNumbers
broken_numbers = answer_numbers (Refused Broken)

unfoldable pub reply_of : Reply → ReplyNumbers
reply_of r = answer_numbers r.answer (numbers_of r.state)

-- ---- a call

-- what an exported call leaves: the reply goes back by value, the records and stamps stand in the slices
pub record Left : Type 0 where
  pub reply : ReplyNumbers
  pub records : List Arena
  pub stamps : List ℕ

abbrev pub in_numbers : Outcome → Left
in_numbers o =
    record { reply = answer_numbers o.answer (numbers_of o.world.state); records = o.world.records; stamps = o.world.stamps }

-- a call of the layer; numbers that are no state's make the table broken: 1
unfoldable pub step_numbers : List Arena → List ℕ → StateNumbers → ℕ → SettingsNumbers → Call → Left
step_numbers l stamps f ns s call =
    cond (is_state f) (in_numbers (step (world_of l stamps (state_of f)) ns (settings_of s) call))
    (record { reply = broken_numbers f; records = l; stamps = stamps })

abbrev pub LeavesNumbers : Left → ReplyNumbers → List Arena → List ℕ → Type 0
LeavesNumbers o r records stamps = (r ≡ o.reply) × (records ≡ o.records) × (stamps ≡ o.stamps)
