-- A join of two tables in numbers, as include/sirqobal.h declares it. Assumes nothing.
use Rattle.std.specs.Prelude.{◌≡◌, cond, ◌&&◌, List, ℕ, Result, Ok, Err}
use Rattle.refusals.specs.declared.Refusal.{Refusal}
use Rattle.refusals.specs.declared.Refusal.TheVariants.{Broken}
use Rattle.refusals.specs.Number.{number}
use Rattle.arena.specs.declared.Arena.{Arena}
use Rattle.layer.specs.declared.JoinReply.{JoinReply}
use Rattle.layer.specs.World.{world_of}
use Rattle.layer.specs.Joining.{JoinOutcome, join}
use Rattle.surface.specs.declared.StateNumbers.{StateNumbers}
use Rattle.surface.specs.Numbers.{state_of, numbers_of, is_state}
use Rattle.surface.specs.declared.told.SettingsNumbers.{SettingsNumbers}
use Rattle.surface.specs.Told.{settings_of}
use Rattle.surface.specs.declared.joins.JoinNumbers.{JoinNumbers}

-- ---- the answer

-- 0 and the rise, or the refusal's number and 0; the states of the two tables
abbrev pub join_answer_numbers : Result ℕ Refusal → StateNumbers → StateNumbers → JoinNumbers
join_answer_numbers (Err why) f g = record { number = number why; spare = 0; rise = 0; first = f; second = g }
join_answer_numbers (Ok rise) f g = record { number = 0; spare = 0; rise = rise; first = f; second = g }

-- row 1, with all as it came
abbrev pub broken_join : StateNumbers → StateNumbers → JoinNumbers
broken_join = join_answer_numbers (Err Broken)

unfoldable pub join_reply_of : JoinReply → JoinNumbers
join_reply_of r = join_answer_numbers r.answer (numbers_of r.first) (numbers_of r.second)

-- ---- the call

-- what an exported join leaves: the reply goes back by value, the records and stamps stand in the slices
pub record LeftBoth : Type 0 where
  pub reply : JoinNumbers
  pub records : List Arena
  pub stamps : List ℕ
  pub second-records : List Arena
  pub second-stamps : List ℕ

abbrev pub both_in_numbers : JoinOutcome → LeftBoth
both_in_numbers o =
    record {
      reply = join_answer_numbers o.answer (numbers_of o.first.state) (numbers_of o.second.state);
      records = o.first.records;
      stamps = o.first.stamps;
      second-records = o.second.records;
      second-stamps = o.second.stamps;
    }

-- a join of the layer; numbers that are no state's, on either side, make the table broken: 1
unfoldable pub join_numbers : List Arena → List ℕ → List Arena → List ℕ → StateNumbers → StateNumbers → ℕ → SettingsNumbers → LeftBoth
join_numbers l stamps m second-stamps f g ns s =
    cond (is_state f && is_state g) (both_in_numbers (join (world_of l stamps (state_of f)) (world_of m second-stamps (state_of g)) ns (settings_of s)))
    (record { reply = broken_join f g; records = l; stamps = stamps; second-records = m; second-stamps = second-stamps })

abbrev pub LeavesBothNumbers : LeftBoth → JoinNumbers → List Arena → List ℕ → List Arena → List ℕ → Type 0
LeavesBothNumbers o r records stamps second-records second-stamps =
    (r ≡ o.reply) × (records ≡ o.records) × (stamps ≡ o.stamps) × (second-records ≡ o.second-records) × (second-stamps ≡ o.second-stamps)
