-- A list of releases in numbers, as include/sirqobal.h declares it. Assumes nothing.
use Rattle.std.specs.Prelude.{◌≡◌, cond, List, ℕ}
use Rattle.arena.specs.declared.Arena.{Arena}
use Rattle.layer.specs.World.{world_of}
use Rattle.layer.specs.Listing.{Items, ListOutcome, release_list}
use Rattle.surface.specs.declared.StateNumbers.{StateNumbers}
use Rattle.surface.specs.Numbers.{state_of, is_state}
use Rattle.surface.specs.declared.told.SettingsNumbers.{SettingsNumbers}
use Rattle.surface.specs.Told.{settings_of}
use Rattle.surface.specs.declared.reply.ReplyNumbers.{ReplyNumbers}
use Rattle.surface.specs.Replies.{broken_numbers, Left, in_numbers, LeavesNumbers}

-- what an exported list leaves: what every call leaves, and the numbers that stand in the list of answers
pub record LeftList : Type 0 where
  pub whole : Left
  pub numbers : List ℕ

abbrev pub list_in_numbers : ListOutcome → LeftList
list_in_numbers o = record { whole = in_numbers o.whole; numbers = o.numbers }

-- a list of the layer; numbers that are no state's make the table broken: 1
unfoldable pub list_numbers : List Arena → List ℕ → StateNumbers → ℕ → SettingsNumbers → Items → LeftList
list_numbers l stamps f ns s t =
    cond (is_state f) (list_in_numbers (release_list (world_of l stamps (state_of f)) ns (settings_of s) t))
    (record { whole = record { reply = broken_numbers f; records = l; stamps = stamps }; numbers = t.answers })

abbrev pub LeavesListNumbers : LeftList → ReplyNumbers → List Arena → List ℕ → List ℕ → Type 0
LeavesListNumbers o r records stamps answers = LeavesNumbers o.whole r records stamps × (answers ≡ o.numbers)
