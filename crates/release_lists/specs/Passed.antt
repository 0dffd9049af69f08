-- What the items of a list are handed, a table that rows 1 and 2 let pass, and what one leaves. Assumes nothing.
use Rattle.std.specs.Prelude.{◌≡◌, true, List, ℕ}
use Rattle.arena.specs.declared.Arena.{Arena}
use Rattle.layer.specs.declared.State.{State}
use Rattle.layer.specs.declared.Settings.{Settings}
use Rattle.layer.specs.declared.Question.TheVariants.{Idle}
use Rattle.layer.specs.World.{Outcome, size_of, world_of}
use Rattle.layer.specs.Table.{sound}
use Rattle.layer.specs.Listing.{item_number}

abbrev pub Passed : List Arena → List ℕ → State → Settings → Type 0
Passed records stamps state settings = (sound (size_of state) (world_of records stamps state) settings.page ≡ true) × (state.question ≡ Idle)

-- its number goes back by value, the records and stamps stand in the slices
abbrev pub LeavesItem : Outcome → ℕ → List Arena → List ℕ → Type 0
LeavesItem o number records stamps = (number ≡ item_number o.answer) × (records ≡ o.world.records) × (stamps ≡ o.world.stamps)
