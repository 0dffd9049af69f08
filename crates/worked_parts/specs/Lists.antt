-- One lent table: a block is adopted beside its arenas, then runs are released by lists. Assumes nothing.
use Rattle.std.specs.Prelude.{List, [], ◌∷◌, ℕ, get_or}
use Rattle.arena.specs.declared.Arena.{Arena}
use Rattle.layer.specs.declared.Settings.{Settings}
use Rattle.layer.specs.declared.Reply.{Reply}
use Rattle.layer.specs.World.{World, reply_in}
use Rattle.layer.specs.Table.{at}
use Rattle.layer.specs.Step.{adopt, act, step}
use Rattle.layer.specs.Listing.{Items, ListOutcome, release_list}
use Rattle.worked_parts.specs.declared.lists.Listed.{Listed}

-- the list, after a block of one chunk is adopted
abbrev pub list_in : World → ℕ → Settings → ℕ → Items → ListOutcome
list_in w ns settings block t = release_list (step w ns settings (act (adopt block 33554432))).world ns settings t

-- the first places of a list, 0 past its end
abbrev pub numbers_in : List ℕ → List ℕ
numbers_in l = get_or l 0 0 ∷ get_or l 1 0 ∷ get_or l 2 0 ∷ get_or l 3 0 ∷ get_or l 4 0 ∷ []

abbrev pub listed_with : Reply → Arena → Arena → ℕ → List ℕ → Listed
listed_with reply first second stamp numbers = record { reply = reply; first = first; second = second; stamp = stamp; numbers = numbers }

-- after a list: its answer, arenas 0 and 1, the stamp of a chunk of arena 0, and the list of answers
abbrev pub listed_after : ListOutcome → ℕ → Listed
listed_after o chunk = listed_with (reply_in o.whole) (at o.whole.world.records 0) (at o.whole.world.records 1) (get_or o.whole.world.stamps chunk 0) (numbers_in o.numbers)
