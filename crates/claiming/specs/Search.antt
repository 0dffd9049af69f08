-- A claim's search as the code makes it: where each arena has a run, by id, up to the first that has one. Assumes nothing.
use Rattle.std.specs.Prelude.{cond, List, ℕ, zero, suc, ◌+◌, ◌*◌, ◌^◌, ◌<◌, ◌≤◌, ltb, ℤ, length, Option, Some, None}
use Rattle.arena.specs.declared.Arena.{Arena}
use Rattle.arena.specs.Claiming.{find_run}
use Rattle.layer.specs.Table.{at}
use Rattle.layer.specs.Claiming.{eligible}
use Rattle.claiming.specs.declared.searching.Place.{Place}

-- where arena i, whose record is a, has the lowest run for a claim of n at the id
unfoldable pub run_in : ℤ → ℕ → ℕ → Arena → Option ℕ
run_in id n i a = cond (eligible id i a) (cond (ltb a.chunks n) None (find_run a n)) None

-- the run that starts there in arena i; else what stands after
abbrev pub or_later : ℕ → Option ℕ → Option Place → Option Place
or_later i (Some s) later = Some (record { id = i; start = s })
or_later i None later = later

-- of the m arenas from i on, the first with a run
unfoldable pub search_from : List Arena → ℤ → ℕ → ℕ → ℕ → Option Place
search_from l id n i zero = None
search_from l id n i (suc m) = or_later i (run_in id n i (at l i)) (search_from l id n (suc i) m)

-- arenas that the search may look at
abbrev pub Searchable : List Arena → ℕ → Type 0
Searchable l k = (k ≤ length l) × ((i : ℕ) → i < k → (at l i).chunks ≤ 1024)

-- a run of n from s on inside arena i, which ends below 2^64
abbrev pub RunAt : ℕ → List Arena → ℕ → ℕ → ℕ → Type 0
RunAt S l i s n = (i < length l) × (s + n ≤ (at l i).chunks) × ((at l i).chunks ≤ 1024) × ((at l i).base + (at l i).chunks * S < 2 ^ 64)
