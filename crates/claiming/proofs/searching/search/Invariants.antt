-- What is left to search is what the search comes to.
use Rattle.std.specs.Prelude.{◌≡◌, ◌-◌}
use Rattle.claiming.specs.Search.{search_from}
use Rattle.claiming.proofs.searching.search.Given as goal

abbrev pub invariant-loop-i : goal.invariant-loop-i
invariant-loop-i l = search_from l.records l.fn.id l.n l.i (l.k - l.i) ≡ search_from l.records l.fn.id l.n 0 l.k
