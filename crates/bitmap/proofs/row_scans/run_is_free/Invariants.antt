-- Before each turn the places from start up to at are free.
use Rattle.std.proofs.Common.{◌≡◌, true, ◌-◌, ◌≤◌}
use Rattle.bitmap.specs.Lowest.{all}
use Rattle.bitmap.proofs.runs.SearchLaws.{free_in}
use Rattle.bitmap.proofs.row_scans.run_is_free.Given as goal

abbrev pub invariant-loop-at : goal.invariant-loop-at
invariant-loop-at l = (l.start ≤ l.at) × (l.at ≤ l.end) × (all (free_in l.lent l.used) l.start (l.at - l.start) ≡ true)

abbrev pub decreases-loop-at : goal.decreases-loop-at
decreases-loop-at l = l.end - l.at
