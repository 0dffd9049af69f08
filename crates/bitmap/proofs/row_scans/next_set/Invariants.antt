-- Before each turn no place from `from` up to at is set.
use Rattle.std.proofs.Common.{◌≡◌, false, ℕ, ◌-◌, ◌<◌, ◌≤◌}
use Rattle.bitmap.specs.Bits.{bit_at}
use Rattle.bitmap.proofs.row_scans.next_set.Given as goal

abbrev pub invariant-loop-at : goal.invariant-loop-at
invariant-loop-at l = (l.from ≤ l.at) × ((t : ℕ) → l.from ≤ t → t < l.at → bit_at l.lent t ≡ false)

abbrev pub decreases-loop-at : goal.decreases-loop-at
decreases-loop-at l = l.places - l.at
