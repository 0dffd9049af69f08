-- A bit of m is set where `have` bits of w from it on are.
use Rattle.std.proofs.Common.{◌≡◌, ℕ, ◌-◌, ◌<◌, ◌≤◌}
use Rattle.bitmap.specs.Bits.{bit}
use Rattle.bitmap.specs.Lowest.{all}
use Rattle.bitmap.proofs.runs.run_starts.Given as goal

abbrev pub invariant-loop-have : goal.invariant-loop-have
invariant-loop-have l = (0 < l.have) × (l.have ≤ l.n) × (l.n ≤ 32) × ((i : ℕ) → bit l.m i ≡ all (bit l.w) i l.have)

abbrev pub decreases-loop-have : goal.decreases-loop-have
decreases-loop-have l = l.n - l.have
