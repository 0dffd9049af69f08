-- Before each turn the run from start up to at is written, and no other bit has moved.
use Rattle.std.proofs.Common.{◌≡◌, cond, ℕ, ◌+◌, ◌-◌, ◌*◌, ◌^◌, ◌<◌, ◌≤◌, length, get_or}
use Rattle.bitmap.specs.Bits.{bit_at, within}
use Rattle.bitmap.proofs.rows.write_run.Given as goal

abbrev pub invariant-loop-at : goal.invariant-loop-at
invariant-loop-at l =
    (l.start ≤ l.at) × (l.at ≤ l.end) × (l.end ≤ 32 * length l.lent) × (l.end ≤ 65536) × (l.end ≡ l.start + l.n) × (length l.lent ≡ length l.fn.lent)
    × ((i : ℕ) → get_or l.lent i 0 < 2 ^ 32) × ((j : ℕ) → bit_at l.lent j ≡ cond (within l.start (l.at - l.start) j) l.on (bit_at l.fn.lent j))

abbrev pub decreases-loop-at : goal.decreases-loop-at
decreases-loop-at l = l.end - l.at
