-- A run that was found lies inside the pool.
use Rattle.std.proofs.Common.{◌≡◌, List, ℕ, ◌+◌, ◌≤◌, Some, arith, rules}
use Rattle.bitmap.specs.Bits.{bit_at}
use Rattle.bitmap.specs.Lowest.{lowest_run}
use Rattle.bitmap.proofs.runs.LowestLaws.{at-iff}
use Rattle.slice_pool.proofs.alloc_run.Goals as goal

found_inside : (ws : List ℕ) (n s : ℕ) → lowest_run (bit_at ws) 65536 n ≡ Some s → s + n ≤ 65536
found_inside ws n s e = ((at-iff (bit_at ws) 65536 n s).0 e).0.room

pub clear_run-requires : goal.clear_run-requires
clear_run-requires c =
    let h : c.in_ok-s.s + c.args.slices ≤ 65536 = found_inside c.args.lent.now c.args.slices c.in_ok-s.s (search rules) in
    (omega arith, h)

pub overflow_mul-result : goal.overflow_mul-result
overflow_mul-result c =
    let h : c.in_ok-s.s + c.args.slices ≤ 65536 = found_inside c.args.lent.now c.args.slices c.in_ok-s.s (search rules) in
    omega arith
