-- A turn makes the stretch that a set bit stands for longer; where no bit is left, no stretch of n starts.
use Rattle.std.proofs.Common.{arith}
use Rattle.bitmap.specs.Bits.{bit}
use Rattle.bitmap.proofs.runs.SearchLaws.{all_one, shift_and, none-longer}
use Rattle.bitmap.proofs.runs.run_starts.Goals as goal

pub loop-have-init : goal.loop-have-init
loop-have-init c = (omega arith, omega arith, omega arith, all_one (bit c.args.w))

pub returns-then-m-eq0 : goal.returns-then-m-eq0
returns-then-m-eq0 c = none-longer c.args.w c.loop-have.m c.loop-have.have c.args.n c.if-m-eq0.true (omega arith) c.loop-have.invariant.3

pub loop-have-preserved : goal.loop-have-preserved
loop-have-preserved c =
    (omega arith, omega arith, omega arith, shift_and c.args.w c.loop-have.m c.loop-have.have c.min-s.result (omega arith) c.loop-have.invariant.3)
