-- 0 counts as 1, and another size stays.
use Rattle.sizes.proofs.SizeLaws.{zero_as_one-zero, zero_as_one-keeps}
use Rattle.sizes.proofs.os.at_least_one.Goals as goal

pub returns-then-size-eq0 : goal.returns-then-size-eq0
returns-then-size-eq0 c = zero_as_one-zero c.args.size c.if-size-eq0.true

pub returns-else-size-eq0 : goal.returns-else-size-eq0
returns-else-size-eq0 c = zero_as_one-keeps c.args.size c.if-size-eq0.false
