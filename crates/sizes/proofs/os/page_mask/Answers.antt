-- The shift by the trailing zeros gives the lowest set bit.
use Rattle.std.proofs.Common.{ap, ℕ, ◌-◌}
use Rattle.sizes.proofs.SizeLaws.{lowest-shifted}
use Rattle.sizes.proofs.os.page_mask.Goals as goal

pub returns : goal.returns
returns c = ap (λ (x : ℕ). x - 1) (lowest-shifted c.args.page c.ranges.page.fits)
