-- Where the sum fits it is masked up; else the size stays.
use Rattle.std.proofs.Common.{◌∙◌, ℕ, ◌+◌, ◌-◌, ◌^◌, ◌≤◌, ◌<◌, arith}
use Rattle.walks.proofs.Prelude.{ap₂, bit_and}
use Rattle.sizes.specs.Sizes.{zero_as_one, lowest_set_bit}
use Rattle.sizes.proofs.SizeLaws.{masked-up, unrounded-keeps}
use Rattle.sizes.proofs.os.page_align_up.Goals as goal

pub returns-then-base-mask : goal.returns-then-base-mask
returns-then-base-mask c =
    let base = c.at_least_one-base in
    let mask = c.page_mask-mask in
    let room : zero_as_one c.args.size + (lowest_set_bit c.args.page - 1) < 2 ^ 64 = omega (arith, base.ensures, mask.ensures, c.if-base-mask.true, mask.type_inv) in
    ap₂ (λ (b m : ℕ). bit_and (b + m) (2 ^ 64 - 1 - m)) base.ensures mask.ensures
    ∙ masked-up c.args.page c.args.size c.ranges.page.fits room

pub returns-else-base-mask : goal.returns-else-base-mask
returns-else-base-mask c =
    let base = c.at_least_one-base in
    let mask = c.page_mask-mask in
    let none : 2 ^ 64 ≤ zero_as_one c.args.size + (lowest_set_bit c.args.page - 1) = omega (arith, base.ensures, mask.ensures, c.if-base-mask.false) in
    base.ensures ∙ unrounded-keeps c.args.page c.args.size c.ranges.page.fits none
