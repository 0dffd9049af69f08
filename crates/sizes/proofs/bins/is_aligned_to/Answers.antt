-- align & (align - 1) tells a power of two, whose mask gives the remainder.
use Rattle.std.proofs.Common.{◌≡◌, sym, ◌∙◌, true, false, ◌-◌}
use Rattle.walks.proofs.Prelude.{bit_and, eqb, eq-eqb, ne_eqb}
use Rattle.sizes.specs.Sizes.{is_power_of_two}
use Rattle.sizes.proofs.SizeLaws.{power-test, aligned-to-zero, mask-test, no_power}
use Rattle.sizes.proofs.bins.is_aligned_to.Goals as goal

pub returns-then-align-eq0 : goal.returns-then-align-eq0
returns-then-align-eq0 c = aligned-to-zero c.args.x c.args.align c.if-align-eq0.true

pub returns-then-align-m-eq0 : goal.returns-then-align-m-eq0
returns-then-align-m-eq0 c =
    let a = c.args in
    let power : is_power_of_two a.align ≡ true = sym (power-test a.align c.ranges.align.fits c.if-align-eq0.false) ∙ eq-eqb (bit_and a.align (a.align - 1)) 0 c.if-align-m-eq0.true in
    mask-test a.x a.align power

pub returns-else-align-m-eq0 : goal.returns-else-align-m-eq0
returns-else-align-m-eq0 c =
    let a = c.args in
    let rest : eqb (bit_and a.align (a.align - 1)) 0 ≡ false = ne_eqb (bit_and a.align (a.align - 1)) 0 c.if-align-m-eq0.false in
    rest ∙ no_power a.x a.align (sym (power-test a.align c.ranges.align.fits c.if-align-eq0.false) ∙ rest)
