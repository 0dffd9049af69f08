-- `samples::signed::wide`, by the sign.
use Rattle.std.proofs.Common.{◌≡◌, ap, ◌∙◌, suc, ◌-◌, arith, lt-ltb, le-ltb, negsuc, to_z, w64}
use Rattle.samples.specs.Signed.{signed_of}
use Rattle.samples.proofs.signed.wide.Goals as goal

pub returns-then-x-lt9223372036854775808 : goal.returns-then-x-lt9223372036854775808
unfolding signed_of
returns-then-x-lt9223372036854775808 c = simp (lt-ltb c.args.x 9223372036854775808 c.if-x-lt9223372036854775808.true)

pub returns : goal.returns
unfolding signed_of
returns c =
    let x = c.args.x in
    let back : 18446744073709551615 - (18446744073709551615 - x) ≡ x = omega arith in
    let same : 18446744073709551616 - suc x ≡ 18446744073709551615 - x = omega arith in
    ap (to_z w64) back ∙ simp (le-ltb x 9223372036854775808 c.if-x-lt9223372036854775808.false) (ap negsuc same)
