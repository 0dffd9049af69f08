-- `samples::signed::narrow`, by the sign of the low half.
use Rattle.std.proofs.Common.{◌≡◌, ap, ◌∙◌, suc, ◌-◌, ◌%◌, arith, lt-ltb, le-ltb, negsuc, to_z, w32}
use Rattle.samples.specs.Signed.{narrow_of}
use Rattle.samples.proofs.signed.narrow.Goals as goal

pub returns-then-low-lt2147483648 : goal.returns-then-low-lt2147483648
unfolding narrow_of
returns-then-low-lt2147483648 c = simp (lt-ltb (c.args.x % 4294967296) 2147483648 c.if-low-lt2147483648.true)

pub returns : goal.returns
unfolding narrow_of
returns c =
    let x = c.args.x % 4294967296 in
    let back : 4294967295 - (4294967295 - x) ≡ x = omega arith in
    let same : 4294967296 - suc x ≡ 4294967295 - x = omega arith in
    ap (to_z w32) back ∙ simp (le-ltb x 2147483648 c.if-low-lt2147483648.false) (ap negsuc same)
