-- The set bits at the top of w are the leading zeros of its complement.
use Rattle.std.proofs.Common.{sym, ◌∙◌, ℕ, ◌-◌, ◌^◌, arith}
use Rattle.walks.proofs.Prelude.{count_leading_zeros, not-true, not-false}
use lib.Pow.{ones_sub-lt}
use lib.Count.{leading_le}
use Rattle.bitmap.specs.Bits.{bit}
use Rattle.bitmap.proofs.words.WordLaws.{inverted}
use Rattle.bitmap.proofs.runs.SearchLaws.{leading-above, leading_at}
use Rattle.bitmap.proofs.runs.top_ones.Goals as goal

pub returns : goal.returns
returns c =
    let w = c.args.w in
    let h = c.ranges.w.fits in
    let x : ℕ = 2 ^ 32 - 1 - w in (
      leading_le 32 x,
      λ i l m. not-false (bit w i) (sym (inverted w i h m) ∙ leading-above x i (ones_sub-lt 32 w) l),
      λ l. not-true (bit w (31 - count_leading_zeros 32 x)) (sym (inverted w (31 - count_leading_zeros 32 x) h (omega arith)) ∙ leading_at x (ones_sub-lt 32 w) l),
    )
