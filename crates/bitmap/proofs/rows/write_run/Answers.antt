-- A turn stores one word of the run.
use Rattle.std.proofs.Common.{◌≡◌, refl, ap, ◌∙◌, cond, ℕ, ◌-◌, ◌/◌, ◌^◌, arith}
use Rattle.walks.proofs.Prelude.{length-set}
use Rattle.bitmap.specs.Bits.{bit_at, within}
use Rattle.bitmap.proofs.words.RowLaws.{turn, set_words, nothing, write_run-is}
use Rattle.bitmap.proofs.rows.write_run.Goals as goal

pub loop-at-init : goal.loop-at-init
loop-at-init c =
    (omega arith, omega arith, omega arith, omega arith, refl, refl, λ i. omega (arith, c.type_inv.lent i), nothing c.args.on c.args.lent.now c.args.start)

pub loop-at-preserved : goal.loop-at-preserved
loop-at-preserved c =
    let l = c.loop-at in (
      omega arith,
      omega arith,
      simp length-set (omega arith),
      omega arith,
      omega arith,
      simp length-set (omega arith),
      set_words (2 ^ 32) l.lent (l.at / 32) c.write_word.result (omega arith) l.invariant.6,
      turn c.args.on c.args.lent.now l.lent c.args.start l.at c.min-m.result c.write_word.result
          l.invariant.0 (omega arith) (omega arith) c.write_word.ensures l.invariant.7,
    )

pub returns : goal.returns
returns c =
    let l = c.loop-at in
    write_run-is c.args.on c.args.lent.now c.args.start c.args.n l.lent l.invariant.5 l.invariant.6
    (λ j. l.invariant.7 j ∙ ap (λ (k : ℕ). cond (within c.args.start k j) c.args.on (bit_at c.args.lent.now j)) (let q : l.at - c.args.start ≡ c.args.n = omega arith in q))
