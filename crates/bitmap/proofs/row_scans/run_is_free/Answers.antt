-- A turn looks at one word: its places are free, or the run is not.
use Rattle.std.proofs.Common.{sym, ◌∙◌, ◌-◌, arith}
use Rattle.bitmap.proofs.runs.SearchLaws.{free_in}
use Rattle.bitmap.proofs.runs.WalkLaws.{all_none, all-fails, all_more, word-run}
use Rattle.bitmap.proofs.row_scans.run_is_free.Goals as goal

pub loop-at-init : goal.loop-at-init
loop-at-init c =
    (omega arith, omega arith, all_none (free_in c.args.lent.now c.args.used) c.args.start (c.args.start - c.args.start) (omega arith))

pub returns-then-not-word_is_free : goal.returns-then-not-word_is_free
returns-then-not-word_is_free c =
    sym (all-fails (free_in c.args.lent.now c.args.used) c.args.start c.args.n c.loop-at.at c.min-m.result c.loop-at.invariant.0 (omega arith)
    (word-run c.args.lent.now c.args.used c.loop-at.at c.min-m.result c.in_sense-w.result (omega arith) c.in_sense-w.ensures
    ∙ sym c.word_is_free.ensures ∙ c.if-not-word_is_free.true))

pub loop-at-preserved : goal.loop-at-preserved
loop-at-preserved c = (
  omega arith,
  omega arith,
  all_more (free_in c.args.lent.now c.args.used) c.args.start c.loop-at.at c.min-m.result c.loop-at.invariant.0 c.loop-at.invariant.2
      (word-run c.args.lent.now c.args.used c.loop-at.at c.min-m.result c.in_sense-w.result (omega arith) c.in_sense-w.ensures
      ∙ sym c.word_is_free.ensures ∙ c.if-not-word_is_free.false),
)
