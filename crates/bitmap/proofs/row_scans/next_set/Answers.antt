-- A turn looks at what is left of one word: its lowest set bit is the place, or the word is passed.
use Rattle.std.proofs.Common.{◌/◌, arith}
use Rattle.bitmap.proofs.runs.WalkLaws.{next_here, next_past, next_word, next-none}
use Rattle.bitmap.proofs.row_scans.next_set.Goals as goal

pub returns-then-at-z : goal.returns-then-at-z
returns-then-at-z c =
    next_here c.args.lent.now c.args.from c.loop-at.at c.lowest_set-z.result (omega (arith, c.type_inv.lent (c.loop-at.at / 32)))
    c.lowest_set-z.ensures c.loop-at.invariant.0 c.loop-at.invariant.1 c.args.places (omega arith) (omega arith)

pub returns-then-z-lt32 : goal.returns-then-z-lt32
returns-then-z-lt32 c =
    next_past c.args.lent.now c.args.from c.loop-at.at c.lowest_set-z.result (omega (arith, c.type_inv.lent (c.loop-at.at / 32)))
    c.lowest_set-z.ensures c.loop-at.invariant.0 c.loop-at.invariant.1 c.args.places (omega arith) (omega arith)

pub loop-at-preserved : goal.loop-at-preserved
loop-at-preserved c = (
  omega arith,
  next_word c.args.lent.now c.args.from c.loop-at.at c.lowest_set-z.result (omega (arith, c.type_inv.lent (c.loop-at.at / 32)))
      c.lowest_set-z.ensures c.loop-at.invariant.0 c.loop-at.invariant.1 (omega arith),
)

pub returns : goal.returns
returns c = next-none c.args.lent.now c.args.from c.loop-at.at c.args.places (omega arith) c.loop-at.invariant.1
