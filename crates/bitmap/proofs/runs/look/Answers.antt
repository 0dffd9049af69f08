-- Each return is a step of `SearchLaws`.
use Rattle.std.proofs.Common.{refl, arith}
use Rattle.bitmap.proofs.runs.SearchLaws.{empty-step, lone-step, from_step, carry-step}
use Rattle.bitmap.proofs.runs.look.Goals as goal

pub returns-then-w-eq0 : goal.returns-then-w-eq0
returns-then-w-eq0 c = empty-step c.args.w c.args.carry c.args.n c.if-w-eq0.true c.requires.0

pub returns-then-carry-n : goal.returns-then-carry-n
returns-then-carry-n c = lone-step c.args.w c.args.carry c.args.n c.ranges.w.fits c.if-w-eq0-2.true c.if-carry-n.true _ refl

pub returns-then-at-lt32 : goal.returns-then-at-lt32
returns-then-at-lt32 c =
    let k = c.lowest_clear-low in
    let f = c.first_start-at in
    from_step c.args.w c.args.carry c.args.n k.result c.ranges.w.fits c.requires.0 k.ensures
    f.result (omega arith) (omega (arith, k.ensures.most)) (omega arith) f.ensures.1 (f.ensures.2 (omega arith))

pub returns : goal.returns
returns c =
    let k = c.lowest_clear-low in
    let f = c.first_start-at in
    let t = c.top_ones in
    carry-step c.args.w c.args.carry c.args.n k.result c.ranges.w.fits c.requires.0 k.ensures
    f.result t.result (omega arith) (omega (arith, k.ensures.most)) (omega arith) f.ensures.1 t.ensures.0 t.ensures.1 t.ensures.2
