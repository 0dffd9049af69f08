-- A turn is one step of the scan.
use Rattle.std.proofs.Common.{sym, subst, ◌+◌, arith}
use Rattle.bitmap.specs.declared.runs.Step.TheVariants.{Before, From, Whole, Carry}
use Rattle.bitmap.proofs.runs.SearchLaws.{Scan, turn, at-end}
use Rattle.bitmap.proofs.runs.lowest_run.Goals.{in-Whole, in-Carry}
use Rattle.bitmap.proofs.runs.lowest_run.Goals as goal

pub returns-in-Before : goal.returns-in-Before
returns-in-Before c =
    let a = c.args in
    let l = c.loop-k in
    let w = c.free_bits-w in
    turn a.lent.now a.used a.places a.n l.k l.carry w.result w.type_inv c.requires.0 w.ensures l.invariant Before c.in-Before.ensures

pub returns-in-From : goal.returns-in-From
returns-in-From c =
    let a = c.args in
    let l = c.loop-k in
    let w = c.free_bits-w in
    turn a.lent.now a.used a.places a.n l.k l.carry w.result w.type_inv c.requires.0 w.ensures l.invariant (From c.in-From.i) c.in-From.ensures

pub loop-k-preserved : goal.loop-k-preserved
loop-k-preserved c =
    let a = c.args in
    let l = c.loop-k in
    let w = c.free_bits-w in
    let next = turn a.lent.now a.used a.places a.n l.k l.carry w.result w.type_inv c.requires.0 w.ensures l.invariant in
    elim c.match-look.branch [
      | in-Whole b ↦ subst (Scan a.lent.now a.used a.places a.n (l.k + 1)) (sym b.carry-is) (next Whole b.in-Whole.ensures)
      | in-Carry b ↦ subst (Scan a.lent.now a.used a.places a.n (l.k + 1)) (sym b.carry-is) (next (Carry b.in-Carry.top) b.in-Carry.ensures)
    ]

pub returns : goal.returns
returns c = at-end c.args.lent.now c.args.used c.args.places c.args.n c.loop-k.k c.loop-k.carry (omega arith) c.loop-k.invariant
