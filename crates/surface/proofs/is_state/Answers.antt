-- Where the question is open, a comparison of numbers says which test of `state_by_fields` it comes to.
use Rattle.state.proofs.Prelude.{ne_eqb, le-leb, lt-leb}
use Rattle.surface.proofs.FieldLaws.{state_by_fields}
use Rattle.surface.proofs.is_state.Goals as goal

pub returns-then-kind-le2 : goal.returns-then-kind-le2
returns-then-kind-le2 c =
    let f = c.args.f in
    let n = ne_eqb f.question 0 c.if-kind-eq0.false in
    let l = le-leb f.question 2 c.if-kind-le2.true in search (state_by_fields f, n, l, c.is_placed-placed.ensures)

pub returns : goal.returns
returns c =
    let f = c.args.f in
    let n = ne_eqb f.question 0 c.if-kind-eq0.false in
    let l = lt-leb f.question 2 c.if-kind-le2.false in search (state_by_fields f, n, l, c.is_of_memory-asks.ensures)
