-- The search: the first arena with a run, or none. The machine holds the id's bits, and reads back the id that came in.
use Rattle.state.proofs.Prelude.{sym, ◌∙◌}
use Rattle.std.proofs.Math.Facts.{to_z-of_z}
use Rattle.claiming.proofs.SearchLaws.{ends-here, goes-on, none-left}
use Rattle.claiming.proofs.searching.search.Goals as goal

pub returns-in-Some : goal.returns-in-Some
returns-in-Some c =
    let a = c.args in
    let e = rw (to_z-of_z c.ranges.id) at c.run_in.ensures in
    ends-here a.records.now a.id a.n a.k c.loop-i.i _ c.loop-i-test.true c.in-Some.start (sym e ∙ c.in-Some.is) ∙ rw (to_z-of_z c.ranges.id) at c.loop-i.invariant

pub loop-i-preserved : goal.loop-i-preserved
loop-i-preserved c =
    let a = c.args in
    let e = rw (to_z-of_z c.ranges.id) at c.run_in.ensures in
    rw (to_z-of_z c.ranges.id)
    (goes-on a.records.now a.id a.n a.k c.loop-i.i _ c.loop-i-test.true (sym e ∙ c.in_default.is) ∙ rw (to_z-of_z c.ranges.id) at c.loop-i.invariant)

pub returns : goal.returns
returns c =
    let a = c.args in
    none-left a.records.now a.id a.n a.k c.loop-i.i c.loop-i-test.false c.requires.0.0 ∙ rw (to_z-of_z c.ranges.id) at c.loop-i.invariant
