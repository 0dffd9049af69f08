-- The search for none: the first arena that is meant, or none. The machine holds the id's bits, and reads back the id that came in.
use Rattle.state.proofs.Prelude.{sym, ◌∙◌}
use Rattle.std.proofs.Math.Facts.{to_z-of_z}
use Rattle.claiming.proofs.SearchLaws.{none-wanted, ends-here, goes-on, none-left}
use Rattle.claiming.proofs.searching.search_none.Goals as goal

pub returns-then-is_eligible : goal.returns-then-is_eligible
returns-then-is_eligible c =
    let a = c.args in
    let e = rw (to_z-of_z c.ranges.id) at c.is_eligible.ensures in
    ends-here a.records.now a.id 0 a.k c.loop-i.i _ c.loop-i-test.true 0
    (none-wanted a.id _ _ _ (sym e ∙ c.if-is_eligible.true)) ∙ rw (to_z-of_z c.ranges.id) at c.loop-i.invariant

pub loop-i-preserved : goal.loop-i-preserved
loop-i-preserved c =
    let a = c.args in
    let e = rw (to_z-of_z c.ranges.id) at c.is_eligible.ensures in
    rw (to_z-of_z c.ranges.id)
    (goes-on a.records.now a.id 0 a.k c.loop-i.i _ c.loop-i-test.true (none-wanted a.id _ _ _ (sym e ∙ c.if-is_eligible.false)) ∙ rw (to_z-of_z c.ranges.id) at c.loop-i.invariant)

pub returns : goal.returns
returns c =
    let a = c.args in
    none-left a.records.now a.id 0 a.k c.loop-i.i c.loop-i-test.false c.requires ∙ rw (to_z-of_z c.ranges.id) at c.loop-i.invariant
