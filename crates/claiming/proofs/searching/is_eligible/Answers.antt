-- Whom an arena serves, by the sign of the id. The machine holds the id's bits, and reads back the id that came in.
use Rattle.std.proofs.Math.Facts.{to_z-of_z}
use Rattle.claiming.proofs.ClaimLaws.{negative-id, named-id}
use Rattle.claiming.proofs.searching.is_eligible.Goals as goal

pub returns-then-id-lt0 : goal.returns-then-id-lt0
returns-then-id-lt0 c =
    let a = c.args in
    rw c.is_on.ensures (negative-id a.i a.a.now a.id (rw (to_z-of_z c.ranges.id) at c.if-id-lt0.true))

pub returns : goal.returns
returns c =
    let a = c.args in
    rw (to_z-of_z c.ranges.id) (named-id a.i a.a.now a.id (rw (to_z-of_z c.ranges.id) at c.if-id-lt0.false))
