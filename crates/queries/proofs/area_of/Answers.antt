-- A registered arena is read where it lies. The machine holds the id's bits, and reads back the id that came in.
use Rattle.std.specs.Prelude.{◌≡◌, Some}
use Rattle.std.proofs.Math.Facts.{to_z-of_z}
use Rattle.queries.specs.Registered.{registered}
use Rattle.queries.proofs.QueryLaws.{bytes-fit, area-is}
use Rattle.queries.proofs.area_of.Goals as goal

pub overflow_mul-result : goal.overflow_mul-result
overflow_mul-result c =
    let a = c.args in
    let is : registered a.state.count a.id ≡ Some c.in-Some.i = cc (to_z-of_z c.ranges.id) in
    record { fits = bytes-fit a.records.now a.state c.requires a.id c.in-Some.i is _ c.chunk_size.ensures _ }

pub returns-in-Some : goal.returns-in-Some
returns-in-Some c =
    let a = c.args in
    let is : registered a.state.count a.id ≡ Some c.in-Some.i = cc (to_z-of_z c.ranges.id) in
    area-is a.records.now a.state c.requires a.id c.in-Some.i is _ c.chunk_size.ensures _
