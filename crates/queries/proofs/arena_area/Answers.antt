-- Row 1, then the core. The machine holds the id's bits, and reads back the id that came in.
use Rattle.std.proofs.Common.{◌∙◌}
use Rattle.std.proofs.Math.Facts.{to_z-of_z}
use Rattle.layer.specs.Step.{area}
use Rattle.queries.proofs.QueryLaws.{turned-down, handed, answered}
use Rattle.queries.proofs.arena_area.Goals as goal

pub returns-then-not-row_one : goal.returns-then-not-row_one
returns-then-not-row_one c =
    let a = c.args in
    c.refuse.ensures
    ∙ turned-down a.records.now a.stamps.now a.state a.ns a.settings _ _ c.chunk_size-chunk_size.ensures c.row_one.ensures c.if-not-row_one.true (area a.id)

pub area_of-answer-requires : goal.area_of-answer-requires
area_of-answer-requires c =
    let a = c.args in
    handed a.records.now a.stamps.now a.state a.ns a.settings _ _ c.chunk_size-chunk_size.ensures c.row_one.ensures c.if-not-row_one.false

pub returns : goal.returns
returns c =
    let a = c.args in
    rw (c.area_of-answer.ensures, to_z-of_z c.ranges.id)
    (answered a.records.now a.stamps.now a.state a.ns a.settings _ _ c.chunk_size-chunk_size.ensures c.row_one.ensures c.if-not-row_one.false (area a.id))
