-- Row 1, then the core.
use Rattle.std.proofs.Common.{◌∙◌}
use Rattle.layer.specs.Step.{owns}
use Rattle.queries.proofs.QueryLaws.{turned-down, handed, answered}
use Rattle.queries.proofs.owns.Goals as goal

pub returns-then-not-row_one : goal.returns-then-not-row_one
returns-then-not-row_one c =
    let a = c.args in
    c.refuse.ensures
    ∙ turned-down a.records.now a.stamps.now a.state a.ns a.settings _ _ c.chunk_size-chunk_size.ensures c.row_one.ensures c.if-not-row_one.true (owns a.address)

pub lies_in_arena-requires : goal.lies_in_arena-requires
lies_in_arena-requires c =
    let a = c.args in
    handed a.records.now a.stamps.now a.state a.ns a.settings _ _ c.chunk_size-chunk_size.ensures c.row_one.ensures c.if-not-row_one.false

pub returns : goal.returns
returns c =
    let a = c.args in
    rw c.lies_in_arena.ensures
    (answered a.records.now a.stamps.now a.state a.ns a.settings _ _ c.chunk_size-chunk_size.ensures c.row_one.ensures c.if-not-row_one.false (owns a.address))
