-- A range outside the span meets no arena.
use Rattle.std.proofs.Common.{sym, ◌∙◌}
use Rattle.table.proofs.TableLaws.{outside_alone}
use Rattle.table.proofs.meets_none.Goals as goal

pub returns-then-leaves_out : goal.returns-then-leaves_out
returns-then-leaves_out c =
    let a = c.args in
    c.if-leaves_out.true ∙ outside_alone a.chunk_size.bytes a.records.now a.span a.range a.j c.requires.1 (sym c.leaves_out.ensures ∙ c.if-leaves_out.true)
