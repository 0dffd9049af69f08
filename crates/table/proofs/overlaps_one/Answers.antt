-- The range of a sound record tells whether it meets the other.
use Rattle.std.proofs.Common.{rules, ap, ◌∙◌}
use Rattle.std.specs.Prelude.{is_some}
use Rattle.arena.specs.Place.{bytes_of, end_of}
use Rattle.layer.specs.Table.{at, meets, overlaps}
use Rattle.table.proofs.TableLaws.{range-there}
use Rattle.table.proofs.SearchLaws.{first-is-least}
use Rattle.table.proofs.overlaps_one.Goals as goal

pub first_arena-requires : goal.first_arena-requires
first_arena-requires c =
    let a = c.args in
    (c.requires.0, λ i h x e. search (rules, range-there a.chunk_size.bytes a.records.now a.k c.requires i h x.now e))

pub returns : goal.returns
unfolding overlaps meets end_of bytes_of
returns c =
    let a = c.args in
    c.is_some.ensures ∙ ap is_some (first-is-least a.records.now a.k _ _ (λ i. meets a.chunk_size.bytes (at a.records.now i) a.base a.bytes) (λ i b h m. search rules) _ c.first_arena.ensures)
