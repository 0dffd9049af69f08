-- What is told of a sound record is whether the block continues it.
use Rattle.std.proofs.Common.{rules}
use Rattle.layer.specs.Table.{at}
use Rattle.layer.specs.Registering.{grows}
use Rattle.table.proofs.TableLaws.{range-there}
use Rattle.table.proofs.SearchLaws.{first-is-least}
use Rattle.table.proofs.find_growing.Goals as goal

pub first_arena-requires : goal.first_arena-requires
first_arena-requires c =
    let a = c.args in
    (c.requires.0, λ i h x e. search (rules, range-there a.chunk_size.bytes a.records.now a.k c.requires i h x.now e))

pub returns : goal.returns
returns c =
    let a = c.args in
    first-is-least a.records.now a.k _ _ (λ i. grows a.chunk_size.bytes (at a.records.now i) a.address a.n) (λ i b h m. search rules) _ c.first_arena.ensures
