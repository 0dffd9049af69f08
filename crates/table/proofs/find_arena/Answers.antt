-- The range of a sound record tells whether the address lies in it.
use Rattle.std.proofs.Common.{rules}
use Rattle.arena.specs.Place.{bytes_of, end_of, is_inside}
use Rattle.layer.specs.Table.{at, find_arena}
use Rattle.table.proofs.TableLaws.{range-there}
use Rattle.table.proofs.SearchLaws.{first-is-least}
use Rattle.table.proofs.find_arena.Goals as goal

pub first_arena-requires : goal.first_arena-requires
first_arena-requires c =
    let a = c.args in
    (c.requires.0, λ i h x e. search (rules, range-there a.chunk_size.bytes a.records.now a.k c.requires i h x.now e))

pub returns : goal.returns
unfolding find_arena is_inside end_of bytes_of
returns c =
    let a = c.args in
    first-is-least a.records.now a.k _ _ (λ i. is_inside a.chunk_size.bytes (at a.records.now i) a.address) (λ i b h m. search rules) _ c.first_arena.ensures
