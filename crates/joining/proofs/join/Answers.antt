-- Rows 17 and 18, then the tables.
use Rattle.std.proofs.Common.{◌≡◌, true, false, arith}
use Rattle.layer.specs.World.{size_of}
use Rattle.layer.specs.Joining.{tables_overlap}
use Rattle.joining.proofs.JoinLaws.{overlap-row, many-row, joined-row}
use Rattle.joining.proofs.join.Goals as goal

pub returns-then-tables_overlap : goal.returns-then-tables_overlap
returns-then-tables_overlap c =
    let a = c.args in
    let overlap : tables_overlap (size_of a.state) a.records.now a.state.count a.second_records.now a.second.count ≡ true = cc in
    rw c.refuse.ensures (overlap-row a.records.now a.stamps.now a.second_records.now a.second_stamps.now a.state a.second c.requires.0 c.requires.2 overlap)

pub returns-then-count-gt-MOST_ARENAS : goal.returns-then-count-gt-MOST_ARENAS
returns-then-count-gt-MOST_ARENAS c =
    let a = c.args in
    let apart : tables_overlap (size_of a.state) a.records.now a.state.count a.second_records.now a.second.count ≡ false = cc in
    rw c.refuse-then-count-gt-MOST_ARENAS.ensures (many-row a.records.now a.stamps.now a.second_records.now a.second_stamps.now a.state a.second c.requires.0 c.requires.2 apart (omega arith))

pub returns : goal.returns
returns c =
    let a = c.args in
    let apart : tables_overlap (size_of a.state) a.records.now a.state.count a.second_records.now a.second.count ≡ false = cc in
    rw (c.joined.ensures, c.unite.ensures.0, c.unite.ensures.1, c.unite.ensures.2, c.unite.ensures.3)
    (joined-row a.records.now a.stamps.now a.second_records.now a.second_stamps.now a.state a.second c.requires.0 c.requires.2 apart (omega arith))
