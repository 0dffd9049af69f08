-- Each arena of the second, until one overlaps an arena of the first.
use Rattle.std.proofs.Common.{false}
use Rattle.table.proofs.TurnLaws.{Passed}
use Rattle.joining.proofs.JoinLaws.{crossed}
use Rattle.joining.proofs.tables_overlap.Given as goal

abbrev pub invariant-loop-a : goal.invariant-loop-a
invariant-loop-a l = Passed false (crossed l.chunk_size.bytes l.records l.second_records l.k) l.a-index
