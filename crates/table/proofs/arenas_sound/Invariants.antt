-- The records before the one at hand are sound and meet none before them, and the span covers them.
use Rattle.std.proofs.Common.{true}
use Rattle.table.specs.Spans.{CoversAll}
use Rattle.table.proofs.TurnLaws.{Passed}
use Rattle.table.proofs.TableLaws.{sound, alone}
use Rattle.table.proofs.arenas_sound.Given as goal

abbrev pub invariant-loop-i : goal.invariant-loop-i
invariant-loop-i l = record {
  sound : Passed true (sound l.chunk_size.bytes l.records) l.i;
  alone : Passed true (alone l.chunk_size.bytes l.records) l.i;
  covered : CoversAll l.chunk_size.bytes l.span l.records l.i;
}
