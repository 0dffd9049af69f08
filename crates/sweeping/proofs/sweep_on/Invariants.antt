-- Each arena, until a chunk of one is asked about.
use Rattle.layer.specs.World.{size_of}
use Rattle.sweeping.proofs.SweepLaws.{Going}
use Rattle.sweeping.proofs.sweep_on.Given as goal

abbrev pub invariant-loop-i : goal.invariant-loop-i
invariant-loop-i l = Going (size_of l.state) l.stamps l.state.count l.state.mark l.w l.from l.fn.records l.i l.records
