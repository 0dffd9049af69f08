-- After i turns the table is what i adopted blocks make.
use Rattle.std.specs.Prelude.{◌≡◌}
use Rattle.layer.specs.World.{world_of}
use Rattle.worked_parts.specs.Joins.{adopted}
use Rattle.worked_parts.proofs.joins.adopt_blocks.Given as goal

abbrev pub invariant-loop-i : goal.invariant-loop-i
invariant-loop-i l = world_of l.records l.stamps l.state ≡ adopted (world_of l.fn.records l.fn.stamps l.fn.side.state) l.fn.side l.i
