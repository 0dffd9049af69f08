-- After i turns the hash is that with i arenas.
use Rattle.std.specs.Prelude.{◌≡◌}
use Rattle.layer_samples.specs.StateHash.{with_arenas, of_state}
use Rattle.layer_samples.proofs.state_hash.hash.Given as goal

abbrev pub invariant-loop-i : goal.invariant-loop-i
invariant-loop-i l = l.h ≡ with_arenas (of_state l.fn.s) l.records l.stamps l.i
