-- The shortest wait so far, joined with that of the chunks to come, is that of all; and how many places are left.
use Rattle.std.proofs.Common.{◌≡◌, ◌-◌}
use Rattle.arena.specs.Maps.{wait_in}
use Rattle.arena.proofs.waits.WaitLaws.{joined, waits_from}
use Rattle.arena.proofs.waits.next_wait.Given as goal

abbrev pub invariant-loop-j : goal.invariant-loop-j
invariant-loop-j l =
    joined l.best (waits_from l.pending l.chunks l.stamps l.timing.now l.timing.delay l.at) ≡ wait_in l.pending l.chunks l.stamps l.timing.now l.timing.delay

abbrev pub decreases-loop-j : goal.decreases-loop-j
decreases-loop-j l = l.chunks - l.at
