-- The answer is the next chunk from the place that is reached; and how many places are left.
use Rattle.std.proofs.Common.{◌≡◌, ◌-◌}
use Rattle.arena.specs.Sweeping.{next_asked}
use Rattle.arena.proofs.Arena.next_asked.Given as goal

abbrev pub invariant-loop-j : goal.invariant-loop-j
invariant-loop-j l =
    next_asked l.self l.stamps l.timing.force l.timing.now l.timing.delay l.at ≡ next_asked l.self l.stamps l.timing.force l.timing.now l.timing.delay l.from

abbrev pub decreases-loop-j : goal.decreases-loop-j
decreases-loop-j l = l.self.chunks - l.at
