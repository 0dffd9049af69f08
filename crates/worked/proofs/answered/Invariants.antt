-- The measure is how many calls are left.
use Rattle.worked.proofs.answered.Given as goal

abbrev pub decreases-loop-left : goal.decreases-loop-left
decreases-loop-left l = l.left
