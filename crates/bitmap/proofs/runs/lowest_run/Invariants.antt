-- The scan of `LowestLaws`, a word at a time.
use Rattle.bitmap.proofs.runs.SearchLaws.{Scan}
use Rattle.bitmap.proofs.runs.lowest_run.Given as goal

abbrev pub invariant-loop-k : goal.invariant-loop-k
invariant-loop-k l = Scan l.lent l.used l.places l.n l.k l.carry
