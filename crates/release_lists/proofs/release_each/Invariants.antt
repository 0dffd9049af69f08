-- Item after item.
use Rattle.release_lists.proofs.ListLaws.{Turned}
use Rattle.release_lists.proofs.release_each.Given as goal

abbrev pub invariant-loop-j : goal.invariant-loop-j
invariant-loop-j l = Turned l.fn.records l.fn.stamps l.addresses l.counts l.fn.answers l.state l.ns l.settings l.pending l.j l.records l.stamps l.answers
