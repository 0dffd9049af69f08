-- Over no arena, or from the first arena on.
use Rattle.sweeping.proofs.SweepLaws.{sweepable}
use Rattle.sweeping.proofs.sweep.Goals as goal

pub sweep_on-requires : goal.sweep_on-requires
sweep_on-requires c = let a = c.args in (sweepable a.records.now a.state c.requires.0.0, c.requires.1)
