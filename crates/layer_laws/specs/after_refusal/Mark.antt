-- The give-up mark. Document 01, "Claiming": "a failed reserve sets the mark for good". That a failed reserve sets it stands in `Left`, at 10; that no
-- call clears it stands here. Assumes nothing.
use Rattle.std.specs.Prelude.{◌≡◌, true, ℕ}
use Rattle.layer.specs.declared.Settings.{Settings}
use Rattle.layer.specs.World.{World}
use Rattle.layer.specs.Step.{Call, rules}

abbrev pub MarkStays : ℕ → Type 0
MarkStays S = (w : World) (ns : ℕ) (settings : Settings) (c : Call) → w.state.mark ≡ true → (rules S w ns settings c).world.state.mark ≡ true
