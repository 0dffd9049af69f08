-- Each character passed is a mark.
use Rattle.std.specs.Prelude.{◌≡◌, length}
use Rattle.worked_parts.specs.Picture.{Shows}
use Rattle.worked_parts.proofs.picture.draw.Given as goal

abbrev pub invariant-loop-j : goal.invariant-loop-j
invariant-loop-j l = (128 ≡ length l.text) × Shows l.pool l.j l.text
