-- Before each turn the number is that of the digits that were read.
use Rattle.std.specs.Prelude.{◌≡◌, Some}
use Rattle.samples.specs.Hex.{digits_at}
use Rattle.samples.proofs.hex.field.Given as goal

abbrev pub invariant-loop-i : goal.invariant-loop-i
invariant-loop-i l = Some l.high ≡ digits_at l.text l.at l.i
