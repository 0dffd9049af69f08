-- The ids that the table has an arena of. Assumes nothing.
use Rattle.std.specs.Prelude.{cond, ℕ, ltb, ℤ, pos, negsuc, Option, Some, None}

abbrev pub registered : ℕ → ℤ → Option ℕ
registered k (pos i) = cond (ltb i k) (Some i) None
registered k (negsuc i) = None
