-- The lines that can be replayed. Assumes nothing.
use Rattle.std.specs.Prelude.{Bool, cond, not, ◌&&◌, ◌||◌, ℕ, eqb, ltb, leb}

-- both arguments have 32 bits
unfoldable pub narrow : ℕ → ℕ → Bool
narrow a b = ltb a 4294967296 && ltb b 4294967296

-- kinds 1 to 10; the arguments of 3 and 4 have 32 bits
unfoldable pub known : ℕ → ℕ → ℕ → Bool
known kind a b = cond (eqb kind 3 || eqb kind 4) (narrow a b) (not (eqb kind 0) && leb kind 10)
