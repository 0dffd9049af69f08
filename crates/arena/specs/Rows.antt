-- A bitmap as the machine has it: 32 words of 32 bits. Every record that the code holds is of such rows; a definition's record is if it was made of
-- such. Assumes nothing.
use Rattle.std.specs.Prelude.{◌≡◌, List, ℕ, ◌^◌, ◌<◌, length, get_or}
use Rattle.arena.specs.declared.Arena.{Arena}

pub record IsRow (ws : List ℕ) : Type 0 where
  pub long : length ws ≡ 32
  pub small : (i : ℕ) → get_or ws i 0 < 2 ^ 32

pub record Rows (a : Arena) : Type 0 where
  pub used : IsRow a.used
  pub dirty : IsRow a.dirty
  pub committed : IsRow a.committed
  pub pending : IsRow a.pending
