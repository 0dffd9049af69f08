-- A flag is read as it was written. Assumes nothing.
use Rattle.std.specs.Prelude.{◌≡◌}
use Rattle.arena.proofs.Prelude.{refl, Bool, true, false, ℕ, ℤ, new_arena}
use Rattle.arena.specs.Flags.{is_on, as_flag}

pub flag-read : (b : Bool) → is_on (as_flag b) ≡ b
flag-read true = refl
flag-read false = refl

-- so an arena is exclusive, and owned, as it is registered to be
pub registered-flags : (base chunks : ℕ) (exclusive owned : Bool) (node : ℤ) (dirty committed : Bool)
    → let a = new_arena base chunks exclusive owned node dirty committed in
    (is_on a.exclusive ≡ exclusive) × (is_on a.owned ≡ owned)
unfolding new_arena
registered-flags base chunks exclusive owned node dirty committed = (flag-read exclusive, flag-read owned)
