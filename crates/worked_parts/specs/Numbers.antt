-- An answer as the number that is shown. Assumes nothing.
use Rattle.std.specs.Prelude.{ℕ, Option, Some, None, Result, Ok, Err}
use Rattle.refusals.specs.declared.Refusal.{Refusal}

-- where the run starts; the largest number where there is none
abbrev pub start_of : Option ℕ → ℕ
start_of (Some s) = s
start_of None = 18446744073709551615

-- the run's address; the largest number where there is none
abbrev pub address_of : Result ℕ Refusal → ℕ
address_of (Ok address) = address
address_of (Err why) = 18446744073709551615

-- by how much the second's ids rise
abbrev pub rise_of : Result ℕ Refusal → ℕ
rise_of (Ok rise) = rise
rise_of (Err why) = 0
