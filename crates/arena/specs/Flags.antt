-- The flags of a record. They are numbers, since whoever lends a table may have written any there: "every entry point takes all numbers and all lent
-- tables" (demand 1). Document 01's list of broken tables says nothing of a flag, so each number is one. Assumes nothing.
use Rattle.std.specs.Prelude.{Bool, true, false, not, ℕ, eqb}

-- as it is read: on unless 0
abbrev pub is_on : ℕ → Bool
is_on x = not (eqb x 0)

-- as registering writes it: 1 or 0
abbrev pub as_flag : Bool → ℕ
as_flag true = 1
as_flag false = 0
