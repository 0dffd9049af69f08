-- The cases that were run, counted. Assumes nothing.
use Rattle.std.specs.Prelude.{Bool, cond, ℕ, ◌+◌, min}
use Rattle.worked_parts.specs.declared.tally.Tally.{Tally}

abbrev pub none : Tally
none = record { cases = 0; differ = 0 }

-- the largest number stays as it is
abbrev pub one_more : ℕ → ℕ
one_more n = min (n + 1) 18446744073709551615

-- one case more, in which the two answers are the same or not
unfoldable pub counted : Tally → Bool → Tally
counted t ok = record { cases = one_more t.cases; differ = cond ok t.differ (one_more t.differ) }
