-- What a text in lower-case hexadecimal says. Assumes nothing.
use Rattle.std.specs.Prelude.{cond, List, ℕ, zero, suc, ◌+◌, ◌-◌, ◌*◌, ◌<◌, ltb, get_or, Option, Some, None}

-- a number is below m, if it is one
abbrev pub Below : Option ℕ → ℕ → Type 0
Below (Some v) m = v < m
Below None m = Unit {0}

-- '0' to '9' are 48 to 57, and 'a' to 'f' are 97 to 102
unfoldable pub digit_of : ℕ → Option ℕ
digit_of b = cond (ltb b 48) None (cond (ltb b 58) (Some (b - 48)) (cond (ltb b 97) None (cond (ltb b 103) (Some (b - 97 + 10)) None)))

-- one digit more behind a number
abbrev pub then_digit : Option ℕ → Option ℕ → Option ℕ
then_digit (Some v) (Some d) = Some (v * 16 + d)
then_digit (Some v) None = None
then_digit None d = None

-- the k digits from `at` on, the highest first
unfoldable pub digits_at : List ℕ → ℕ → ℕ → Option ℕ
digits_at text at zero = Some 0
digits_at text at (suc k) = then_digit (digits_at text at k) (digit_of (get_or text (at + k) 0))
