-- What a line of 53 bytes says. Assumes nothing.
use Rattle.std.specs.Prelude.{Bool, cond, ◌&&◌, List, ℕ, ◌+◌, eqb, get_or, Option, Some, None}
use Rattle.samples.specs.Hex.{digit_of, digits_at}
use Rattle.samples.specs.declared.lines.Line.{Line}

-- three spaces (32) and a line end (10)
unfoldable pub parted : List ℕ → ℕ → Bool
parted text at = eqb (get_or text (at + 1) 0) 32 && (eqb (get_or text (at + 18) 0) 32 && (eqb (get_or text (at + 35) 0) 32 && eqb (get_or text (at + 52) 0) 10))

-- the numbers that were read, if they are all there
abbrev pub line_of : Option ℕ → Option ℕ → Option ℕ → Option ℕ → Option Line
line_of (Some k) (Some x) (Some y) (Some z) = Some (record { kind = k; a = x; b = y; r = z })
line_of (Some k) (Some x) (Some y) None = None
line_of (Some k) (Some x) None r = None
line_of (Some k) None b r = None
line_of None a b r = None

-- the kind, one digit; a, b and the answer, 16 digits each
unfoldable pub fields_at : List ℕ → ℕ → Option Line
fields_at text at = line_of (digit_of (get_or text at 0)) (digits_at text (at + 2) 16) (digits_at text (at + 19) 16) (digits_at text (at + 36) 16)

unfoldable pub line_at : List ℕ → ℕ → Option Line
line_at text at = cond (parted text at) (fields_at text at) None
