-- A picture of the slice pool. Assumes nothing.
use Rattle.std.specs.Prelude.{◌≡◌, cond, List, ℕ, ◌<◌, get_or}
use Rattle.bitmap.specs.Bits.{bit_at}

-- '.' for a free slice, '#' for one that is taken
abbrev pub mark_of : List ℕ → ℕ → ℕ
mark_of pool j = cond (bit_at pool j) 46 35

-- the first n characters of a text are the marks of the first n slices
abbrev pub Shows : List ℕ → ℕ → List ℕ → Type 0
Shows pool n text = (j : ℕ) → j < n → get_or text j 0 ≡ mark_of pool j
