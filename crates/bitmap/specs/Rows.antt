-- A row of bits as a list of words, made from a test of each place, and what writing a run makes of a row. Document 01, "Map words": "A claim sets
-- bits of a run and a release clears them by masks, no other bit moving." Assumes nothing.
use Rattle.std.specs.Prelude.{Bool, true, false, cond, List, [], ◌∷◌, ℕ, zero, suc, ◌+◌, ◌*◌, length}
use Rattle.bitmap.specs.Bits.{bit_at, within}

-- the number of k bits whose bit i is `f i`
unfoldable pub as_number : (ℕ → Bool) → ℕ → ℕ
as_number f zero = 0
as_number f (suc k) = cond (f 0) 1 0 + 2 * as_number (λ i. f (suc i)) k

-- k words of 32 bits whose place j is `f j`
unfoldable pub pack : (ℕ → Bool) → ℕ → List ℕ
pack f zero = []
pack f (suc k) = as_number f 32 ∷ pack (λ j. f (32 + j)) k

-- the row ws with the n places from start on made b: no other place moves
unfoldable pub write_run : Bool → List ℕ → ℕ → ℕ → List ℕ
write_run b ws start n = pack (λ j. cond (within start n j) b (bit_at ws j)) (length ws)

-- the row with those places set, and with them clear
abbrev pub set_run : List ℕ → ℕ → ℕ → List ℕ
set_run = write_run true

abbrev pub clear_run : List ℕ → ℕ → ℕ → List ℕ
clear_run = write_run false
