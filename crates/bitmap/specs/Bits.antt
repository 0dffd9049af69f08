-- The bits of a number, and a list of 32-bit words as one row of bits. Document 01, "Forms that stand in the way":
-- "Bit j % 32 of word j / 32 is chunk j." Assumes nothing.
use Rattle.std.specs.Prelude.{◌≡◌, Bool, ◌&&◌, List, ℕ, ◌+◌, ◌-◌, ◌/◌, ◌%◌, ◌^◌, ◌≤◌, ◌<◌, leb, ltb, eqb, get_or}

-- the mask of n low ones: "The masks of n low ones, n from 0 to 32" ("Map words")
abbrev pub low_ones : ℕ → ℕ
low_ones n = 2 ^ n - 1

-- bit i of the number w
unfoldable pub bit : ℕ → ℕ → Bool
bit w i = eqb (w / 2 ^ i % 2) 1

-- whether place i is one of the n places start, start + 1, .., start + n - 1
unfoldable pub within : ℕ → ℕ → ℕ → Bool
within start n i = leb start i && ltb i (start + n)

-- place j of a row of 32-bit words
unfoldable pub bit_at : List ℕ → ℕ → Bool
bit_at ws j = bit (get_or ws (j / 32) 0) (j % 32)

-- r is the lowest bit of the word w that is b, or 32 where there is none
pub record LowestBit (b : Bool) (w r : ℕ) : Type 0 where
  pub most : r ≤ 32
  pub others : (i : ℕ) → i < r → bit w i ≡ b → ⊥
  pub there : r < 32 → bit w r ≡ b
