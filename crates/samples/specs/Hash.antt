-- The hash of words. Assumes nothing.
use Rattle.std.specs.Prelude.{List, ℕ, zero, suc, ◌+◌, ◌*◌, ◌%◌, get_or}
use Rattle.std.specs.Int.Bits.{bit_xor}

-- a step's product, modulo 2^32
abbrev pub times_prime : ℕ → ℕ
times_prime x = x * 16777619 % 4294967296

-- one word more is put into what stands so far without carry, then the product is taken
unfoldable pub with_word : ℕ → ℕ → ℕ
with_word h word = times_prime (bit_xor h word)

-- k words more, those from `at` on
unfoldable pub with_words : ℕ → List ℕ → ℕ → ℕ → ℕ
with_words h words at zero = h
with_words h words at (suc k) = with_word (with_words h words at k) (get_or words (at + k) 0)
