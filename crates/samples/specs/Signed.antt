-- Two's complement in 64 bits, and in 32. Assumes nothing.
use Rattle.std.specs.Prelude.{cond, ℕ, ◌-◌, ◌%◌, ltb, ℤ, pos, negsuc}

-- from 2^63 on, x stands for x - 2^64: `negsuc n` is -(n + 1)
unfoldable pub signed_of : ℕ → ℤ
signed_of x = cond (ltb x 9223372036854775808) (pos x) (negsuc (18446744073709551615 - x))

-- the same of the low 32 bits
unfoldable pub narrow_of : ℕ → ℤ
narrow_of x = cond (ltb (x % 4294967296) 2147483648) (pos (x % 4294967296)) (negsuc (4294967295 - x % 4294967296))
