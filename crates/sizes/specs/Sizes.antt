-- The size arithmetic of document 01, "Size arithmetic". Assumes nothing.
use Rattle.std.specs.Prelude.{Bool, false, cond, ◌&&◌, ◌||◌, ℕ, zero, suc, ◌+◌, ◌-◌, ◌*◌, ◌/◌, ◌%◌, ◌^◌, ltb, eqb}

-- a is 2 ^ k for some k below n
unfoldable pub power_below : ℕ → ℕ → Bool
power_below zero a = false
power_below (suc n) a = eqb a (2 ^ n) || power_below n a

-- a power of two that 64 bits hold: 2 ^ k for some k below 64. 0 is none.
unfoldable pub is_power_of_two : ℕ → Bool
is_power_of_two a = power_below 64 a

-- "`is_aligned_to` of bins.rs": a multiple of a power of two; what is no power of two aligns nothing
unfoldable pub is_aligned_to : ℕ → ℕ → Bool
is_aligned_to x align = is_power_of_two align && eqb (x % align) 0

-- "0 counts as 1"
unfoldable pub zero_as_one : ℕ → ℕ
zero_as_one zero = 1
zero_as_one (suc n) = suc n

-- the lowest set bit among n: of an odd number it is 1, of an even one twice that of the half
unfoldable pub lowest_bit : ℕ → ℕ → ℕ
lowest_bit zero p = 1
lowest_bit (suc n) p = cond (eqb (p % 2) 0) (2 * lowest_bit n (p / 2)) 1

-- "the lowest set bit of any page size, 0 counting as 1": the largest power of two that divides it
unfoldable pub lowest_set_bit : ℕ → ℕ
lowest_set_bit page = lowest_bit 64 (zero_as_one page)

-- s rounded up to a multiple of b; `otherwise` where s + (b - 1) passes 2^64 - 1
unfoldable pub round_up : ℕ → ℕ → ℕ → ℕ
round_up b s otherwise = cond (ltb (s + (b - 1)) (2 ^ 64)) ((s + (b - 1)) / b * b) otherwise

-- "`page_align_up` of os.rs: 0 counts as 1; on overflow the size returns unchanged"
unfoldable pub page_align_up : ℕ → ℕ → ℕ
page_align_up page size = round_up (lowest_set_bit page) (zero_as_one size) size
