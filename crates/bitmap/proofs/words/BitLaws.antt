-- The laws of `bit`: how the machine's operations on words move each bit. Assumes nothing.
use Rattle.std.specs.Prelude.{◌≡◌, ◌&&◌, ◌||◌, ◌⊎◌, ◌+◌, ◌-◌, ◌*◌, ◌/◌, ◌%◌, ◌^◌, ◌≤◌, ◌<◌}
use Rattle.walks.proofs.Prelude.{refl, sym, ap, ap₂, ◌∙◌, Bool, true, false, not, inl, inr, ⊎_elim, ℕ, zero, suc, min, max, zero-le, mul-one, mod-lt, not-suc-le-zero, zero-lt-suc, lt_of_lt_of_le, arith, lt-ltb, le-ltb, ltb-true, ltb-false, leb-true, bit_and, bit_or, and_step, pow_pos, pow_mono, leb, ltb, eqb, leb·zero, count_trailing_zeros, under}
use Prim.Native.Nat.{suc-le-suc}
use native.Mathlib.Nat.{sub-zero, div-one, suc-sub-suc, div-eq_of_lt, zero-div}
use native.Mathlib.Numerals.{one-add}
use lib.Arith.{digits_mod}
use lib.Bits.{or_shr, and_shr, or_step, shifted_half, shifted_even}
use lib.Pow.{shr-shr}
use lib.Dec.{leb-suc-zero, leb-suc-suc}
use Rattle.bitmap.specs.Bits.{bit, within}

-- ---- one bit at a time

pub bit-zero : (w : ℕ) → bit w 0 ≡ eqb (w % 2) 1
unfolding bit
bit-zero w = ap (λ (x : ℕ). eqb (x % 2) 1) (div-one w)

pub bit-suc : (w i : ℕ) → bit w (suc i) ≡ bit (w / 2) i
unfolding bit
bit-suc w i = ap (λ (x : ℕ). eqb (x % 2) 1) (sym (shr-shr w 1 i ∙ ap (λ (x : ℕ). w / 2 ^ x) (one-add i)))

-- ---- or, and

max-is : (x y : ℕ) → x < 2 → y < 2 → eqb (max x y) 1 ≡ eqb x 1 || eqb y 1
max-is zero zero p q = refl
max-is zero (suc zero) p q = refl
max-is zero (suc (suc y)) p q = absurd (omega arith)
max-is (suc zero) zero p q = refl
max-is (suc zero) (suc zero) p q = refl
max-is (suc zero) (suc (suc y)) p q = absurd (omega arith)
max-is (suc (suc x)) y p q = absurd (omega arith)

min-is : (x y : ℕ) → x < 2 → y < 2 → eqb (min x y) 1 ≡ eqb x 1 && eqb y 1
min-is zero zero p q = refl
min-is zero (suc zero) p q = refl
min-is zero (suc (suc y)) p q = absurd (omega arith)
min-is (suc zero) zero p q = refl
min-is (suc zero) (suc zero) p q = refl
min-is (suc zero) (suc (suc y)) p q = absurd (omega arith)
min-is (suc (suc x)) y p q = absurd (omega arith)

pub or-bit : (a b i : ℕ) → bit (bit_or a b) i ≡ bit a i || bit b i
unfolding bit
or-bit a b i =
    let x : ℕ = a / 2 ^ i in
    let y : ℕ = b / 2 ^ i in
    ap (λ (n : ℕ). eqb (n % 2) 1) (or_shr a b i ∙ or_step x y)
    ∙ ap (λ (n : ℕ). eqb n 1) (digits_mod (bit_or (x / 2) (y / 2)) {m = 2} {r = max (x % 2) (y % 2)} (omega (arith, mod-lt x {m = 2} (zero-lt-suc 1), mod-lt y {m = 2} (zero-lt-suc 1))))
    ∙ max-is (x % 2) (y % 2) (mod-lt x (zero-lt-suc 1)) (mod-lt y (zero-lt-suc 1))

pub and-bit : (a b i : ℕ) → bit (bit_and a b) i ≡ bit a i && bit b i
unfolding bit
and-bit a b i =
    let x : ℕ = a / 2 ^ i in
    let y : ℕ = b / 2 ^ i in
    ap (λ (n : ℕ). eqb (n % 2) 1) (and_shr a b i ∙ and_step x y)
    ∙ ap (λ (n : ℕ). eqb n 1) (digits_mod (bit_and (x / 2) (y / 2)) {m = 2} {r = min (x % 2) (y % 2)} (omega (arith, mod-lt x {m = 2} (zero-lt-suc 1), mod-lt y {m = 2} (zero-lt-suc 1))))
    ∙ min-is (x % 2) (y % 2) (mod-lt x (zero-lt-suc 1)) (mod-lt y (zero-lt-suc 1))

-- ---- a shift to the left, as a product

pub shl-bit : (m lo i : ℕ) → bit (m * 2 ^ lo) i ≡ leb lo i && bit m (i - lo)
shl-bit m zero i = ap (λ (x : ℕ). bit x i) (mul-one m) ∙ sym (ap₂ (λ (t : Bool) (j : ℕ). t && bit m j) (leb·zero i) (sub-zero i))
shl-bit m (suc lo) zero =
    bit-zero (m * 2 ^ suc lo) ∙ ap (λ (x : ℕ). eqb x 1) (shifted_even m lo)
    ∙ ap (λ (t : Bool). t && bit m (0 - suc lo)) (sym (leb-suc-zero lo))
shl-bit m (suc lo) (suc i) =
    bit-suc (m * 2 ^ suc lo) i ∙ ap (λ (x : ℕ). bit x i) (shifted_half m lo) ∙ shl-bit m lo i
    ∙ sym (ap₂ (λ (t : Bool) (j : ℕ). t && bit m j) (leb-suc-suc lo i) (suc-sub-suc i lo))

-- a shift to the right
pub shr-bit : (w k i : ℕ) → bit (w / 2 ^ k) i ≡ bit w (k + i)
unfolding bit
shr-bit w k i = ap (λ (x : ℕ). eqb (x % 2) 1) (shr-shr w k i)

-- ---- n low ones

pub ones_bit : (n i : ℕ) → bit (2 ^ n - 1) i ≡ ltb i n
unfolding bit
ones_bit zero zero = refl
ones_bit zero (suc i) = ap (λ (x : ℕ). eqb (x % 2) 1) (zero-div (2 ^ suc i)) ∙ sym (le-ltb (suc i) 0 zero-le)
ones_bit (suc n) zero =
    bit-zero (2 ^ suc n - 1) ∙ ap (λ (x : ℕ). eqb x 1) (let h : 0 < 2 ^ n = pow_pos n in let e : (2 ^ suc n - 1) % 2 ≡ 1 = omega arith in e)
    ∙ sym (lt-ltb 0 (suc n) (zero-lt-suc n))
ones_bit (suc n) (suc i) =
    bit-suc (2 ^ suc n - 1) i
    ∙ ap (λ (x : ℕ). bit x i) (let h : 0 < 2 ^ n = pow_pos n in let e : (2 ^ suc n - 1) / 2 ≡ 2 ^ n - 1 = omega arith in e)
    ∙ ones_bit n i ∙ sym (leb-suc-suc (suc i) n)

-- n ones from lo on
pub run-bit : (lo n i : ℕ) → bit ((2 ^ n - 1) * 2 ^ lo) i ≡ within lo n i
unfolding within
run-bit lo n i = shl-bit (2 ^ n - 1) lo i ∙ ap (λ (t : Bool). leb lo i && t) (ones_bit n (i - lo)) ∙ go (leb lo i) refl
  where
    go : (t : Bool) → leb lo i ≡ t → t && ltb (i - lo) n ≡ t && ltb i (lo + n)
    go false e = refl
    go true e = more (ltb i (lo + n)) refl
      where
        more : (s : Bool) → ltb i (lo + n) ≡ s → ltb (i - lo) n ≡ s
        more true f = lt-ltb (i - lo) n (omega (arith, leb-true lo i e, ltb-true i (lo + n) f))
        more false f = le-ltb (i - lo) n (omega (arith, leb-true lo i e, ltb-false i (lo + n) f))

-- ---- the complement of a number of k bits

not-odd : (x : ℕ) → x < 2 → eqb (1 - x) 1 ≡ not (eqb x 1)
not-odd zero p = refl
not-odd (suc zero) p = refl
not-odd (suc (suc x)) p = absurd (omega arith)

pub not-bit : (k a i : ℕ) → a < 2 ^ k → bit ((2 ^ k - 1) - a) i ≡ ltb i k && not (bit a i)
not-bit zero a i h =
    ap (λ (x : ℕ). bit x i) (let e : (2 ^ 0 - 1) - a ≡ 2 ^ 0 - 1 = omega arith in e) ∙ ones_bit 0 i
    ∙ go (ltb i 0) refl
  where
    go : (t : Bool) → ltb i 0 ≡ t → t ≡ t && not (bit a i)
    go true e = absurd (not-suc-le-zero (ltb-true i 0 e))
    go false e = refl
not-bit (suc k) a zero h =
    bit-zero ((2 ^ suc k - 1) - a)
    ∙ ap (λ (x : ℕ). eqb x 1) (let p : 0 < 2 ^ k = pow_pos k in let e : ((2 ^ suc k - 1) - a) % 2 ≡ 1 - a % 2 = omega arith in e)
    ∙ not-odd (a % 2) (mod-lt a (zero-lt-suc 1))
    ∙ ap not (sym (bit-zero a))
    ∙ sym (ap (λ (t : Bool). t && not (bit a 0)) (lt-ltb 0 (suc k) (zero-lt-suc k)))
not-bit (suc k) a (suc i) h =
    bit-suc ((2 ^ suc k - 1) - a) i
    ∙ ap (λ (x : ℕ). bit x i) (let p : 0 < 2 ^ k = pow_pos k in let e : ((2 ^ suc k - 1) - a) / 2 ≡ (2 ^ k - 1) - a / 2 = omega arith in e)
    ∙ not-bit k (a / 2) i (let e : a / 2 < 2 ^ k = omega arith in e)
    ∙ ap₂ (λ (t s : Bool). t && not s) (sym (leb-suc-suc (suc i) k)) (sym (bit-suc a i))

-- ---- no bit at or past k

pub bit_high : (k w i : ℕ) → w < 2 ^ k → k ≤ i → bit w i ≡ false
unfolding bit
bit_high k w i h l = ap (λ (x : ℕ). eqb (x % 2) 1) (div-eq_of_lt (lt_of_lt_of_le h (pow_mono l)))

-- ---- two numbers of k bits with the same bits are equal

odd-inj : (x y : ℕ) → x < 2 → y < 2 → eqb x 1 ≡ eqb y 1 → x ≡ y
odd-inj zero zero p q e = refl
odd-inj zero (suc zero) p q e = let z : ◌≡◌ {A = ℕ} 0 1 = cc in absurd (omega arith)
odd-inj zero (suc (suc y)) p q e = absurd (omega arith)
odd-inj (suc zero) zero p q e = let z : ◌≡◌ {A = ℕ} 0 1 = cc in absurd (omega arith)
odd-inj (suc zero) (suc zero) p q e = refl
odd-inj (suc zero) (suc (suc y)) p q e = absurd (omega arith)
odd-inj (suc (suc x)) y p q e = absurd (omega arith)

pub bit-ext : (k a b : ℕ) → a < 2 ^ k → b < 2 ^ k → ((i : ℕ) → i < k → bit a i ≡ bit b i) → a ≡ b
bit-ext zero a b ha hb h = omega arith
bit-ext (suc k) a b ha hb h =
    let hi : a / 2 ≡ b / 2 = bit-ext k (a / 2) (b / 2) (omega arith) (omega arith) (λ i l. sym (bit-suc a i) ∙ h (suc i) (suc-le-suc l) ∙ bit-suc b i) in
    let lo : a % 2 ≡ b % 2 = odd-inj (a % 2) (b % 2) (mod-lt a (zero-lt-suc 1)) (mod-lt b (zero-lt-suc 1)) (sym (bit-zero a) ∙ h 0 (zero-lt-suc k) ∙ bit-zero b) in
    omega arith

-- ---- trailing zeros: every bit below is clear, and the bit there is set, unless there is none

digit-cases : (n : ℕ) → (n % 2 ≡ 0) ⊎ (n % 2 ≡ 1)
digit-cases n = go (n % 2) (mod-lt n (zero-lt-suc 1))
  where
    go : (d : ℕ) → d < 2 → (d ≡ 0) ⊎ (d ≡ 1)
    go zero p = inl refl
    go (suc zero) p = inr refl
    go (suc (suc d)) p = absurd (omega arith)

pub trailing_even : (k n : ℕ) → n % 2 ≡ 0 → count_trailing_zeros (suc k) n ≡ suc (count_trailing_zeros k (n / 2))
unfolding count_trailing_zeros
trailing_even k n e = ap (λ (d : ℕ). under d (count_trailing_zeros k (n / 2))) e

pub trailing_odd : (k n : ℕ) → n % 2 ≡ 1 → count_trailing_zeros (suc k) n ≡ 0
unfolding count_trailing_zeros
trailing_odd k n e = ap (λ (d : ℕ). under d (count_trailing_zeros k (n / 2))) e

trailing-none : (n : ℕ) → count_trailing_zeros 0 n ≡ 0
unfolding count_trailing_zeros
trailing-none n = refl

pub trailing_below : (k n i : ℕ) → i < count_trailing_zeros k n → bit n i ≡ false
trailing_below zero n i h = absurd (omega (arith, trailing-none n))
trailing_below (suc k) n zero h =
    ⊎_elim (λ e. bit-zero n ∙ ap (λ (d : ℕ). eqb d 1) e) (λ e. absurd (let z : count_trailing_zeros (suc k) n ≡ 0 = trailing_odd k n e in omega arith))
    (digit-cases n)
trailing_below (suc k) n (suc i) h =
    ⊎_elim
    (λ e. bit-suc n i ∙ trailing_below k (n / 2) i (let z : count_trailing_zeros (suc k) n ≡ suc (count_trailing_zeros k (n / 2)) = trailing_even k n e in omega arith))
    (λ e. absurd (let z : count_trailing_zeros (suc k) n ≡ 0 = trailing_odd k n e in omega arith)) (digit-cases n)

pub trailing_at : (k n : ℕ) → count_trailing_zeros k n < k → bit n (count_trailing_zeros k n) ≡ true
trailing_at zero n h = absurd (not-suc-le-zero h)
trailing_at (suc k) n h =
    ⊎_elim
    (λ e.
    let z : count_trailing_zeros (suc k) n ≡ suc (count_trailing_zeros k (n / 2)) = trailing_even k n e in
    ap (bit n) z ∙ bit-suc n (count_trailing_zeros k (n / 2)) ∙ trailing_at k (n / 2) (omega arith))
    (λ e. ap (bit n) (trailing_odd k n e) ∙ bit-zero n ∙ ap (λ (d : ℕ). eqb d 1) e)
    (digit-cases n)
