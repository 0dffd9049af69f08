-- The laws of the size arithmetic: what the definitions mean, and what the machine's masks say of them. Assumes nothing.
use Rattle.std.specs.Prelude.{◌≡◌, ◌&&◌, ◌||◌, ◌⊎◌, ◌+◌, ◌-◌, ◌*◌, ◌/◌, ◌%◌, ◌^◌, ◌≤◌, ◌<◌}
use Rattle.walks.proofs.Prelude.{refl, sym, ap, ap₂, ◌∙◌, subst, Bool, true, false, cond, inl, inr, ⊎_elim, ℕ, zero, suc, min, not-suc-le-zero, le_of_suc-le-suc, zero-lt-suc, mod-lt, mul-one, eq-or-lt_of_le, arith, eqb-true, eq-eqb, ne_eqb, lt-ltb, le-ltb, bit_and, and_step, count_trailing_zeros, under, eqb, pow_pos, pow_mono}
use native.Mathlib.Nat.{mod_self, mod-eq_of_lt, mul-mod_left, div-add-mod', one-mul, mul_assoc, mul_left_comm, add-mul, mul-add-mod_self_right}
use lib.Bits.{and_self, and_mask, and_high}
use lib.Count.{trailing_of_zero}
use lib.Pow.{pow-lt, shr_mod}
use Rattle.sizes.specs.Sizes.{power_below, is_power_of_two, is_aligned_to, zero_as_one, lowest_bit, lowest_set_bit, round_up, page_align_up}

-- true and false differ
clash : {X : Type 0} (t : Bool) → t ≡ true → t ≡ false → X
clash t p q = let z : ◌≡◌ {A = ℕ} 0 1 = cc in absurd (omega arith)

-- a number's lowest digit
digit : (n : ℕ) → (n % 2 ≡ 0) ⊎ (n % 2 ≡ 1)
digit n = go (n % 2) (mod-lt n (zero-lt-suc 1))
  where
    go : (d : ℕ) → d < 2 → (d ≡ 0) ⊎ (d ≡ 1)
    go zero p = inl refl
    go (suc zero) p = inr refl
    go (suc (suc d)) p = absurd (omega arith)

-- ---- powers of two

or-true : (t : Bool) → t || true ≡ true
or-true true = refl
or-true false = refl

below_true : (n k : ℕ) → k < n → power_below n (2 ^ k) ≡ true
unfolding power_below
below_true zero k h = absurd (not-suc-le-zero h)
below_true (suc n) k h =
    ⊎_elim (λ (e : k ≡ n). ap (λ (t : Bool). t || power_below n (2 ^ k)) (eq-eqb (2 ^ k) (2 ^ n) (ap (λ (i : ℕ). 2 ^ i) e)))
    (λ (l : k < n). ap (λ (t : Bool). eqb (2 ^ k) (2 ^ n) || t) (below_true n k l) ∙ or-true (eqb (2 ^ k) (2 ^ n))) (eq-or-lt_of_le (le_of_suc-le-suc h))

below-is : (n a : ℕ) → power_below n a ≡ true → (k : ℕ) × (k < n) × (a ≡ 2 ^ k)
unfolding power_below
below-is zero a e = clash false e refl
below-is (suc n) a e = go (eqb a (2 ^ n)) refl e (below-is n a)
  where
    go : (t : Bool) → eqb a (2 ^ n) ≡ t → t || power_below n a ≡ true → (power_below n a ≡ true → (k : ℕ) × (k < n) × (a ≡ 2 ^ k))
        → (k : ℕ) × (k < suc n) × (a ≡ 2 ^ k)
    go true q f rest = (n, omega arith, eqb-true a (2 ^ n) q)
    go false q f rest = let r = rest f in (r.0, omega arith, r.2)

-- `is_power_of_two` says that the number is 2 ^ k for some k below 64, and nothing else
pub power-is : (a : ℕ) → is_power_of_two a ≡ true → (k : ℕ) × (k < 64) × (a ≡ 2 ^ k)
unfolding is_power_of_two
power-is a e = below-is 64 a e

pub is-power : (a k : ℕ) → k < 64 → a ≡ 2 ^ k → is_power_of_two a ≡ true
unfolding is_power_of_two
is-power a k h e = ap (power_below 64) e ∙ below_true 64 k h

-- a & (a - 1) drops the lowest set bit: where nothing is left there was no other
one_bit : (n a : ℕ) → a < 2 ^ n → (a ≡ 0 → ⊥) → bit_and a (a - 1) ≡ 0 → (k : ℕ) × (k < n) × (a ≡ 2 ^ k)
one_bit zero a h z e = absurd (z (omega arith))
one_bit (suc n) a h z e =
    ⊎_elim
    (λ (d : a % 2 ≡ 0).
    let half : (a - 1) / 2 ≡ a / 2 - 1 = omega arith in
    let step : bit_and a (a - 1) ≡ bit_and (a / 2) (a / 2 - 1) * 2 + min (a % 2) ((a - 1) % 2) =
    and_step a (a - 1) ∙ ap (λ (x : ℕ). bit_and (a / 2) x * 2 + min (a % 2) ((a - 1) % 2)) half in
    let rest = one_bit n (a / 2) (omega arith) (λ (q : a / 2 ≡ 0). z (omega arith)) (omega arith) in
    (suc rest.0, omega arith, (let q : a / 2 ≡ 2 ^ rest.0 = rest.2 in omega arith)))
    (λ (d : a % 2 ≡ 1).
    let half : (a - 1) / 2 ≡ a / 2 = omega arith in
    let step : bit_and a (a - 1) ≡ a / 2 * 2 + min (a % 2) ((a - 1) % 2) =
    and_step a (a - 1) ∙ ap (λ (x : ℕ). bit_and (a / 2) x * 2 + min (a % 2) ((a - 1) % 2)) half
    ∙ ap (λ (x : ℕ). x * 2 + min (a % 2) ((a - 1) % 2)) (and_self (a / 2)) in
    (0, omega arith, omega arith)) (digit a)

-- the machine's test for a power of two
pub power-test : (a : ℕ) → a < 2 ^ 64 → (a ≡ 0 → ⊥) → eqb (bit_and a (a - 1)) 0 ≡ is_power_of_two a
power-test a h z = go (is_power_of_two a) refl
  where
    go : (t : Bool) → is_power_of_two a ≡ t → eqb (bit_and a (a - 1)) 0 ≡ t
    go true e =
        let p = power-is a e in
        eq-eqb (bit_and a (a - 1)) 0 (ap (λ (x : ℕ). bit_and x (x - 1)) p.2 ∙ and_mask (2 ^ p.0) p.0 ∙ mod_self (2 ^ p.0))
    go false e =
        ne_eqb (bit_and a (a - 1)) 0 (λ (q : bit_and a (a - 1) ≡ 0). let p = one_bit 64 a h z q in clash (is_power_of_two a) (is-power a p.0 p.1 p.2) e)

-- ---- alignment

pub aligned-to-zero : (x align : ℕ) → align ≡ 0 → false ≡ is_aligned_to x align
unfolding is_aligned_to is_power_of_two power_below
aligned-to-zero x align e = ap (is_aligned_to x) (sym e)

-- the mask of a power of two leaves the remainder
pub mask-test : (x align : ℕ) → is_power_of_two align ≡ true → eqb (bit_and x (align - 1)) 0 ≡ is_aligned_to x align
unfolding is_aligned_to
mask-test x align e =
    let p = power-is align e in
    ap (λ (y : ℕ). eqb y 0) (ap (λ (a : ℕ). bit_and x (a - 1)) p.2 ∙ and_mask x p.0 ∙ ap (λ (a : ℕ). x % a) (sym p.2))
    ∙ sym (ap (λ (t : Bool). t && eqb (x % align) 0) e)

pub no_power : (x align : ℕ) → is_power_of_two align ≡ false → false ≡ is_aligned_to x align
unfolding is_aligned_to
no_power x align e = sym (ap (λ (t : Bool). t && eqb (x % align) 0) e)

-- ---- the lowest set bit

pub zero_as_one-zero : (n : ℕ) → n ≡ 0 → 1 ≡ zero_as_one n
unfolding zero_as_one
zero_as_one-zero n e = ap zero_as_one (sym e)

pub zero_as_one-keeps : (n : ℕ) → (n ≡ 0 → ⊥) → n ≡ zero_as_one n
unfolding zero_as_one
zero_as_one-keeps zero h = absurd (h refl)
zero_as_one-keeps (suc n) h = refl

pub zero_as_one-pos : (n : ℕ) → 1 ≤ zero_as_one n
unfolding zero_as_one
zero_as_one-pos zero = omega arith
zero_as_one-pos (suc n) = omega arith

zero_as_one-lt : (n : ℕ) → n < 2 ^ 64 → zero_as_one n < 2 ^ 64
unfolding zero_as_one
zero_as_one-lt zero h = omega arith
zero_as_one-lt (suc n) h = h

lowest-even : (n p : ℕ) → p % 2 ≡ 0 → lowest_bit (suc n) p ≡ 2 * lowest_bit n (p / 2)
unfolding lowest_bit
lowest-even n p e = ap (λ (d : ℕ). cond (eqb d 0) (2 * lowest_bit n (p / 2)) 1) e

lowest-odd : (n p : ℕ) → p % 2 ≡ 1 → lowest_bit (suc n) p ≡ 1
unfolding lowest_bit
lowest-odd n p e = ap (λ (d : ℕ). cond (eqb d 0) (2 * lowest_bit n (p / 2)) 1) e

trailing_even : (n p : ℕ) → p % 2 ≡ 0 → count_trailing_zeros (suc n) p ≡ suc (count_trailing_zeros n (p / 2))
unfolding count_trailing_zeros
trailing_even n p e = ap (λ (d : ℕ). under d (count_trailing_zeros n (p / 2))) e

trailing_odd : (n p : ℕ) → p % 2 ≡ 1 → count_trailing_zeros (suc n) p ≡ 0
unfolding count_trailing_zeros
trailing_odd n p e = ap (λ (d : ℕ). under d (count_trailing_zeros n (p / 2))) e

-- the machine counts the zeros below it
lowest-counted : (n p : ℕ) → lowest_bit n p ≡ 2 ^ count_trailing_zeros n p
unfolding lowest_bit count_trailing_zeros
lowest-counted zero p = refl
lowest-counted (suc n) p =
    ⊎_elim
    (λ (d : p % 2 ≡ 0).
    let half : lowest_bit n (p / 2) ≡ 2 ^ count_trailing_zeros n (p / 2) = lowest-counted n (p / 2) in
    let twice : 2 ^ suc (count_trailing_zeros n (p / 2)) ≡ 2 * lowest_bit n (p / 2) = omega arith in
    lowest-even n p d ∙ sym twice ∙ ap (λ (k : ℕ). 2 ^ k) (sym (trailing_even n p d)))
    (λ (d : p % 2 ≡ 1). lowest-odd n p d ∙ ap (λ (k : ℕ). 2 ^ k) (sym (trailing_odd n p d))) (digit p)

counted-lt : (n p : ℕ) → 0 < p → p < 2 ^ n → count_trailing_zeros n p < n
counted-lt zero p z h = absurd (omega arith)
counted-lt (suc n) p z h =
    ⊎_elim
    (λ (d : p % 2 ≡ 0). let r : count_trailing_zeros n (p / 2) < n = counted-lt n (p / 2) (omega arith) (omega arith) in omega (arith, trailing_even n p d))
    (λ (d : p % 2 ≡ 1). omega (arith, trailing_odd n p d)) (digit p)

-- it is one of the 64 powers
pub lowest-is-power : (page : ℕ) → page < 2 ^ 64 → (k : ℕ) × (k < 64) × (lowest_set_bit page ≡ 2 ^ k)
unfolding lowest_set_bit
lowest-is-power page h =
    let p = zero_as_one page in (
      count_trailing_zeros 64 p,
      counted-lt 64 p (zero_as_one-pos page) (zero_as_one-lt page h),
      lowest-counted 64 p,
    )

pub lowest-pos : (page : ℕ) → page < 2 ^ 64 → 0 < lowest_set_bit page
lowest-pos page h = let p = lowest-is-power page h in subst (λ (x : ℕ). 0 < x) (sym p.2) (pow_pos p.0)

-- the machine's shift, whose count of 64 for page 0 the mask turns to 0
pub lowest-shifted : (page : ℕ) → page < 2 ^ 64 → (1 * 2 ^ bit_and (count_trailing_zeros 64 page) 63) % 2 ^ 64 ≡ lowest_set_bit page
unfolding lowest_set_bit zero_as_one
lowest-shifted zero h = ap (λ (t : ℕ). (1 * 2 ^ bit_and t 63) % 2 ^ 64) (trailing_of_zero 64) ∙ sym (lowest-counted 64 1 ∙ ap (λ (t : ℕ). 2 ^ t) (trailing_odd 63 1 refl))
lowest-shifted (suc p) h =
    let l : count_trailing_zeros 64 (suc p) < 64 = counted-lt 64 (suc p) (zero-lt-suc p) h in
    ap (λ (t : ℕ). (1 * 2 ^ t) % 2 ^ 64) (and_mask (count_trailing_zeros 64 (suc p)) 6 ∙ mod-eq_of_lt l)
    ∙ ap (λ (x : ℕ). x % 2 ^ 64) (one-mul (2 ^ count_trailing_zeros 64 (suc p)))
    ∙ mod-eq_of_lt (pow-lt l)
    ∙ sym (lowest-counted 64 (suc p))

-- an odd multiple of its lowest set bit
odd-multiple : (n p : ℕ) → 0 < p → p < 2 ^ n → (q : ℕ) × (q % 2 ≡ 1) × (p ≡ q * lowest_bit n p)
odd-multiple zero p z h = absurd (omega arith)
odd-multiple (suc n) p z h =
    ⊎_elim
    (λ (d : p % 2 ≡ 0).
    let r = odd-multiple n (p / 2) (omega arith) (omega arith) in
    let twice : p ≡ 2 * (p / 2) = omega arith in
    (r.0, r.1, twice ∙ ap (λ (x : ℕ). 2 * x) r.2 ∙ mul_left_comm 2 r.0 (lowest_bit n (p / 2)) ∙ ap (λ (x : ℕ). r.0 * x) (sym (lowest-even n p d))))
    (λ (d : p % 2 ≡ 1). (p, d, sym (mul-one p) ∙ ap (λ (x : ℕ). p * x) (sym (lowest-odd n p d)))) (digit p)

-- In words: of a page size that is not 0, the lowest set bit divides it, and twice that bit does not.
pub lowest-divides : (page : ℕ) → 0 < page → page < 2 ^ 64 → page % lowest_set_bit page ≡ 0
unfolding lowest_set_bit zero_as_one
lowest-divides zero z h = absurd (not-suc-le-zero z)
lowest-divides (suc p) z h =
    let r = odd-multiple 64 (suc p) z h in
    ap (λ (x : ℕ). x % lowest_bit 64 (suc p)) r.2 ∙ mul-mod_left r.0 (lowest_bit 64 (suc p))

pub twice-does-not : (page : ℕ) → 0 < page → page < 2 ^ 64 → page % (2 * lowest_set_bit page) ≡ 0 → ⊥
unfolding lowest_set_bit zero_as_one
twice-does-not zero z h e = not-suc-le-zero z
twice-does-not (suc p) z h e =
    let r = odd-multiple 64 (suc p) z h in
    let b : ℕ = lowest_bit 64 (suc p) in
    let pos : 0 < b = subst (λ (x : ℕ). 0 < x) (sym (lowest-counted 64 (suc p))) (pow_pos (count_trailing_zeros 64 (suc p))) in
    let q : r.0 ≡ r.0 / 2 * 2 + 1 = omega (arith, r.1) in
    let split : suc p ≡ r.0 / 2 * (2 * b) + b = r.2 ∙ ap (λ (x : ℕ). x * b) q ∙ add-mul (r.0 / 2 * 2) 1 b ∙ ap₂ ◌+◌ (mul_assoc (r.0 / 2) 2 b) (one-mul b) in
    let left : suc p % (2 * b) ≡ b = ap (λ (x : ℕ). x % (2 * b)) split ∙ mul-add-mod_self_right (r.0 / 2) (2 * b) b ∙ mod-eq_of_lt (omega arith) in
    omega arith

-- ---- rounding up

-- the machine's mask clears the k low digits
round-mask : (n k : ℕ) → n < 2 ^ 64 → k < 64 → bit_and n (2 ^ 64 - 1 - (2 ^ k - 1)) ≡ n / 2 ^ k * 2 ^ k
round-mask n k h l =
    let high : 2 ^ 64 - 1 - (2 ^ k - 1) ≡ 2 ^ 64 - 2 ^ k = omega (arith, pow_pos k) in
    let whole : 64 - k + k ≡ 64 = omega arith in
    ap (bit_and n) (high ∙ ap (λ (i : ℕ). 2 ^ i - 2 ^ k) (sym whole))
    ∙ and_high n (64 - k) k
    ∙ ap (λ (x : ℕ). x * 2 ^ k) (shr_mod (64 - k) k (subst (λ (i : ℕ). n < 2 ^ i) (sym whole) h))

-- where the sum fits, and where it does not
pub rounded : (page size : ℕ) → zero_as_one size + (lowest_set_bit page - 1) < 2 ^ 64
    → page_align_up page size ≡ (zero_as_one size + (lowest_set_bit page - 1)) / lowest_set_bit page * lowest_set_bit page
unfolding page_align_up round_up
rounded page size h = simp (lt-ltb _ _ h)

pub unrounded : (page size : ℕ) → 2 ^ 64 ≤ zero_as_one size + (lowest_set_bit page - 1) → page_align_up page size ≡ size
unfolding page_align_up round_up
unrounded page size h = simp (le-ltb _ _ h)

-- a size that passes the end is none that counts as 1
pub unrounded-keeps : (page size : ℕ) → page < 2 ^ 64 → 2 ^ 64 ≤ zero_as_one size + (lowest_set_bit page - 1) → zero_as_one size ≡ page_align_up page size
unrounded-keeps page size h l =
    let p = lowest-is-power page h in
    let small : lowest_set_bit page ≤ 2 ^ 63 = subst (λ (x : ℕ). x ≤ 2 ^ 63) (sym p.2) (pow_mono (le_of_suc-le-suc p.1)) in
    sym (zero_as_one-keeps size (λ (z : size ≡ 0). omega (arith, zero_as_one-zero size z))) ∙ sym (unrounded page size l)

-- the machine's sum and mask
pub masked-up : (page size : ℕ) → page < 2 ^ 64 → zero_as_one size + (lowest_set_bit page - 1) < 2 ^ 64
    → bit_and (zero_as_one size + (lowest_set_bit page - 1)) (2 ^ 64 - 1 - (lowest_set_bit page - 1)) ≡ page_align_up page size
masked-up page size h l =
    let p = lowest-is-power page h in
    let n : ℕ = zero_as_one size + (lowest_set_bit page - 1) in
    ap (λ (b : ℕ). bit_and n (2 ^ 64 - 1 - (b - 1))) p.2
    ∙ round-mask n p.0 l p.1
    ∙ ap (λ (b : ℕ). n / b * b) (sym p.2)
    ∙ sym (rounded page size l)

-- In words: where the sum fits, the result is a whole number of pages, no less than the size, and less than a page above it.
module _ (page size : ℕ) (small : page < 2 ^ 64) (fits : zero_as_one size + (lowest_set_bit page - 1) < 2 ^ 64) where
  pub whole-pages : page_align_up page size % lowest_set_bit page ≡ 0
  whole-pages =
      ap (λ (x : ℕ). x % lowest_set_bit page) (rounded page size fits)
      ∙ mul-mod_left ((zero_as_one size + (lowest_set_bit page - 1)) / lowest_set_bit page) (lowest_set_bit page)

  -- what the rounding drops is less than a page
  dropped : page_align_up page size + (zero_as_one size + (lowest_set_bit page - 1)) % lowest_set_bit page ≡ zero_as_one size + (lowest_set_bit page - 1)
  dropped =
      ap (λ (x : ℕ). x + (zero_as_one size + (lowest_set_bit page - 1)) % lowest_set_bit page) (rounded page size fits)
      ∙ div-add-mod' (zero_as_one size + (lowest_set_bit page - 1)) (lowest_set_bit page)

  pub no_less : zero_as_one size ≤ page_align_up page size
  no_less = omega (arith, dropped, lowest-pos page small, mod-lt (zero_as_one size + (lowest_set_bit page - 1)) (lowest-pos page small))

  pub less-than-a-page-above : page_align_up page size < zero_as_one size + lowest_set_bit page
  less-than-a-page-above = omega (arith, dropped, lowest-pos page small)
