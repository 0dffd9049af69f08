-- What the definitions of a hexadecimal text say in the cases that its functions meet. Assumes nothing.
use Rattle.std.specs.Prelude.{◌≡◌, ◌+◌, ◌-◌, ◌*◌, ◌^◌, ◌≤◌, ◌<◌, Option, Some, None}
use Rattle.walks.proofs.Prelude.{refl, sym, ap, ap₂, add-zero, subst, Bool, true, false, cond, List, ℕ, zero, suc, pow-suc, zero-lt-suc, add-one, arith, ltb-true, ltb, get_or}
use Rattle.std.proofs.Common.{add-suc}
use native.Mathlib.Nat.{pow-le-pow_right}
use Rattle.samples.specs.Hex.{Below, digit_of, then_digit, digits_at}

-- ---- bounds

below-cond : (t : Bool) (x y : Option ℕ) (m : ℕ) → (t ≡ true → Below x m) → (t ≡ false → Below y m) → Below (cond t x y) m
below-cond true x y m p q = p refl
below-cond false x y m p q = q refl

below_more : (x : Option ℕ) (m n : ℕ) → m ≤ n → Below x m → Below x n
below_more (Some v) m n h b = omega arith
below_more None m n h b = tt

-- the digits 'a' to 'f', and what is no digit
high-below : (b : ℕ) → Below (cond (ltb b 103) (Some (b - 97 + 10)) None) 16
high-below b = below-cond (ltb b 103) (Some (b - 97 + 10)) None 16 (λ e. omega (arith, ltb-true b 103 e)) (λ e. tt)

pub digit-below : (b : ℕ) → Below (digit_of b) 16
unfolding digit_of
digit-below b =
    let high = cond (ltb b 103) (Some (b - 97 + 10)) None in
    let rest = cond (ltb b 97) None high in
    below-cond (ltb b 48) None (cond (ltb b 58) (Some (b - 48)) rest) 16 (λ e. tt)
    (λ e. below-cond (ltb b 58) (Some (b - 48)) rest 16 (λ f. omega (arith, ltb-true b 58 f))
    (λ f. below-cond (ltb b 97) None high 16 (λ g. tt) (λ g. high-below b)))

then-below : (high low : Option ℕ) (m : ℕ) → Below high m → Below low 16 → Below (then_digit high low) (m * 16)
then-below (Some v) (Some d) m p q = omega arith
then-below (Some v) None m p q = tt
then-below None low m p q = tt

-- k digits are below 16 ^ k
digits-below : (text : List ℕ) (at k : ℕ) → Below (digits_at text at k) (16 ^ k)
unfolding digits_at
digits-below text at zero = omega arith
digits-below text at (suc k) =
    let d = digit_of (get_or text (at + k) 0) in
    subst (Below (then_digit (digits_at text at k) d)) (sym (pow-suc 16 k))
    (then-below (digits_at text at k) d (16 ^ k) (digits-below text at k) (digit-below (get_or text (at + k) 0)))

-- behind 15 digits there is room for one more
pub digits-room : (text : List ℕ) (at k : ℕ) → k < 16 → Below (digits_at text at k) 1152921504606846976
digits-room text at k h =
    let few : k ≤ 15 = omega arith in
    below_more (digits_at text at k) (16 ^ k) (16 ^ 15) (pow-le-pow_right (zero-lt-suc 15) few) (digits-below text at k)

-- ---- one digit more

pub next-digit : (text : List ℕ) (at k : ℕ) {high low : ℕ} → Some high ≡ digits_at text at k → Some low ≡ digit_of (get_or text (at + k) 0)
    → Some (high * 16 + low) ≡ digits_at text at (k + 1)
unfolding digits_at
next-digit text at k p q = rw add-one (ap₂ then_digit p q)

-- ---- what is no digit: no number stands there, however many follow

missed : (high low : Option ℕ) → low ≡ None → then_digit high low ≡ None
missed (Some v) low e = ap (then_digit (Some v)) e
missed None low e = refl

pub no-number : (text : List ℕ) (at k m : ℕ) → digit_of (get_or text (at + k) 0) ≡ None → digits_at text at (suc k + m) ≡ None
unfolding digits_at
no-number text at k zero e = rw add-zero (missed (digits_at text at k) _ e)
no-number text at k (suc m) e = rw add-suc (ap (λ (x : Option ℕ). then_digit x (digit_of (get_or text (at + (suc k + m)) 0))) (no-number text at k m e))
