-- The laws of a search by words: the places from which n bits on are set, by shifts; the top of a word; and what a step says of the row.
-- Assumes nothing.
use Rattle.std.specs.Prelude.{◌≡◌, ◌&&◌, ◌+◌, ◌-◌, ◌*◌, ◌/◌, ◌%◌, ◌^◌, ◌≤◌, ◌<◌, Option, Some, None}
use Rattle.walks.proofs.Prelude.{refl, sym, ap, ap₂, ◌∙◌, subst, Bool, true, false, cond, true≢false, ⊎_elim, List, ℕ, zero, suc, pow-suc, arith, lt-ltb, le-ltb, ltb-true, ltb-false, ltb, eqb, get_or, bit_and, pow_pos, count_leading_zeros}
use native.Mathlib.Nat.{div-lt_iff_lt-mul, eq-zero-or-pos}
use lib.Count.{leading_top, leading_of_zero}
use Rattle.bitmap.specs.Bits.{bit, bit_at, LowestBit}
use Rattle.bitmap.proofs.words.BitLaws.{and-bit, shr-bit, bit_high, ones_bit}
use Rattle.bitmap.proofs.words.RowLaws.{lt-or-le}
use Rattle.bitmap.proofs.words.WordLaws.{not-both, inverted}
use Rattle.bitmap.specs.Lowest.{Free, Starts, Lowest, all, lowest_run, sense}
use Rattle.bitmap.proofs.runs.LowestLaws.{all-free-of, free_all, Scanned, freed, nowhere, lowest-is}
use Rattle.bitmap.specs.Steps.{Short, Stepped}
use Rattle.bitmap.specs.declared.runs.Step.{Step}
use Rattle.bitmap.specs.declared.runs.Step.TheVariants.{Before, From, Whole, Carry}

-- ---- tests

-- two tests, of which each is true where the other is, are equal
pub same : (a b : Bool) → (a ≡ true → b ≡ true) → (b ≡ true → a ≡ true) → a ≡ b
same true b f g = sym (f refl)
same false true f g = absurd (true≢false (sym (g refl)))
same false false f g = refl

pub and_both : (a b : Bool) → a && b ≡ true → (a ≡ true) × (b ≡ true)
and_both true true e = (refl, refl)
and_both true false e = absurd (true≢false (sym e))
and_both false b e = absurd (true≢false (sym e))

-- ---- n set bits from i on, by shifts

pub all_one : (p : ℕ → Bool) (i : ℕ) → p i ≡ all p i 1
unfolding all
all_one p i = go (p i)
  where
    go : (b : Bool) → b ≡ cond b true false
    go true = refl
    go false = refl

-- a stretch of a places and the one s places further on, which touches or overlaps it
all_join : (p : ℕ → Bool) (i a s : ℕ) → s ≤ a → all p i a && all p (s + i) a ≡ all p i (a + s)
all_join p i a s l =
    same (all p i a && all p (s + i) a) (all p i (a + s))
    (λ e.
    let b : (all p i a ≡ true) × (all p (s + i) a ≡ true) = and_both (all p i a) (all p (s + i) a) e in
    free_all p i (a + s) (λ j u v. ⊎_elim (λ (q : j < i + a). all-free-of p i a b.0 j u q)
    (λ (q : i + a ≤ j). all-free-of p (s + i) a b.1 j (omega arith) (omega arith)) (lt-or-le j (i + a))))
    (λ e.
    ap₂ ◌&&◌ (free_all p i a (λ j u v. all-free-of p i (a + s) e j u (omega arith)))
    (free_all p (s + i) a (λ j u v. all-free-of p i (a + s) e j (omega arith) (omega arith))))

pub shift_and : (w m a s : ℕ) → s ≤ a → ((i : ℕ) → bit m i ≡ all (bit w) i a) → (i : ℕ) → bit (bit_and m (m / 2 ^ s)) i ≡ all (bit w) i (a + s)
shift_and w m a s l h i =
    and-bit m (m / 2 ^ s) i ∙ ap (λ (t : Bool). bit m i && t) (shr-bit m s i) ∙ ap₂ ◌&&◌ (h i) (h (s + i)) ∙ all_join (bit w) i a s l

-- where no place has a stretch of a set bits on, none has a longer one
pub none-longer : (w m a n : ℕ) → m ≡ 0 → a ≤ n → ((i : ℕ) → bit m i ≡ all (bit w) i a) → (i : ℕ) → bit 0 i ≡ all (bit w) i n
none-longer w m a n e l h i =
    same (bit 0 i) (all (bit w) i n) (λ f. absurd (not-both (bit 0 i) zeros f))
    (λ f. ap (λ (x : ℕ). bit x i) (sym e) ∙ h i ∙ free_all (bit w) i a (λ j u v. all-free-of (bit w) i n f j u (omega arith)))
  where
    zeros : bit 0 i ≡ false
    zeros = bit_high 0 0 i (omega arith) (omega arith)

-- ---- the top of a word

-- the bit at j of a number from 2 ^ j up to 2 ^ (j + 1)
top_bit : (a j : ℕ) → 2 ^ j ≤ a → a < 2 ^ suc j → bit a j ≡ true
unfolding bit
top_bit a j l h =
    ap (λ (x : ℕ). eqb (x % 2) 1) (one (a / 2 ^ j) below above)
  where
    below : a / 2 ^ j < 2
    below = (div-lt_iff_lt-mul (pow_pos j)).1 (subst (λ (x : ℕ). a < x) (pow-suc 2 j ∙ let z : 2 ^ j * 2 ≡ 2 * 2 ^ j = omega arith in z) h)

    above : a / 2 ^ j < 1 → ⊥
    above q = let z : a < 1 * 2 ^ j = (div-lt_iff_lt-mul (pow_pos j)).0 q in omega arith

    one : (x : ℕ) → x < 2 → (x < 1 → ⊥) → x ≡ 1
    one zero p q = absurd (q (omega arith))
    one (suc zero) p q = refl
    one (suc (suc x)) p q = absurd (omega arith)

-- every bit above the highest set one is clear
pub leading-above : (x i : ℕ) → x < 2 ^ 32 → 32 - count_leading_zeros 32 x ≤ i → bit x i ≡ false
leading-above x i h l = ⊎_elim none some (eq-zero-or-pos x)
  where
    none : x ≡ 0 → bit x i ≡ false
    none e = bit_high 0 x i (omega arith) (omega arith)

    some : 0 < x → bit x i ≡ false
    some p = let t = leading_top 32 x p h in bit_high (suc t.0) x i t.3 (omega (arith, t.1))

pub leading_at : (x : ℕ) → x < 2 ^ 32 → count_leading_zeros 32 x < 32 → bit x (31 - count_leading_zeros 32 x) ≡ true
leading_at x h l = ⊎_elim none some (eq-zero-or-pos x)
  where
    none : x ≡ 0 → bit x (31 - count_leading_zeros 32 x) ≡ true
    none e = absurd (omega (arith, ap (count_leading_zeros 32) e, leading_of_zero 32))

    some : 0 < x → bit x (31 - count_leading_zeros 32 x) ≡ true
    some p = let t = leading_top 32 x p h in ap (bit x) (let z : 31 - count_leading_zeros 32 x ≡ t.0 = omega (arith, t.1) in z) ∙ top_bit x t.0 t.2 t.3

-- ---- the bits below the lowest one

pub clear-below : (w r : ℕ) → LowestBit true w r → (i : ℕ) → i < r → bit w i ≡ false
clear-below w r lowest i l = go (bit w i) refl
  where
    go : (b : Bool) → bit w i ≡ b → b ≡ false
    go false e = refl
    go true e = absurd (lowest.others i l e)

-- ---- what the counts of a word say of a step

pub in-word : (w i : ℕ) → w < 2 ^ 32 → bit w i ≡ true → i < 32
in-word w i small e = ⊎_elim (λ (l : i < 32). l) (λ (l : 32 ≤ i). absurd (not-both (bit w i) (bit_high 32 w i small l) e)) (lt-or-le i 32)

-- no run of more than 32 bits lies in a word
pub too_long : (w i n : ℕ) → w < 2 ^ 32 → 32 < n → all (bit w) i n ≡ false
too_long w i n small l =
    same (all (bit w) i n) false
    (λ e. absurd (let z : i + n - 1 < 32 = in-word w (i + n - 1) small (all-free-of (bit w) i n e (i + n - 1) (omega arith) (omega arith)) in omega arith))
    (λ e. absurd (true≢false (sym e)))

-- an empty word: nothing of it is free
pub empty-step : (w carry n : ℕ) → w ≡ 0 → carry < n → Stepped w carry n (Carry 0)
empty-step w carry n e h = (
  omega arith,
  λ f. not-both (bit w 0) (clear 0) (f 0 (omega arith) (omega arith)),
  λ t f. not-both (bit w t) (clear t) (f t (omega arith) (omega arith)),
  clear 31,
  λ j u v. absurd (omega arith),
)
  where
    clear : (i : ℕ) → bit w i ≡ false
    clear i = ap (λ (x : ℕ). bit x i) e ∙ bit_high 0 0 i (omega arith) (omega arith)

-- a word with no two free neighbours, before a run of which at least two places are missing
module _ (w carry n : ℕ) (small : w < 2 ^ 32) (apart : bit_and w (w / 2 ^ 1) ≡ 0) (missing : carry + 1 < n) where
  -- of two neighbours one is not free
  lone : (i : ℕ) → bit w i ≡ true → bit w (i + 1) ≡ true → ⊥
  lone i e f =
      not-both (bit (bit_and w (w / 2 ^ 1)) i) (ap (λ (x : ℕ). bit x i) apart ∙ bit_high 0 0 i (omega arith) (omega arith))
      (and-bit w (w / 2 ^ 1) i ∙ ap₂ ◌&&◌ e (shr-bit w 1 i ∙ ap (bit w) (let z : 1 + i ≡ i + 1 = omega arith in z) ∙ f))

  top : (k : ℕ) → k ≡ w / 2 ^ 31 → bit w 31 ≡ eqb (k % 2) 1
  unfolding bit
  top k e = ap (λ (x : ℕ). eqb (x % 2) 1) (sym e)

  pub lone-step : (k : ℕ) → k ≡ w / 2 ^ 31 → Stepped w carry n (Carry k)
  lone-step k e = (
    omega arith,
    λ f. lone 0 (f 0 (omega arith) (omega arith)) (f (0 + 1) (omega arith) (omega arith)),
    λ t f. lone t (f t (omega arith) (omega arith)) (f (t + 1) (omega arith) (omega arith)),
    below k (omega arith) (top k e),
    λ j u v. above k (omega arith) (top k e) j u v,
  )
    where
      below : (x : ℕ) → x < 2 → bit w 31 ≡ eqb (x % 2) 1 → bit w (31 - x) ≡ false
      below zero h f = f
      below (suc zero) h f = go (bit w 30) refl
        where
          go : (b : Bool) → bit w 30 ≡ b → b ≡ false
          go false p = refl
          go true p = absurd (lone 30 p f)
      below (suc (suc x)) h f = absurd (omega arith)

      above : (x : ℕ) → x < 2 → bit w 31 ≡ eqb (x % 2) 1 → (j : ℕ) → 32 - x ≤ j → j < 32 - x + x → bit w j ≡ true
      above zero h f j u v = absurd (omega arith)
      above (suc zero) h f j u v = ap (bit w) (let z : j ≡ 31 = omega arith in z) ∙ f
      above (suc (suc x)) h f j u v = absurd (omega arith)

module _ (w carry n low : ℕ) (small : w < 2 ^ 32) (room : carry < n) (lowest : LowestBit false w low) where
  short : carry + low < n → low < 32 → Short w carry n
  short h l c = not-both (bit w low) (lowest.there l) (c low (omega arith) (omega arith))

  pub from_step : (at : ℕ) → carry + low < n → low < 32 → at < 32 → ((i : ℕ) → i < at → all (bit w) i n ≡ false) → all (bit w) at n ≡ true → Stepped w carry n (From at)
  from_step at h m l fails holds =
      (l, short h m, all-free-of (bit w) at n holds, λ t u c. not-both (all (bit w) t n) (fails t u) (free_all (bit w) t n c))

  pub carry-step : (at k : ℕ) → carry + low < n → low < 32 → 32 ≤ at → ((i : ℕ) → i < at → all (bit w) i n ≡ false)
      → k ≤ 32 → ((i : ℕ) → 32 - k ≤ i → i < 32 → bit w i ≡ true) → (k < 32 → bit w (31 - k) ≡ false) → Stepped w carry n (Carry k)
  carry-step at k h l m fails le top under = (less, short h l, none, under less, λ j u v. top j u (omega arith))
    where
      less : k < 32
      less = ⊎_elim (λ (q : k < 32). q) (λ (q : 32 ≤ k). absurd (not-both (bit w low) (lowest.there l) (top low (omega arith) l))) (lt-or-le k 32)

      none : (t : ℕ) → Free (bit w) t n → ⊥
      none t c = not-both (all (bit w) t n) (fails t (omega (arith, in-word w t small (c t (omega arith) (omega arith))))) (free_all (bit w) t n c)

-- ---- a word in either sense, and its first places

pub sense-used : (w i : ℕ) (used : Bool) → used ≡ true → w < 2 ^ 32 → i < 32 → bit (2 ^ 32 - 1 - w) i ≡ sense used (bit w i)
sense-used w i true e h l = inverted w i h l
sense-used w i false e h l = absurd (true≢false (sym e))

and-swap : (a b : Bool) → a && b ≡ b && a
and-swap true true = refl
and-swap true false = refl
and-swap false true = refl
and-swap false false = refl

pub first-places : (f m left i : ℕ) (b : Bool) → m ≡ 2 ^ left - 1 → bit f i ≡ b → bit (bit_and f m) i ≡ ltb i left && b
first-places f m left i b e h =
    ap (λ (x : ℕ). bit (bit_and f x) i) e ∙ and-bit f (2 ^ left - 1) i ∙ ap₂ ◌&&◌ h (ones_bit left i) ∙ and-swap b (ltb i left)

-- ---- what a step says of the row

module _ (free : ℕ → Bool) (places n w base carry : ℕ) (small : w < 2 ^ 32) (back : carry ≤ base) (pos : 0 < n)
    (agrees : (i : ℕ) → i < 32 → bit w i ≡ free (base + i)) (bounded : (j : ℕ) → free j ≡ true → j < places)
    (scanned : Scanned free places n (base - carry) base) where
  -- set bits of the word are free places of the row
  down : (s k : ℕ) → Free (bit w) s k → (j : ℕ) → base + s ≤ j → j < base + s + k → free j ≡ true
  down s k c j l h =
      let e : bit w (j - base) ≡ true = c (j - base) (omega arith) (omega arith) in
      ap free (let z : j ≡ base + (j - base) = omega arith in z) ∙ sym (agrees (j - base) (in-word w (j - base) small e)) ∙ e

  room_of : (s : ℕ) → Free free s n → s + n ≤ places
  room_of s c = omega (arith, bounded (s + n - 1) (c (s + n - 1) (omega arith) (omega arith)))

  pub before-law : Free (bit w) 0 (n - carry) → Lowest free places n (Some (base - carry))
  before-law c = (record { room = room_of (base - carry) run; all-free = run }, λ t m g. scanned.none t m g.all-free)
    where
      run : Free free (base - carry) n
      run j l h = ⊎_elim (λ (m : j < base). scanned.gap j l m) (λ (m : base ≤ j). down 0 (n - carry) c j (omega arith) (omega (arith, scanned.short))) (lt-or-le j base)

  not-before : Short w carry n → (t : ℕ) → t < base → Free free t n → ⊥
  not-before h t l g =
      ⊎_elim (λ (m : t < base - carry). scanned.none t m g)
      (λ (m : base - carry ≤ t). h (λ j u v. agrees j (omega arith) ∙ g (base + j) (omega arith) (omega arith))) (lt-or-le t (base - carry))

  pub from-law : (i : ℕ) → Short w carry n → Free (bit w) i n → ((t : ℕ) → t < i → Free (bit w) t n → ⊥) → Lowest free places n (Some (base + i))
  from-law i s c h = (record { room = room_of (base + i) (down i n c); all-free = down i n c }, lower)
    where
      lower : (t : ℕ) → t < base + i → Starts free places n t → ⊥
      lower t l g =
          let last : i + n - 1 < 32 = in-word w (i + n - 1) small (c (i + n - 1) (omega arith) (omega arith)) in
          ⊎_elim (λ (m : t < base). not-before s t m g.all-free)
          (λ (m : base ≤ t). h (t - base) (omega arith) (λ j u v. agrees j (omega arith) ∙ g.all-free (base + j) (omega arith) (omega arith))) (lt-or-le t base)

  pub whole-law : carry + 32 < n → Free (bit w) 0 32 → Scanned free places n (base + 32 - (carry + 32)) (base + 32)
  whole-law l c =
      subst (λ (s : ℕ). Scanned free places n s (base + 32)) (let z : base - carry ≡ base + 32 - (carry + 32) = omega arith in z)
      (freed free places n (base - carry) base (base + 32) scanned (omega arith) (omega arith) (λ j p q. down 0 32 c j (omega arith) (omega arith)))

  pub carry-law : (k : ℕ) → k < 32 → Short w carry n → ((t : ℕ) → Free (bit w) t n → ⊥) → bit w (31 - k) ≡ false → Free (bit w) (32 - k) k
      → Scanned free places n (base + 32 - k) (base + 32)
  carry-law k l s h e c = record {
    low = omega arith;
    short = ⊎_elim (λ (m : k < n). let z : base + 32 < base + 32 - k + n = omega arith in z) (λ (m : n ≤ k). absurd (h (32 - k) (λ j u v. c j u (omega arith)))) (lt-or-le k n);
    gap = λ j p q. down (32 - k) k c j (omega arith) (omega arith);
    none = λ t m g. ⊎_elim (λ (p : t < base). not-before s t p g) (λ (p : base ≤ t).
        ⊎_elim (λ (q : base + 31 - k < t + n). not-both (bit w (31 - k)) e (agrees (31 - k) (omega arith) ∙ g (base + (31 - k)) (omega arith) (omega arith)))
        (λ (q : t + n ≤ base + 31 - k). h (t - base) (λ j u v. agrees j (omega arith) ∙ g (base + j) (omega arith) (omega arith))) (lt-or-le (base + 31 - k) (t + n)))
        (lt-or-le t base);
  }

-- ---- no place at or past `places` is free

abbrev pub up_to : ℕ → (ℕ → Bool) → ℕ → Bool
up_to places free j = ltb j places && free j

pub bounded : (places : ℕ) (free : ℕ → Bool) (j : ℕ) → up_to places free j ≡ true → j < places
bounded places free j e = ltb-true j places (and_both (ltb j places) (free j) e).0

module _ (free : ℕ → Bool) (places n : ℕ) where
  out : (t : ℕ) → Starts (up_to places free) places n t → Starts free places n t
  out t g = record { room = g.room; all-free = λ j u v. (and_both (ltb j places) (free j) (g.all-free j u v)).1 }

  into : (t : ℕ) → Starts free places n t → Starts (up_to places free) places n t
  into t g = record { room = g.room; all-free = λ j u v. ap₂ ◌&&◌ (lt-ltb j places (omega (arith, g.room))) (g.all-free j u v) }

  pub up-to-law : (r : Option ℕ) → Lowest (up_to places free) places n r → Lowest free places n r
  up-to-law (Some s) h = (out s h.0, λ t m g. h.1 t m (into t g))
  up-to-law None h = λ t g. h t (into t g)

-- ---- word k of the row, as far as the row has places
pub word-agrees : (ws : List ℕ) (used : Bool) (places k v : ℕ)
    → ((i : ℕ) → i < 32 → bit v i ≡ ltb i (places - 32 * k) && sense used (bit (get_or ws k 0) i))
    → (i : ℕ) → i < 32 → bit v i ≡ up_to places (λ j. sense used (bit_at ws j)) (32 * k + i)
unfolding bit_at
word-agrees ws used places k v h i l =
    h i l
    ∙ ap₂ ◌&&◌ (go (ltb (32 * k + i) places) refl)
    (ap₂ (λ (a b : ℕ). sense used (bit (get_or ws a 0) b)) (let q : k ≡ (32 * k + i) / 32 = omega arith in q) (let q : i ≡ (32 * k + i) % 32 = omega arith in q))
  where
    go : (t : Bool) → ltb (32 * k + i) places ≡ t → ltb i (places - 32 * k) ≡ t
    go true e = lt-ltb i (places - 32 * k) (omega (arith, ltb-true (32 * k + i) places e))
    go false e = le-ltb i (places - 32 * k) (omega (arith, ltb-false (32 * k + i) places e))

-- ---- a turn of the search: v is word k of the row ws

abbrev pub free_in : List ℕ → Bool → ℕ → Bool
free_in ws used j = sense used (bit_at ws j)

module _ (ws : List ℕ) (used : Bool) (places n : ℕ) where
  -- the scan as far as word k, with so many free places before it
  abbrev pub Scan : ℕ → ℕ → Type 0
  Scan k carry = Scanned (up_to places (free_in ws used)) places n (32 * k - carry) (32 * k) × (carry ≤ 32 * k)

  answer : (r : Option ℕ) → Lowest (up_to places (free_in ws used)) places n r → r ≡ lowest_run (free_in ws used) places n
  answer r h = lowest-is (free_in ws used) places n r (up-to-law (free_in ws used) places n r h)

  -- the end of the row
  pub at-end : (k carry : ℕ) → places ≤ 32 * k → Scan k carry → None ≡ lowest_run (free_in ws used) places n
  at-end k carry l s = answer None (nowhere (up_to places (free_in ws used)) places n (32 * k - carry) (32 * k) s.0 (omega (arith, s.0.short)))

  module _ (k carry : ℕ) where
    -- what is known after the step r: the answer, or how far the scan is
    abbrev pub Next : Step → Type 0
    Next Before = Some (32 * k - carry) ≡ lowest_run (free_in ws used) places n
    Next (From i) = Some (32 * k + i) ≡ lowest_run (free_in ws used) places n
    Next Whole = Scan (k + 1) (carry + 32)
    Next (Carry top) = Scan (k + 1) top

    pub turn : (v : ℕ) → v < 2 ^ 32 → 0 < n → ((i : ℕ) → i < 32 → bit v i ≡ ltb i (places - 32 * k) && sense used (bit (get_or ws k 0) i))
        → Scan k carry → (r : Step) → Stepped v carry n r → Next r
    turn v small pos bits scan = go
      where
        agrees : (i : ℕ) → i < 32 → bit v i ≡ up_to places (free_in ws used) (32 * k + i)
        agrees = word-agrees ws used places k v bits

        next : (c : ℕ) → Scanned (up_to places (free_in ws used)) places n (32 * k + 32 - c) (32 * k + 32)
            → Scanned (up_to places (free_in ws used)) places n (32 * (k + 1) - c) (32 * (k + 1))
        next c = subst (λ (e : ℕ). Scanned (up_to places (free_in ws used)) places n (e - c) e) (let z : 32 * k + 32 ≡ 32 * (k + 1) = omega arith in z)

        go : (r : Step) → Stepped v carry n r → Next r
        go Before h = answer (Some (32 * k - carry)) (before-law (up_to places (free_in ws used)) places n v (32 * k) carry small scan.1 pos agrees (bounded places (free_in ws used)) scan.0 h)
        go (From i) h =
            answer (Some (32 * k + i)) (from-law (up_to places (free_in ws used)) places n v (32 * k) carry small scan.1 pos agrees (bounded places (free_in ws used)) scan.0 i h.1 h.2 h.3)
        go Whole h =
            (next (carry + 32) (whole-law (up_to places (free_in ws used)) places n v (32 * k) carry small scan.1 pos agrees (bounded places (free_in ws used)) scan.0 h.0 h.1), omega (arith, scan.1))
        go (Carry top) h =
            (next top (carry-law (up_to places (free_in ws used)) places n v (32 * k) carry small scan.1 pos agrees (bounded places (free_in ws used)) scan.0 top h.0 h.1 h.2 h.3 h.4), omega (arith, h.0))
