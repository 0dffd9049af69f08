-- The laws of a walk over the words of a row: a stretch and its parts, a run of a word by one mask, and the next set place. Assumes nothing.
use Rattle.std.specs.Prelude.{◌≡◌, ◌&&◌, ◌+◌, ◌-◌, ◌*◌, ◌/◌, ◌%◌, ◌^◌, ◌≤◌, ◌<◌, Some, None}
use Rattle.walks.proofs.Prelude.{refl, sym, ap, ap₂, ◌∙◌, Bool, true, false, ⊎_elim, List, ℕ, arith, ltb-true, leb-true, eqb-true, eq-eqb, leb, ltb, eqb, get_or, bit_and, shl_exact, shl_lt, ones_lt}
use native.Mathlib.Nat.{lt_of_le_of_lt}
use lib.Bits.{and_le_r}
use Rattle.bitmap.specs.Bits.{bit, bit_at, within, LowestBit}
use Rattle.bitmap.proofs.words.BitLaws.{and-bit, shr-bit, run-bit, bit-ext}
use Rattle.bitmap.proofs.words.RowLaws.{lt-or-le, within-yes}
use Rattle.bitmap.proofs.words.WordLaws.{not-both}
use Rattle.bitmap.specs.Lowest.{all, least, sense}
use Rattle.bitmap.proofs.runs.LowestLaws.{all-free-of, free_all, least-none, least_at}
use Rattle.bitmap.proofs.runs.SearchLaws.{same, and_both, clear-below, in-word, free_in}

-- ---- a stretch and its parts

pub all_none : (p : ℕ → Bool) (s n : ℕ) → n ≡ 0 → all p s n ≡ true
all_none p s n e = free_all p s n (λ j u v. absurd (omega arith))

-- what holds of a stretch holds of each part of it
pub all-part : (p : ℕ → Bool) (s n t m : ℕ) → s ≤ t → t + m ≤ s + n → all p s n ≡ true → all p t m ≡ true
all-part p s n t m l h e = free_all p t m (λ j u v. all-free-of p s n e j (omega arith) (omega arith))

-- a part that fails fails the stretch
pub all-fails : (p : ℕ → Bool) (s n t m : ℕ) → s ≤ t → t + m ≤ s + n → all p t m ≡ false → all p s n ≡ false
all-fails p s n t m l h e =
    same (all p s n) false (λ f. absurd (not-both (all p t m) e (all-part p s n t m l h f))) (λ f. absurd (not-both false refl f))

-- a stretch, and the one after it
pub all_split : (p : ℕ → Bool) (s a b : ℕ) → all p s (a + b) ≡ all p s a && all p (s + a) b
all_split p s a b =
    same (all p s (a + b)) (all p s a && all p (s + a) b)
    (λ e. ap₂ ◌&&◌ (all-part p s (a + b) s a (omega arith) (omega arith) e) (all-part p s (a + b) (s + a) b (omega arith) (omega arith) e))
    (λ e.
    let h : (all p s a ≡ true) × (all p (s + a) b ≡ true) = and_both (all p s a) (all p (s + a) b) e in
    free_all p s (a + b) (λ j u v. ⊎_elim (λ (q : j < s + a). all-free-of p s a h.0 j u q)
    (λ (q : s + a ≤ j). all-free-of p (s + a) b h.1 j q (omega arith)) (lt-or-le j (s + a))))

-- the stretch from s up to t, and m places more
pub all_more : (p : ℕ → Bool) (s t m : ℕ) → s ≤ t → all p s (t - s) ≡ true → all p t m ≡ true → all p s (t + m - s) ≡ true
all_more p s t m l e f =
    ap (all p s) (let z : t + m - s ≡ (t - s) + m = omega arith in z) ∙ all_split p s (t - s) m
    ∙ ap₂ ◌&&◌ e (ap (λ (x : ℕ). all p x m) (let z : s + (t - s) ≡ t = omega arith in z) ∙ f)

-- two tests that agree from two places on
all-carry : (p q : ℕ → Bool) (s t n : ℕ) → ((i : ℕ) → i < n → p (s + i) ≡ q (t + i)) → all p s n ≡ true → all q t n ≡ true
all-carry p q s t n h e =
    free_all q t n (λ j u v.
    ap q (let z : j ≡ t + (j - t) = omega arith in z) ∙ sym (h (j - t) (omega arith)) ∙ all-free-of p s n e (s + (j - t)) (omega arith) (omega arith))

pub all_same : (p q : ℕ → Bool) (s t n : ℕ) → ((i : ℕ) → i < n → p (s + i) ≡ q (t + i)) → all p s n ≡ all q t n
all_same p q s t n h = same (all p s n) (all q t n) (all-carry p q s t n h) (all-carry q p t s n (λ i l. sym (h i l)))

-- ---- a run of a word, by one mask

within-says : (lo n i : ℕ) → within lo n i ≡ true → (lo ≤ i) × (i < lo + n)
unfolding within
within-says lo n i e = let h : (leb lo i ≡ true) × (ltb i (lo + n) ≡ true) = and_both (leb lo i) (ltb i (lo + n)) e in (leb-true lo i h.0, ltb-true i (lo + n) h.1)

module _ (w lo m : ℕ) where
  mask : ℕ
  mask = (2 ^ m - 1) * 2 ^ lo

  masked : (i : ℕ) → bit (bit_and w mask) i ≡ bit w i && within lo m i
  unfolding mask
  masked i = and-bit w ((2 ^ m - 1) * 2 ^ lo) i ∙ ap (λ (t : Bool). bit w i && t) (run-bit lo m i)

  mask-kept : eqb (bit_and w mask) mask ≡ all (bit w) lo m
  unfolding mask
  mask-kept =
      same (eqb (bit_and w mask) mask) (all (bit w) lo m)
      (λ e. free_all (bit w) lo m (λ j u v.
      (and_both (bit w j) (within lo m j) (sym (masked j) ∙ ap (λ (x : ℕ). bit x j) (eqb-true (bit_and w mask) mask e) ∙ run-bit lo m j ∙ within-yes lo m j u v)).0))
      (λ e. eq-eqb (bit_and w mask) mask
      (bit-ext (m + lo) (bit_and w mask) mask (lt_of_le_of_lt (and_le_r w mask) (shl_lt m lo (ones_lt m))) (shl_lt m lo (ones_lt m)) (λ i l. masked i ∙ kept e i ∙ sym (run-bit lo m i))))
    where
      kept : all (bit w) lo m ≡ true → (i : ℕ) → bit w i && within lo m i ≡ within lo m i
      kept e i =
          same (bit w i && within lo m i) (within lo m i) (λ f. (and_both (bit w i) (within lo m i) f).1)
          (λ f. let h : (lo ≤ i) × (i < lo + m) = within-says lo m i f in ap₂ ◌&&◌ (all-free-of (bit w) lo m e i h.0 h.1) f)

  -- nothing of the mask is shifted out
  pub mask-test : (k : ℕ) → lo + m ≤ 32 → k ≡ 2 ^ m - 1 → eqb (bit_and w ((k * 2 ^ lo) % 2 ^ 32)) ((k * 2 ^ lo) % 2 ^ 32) ≡ all (bit w) lo m
  unfolding mask
  mask-test k fits e =
      ap (λ (x : ℕ). eqb (bit_and w x) x) (ap (λ (x : ℕ). (x * 2 ^ lo) % 2 ^ 32) e ∙ shl_exact m lo 32 (ones_lt m) (omega arith)) ∙ mask-kept

-- ---- a place of the row, seen from its word

pub word-place : (ws : List ℕ) (at i : ℕ) → at % 32 + i < 32 → bit (get_or ws (at / 32) 0) (at % 32 + i) ≡ bit_at ws (at + i)
unfolding bit_at
word-place ws at i l =
    ap₂ (λ (a b : ℕ). bit (get_or ws a 0) b) (let z : at / 32 ≡ (at + i) / 32 = omega arith in z) (let z : at % 32 + i ≡ (at + i) % 32 = omega arith in z)

-- the word v is that of the place at, in its sense: a run of it is a run of the row
pub word-run : (ws : List ℕ) (used : Bool) (at m v : ℕ) → at % 32 + m ≤ 32 → ((i : ℕ) → i < 32 → bit v i ≡ sense used (bit (get_or ws (at / 32) 0) i))
    → all (free_in ws used) at m ≡ all (bit v) (at % 32) m
word-run ws used at m v h bits =
    all_same (free_in ws used) (bit v) at (at % 32) m
    (λ i l. sym (bits (at % 32 + i) (omega arith) ∙ ap (sense used) (word-place ws at i (omega arith))))

-- ---- the next set place: z is the lowest set bit of what is left of the word from `at` on, and no place from `from` up to `at` is set

module _ (ws : List ℕ) (from at z : ℕ) (small : get_or ws (at / 32) 0 < 2 ^ 32) (lowest : LowestBit true (get_or ws (at / 32) 0 / 2 ^ (at % 32)) z)
    (low : from ≤ at) (clear : (t : ℕ) → from ≤ t → t < at → bit_at ws t ≡ false) where
  there : z < 32 → bit (get_or ws (at / 32) 0) (at % 32 + z) ≡ true
  there l = sym (shr-bit (get_or ws (at / 32) 0) (at % 32) z) ∙ lowest.there l

  inside : z < 32 → at % 32 + z < 32
  inside l = in-word (get_or ws (at / 32) 0) (at % 32 + z) small (there l)

  passed : (k : ℕ) → k ≤ z → at % 32 + k ≤ 32 → (t : ℕ) → from ≤ t → t < at + k → bit_at ws t ≡ false
  passed k h l t u v =
      ⊎_elim (λ (q : t < at). clear t u q)
      (λ (q : at ≤ t).
      ap (bit_at ws) (let e : t ≡ at + (t - at) = omega arith in e) ∙ sym (word-place ws at (t - at) (omega arith))
      ∙ sym (shr-bit (get_or ws (at / 32) 0) (at % 32) (t - at)) ∙ clear-below (get_or ws (at / 32) 0 / 2 ^ (at % 32)) z lowest (t - at) (omega arith))
      (lt-or-le t at)

  pub next_here : (places : ℕ) → z < 32 → at + z < places → Some (at + z) ≡ least (bit_at ws) from (places - from)
  next_here places l h =
      sym (least_at (bit_at ws) from (places - from) (at + z) (omega arith) (omega arith)
      (sym (word-place ws at z (inside l)) ∙ there l) (passed z (omega arith) (omega (arith, inside l))))

  pub next_past : (places : ℕ) → z < 32 → places ≤ at + z → None ≡ least (bit_at ws) from (places - from)
  next_past places l h =
      sym (least-none (bit_at ws) from (places - from) (λ t u v. passed z (omega arith) (omega (arith, inside l)) t u (omega arith)))

  pub next_word : 32 ≤ z → (t : ℕ) → from ≤ t → t < (at / 32 + 1) * 32 → bit_at ws t ≡ false
  next_word l t u v = passed (32 - at % 32) (omega arith) (omega arith) t u (omega arith)

pub next-none : (ws : List ℕ) (from at places : ℕ) → places ≤ at → ((t : ℕ) → from ≤ t → t < at → bit_at ws t ≡ false) → None ≡ least (bit_at ws) from (places - from)
next-none ws from at places l clear = sym (least-none (bit_at ws) from (places - from) (λ t u v. clear t u (omega arith)))
