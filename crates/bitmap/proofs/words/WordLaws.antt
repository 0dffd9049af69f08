-- What a word is after `or` with a run of ones, and after `and` with its complement; and the lowest bit of a word by trailing zeros. Assumes nothing.
use Rattle.std.specs.Prelude.{◌≡◌, ◌&&◌, ◌||◌, ◌+◌, ◌-◌, ◌*◌, ◌%◌, ◌^◌, ◌≤◌, ◌<◌}
use Rattle.walks.proofs.Prelude.{refl, sym, ap, ◌∙◌, Bool, true, false, cond, not, true≢false, ℕ, lt_of_lt_of_le, arith, ltb-false, lt-ltb, not-true, ltb, bit_and, bit_or, count_trailing_zeros, shl_exact, shl_lt, ones_lt, pow_mono}
use lib.Count.{trailing_le}
use Rattle.bitmap.specs.Bits.{bit, within, LowestBit}
use Rattle.bitmap.proofs.words.BitLaws.{or-bit, and-bit, run-bit, not-bit, bit_high, trailing_below, trailing_at}

or-as-cond : (a b : Bool) → a || b ≡ cond b true a
or-as-cond true true = refl
or-as-cond true false = refl
or-as-cond false true = refl
or-as-cond false false = refl

module _ (lo n : ℕ) (fits : lo + n ≤ 32) where
  -- nothing of the mask is shifted out
  mask-whole : ((2 ^ n - 1) * 2 ^ lo) % 2 ^ 32 ≡ (2 ^ n - 1) * 2 ^ lo
  mask-whole = shl_exact n lo 32 (ones_lt n) (omega arith)

  mask_lt : (2 ^ n - 1) * 2 ^ lo < 2 ^ 32
  mask_lt = lt_of_lt_of_le (shl_lt n lo (ones_lt n)) (pow_mono {i = n + lo} {j = 32} (omega arith))

  pub set-law : (w m i : ℕ) → m ≡ 2 ^ n - 1 → bit (bit_or w ((m * 2 ^ lo) % 2 ^ 32)) i ≡ cond (within lo n i) true (bit w i)
  set-law w m i e =
      ap (λ (x : ℕ). bit (bit_or w ((x * 2 ^ lo) % 2 ^ 32)) i) e
      ∙ ap (λ (x : ℕ). bit (bit_or w x) i) mask-whole
      ∙ or-bit w ((2 ^ n - 1) * 2 ^ lo) i
      ∙ ap (λ (t : Bool). bit w i || t) (run-bit lo n i)
      ∙ or-as-cond (bit w i) (within lo n i)

  pub clear-law : (w m i : ℕ) → w < 2 ^ 32 → m ≡ 2 ^ n - 1 → bit (bit_and w ((2 ^ 32 - 1) - (m * 2 ^ lo) % 2 ^ 32)) i ≡ cond (within lo n i) false (bit w i)
  clear-law w m i h e =
      ap (λ (x : ℕ). bit (bit_and w ((2 ^ 32 - 1) - (x * 2 ^ lo) % 2 ^ 32)) i) e
      ∙ ap (λ (x : ℕ). bit (bit_and w ((2 ^ 32 - 1) - x)) i) mask-whole
      ∙ and-bit w ((2 ^ 32 - 1) - (2 ^ n - 1) * 2 ^ lo) i
      ∙ ap (λ (t : Bool). bit w i && t) (not-bit 32 ((2 ^ n - 1) * 2 ^ lo) i mask_lt)
      ∙ ap (λ (t : Bool). bit w i && (ltb i 32 && not t)) (run-bit lo n i)
      ∙ go (bit w i) (ltb i 32) refl refl (within lo n i)
    where
      go : (b t : Bool) → bit w i ≡ b → ltb i 32 ≡ t → (s : Bool) → b && (t && not s) ≡ cond s false b
      go false t p q true = refl
      go false t p q false = refl
      go true true p q true = refl
      go true true p q false = refl
      go true false p q s = let f : bit w i ≡ false = bit_high 32 w i h (ltb-false i 32 q) in cc

-- ---- the lowest bit of a word

pub not-both : (b : Bool) → b ≡ false → b ≡ true → ⊥
not-both b e f = true≢false (sym f ∙ e)

pub inverted : (w i : ℕ) → w < 2 ^ 32 → i < 32 → bit (2 ^ 32 - 1 - w) i ≡ not (bit w i)
inverted w i h l = not-bit 32 w i h ∙ ap (λ (t : Bool). t && not (bit w i)) (lt-ltb i 32 l)

pub lowest_set : (w : ℕ) → LowestBit true w (count_trailing_zeros 32 w)
lowest_set w = record {
  most = trailing_le 32 w;
  others = λ i l e. not-both (bit w i) (trailing_below 32 w i l) e;
  there = trailing_at 32 w;
}

pub lowest-clear : (w : ℕ) → w < 2 ^ 32 → LowestBit false w (count_trailing_zeros 32 (2 ^ 32 - 1 - w))
lowest-clear w h = record {
  most = trailing_le 32 x;
  others = λ i l e. not-both (not (bit w i)) (sym (inverted w i h (omega (arith, trailing_le 32 x))) ∙ trailing_below 32 x i l) (ap not e);
  there = λ l. not-true (bit w (count_trailing_zeros 32 x)) (sym (inverted w (count_trailing_zeros 32 x) h l) ∙ trailing_at 32 x l);
}
  where
    x : ℕ
    x = 2 ^ 32 - 1 - w
