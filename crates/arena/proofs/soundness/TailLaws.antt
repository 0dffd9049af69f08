-- How the words of one map say that no bit is set past the last chunk. Assumes nothing.
use Rattle.std.specs.Prelude.{◌≡◌, ◌+◌, ◌-◌, ◌*◌, ◌/◌, ◌%◌, ◌^◌, ◌≤◌, ◌<◌, fold}
use Rattle.arena.proofs.Prelude.{refl, sym, ap, ap₂, ◌∙◌, true, false, List, [], ⊎_elim, ℕ, zero, suc, arith, eqb-true, eq-eqb, bit_and, eqb, drop, get_or, length, bit, bit_at, bit_high, lt-or-le, same, IsRow, clear_past}
use mathlib.Core.List.{◌∷◌}
use native.Mathlib.Nat.{zero-lt-suc, div-le_self, lt_of_le_of_lt}
use lib.Bits.{bit_or, or_add_and, and_le_l, and_le_r}
use lib.ListN.{length-drop}
use lib.Seq.{get_or-drop}
use Rattle.bitmap.proofs.words.BitLaws.{bit-ext, shr-bit}
use Rattle.arena.proofs.SoundLaws.{past-facts, past-test}

-- ---- words that are 0

or-zero : (a b : ℕ) → bit_or a b ≡ 0 → (a ≡ 0) × (b ≡ 0)
or-zero a b e =
    let s : bit_or a b + bit_and a b ≡ a + b = or_add_and a b in
    let l : bit_and a b ≤ a = and_le_l a b in
    let r : bit_and a b ≤ b = and_le_r a b in
    (omega arith, omega arith)

zero_or : (a b : ℕ) → a ≡ 0 → b ≡ 0 → bit_or a b ≡ 0
zero_or a b p q = let s : bit_or a b + bit_and a b ≡ a + b = or_add_and a b in omega arith

zero_bit : (i : ℕ) → bit 0 i ≡ false
zero_bit i = bit_high 0 0 i (zero-lt-suc 0) (omega arith)

-- words ored onto one are 0 exactly when that one is and each of them
ored-zero : (xs : List ℕ) (x : ℕ) → fold bit_or x xs ≡ 0 → (x ≡ 0) × ((j : ℕ) → get_or xs j 0 ≡ 0)
ored-zero [] x e = (e, λ j. refl)
ored-zero (y ∷ xs) x e =
    let r = ored-zero xs (bit_or x y) e in
    let z = or-zero x y r.0 in
    (z.0, at z.1 r.1)
  where
    at : y ≡ 0 → ((j : ℕ) → get_or xs j 0 ≡ 0) → (j : ℕ) → get_or (y ∷ xs) j 0 ≡ 0
    at h k zero = h
    at h k (suc j) = k j

zero-ored : (xs : List ℕ) (x : ℕ) → x ≡ 0 → ((j : ℕ) → j < length xs → get_or xs j 0 ≡ 0) → fold bit_or x xs ≡ 0
zero-ored [] x e h = e
zero-ored (y ∷ xs) x e h =
    zero-ored xs (bit_or x y) (zero_or x y e (h 0 (omega arith))) (λ j l. h (suc j) (omega arith))

-- ---- one map: `chunks` is bit lo of word k

-- the word of the last chunk from its bit on
abbrev pub last_word : List ℕ → ℕ → ℕ
last_word ws chunks = get_or ws (chunks / 32) 0 / 2 ^ (chunks % 32)

-- each word after it is 0
abbrev Zeros : List ℕ → ℕ → Type 0
Zeros ws chunks = (i : ℕ) → chunks / 32 + 1 ≤ i → i < 32 → get_or ws i 0 ≡ 0

module _ (ws : List ℕ) (chunks : ℕ) (r : IsRow ws) (room : chunks < 1024) where
  map-words : clear_past chunks ws ≡ true → (last_word ws chunks ≡ 0) × Zeros ws chunks
  unfolding bit_at
  map-words e = (
    bit-ext 32 (last_word ws chunks) 0 (lt_of_le_of_lt (div-le_self (get_or ws (chunks / 32) 0) (2 ^ (chunks % 32))) (r.small (chunks / 32))) (omega arith)
        (λ i l. shr-bit (get_or ws (chunks / 32) 0) (chunks % 32) i ∙ high i ∙ sym (zero_bit i)),
    λ i l m. bit-ext 32 (get_or ws i 0) 0 (r.small i) (omega arith) (λ t n. at i t n (omega arith) m ∙ sym (zero_bit t)),
  )
    where
      at : (i t : ℕ) → t < 32 → chunks ≤ 32 * i + t → i < 32 → bit (get_or ws i 0) t ≡ false
      at i t l h m =
          ap₂ (λ (x y : ℕ). bit (get_or ws x 0) y) (let z : i ≡ (32 * i + t) / 32 = omega arith in z) (let z : t ≡ (32 * i + t) % 32 = omega arith in z)
          ∙ past-facts chunks ws e (32 * i + t) h (omega arith)

      high : (i : ℕ) → bit (get_or ws (chunks / 32) 0) (chunks % 32 + i) ≡ false
      high i =
          ⊎_elim (λ (l : chunks % 32 + i < 32). at (chunks / 32) (chunks % 32 + i) l (omega arith) (omega arith))
          (λ (l : 32 ≤ chunks % 32 + i). bit_high 32 (get_or ws (chunks / 32) 0) (chunks % 32 + i) (r.small (chunks / 32)) l)
          (lt-or-le (chunks % 32 + i) 32)

  words-map : last_word ws chunks ≡ 0 → Zeros ws chunks → clear_past chunks ws ≡ true
  unfolding bit_at
  words-map z after =
      past-test chunks ws (λ j l m. ⊎_elim
      (λ (h : j / 32 < chunks / 32 + 1).
      ap₂ (λ (x y : ℕ). bit (get_or ws x 0) y) (let e : j / 32 ≡ chunks / 32 = omega arith in e)
      (let e : j % 32 ≡ chunks % 32 + (j % 32 - chunks % 32) = omega arith in e)
      ∙ sym (shr-bit (get_or ws (chunks / 32) 0) (chunks % 32) (j % 32 - chunks % 32))
      ∙ ap (λ (x : ℕ). bit x (j % 32 - chunks % 32)) z
      ∙ zero_bit (j % 32 - chunks % 32))
      (λ (h : chunks / 32 + 1 ≤ j / 32). ap (λ (x : ℕ). bit x (j % 32)) (after (j / 32) h (omega arith)) ∙ zero_bit (j % 32))
      (lt-or-le (j / 32) (chunks / 32 + 1)))

  -- the words from the last chunk's on, ored together
  pub tail-ored : eqb (fold bit_or (last_word ws chunks) (drop (chunks / 32 + 1) ws)) 0 ≡ clear_past chunks ws
  tail-ored =
      same (eqb (fold bit_or (last_word ws chunks) rest) 0) (clear_past chunks ws)
      (λ t. let z = ored-zero rest (last_word ws chunks) (eqb-true (fold bit_or (last_word ws chunks) rest) 0 t) in words-map z.0 (λ i l m. behind i l ∙ z.1 (i - k)))
      (λ t. let w = map-words t in
      eq-eqb (fold bit_or (last_word ws chunks) rest) 0 (zero-ored rest (last_word ws chunks) w.0
      (λ j l. get_or-drop k ws j 0 ∙ w.1 (k + j) (omega arith) (omega (arith, length-drop k ws, r.long)))))
    where
      k : ℕ
      k = chunks / 32 + 1

      rest : List ℕ
      rest = drop k ws

      behind : (i : ℕ) → k ≤ i → get_or ws i 0 ≡ get_or rest (i - k) 0
      behind i l = ap (λ (x : ℕ). get_or ws x 0) (let z : i ≡ k + (i - k) = omega arith in z) ∙ sym (get_or-drop k ws (i - k) 0)
