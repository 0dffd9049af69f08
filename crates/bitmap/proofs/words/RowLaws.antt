-- The laws of a row of bits in words of 32: where a place stands to a run, what a store of one word moves, how runs join, and what a written row says of
-- each place. Each law is stated once, over the bit that is written. Assumes nothing.
use Rattle.std.specs.Prelude.{◌≡◌, ◌&&◌, ◌||◌, ◌∷◌, ◌⊎◌, ◌+◌, ◌-◌, ◌*◌, ◌/◌, ◌%◌, ◌^◌, ◌≤◌, ◌<◌}
use Rattle.walks.proofs.Prelude.{refl, sym, ap, ap₂, ◌∙◌, Bool, true, false, cond, List, [], inl, inr, ⊎_elim, ℕ, zero, suc, zero-le, not-suc-le-zero, zero-lt-suc, arith, lt-ltb, le-ltb, le-leb, lt-leb, ltb-true, ltb-false, leb-true, leb-false, leb, ltb, eqb, length, get_or, set, ext_get_or, get_or-set_same, get_or-set_other}
use mathlib.Core.Logic.{◌≢◌}
use native.Mathlib.Decide.{ℕ_discrete}
use lib.ListN.{get_or-eq_default}
use Rattle.bitmap.specs.Bits.{bit, bit_at, within}
use Rattle.bitmap.specs.Rows.{as_number, pack, write_run}
use Rattle.bitmap.proofs.words.BitLaws.{bit-zero, bit-suc, bit-ext, bit_high}

-- ---- which comes first

pub lt-or-le : (a b : ℕ) → (a < b) ⊎ (b ≤ a)
lt-or-le a b = go (leb b a) refl
  where
    go : (t : Bool) → leb b a ≡ t → (a < b) ⊎ (b ≤ a)
    go true e = inr (leb-true b a e)
    go false e = inl (leb-false b a e)

-- ---- where a place stands to a run

pub within-yes : (lo n i : ℕ) → lo ≤ i → i < lo + n → within lo n i ≡ true
unfolding within
within-yes lo n i p q = ap₂ ◌&&◌ (le-leb lo i p) (lt-ltb i (lo + n) q)

pub within-before : (lo n i : ℕ) → i < lo → within lo n i ≡ false
unfolding within
within-before lo n i p = ap (λ (t : Bool). t && ltb i (lo + n)) (lt-leb lo i p)

and-false : (t : Bool) → t && false ≡ false
and-false true = refl
and-false false = refl

pub within-after : (lo n i : ℕ) → lo + n ≤ i → within lo n i ≡ false
unfolding within
within-after lo n i p = ap (λ (t : Bool). leb lo i && t) (le-ltb i (lo + n) p) ∙ and-false (leb lo i)

pub data Stands (lo n i : ℕ) : Type 0 where
  before : i < lo → Stands lo n i
  inside : lo ≤ i → i < lo + n → Stands lo n i
  beyond : lo + n ≤ i → Stands lo n i

pub stands : (lo n i : ℕ) → Stands lo n i
stands lo n i = go (leb lo i) refl (ltb i (lo + n)) refl
  where
    go : (a : Bool) → leb lo i ≡ a → (b : Bool) → ltb i (lo + n) ≡ b → Stands lo n i
    go false p b q = before (leb-false lo i p)
    go true p true q = inside (leb-true lo i p) (ltb-true i (lo + n) q)
    go true p false q = beyond (ltb-false i (lo + n) q)

pub within_none : (lo i : ℕ) → within lo 0 i ≡ false
within_none lo i = go (stands lo 0 i)
  where
    go : Stands lo 0 i → within lo 0 i ≡ false
    go (before p) = within-before lo 0 i p
    go (inside p q) = absurd (omega arith)
    go (beyond p) = within-after lo 0 i p

-- a run, and the run after it
pub within-join : (lo a m i : ℕ) → within lo (a + m) i ≡ within (lo + a) m i || within lo a i
within-join lo a m i = go (stands lo a i) (stands (lo + a) m i)
  where
    go : Stands lo a i → Stands (lo + a) m i → within lo (a + m) i ≡ within (lo + a) m i || within lo a i
    go (before p) s = within-before lo (a + m) i p ∙ sym (ap₂ ◌||◌ (within-before (lo + a) m i (omega arith)) (within-before lo a i p))
    go (inside p q) s = within-yes lo (a + m) i p (omega arith) ∙ sym (ap₂ ◌||◌ (within-before (lo + a) m i q) (within-yes lo a i p q))
    go (beyond p) (before q) = absurd (omega arith)
    go (beyond p) (inside q r) = within-yes lo (a + m) i (omega arith) (omega arith) ∙ sym (ap (λ (t : Bool). t || within lo a i) (within-yes (lo + a) m i q r))
    go (beyond p) (beyond q) = within-after lo (a + m) i (omega arith) ∙ sym (ap₂ ◌||◌ (within-after (lo + a) m i q) (within-after lo a i p))

-- a run that stays in one word, seen from the word and from the row
pub within_word : (at m j : ℕ) → at % 32 + m ≤ 32 → j / 32 ≡ at / 32 → within (at % 32) m (j % 32) ≡ within at m j
within_word at m j h e = go (stands at m j)
  where
    go : Stands at m j → within (at % 32) m (j % 32) ≡ within at m j
    go (before p) = within-before (at % 32) m (j % 32) (omega arith) ∙ sym (within-before at m j p)
    go (inside p q) = within-yes (at % 32) m (j % 32) (omega arith) (omega arith) ∙ sym (within-yes at m j p q)
    go (beyond p) = within-after (at % 32) m (j % 32) (omega arith) ∙ sym (within-after at m j p)

pub within-other : (at m j : ℕ) → at % 32 + m ≤ 32 → j / 32 ≢ at / 32 → within at m j ≡ false
within-other at m j h e = go (stands at m j)
  where
    go : Stands at m j → within at m j ≡ false
    go (before p) = within-before at m j p
    go (inside p q) = absurd (e (omega arith))
    go (beyond p) = within-after at m j p

-- ---- the words of a row stay words

pub set_words : (b : ℕ) (ws : List ℕ) (k v : ℕ) → v < b → ((i : ℕ) → get_or ws i 0 < b) → (i : ℕ) → get_or (set ws k v) i 0 < b
set_words b [] k v h f i = f i
set_words b (w ∷ ws) zero v h f zero = h
set_words b (w ∷ ws) zero v h f (suc i) = f (suc i)
set_words b (w ∷ ws) (suc k) v h f zero = f zero
set_words b (w ∷ ws) (suc k) v h f (suc i) = set_words b ws k v h (λ j. f (suc j)) i

-- ---- a store of one word, and a turn of the loop over words

-- writing b twice is writing it at the places of either
joins : (b s t x : Bool) → cond s b (cond t b x) ≡ cond (s || t) b x
joins b true t x = refl
joins b false t x = refl

module _ (b : Bool) where
  pub store : (ws : List ℕ) (at m v : ℕ) → at / 32 < length ws → at % 32 + m ≤ 32
      → ((i : ℕ) → bit v i ≡ cond (within (at % 32) m i) b (bit (get_or ws (at / 32) 0) i))
      → (j : ℕ) → bit_at (set ws (at / 32) v) j ≡ cond (within at m j) b (bit_at ws j)
  unfolding bit_at
  store ws at m v l h e j = go (ℕ_discrete (j / 32) (at / 32))
    where
      go : Dec (j / 32 ≡ at / 32) → bit (get_or (set ws (at / 32) v) (j / 32) 0) (j % 32) ≡ cond (within at m j) b (bit (get_or ws (j / 32) 0) (j % 32))
      go (yes p) =
          ap (λ (k : ℕ). bit (get_or (set ws (at / 32) v) k 0) (j % 32)) p
          ∙ ap (λ (x : ℕ). bit x (j % 32)) (get_or-set_same ws (at / 32) v 0 l)
          ∙ e (j % 32)
          ∙ ap₂ (λ (t x : Bool). cond t b x) (within_word at m j h p) (ap (λ (k : ℕ). bit (get_or ws k 0) (j % 32)) (sym p))
      go (no p) =
          ap (λ (x : ℕ). bit x (j % 32)) (get_or-set_other ws (at / 32) (j / 32) v 0 p)
          ∙ ap (λ (t : Bool). cond t b (bit (get_or ws (j / 32) 0) (j % 32))) (sym (within-other at m j h p))

  -- the run from start up to at is written, and the m places from at on are stored
  pub turn : (ws out : List ℕ) (start at m v : ℕ) → start ≤ at → at / 32 < length out → at % 32 + m ≤ 32
      → ((i : ℕ) → bit v i ≡ cond (within (at % 32) m i) b (bit (get_or out (at / 32) 0) i))
      → ((j : ℕ) → bit_at out j ≡ cond (within start (at - start) j) b (bit_at ws j))
      → (j : ℕ) → bit_at (set out (at / 32) v) j ≡ cond (within start (at + m - start) j) b (bit_at ws j)
  turn ws out start at m v s l h e done j =
      store out at m v l h e j
      ∙ ap (λ (x : Bool). cond (within at m j) b x) (done j)
      ∙ joins b (within at m j) (within start (at - start) j) (bit_at ws j)
      ∙ ap (λ (t : Bool). cond t b (bit_at ws j))
      (ap (λ (k : ℕ). within k m j || within start (at - start) j) (let q : at ≡ start + (at - start) = omega arith in q)
      ∙ sym (within-join start (at - start) m j)
      ∙ ap (λ (k : ℕ). within start k j) (let q : at - start + m ≡ at + m - start = omega arith in q))

  -- before the first turn nothing is written
  pub nothing : (ws : List ℕ) (start j : ℕ) → bit_at ws j ≡ cond (within start (start - start) j) b (bit_at ws j)
  nothing ws start j =
      ap (λ (t : Bool). cond t b (bit_at ws j)) (sym (within_none start j) ∙ ap (λ (k : ℕ). within start k j) (let q : 0 ≡ start - start = omega arith in q))

-- ---- a packed row, place by place

digit : (b : Bool) (x : ℕ) → eqb ((cond b 1 0 + 2 * x) % 2) 1 ≡ b
digit true x = ap (λ (d : ℕ). eqb d 1) (let e : (1 + 2 * x) % 2 ≡ 1 = omega arith in e)
digit false x = ap (λ (d : ℕ). eqb d 1) (let e : (0 + 2 * x) % 2 ≡ 0 = omega arith in e)

rest : (b : Bool) (x : ℕ) → (cond b 1 0 + 2 * x) / 2 ≡ x
rest true x = omega arith
rest false x = omega arith

pub number_lt : (f : ℕ → Bool) (k : ℕ) → as_number f k < 2 ^ k
unfolding as_number
number_lt f zero = zero-lt-suc 0
number_lt f (suc k) = go (f 0) (number_lt (λ i. f (suc i)) k)
  where
    go : (b : Bool) → as_number (λ i. f (suc i)) k < 2 ^ k → cond b 1 0 + 2 * as_number (λ i. f (suc i)) k < 2 ^ suc k
    go true h = omega arith
    go false h = omega arith

pub number_bit : (f : ℕ → Bool) (k i : ℕ) → i < k → bit (as_number f k) i ≡ f i
unfolding as_number
number_bit f zero i h = absurd (not-suc-le-zero h)
number_bit f (suc k) zero h = bit-zero (as_number f (suc k)) ∙ digit (f 0) (as_number (λ i. f (suc i)) k)
number_bit f (suc k) (suc i) h =
    bit-suc (as_number f (suc k)) i ∙ ap (λ (x : ℕ). bit x i) (rest (f 0) (as_number (λ i. f (suc i)) k)) ∙ number_bit (λ i. f (suc i)) k i (omega arith)

pub pack-length : (f : ℕ → Bool) (k : ℕ) → length (pack f k) ≡ k
unfolding pack
pack-length f zero = refl
pack-length f (suc k) = ap suc (pack-length (λ j. f (32 + j)) k)

pub pack-word : (f : ℕ → Bool) (k i : ℕ) → get_or (pack f k) i 0 < 2 ^ 32
unfolding pack
pack-word f zero i = zero-lt-suc _
pack-word f (suc k) zero = number_lt f 32
pack-word f (suc k) (suc i) = pack-word (λ j. f (32 + j)) k i

pack-at : (f : ℕ → Bool) (k q r : ℕ) → q < k → r < 32 → bit (get_or (pack f k) q 0) r ≡ f (32 * q + r)
unfolding pack
pack-at f zero q r h l = absurd (not-suc-le-zero h)
pack-at f (suc k) zero r h l = number_bit f 32 r l ∙ ap f (let e : r ≡ 32 * 0 + r = omega arith in e)
pack-at f (suc k) (suc q) r h l = pack-at (λ j. f (32 + j)) k q r (omega arith) l ∙ ap f (let e : 32 + (32 * q + r) ≡ 32 * suc q + r = omega arith in e)

pub pack-bit : (f : ℕ → Bool) (k j : ℕ) → j < 32 * k → bit_at (pack f k) j ≡ f j
unfolding bit_at
pack-bit f k j h = pack-at f k (j / 32) (j % 32) (omega arith) (omega arith) ∙ ap f (let e : 32 * (j / 32) + j % 32 ≡ j = omega arith in e)

-- two rows of k words with the same places are equal
pub row-ext : (k : ℕ) (a b : List ℕ) → length a ≡ k → length b ≡ k → ((i : ℕ) → get_or a i 0 < 2 ^ 32) → ((i : ℕ) → get_or b i 0 < 2 ^ 32)
    → ((j : ℕ) → j < 32 * k → bit_at a j ≡ bit_at b j) → a ≡ b
unfolding bit_at
row-ext k a b la lb wa wb h =
    ext_get_or 0 a b (la ∙ sym lb)
    (λ i l. bit-ext 32 (get_or a i 0) (get_or b i 0) (wa i) (wb i) (λ r m.
    ap₂ (λ (x y : ℕ). bit (get_or a x 0) y) (let e : i ≡ (32 * i + r) / 32 = omega arith in e) (let e : r ≡ (32 * i + r) % 32 = omega arith in e)
    ∙ h (32 * i + r) (omega arith)
    ∙ ap₂ (λ (x y : ℕ). bit (get_or b x 0) y) (let e : (32 * i + r) / 32 ≡ i = omega arith in e) (let e : (32 * i + r) % 32 ≡ r = omega arith in e)))

-- a row is its places, packed
pub row-pack : (f : ℕ → Bool) (k : ℕ) (a : List ℕ) → length a ≡ k → ((i : ℕ) → get_or a i 0 < 2 ^ 32) → ((j : ℕ) → j < 32 * k → bit_at a j ≡ f j) → a ≡ pack f k
row-pack f k a l w h = row-ext k a (pack f k) l (pack-length f k) w (pack-word f k) (λ j m. h j m ∙ sym (pack-bit f k j m))

-- no place past the words is set
pub past_the_end : (ws : List ℕ) (j : ℕ) → 32 * length ws ≤ j → bit_at ws j ≡ false
unfolding bit_at
past_the_end ws j h = ap (λ (w : ℕ). bit w (j % 32)) (get_or-eq_default ws 0 {n = j / 32} (omega arith)) ∙ bit_high 0 0 (j % 32) (zero-lt-suc 0) zero-le

-- ---- a written run, place by place

module _ (b : Bool) (ws : List ℕ) (start n : ℕ) where
  pub write_run-length : length (write_run b ws start n) ≡ length ws
  unfolding write_run
  write_run-length = pack-length _ (length ws)

  pub write_run-word : (i : ℕ) → get_or (write_run b ws start n) i 0 < 2 ^ 32
  unfolding write_run
  write_run-word i = pack-word _ (length ws) i

  -- the run's places are b, and every other place is as it was
  pub write_run-bit : start + n ≤ 32 * length ws → (j : ℕ) → bit_at (write_run b ws start n) j ≡ cond (within start n j) b (bit_at ws j)
  unfolding write_run
  write_run-bit h j =
      ⊎_elim (λ (l : j < 32 * length ws). pack-bit (λ i. cond (within start n i) b (bit_at ws i)) (length ws) j l)
      (λ (l : 32 * length ws ≤ j).
      past_the_end (write_run b ws start n) j (rw write_run-length l)
      ∙ sym (past_the_end ws j l)
      ∙ ap (λ (t : Bool). cond t b (bit_at ws j)) (sym (within-after start n j (omega arith))))
      (lt-or-le j (32 * length ws))

  -- a place outside the run is as it was, wherever the run lies
  pub write_run-elsewhere : (j : ℕ) → within start n j ≡ false → bit_at (write_run b ws start n) j ≡ bit_at ws j
  unfolding write_run
  write_run-elsewhere j e =
      ⊎_elim (λ (l : j < 32 * length ws). pack-bit (λ i. cond (within start n i) b (bit_at ws i)) (length ws) j l ∙ ap (λ (t : Bool). cond t b (bit_at ws j)) e)
      (λ (l : 32 * length ws ≤ j). past_the_end (write_run b ws start n) j (rw write_run-length l) ∙ sym (past_the_end ws j l))
      (lt-or-le j (32 * length ws))

  -- a row that is as long and has those places is that row
  pub write_run-is : (r : List ℕ) → length r ≡ length ws → ((i : ℕ) → get_or r i 0 < 2 ^ 32) → ((j : ℕ) → bit_at r j ≡ cond (within start n j) b (bit_at ws j)) → r ≡ write_run b ws start n
  unfolding write_run
  write_run-is r l w h = row-pack (λ j. cond (within start n j) b (bit_at ws j)) (length ws) r l w (λ j m. h j)
