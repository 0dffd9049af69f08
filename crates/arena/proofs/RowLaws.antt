-- The laws of one bitmap of 1,024 places. Assumes nothing.
use Rattle.std.specs.Prelude.{◌≡◌, ◌+◌, ◌/◌, ◌%◌, ◌≤◌, ◌<◌}
use Rattle.arena.proofs.Prelude.{refl, sym, ap, ◌∙◌, Bool, true, false, cond, List, ℕ, zero, suc, arith, get_or, replicate, length-replicate, bit, bit_at, within, write_run, bit_high, within-after, write_run-length, no_bits, IsRow}
use Rattle.bitmap.proofs.words.RowLaws.{Stands, stands, before, inside, beyond, within-yes, within-before, write_run-word, write_run-bit, row-ext}

-- a written row is a row
pub row_write : (b : Bool) (ws : List ℕ) (s n : ℕ) → IsRow ws → IsRow (write_run b ws s n)
row_write b ws s n r = record { long = write_run-length b ws s n ∙ r.long; small = write_run-word b ws s n }

-- what a write leaves of each place
pub bit-write : (b : Bool) (ws : List ℕ) (s n : ℕ) → IsRow ws → s + n ≤ 1024 → (j : ℕ) → bit_at (write_run b ws s n) j ≡ cond (within s n j) b (bit_at ws j)
bit-write b ws s n r h j = write_run-bit b ws s n (omega (arith, r.long)) j

module _ (b : Bool) (ws : List ℕ) (s n : ℕ) (r : IsRow ws) (h : s + n ≤ 1024) (j : ℕ) where
  pub bit_in : s ≤ j → j < s + n → bit_at (write_run b ws s n) j ≡ b
  bit_in l m = bit-write b ws s n r h j ∙ ap (λ (t : Bool). cond t b (bit_at ws j)) (within-yes s n j l m)

  pub bit-out : within s n j ≡ false → bit_at (write_run b ws s n) j ≡ bit_at ws j
  bit-out e = bit-write b ws s n r h j ∙ ap (λ (t : Bool). cond t b (bit_at ws j)) e

  pub bit_past : s + n ≤ j → bit_at (write_run b ws s n) j ≡ bit_at ws j
  bit_past l = bit-out (within-after s n j l)

-- two rows with the same places are one
pub row_same : (a b : List ℕ) → IsRow a → IsRow b → ((j : ℕ) → bit_at a j ≡ bit_at b j) → a ≡ b
row_same a b ra rb h = row-ext 32 a b ra.long rb.long ra.small rb.small (λ j l. h j)

-- writing what stands there changes nothing
pub write_same : (b : Bool) (ws : List ℕ) (s n : ℕ) → IsRow ws → s + n ≤ 1024 → ((j : ℕ) → s ≤ j → j < s + n → bit_at ws j ≡ b) → write_run b ws s n ≡ ws
write_same b ws s n r h e = row_same (write_run b ws s n) ws (row_write b ws s n r) r (λ j. go j (stands s n j))
  where
    go : (j : ℕ) → Stands s n j → bit_at (write_run b ws s n) j ≡ bit_at ws j
    go j (before p) = bit-out b ws s n r h j (within-before s n j p)
    go j (inside p q) = bit_in b ws s n r h j p q ∙ sym (e j p q)
    go j (beyond p) = bit_past b ws s n r h j p

-- the second of two writes of one run counts
pub write_again : (b c : Bool) (ws : List ℕ) (s n : ℕ) → IsRow ws → s + n ≤ 1024 → write_run b (write_run c ws s n) s n ≡ write_run b ws s n
write_again b c ws s n r h =
    row_same (write_run b (write_run c ws s n) s n) (write_run b ws s n) (row_write b (write_run c ws s n) s n (row_write c ws s n r)) (row_write b ws s n r)
    (λ j. bit-write b (write_run c ws s n) s n (row_write c ws s n r) h j ∙ go j (within s n j) (bit-write c ws s n r h j) ∙ sym (bit-write b ws s n r h j))
  where
    go : (j : ℕ) (t : Bool) → bit_at (write_run c ws s n) j ≡ cond t c (bit_at ws j) → cond t b (bit_at (write_run c ws s n) j) ≡ cond t b (bit_at ws j)
    go j true e = refl
    go j false e = e

-- ---- the row with no bit

zeros-at : (k i : ℕ) → ◌≡◌ {A = ℕ} (get_or (replicate k 0) i 0) 0
zeros-at zero i = refl
zeros-at (suc k) zero = refl
zeros-at (suc k) (suc i) = zeros-at k i

pub no-bits-row : IsRow no_bits
no-bits-row = record { long = length-replicate {A = ℕ} 32 0; small = λ i. omega (arith, zeros-at 32 i) }

pub bit_at-no_bits : (j : ℕ) → bit_at no_bits j ≡ false
unfolding bit_at
bit_at-no_bits j = ap (λ (w : ℕ). bit w (j % 32)) (zeros-at 32 (j / 32)) ∙ bit_high 0 0 (j % 32) (omega arith) (omega arith)
