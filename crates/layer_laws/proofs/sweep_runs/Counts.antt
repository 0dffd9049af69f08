-- Counting places, and the pending bits of a table after a store. Assumes nothing.
use Rattle.std.specs.Prelude.{◌≡◌, ◌+◌, ◌<◌, ◌≤◌}
use Rattle.layer.proofs.Prelude.{refl, ap, ap₂, ◌∙◌, Bool, true, false, cond, List, ℕ, zero, suc, arith, ℕ_discrete, length, set, Arena, at}
use Rattle.layer.proofs.Tools.{at_same, at_other}
use Rattle.layer_laws.specs.sweep_runs.Run.{count, pending_in, pending_bits}

-- ---- places

-- tests that agree count alike
pub count_same : (p q : ℕ → Bool) (s n : ℕ) → ((j : ℕ) → s ≤ j → j < s + n → p j ≡ q j) → count p s n ≡ count q s n
unfolding count
count_same p q s zero h = refl
count_same p q s (suc n) h =
    ap₂ ◌+◌ (ap (λ (b : Bool). cond b 1 0) (h s (omega arith) (omega arith))) (count_same p q (suc s) n (λ j u v. h j (omega arith) (omega arith)))

-- a place that is no longer counted
pub count_less : (p q : ℕ → Bool) (s n x : ℕ) → s ≤ x → x < s + n → p x ≡ true → q x ≡ false → ((j : ℕ) → (j ≡ x → ⊥) → p j ≡ q j) → suc (count q s n) ≡ count p s n
unfolding count
count_less p q s zero x u v e f h = absurd (let z : ◌≡◌ {A = ℕ} 0 1 = omega arith in omega arith)
count_less p q s (suc n) x u v e f h = go (ℕ_discrete s x) (λ a. count_less p q (suc s) n x a (omega arith) e f h)
  where
    go : Dec (s ≡ x) → (suc s ≤ x → suc (count q (suc s) n) ≡ count p (suc s) n) → suc (count q s (suc n)) ≡ count p s (suc n)
    go (yes i) more =
        let a : q s ≡ false = ap q i ∙ f in
        let b : p s ≡ true = ap p i ∙ e in
        let c : count p (suc s) n ≡ count q (suc s) n = count_same p q (suc s) n (λ j m k. h j (λ z. absurd (let y : ◌≡◌ {A = ℕ} 0 1 = omega arith in omega arith))) in
        rw (a, b) (omega arith)
    go (no i) more =
        let a : p s ≡ q s = h s i in
        let c : suc (count q (suc s) n) ≡ count p (suc s) n = more (omega arith) in
        rw a (omega arith)

-- a place that is counted
pub count-some : (p : ℕ → Bool) (s n x : ℕ) → s ≤ x → x < s + n → p x ≡ true → 1 ≤ count p s n
unfolding count
count-some p s zero x u v e = absurd (let z : ◌≡◌ {A = ℕ} 0 1 = omega arith in omega arith)
count-some p s (suc n) x u v e = go (ℕ_discrete s x) (λ a. count-some p (suc s) n x a (omega arith) e)
  where
    go : Dec (s ≡ x) → (suc s ≤ x → 1 ≤ count p (suc s) n) → 1 ≤ count p s (suc n)
    go (yes i) more = let b : p s ≡ true = ap p i ∙ e in rw b (omega arith)
    go (no i) more = let c : 1 ≤ count p (suc s) n = more (omega arith) in omega (arith, c)

-- ---- a table

-- a store past the counted arenas, and in one of them: its record's bits count in the place of the old one's
pub bits-past : (l : List Arena) (i : ℕ) (a : Arena) (k : ℕ) → k ≤ i → pending_bits (set l i a) k ≡ pending_bits l k
unfolding pending_bits
bits-past l i a zero h = refl
bits-past l i a (suc k) h =
    ap₂ ◌+◌ (bits-past l i a k (omega arith)) (ap pending_in (at_other l i k a (λ e. absurd (let z : ◌≡◌ {A = ℕ} 0 1 = omega arith in omega arith))))

pub bits_put : (l : List Arena) (i : ℕ) (a : Arena) (k : ℕ) → i < k → i < length l → pending_bits (set l i a) k + pending_in (at l i) ≡ pending_bits l k + pending_in a
unfolding pending_bits
bits_put l i a zero h long = absurd (let z : ◌≡◌ {A = ℕ} 0 1 = omega arith in omega arith)
bits_put l i a (suc k) h long = go (ℕ_discrete k i) (λ u. bits_put l i a k u long)
  where
    go : Dec (k ≡ i) → (i < k → pending_bits (set l i a) k + pending_in (at l i) ≡ pending_bits l k + pending_in a)
        → pending_bits (set l i a) (suc k) + pending_in (at l i) ≡ pending_bits l (suc k) + pending_in a
    go (yes e) more =
        let b : pending_in (at (set l i a) k) ≡ pending_in a = ap (λ (x : ℕ). pending_in (at (set l i a) x)) e ∙ ap pending_in (at_same l i a long) in
        let c : pending_bits (set l i a) k ≡ pending_bits l k = bits-past l i a k (omega arith) in
        let d : pending_in (at l k) ≡ pending_in (at l i) = ap (λ (x : ℕ). pending_in (at l x)) e in
        omega arith
    go (no e) more =
        let b : pending_in (at (set l i a) k) ≡ pending_in (at l k) = ap pending_in (at_other l i k a e) in
        let c : pending_bits (set l i a) k + pending_in (at l i) ≡ pending_bits l k + pending_in a = more (omega arith) in
        omega arith

-- a counted arena's bits are among the table's
pub bits-some : (l : List Arena) (i k : ℕ) → i < k → pending_in (at l i) ≤ pending_bits l k
unfolding pending_bits
bits-some l i zero h = absurd (let z : ◌≡◌ {A = ℕ} 0 1 = omega arith in omega arith)
bits-some l i (suc k) h = go (ℕ_discrete k i) (λ u. bits-some l i k u)
  where
    go : Dec (k ≡ i) → (i < k → pending_in (at l i) ≤ pending_bits l k) → pending_in (at l i) ≤ pending_bits l (suc k)
    go (yes e) more = let d : pending_in (at l k) ≡ pending_in (at l i) = ap (λ (x : ℕ). pending_in (at l x)) e in omega (arith, d)
    go (no e) more = let c : pending_in (at l i) ≤ pending_bits l k = more (omega arith) in omega (arith, c)
