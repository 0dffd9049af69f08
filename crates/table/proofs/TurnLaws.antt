-- A loop that looks at place after place: what it knows before each turn, and what that says once it ends. Assumes nothing.
use Rattle.std.specs.Prelude.{◌≡◌, ◌+◌, ◌<◌, ◌≤◌}
use Rattle.state.proofs.Prelude.{sym, subst, ◌∙◌, Bool, true, false, true≢false, ⊎_elim, ℕ, arith, not-suc-le-zero, Some, None, all, least, least-none, all-free-of, free_all, never}
use Rattle.bitmap.proofs.words.RowLaws.{lt-or-le}
use Rattle.bitmap.proofs.runs.LowestLaws.{least_at}

-- p is b at each place below i
abbrev pub Passed : Bool → (ℕ → Bool) → ℕ → Type 0
Passed b p i = (j : ℕ) → j < i → p j ≡ b

pub passed_none : (b : Bool) (p : ℕ → Bool) → Passed b p 0
passed_none b p j h = absurd (not-suc-le-zero h)

pub passed-more : (b : Bool) (p : ℕ → Bool) (i : ℕ) → Passed b p i → p i ≡ b → Passed b p (i + 1)
passed-more b p i h e j l =
    ⊎_elim (λ (m : j < i). h j m) (λ (m : i ≤ j). let same : i ≡ j = omega (arith, l, m) in subst (λ (x : ℕ). p x ≡ b) same e) (lt-or-le j i)

module _ (p : ℕ → Bool) (k : ℕ) where
  -- a search: no place before has p
  pub found_at : (i : ℕ) → i < k → Passed false p i → p i ≡ true → Some i ≡ least p 0 k
  found_at i l h e = sym (least_at p 0 k i (omega arith) (omega (arith, l)) e (λ j _ m. h j m))

  pub found_none : Passed false p k → None ≡ least p 0 k
  found_none h = sym (least-none p 0 k (λ j _ m. h j (omega (arith, m))))

  -- a test: each place before has p
  pub all-passed : Passed true p k → all p 0 k ≡ true
  all-passed h = free_all p 0 k (λ j _ m. h j (omega (arith, m)))

  pub one-fails : (i : ℕ) → i < k → p i ≡ false → all p 0 k ≡ false
  one-fails i l e = never (all p 0 k) (λ t. true≢false (sym (all-free-of p 0 k t i (omega arith) (omega (arith, l))) ∙ e))
