-- Tests, and a table after a store. Assumes nothing.
use Rattle.std.specs.Prelude.{◌≡◌, ◌||◌, ◌<◌}
use Rattle.layer.proofs.Prelude.{refl, sym, subst, Bool, true, false, cond, not, true≢false, List, ℕ, ℕ_discrete, length, set, Arena, blank, at}
use lib.Seq.{get_or-set_same, get_or-set_other}

pub or-false : (a b : Bool) → a || b ≡ false → (a ≡ false) × (b ≡ false)
or-false true b e = absurd (true≢false e)
or-false false b e = (refl, e)

-- a record after a store: the one that was stored, or as it was
pub at_same : (l : List Arena) (i : ℕ) (a : Arena) → i < length l → at (set l i a) i ≡ a
at_same l i a h = get_or-set_same l i a blank h

pub at_other : (l : List Arena) (i j : ℕ) (a : Arena) → (j ≡ i → ⊥) → at (set l i a) j ≡ at l j
at_other l i j a h = get_or-set_other l i j a blank h

pub by-set : (P : Arena → Type 0) (l : List Arena) (i : ℕ) (a : Arena) → i < length l → P a → (j : ℕ) → ((j ≡ i → ⊥) → P (at l j)) → P (at (set l i a) j)
by-set P l i a h p j q = go (ℕ_discrete j i)
  where
    go : Dec (j ≡ i) → P (at (set l i a) j)
    go (yes e) = subst (λ (x : ℕ). P (at (set l i a) x)) (sym e) (subst P (sym (at_same l i a h)) p)
    go (no e) = subst P (sym (at_other l i j a e)) (q e)

-- what holds of both ways of a test holds of the test turned round
pub by-not : {A : Type 0} (P : A → Type 0) (b : Bool) (x y : A) → (b ≡ true → P y) → (b ≡ false → P x) → P (cond (not b) x y)
by-not P true x y f g = f refl
by-not P false x y f g = g refl
