-- A scan that goes from one place at which a test holds to the next, for what a second test says there. Assumes nothing.
use Rattle.std.specs.Prelude.{◌≡◌, ◌&&◌, ◌+◌, ◌-◌, ◌≤◌, ◌<◌}
use Rattle.arena.proofs.Prelude.{refl, sym, ap, ap₂, ◌∙◌, subst, Bool, true, false, cond, ℕ, zero, suc, arith, Option, Some, None, least, First}
use Rattle.bitmap.proofs.runs.LowestLaws.{first_says}

-- the place that is found is one of those looked at
pub found_bounds : (p : ℕ → Bool) (places at x : ℕ) → Some x ≡ least p at (places - at) → (at ≤ x) × (x < places)
found_bounds p places at x e =
    let h = subst (First p at (places - at)) (sym e) (first_says p at (places - at)) in
    (h.0, omega (arith, h.0, h.1))

-- F s k looks at the k places from s on: at each that passes both tests it does `act`, and passes the others
module _ (p q : ℕ → Bool) (act : ℕ → Option ℕ → Option ℕ) (F : ℕ → ℕ → Option ℕ)
    (none : (s : ℕ) → F s 0 ≡ None)
    (more : (s k : ℕ) → F s (suc k) ≡ cond (p s && q s) (act s (F (suc s) k)) (F (suc s) k)) where
  -- what it is from a place on that passes the first test
  abbrev pub Found : ℕ → ℕ → Option ℕ
  Found x k = cond (q x) (act x (F (x + 1) k)) (F (x + 1) k)

  found-of : (s k x : ℕ) → Some x ≡ least p s k → F s k ≡ Found x (s + k - (x + 1))
  unfolding least
  found-of s zero x e = cc
  found-of s (suc k) x e = go (p s) refl (found-of (suc s) k x)
    where
      go : (b : Bool) → p s ≡ b → (Some x ≡ least p (suc s) k → F (suc s) k ≡ Found x (suc s + k - (x + 1))) → F s (suc k) ≡ Found x (s + suc k - (x + 1))
      go true h rec =
          let f : Some x ≡ Some s = e ∙ ap (λ (b : Bool). cond b (Some s) (least p (suc s) k)) h in
          let i : x ≡ s = cc in
          more s k
          ∙ ap (λ (b : Bool). cond (b && q s) (act s (F (suc s) k)) (F (suc s) k)) h
          ∙ ap₂ (λ (t : ℕ) (r : Option ℕ). cond (q t) (act t r) r) (sym i) (ap₂ F (let z : suc s ≡ x + 1 = omega arith in z) (let z : k ≡ s + suc k - (x + 1) = omega arith in z))
      go false h rec =
          more s k
          ∙ ap (λ (b : Bool). cond (b && q s) (act s (F (suc s) k)) (F (suc s) k)) h
          ∙ rec (e ∙ ap (λ (b : Bool). cond b (Some s) (least p (suc s) k)) h)
          ∙ ap (Found x) (let z : suc s + k - (x + 1) ≡ s + suc k - (x + 1) = omega arith in z)

  none-of : (s k : ℕ) → None ≡ least p s k → F s k ≡ None
  unfolding least
  none-of s zero e = none s
  none-of s (suc k) e = go (p s) refl (none-of (suc s) k)
    where
      go : (b : Bool) → p s ≡ b → (None ≡ least p (suc s) k → F (suc s) k ≡ None) → F s (suc k) ≡ None
      go true h rec = let f : None ≡ Some s = e ∙ ap (λ (b : Bool). cond b (Some s) (least p (suc s) k)) h in cc
      go false h rec =
          more s k
          ∙ ap (λ (b : Bool). cond (b && q s) (act s (F (suc s) k)) (F (suc s) k)) h
          ∙ rec (e ∙ ap (λ (b : Bool). cond b (Some s) (least p (suc s) k)) h)

  pub scan-found : (places at x : ℕ) → Some x ≡ least p at (places - at) → F at (places - at) ≡ Found x (places - (x + 1))
  scan-found places at x e =
      let h = found_bounds p places at x e in
      found-of at (places - at) x e ∙ ap (Found x) (let z : at + (places - at) - (x + 1) ≡ places - (x + 1) = omega (arith, h.0, h.1) in z)

  pub scan-none : (places at : ℕ) → None ≡ least p at (places - at) → F at (places - at) ≡ None
  scan-none places at e = none-of at (places - at) e
