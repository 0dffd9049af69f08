-- The law of the lowest run: an answer that is right is the one that `lowest_run` computes, and the other way round. And the law of a scan: what is known
-- of the places passed, and how a stretch of free or of taken places moves it. Over any test of a place. Assumes nothing.
use Rattle.std.specs.Prelude.{◌≡◌, ◌&&◌, ◌+◌, ◌≤◌, ◌<◌, Option, Some, None}
use Rattle.walks.proofs.Prelude.{refl, sym, ap, ap₂, ◌∙◌, subst, Bool, true, false, cond, true≢false, ⊎_elim, ℕ, zero, suc, max, eq-or-lt_of_le, arith, le-leb, leb-true, leb}
use mathlib.Core.Logic.{◌↔◌}
use native.Mathlib.Nat.{le_refl}
use Rattle.bitmap.proofs.words.RowLaws.{lt-or-le}
use Rattle.bitmap.specs.Lowest.{Free, Starts, Lowest, all, least, lowest_run}

-- ---- `all`

pub all-free-of : (p : ℕ → Bool) (s n : ℕ) → all p s n ≡ true → Free p s n
unfolding all
all-free-of p s zero e j l h = absurd (omega arith)
all-free-of p s (suc n) e j l h = go (p s) refl (λ f i. all-free-of p (suc s) n f j i (omega arith))
  where
    go : (b : Bool) → p s ≡ b → (all p (suc s) n ≡ true → s < j → p j ≡ true) → p j ≡ true
    go true q rec =
        ⊎_elim (λ (i : s ≡ j). subst (λ (x : ℕ). p x ≡ true) i q)
        (λ (i : s < j). rec (sym (ap (λ (b : Bool). cond b (all p (suc s) n) false) q) ∙ e) i) (eq-or-lt_of_le l)
    go false q rec = absurd (true≢false (sym e ∙ ap (λ (b : Bool). cond b (all p (suc s) n) false) q))

pub free_all : (p : ℕ → Bool) (s n : ℕ) → Free p s n → all p s n ≡ true
unfolding all
free_all p s zero h = refl
free_all p s (suc n) h =
    ap (λ (b : Bool). cond b (all p (suc s) n) false) (h s (le_refl s) (omega arith))
    ∙ free_all p (suc s) n (λ j l k. h j (omega arith) (omega arith))

-- ---- `least`

pub least-none : (p : ℕ → Bool) (s k : ℕ) → ((t : ℕ) → s ≤ t → t < s + k → p t ≡ false) → least p s k ≡ None
unfolding least
least-none p s zero h = refl
least-none p s (suc k) h =
    ap (λ (b : Bool). cond b (Some s) (least p (suc s) k)) (h s (le_refl s) (omega arith))
    ∙ least-none p (suc s) k (λ t l m. h t (omega arith) (omega arith))

pub least_at : (p : ℕ → Bool) (s k x : ℕ) → s ≤ x → x < s + k → p x ≡ true → ((t : ℕ) → s ≤ t → t < x → p t ≡ false) → least p s k ≡ Some x
unfolding least
least_at p s zero x l m e h = absurd (omega arith)
least_at p s (suc k) x l m e h =
    ⊎_elim
    (λ (i : s ≡ x). ap (λ (b : Bool). cond b (Some s) (least p (suc s) k)) (subst (λ (y : ℕ). p y ≡ true) (sym i) e) ∙ ap Some i)
    (λ (i : s < x).
    ap (λ (b : Bool). cond b (Some s) (least p (suc s) k)) (h s (le_refl s) i)
    ∙ least_at p (suc s) k x i (omega arith) e (λ t u v. h t (omega arith) v))
    (eq-or-lt_of_le l)

-- what an answer says: the first place at which p holds, or that there is none
abbrev pub First : (ℕ → Bool) → ℕ → ℕ → Option ℕ → Type 0
First p s k (Some x) = (s ≤ x) × (x < s + k) × (p x ≡ true) × ((t : ℕ) → s ≤ t → t < x → p t ≡ false)
First p s k None = (t : ℕ) → s ≤ t → t < s + k → p t ≡ false

pub first_says : (p : ℕ → Bool) (s k : ℕ) → First p s k (least p s k)
unfolding least
first_says p s zero = λ t u v. absurd (omega arith)
first_says p s (suc k) = go (p s) refl (least p (suc s) k) (first_says p (suc s) k)
  where
    go : (b : Bool) → p s ≡ b → (r : Option ℕ) → First p (suc s) k r → First p s (suc k) (cond b (Some s) r)
    go true e r h = (le_refl s, omega arith, e, λ t u v. absurd (omega arith))
    go false e (Some x) h =
        (omega arith, omega arith, h.2, λ t u v. ⊎_elim (λ (q : s < t). h.3 t q v) (λ (q : t ≤ s). ap p (let z : t ≡ s = omega arith in z) ∙ e) (lt-or-le s t))
    go false e None h = λ t u v. ⊎_elim (λ (q : s < t). h t q (omega arith)) (λ (q : t ≤ s). ap p (let z : t ≡ s = omega arith in z) ∙ e) (lt-or-le s t)

-- ---- the answer that is right is the one that is computed

module _ (free : ℕ → Bool) (places n : ℕ) where
  can : ℕ → Bool
  can s = leb (s + n) places && all free s n

  yes-can : (s : ℕ) → Starts free places n s → can s ≡ true
  unfolding can
  yes-can s h = ap₂ ◌&&◌ (le-leb (s + n) places h.room) (free_all free s n h.all-free)

  no-can : (s : ℕ) → (Starts free places n s → ⊥) → can s ≡ false
  unfolding can
  no-can s h = go (leb (s + n) places) refl (all free s n) refl
    where
      go : (a : Bool) → leb (s + n) places ≡ a → (b : Bool) → all free s n ≡ b → a && b ≡ false
      go false p b q = refl
      go true p false q = refl
      go true p true q = absurd (h (record { room = leb-true (s + n) places p; all-free = all-free-of free s n q }))

  pub lowest-is : (r : Option ℕ) → Lowest free places n r → r ≡ lowest_run free places n
  unfolding can lowest_run
  lowest-is (Some s) h = sym (least_at can 0 (suc places) s (omega arith) (omega (arith, h.0.room)) (yes-can s h.0) (λ t l m. no-can t (h.1 t m)))
  lowest-is None h = sym (least-none can 0 (suc places) (λ t l m. no-can t (h t)))

  -- and the other way round: what is computed is right
  can-starts : (s : ℕ) → can s ≡ true → Starts free places n s
  unfolding can
  can-starts s e = go (leb (s + n) places) refl (all free s n) refl e
    where
      go : (a : Bool) → leb (s + n) places ≡ a → (b : Bool) → all free s n ≡ b → a && b ≡ true → Starts free places n s
      go false p b q f = absurd (true≢false (sym f))
      go true p false q f = absurd (true≢false (sym f))
      go true p true q f = record { room = leb-true (s + n) places p; all-free = all-free-of free s n q }

  least-says : (s k : ℕ) → ((t : ℕ) → t < s → can t ≡ false) → s + k ≡ suc places → Lowest free places n (least can s k)
  unfolding least
  least-says s zero h q = λ t g. true≢false (sym (yes-can t g) ∙ h t (omega (arith, g.room)))
  least-says s (suc k) h q = go (can s) refl (λ f. least-says (suc s) k f (omega arith))
    where
      go : (b : Bool) → can s ≡ b → (((t : ℕ) → t < suc s → can t ≡ false) → Lowest free places n (least can (suc s) k))
          → Lowest free places n (cond b (Some s) (least can (suc s) k))
      go true c rec = (can-starts s c, λ t m g. true≢false (sym (yes-can t g) ∙ h t m))
      go false c rec = rec (λ t m. ⊎_elim (λ (i : t < s). h t i) (λ (i : s ≤ t). ap can (let z : t ≡ s = omega arith in z) ∙ c) (lt-or-le t s))

  pub lowest-says : Lowest free places n (lowest_run free places n)
  unfolding can lowest_run
  lowest-says = least-says 0 (suc places) (λ t m. absurd (omega arith)) (omega arith)

  -- ---- a scan: s is where a run may still start, and i the next place to look at
  pub record Scanned (s i : ℕ) : Type 0 where
    pub low : s ≤ i
    pub short : i < s + n
    pub gap : (j : ℕ) → s ≤ j → j < i → free j ≡ true
    pub none : (t : ℕ) → t < s → Free free t n → ⊥

  pub begin : 0 < n → Scanned 0 0
  begin h = record { low = omega arith; short = omega arith; gap = λ j l m. absurd (omega arith); none = λ t l. absurd (omega arith) }

  -- the places from i up to k are taken
  pub taken : (s i k : ℕ) → Scanned s i → i < k → 0 < n → ((j : ℕ) → i ≤ j → j < k → free j ≡ false) → Scanned k k
  taken s i k c l h busy = record {
    low = le_refl k;
    short = omega arith;
    gap = λ j p q. absurd (omega arith);
    none = λ t p g. ⊎_elim (λ (q : t < s). c.none t q g) (λ (q : s ≤ t).
        -- the run from t on covers the later of t and i, which is taken
        true≢false (sym (g (max t i) (omega arith) (omega (arith, c.short))) ∙ busy (max t i) (omega arith) (omega arith))) (lt-or-le t s);
  }

  -- the places from i up to k are free, and the run is still too short
  pub freed : (s i k : ℕ) → Scanned s i → i ≤ k → k < s + n → ((j : ℕ) → i ≤ j → j < k → free j ≡ true) → Scanned s k
  freed s i k c l h gap = record {
    low = omega (arith, c.low);
    short = h;
    gap = λ j p q. ⊎_elim (λ (m : j < i). c.gap j p m) (λ (m : i ≤ j). gap j m q) (lt-or-le j i);
    none = c.none;
  }

  -- the places from i up to k are free, and the run is long enough
  pub found : (s i k : ℕ) → Scanned s i → s + n ≤ places → s + n ≤ k → ((j : ℕ) → i ≤ j → j < k → free j ≡ true) → Lowest free places n (Some s)
  found s i k c l h gap = (
    record { room = l; all-free = λ j p q. ⊎_elim (λ (m : j < i). c.gap j p m) (λ (m : i ≤ j). gap j m (omega arith)) (lt-or-le j i) },
    λ t m g. c.none t m g.all-free,
  )

  -- a run from s on would pass the end
  pub nowhere : (s i : ℕ) → Scanned s i → places < s + n → Lowest free places n None
  nowhere s i c l = λ t g. ⊎_elim (λ (m : t < s). c.none t m g.all-free) (λ (m : s ≤ t). omega (arith, g.room)) (lt-or-le t s)

  -- ---- the definition, by what it means
  pub at-iff : (s : ℕ) → (lowest_run free places n ≡ Some s) ↔ (Starts free places n s × ((t : ℕ) → t < s → Starts free places n t → ⊥))
  at-iff s = (λ e. subst (Lowest free places n) e lowest-says, λ h. sym (lowest-is (Some s) h))

  pub nothing-iff : (lowest_run free places n ≡ None) ↔ ((t : ℕ) → Starts free places n t → ⊥)
  nothing-iff = (λ e. subst (Lowest free places n) e lowest-says, λ h. sym (lowest-is None h))
