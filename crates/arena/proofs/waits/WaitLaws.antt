-- A bound on the shortest wait; and the shortest so far, from one pending chunk to the next. Assumes nothing.
use Rattle.std.specs.Prelude.{◌≡◌, ◌&&◌, ◌-◌, ◌+◌, ◌≤◌}
use Rattle.arena.proofs.Prelude.{refl, sym, ap, ◌∙◌, subst, Bool, true, false, cond, List, ℕ, zero, suc, arith, bit_at, Option, Some, None, least, young, nearer, wait_in}
use Prim.Native.Nat.{min}
use Rattle.arena.specs.Sweeping.{nearest, wait}
use Rattle.arena.proofs.ScanLaws.{scan-found, scan-none}

-- ---- a bound on each number is one on the least

abbrev AtMost : ℕ → Option ℕ → Type 0
AtMost m (Some w) = w ≤ m
AtMost m None = Unit {0}

nearest-most : (p : ℕ → Bool) (f : ℕ → ℕ) (m : ℕ) → ((j : ℕ) → f j ≤ m) → (s k : ℕ) → AtMost m (nearest p f s k)
unfolding nearest
nearest-most p f m h s zero = tt
nearest-most p f m h s (suc k) = go (p s) (nearest p f (suc s) k) (nearest-most p f m h (suc s) k)
  where
    go : (b : Bool) (r : Option ℕ) → AtMost m r → AtMost m (cond b (nearer (f s) r) r)
    go true (Some w) q = omega (arith, h s)
    go true None q = h s
    go false r q = q

-- ---- the least so far, and that of the places to come

abbrev pub joined : Option ℕ → Option ℕ → Option ℕ
joined None r = r
joined (Some x) r = nearer x r

joined-nothing : (best : Option ℕ) → joined best None ≡ best
joined-nothing (Some x) = refl
joined-nothing None = refl

nearer-swap : (x w : ℕ) (r : Option ℕ) → nearer x (nearer w r) ≡ nearer (min w x) r
nearer-swap x w (Some z) = ap Some (let e : min x (min w z) ≡ min (min w x) z = omega arith in e)
nearer-swap x w None = ap Some (let e : min x w ≡ min w x = omega arith in e)

joined_step : (b : Bool) (w : ℕ) (best r : Option ℕ) → joined best (cond b (nearer w r) r) ≡ joined (cond b (nearer w best) best) r
joined_step false w best r = refl
joined_step true w None r = refl
joined_step true w (Some x) r = nearer-swap x w r

-- ---- the next sweep

module _ (pending : List ℕ) (chunks : ℕ) (stamps : List ℕ) (now delay : ℕ) where
  -- the waits from chunk `at` on
  unfoldable pub waits_from : ℕ → Option ℕ
  waits_from at = nearest (λ j. bit_at pending j && young stamps false now delay j) (wait stamps now delay) at (chunks - at)

  pub waits_all : waits_from 0 ≡ wait_in pending chunks stamps now delay
  unfolding waits_from wait_in
  waits_all =
      ap (nearest (λ j. bit_at pending j && young stamps false now delay j) (wait stamps now delay) 0) (let z : chunks - 0 ≡ chunks = omega arith in z)

  pub waits_past : (at j : ℕ) (best : Option ℕ) → Some j ≡ least (bit_at pending) at (chunks - at)
      → joined best (waits_from at) ≡ joined (cond (young stamps false now delay j) (nearer (wait stamps now delay j) best) best) (waits_from (j + 1))
  unfolding waits_from nearest
  waits_past at j best e =
      ap (joined best)
      (scan-found (bit_at pending) (young stamps false now delay) (λ s r. nearer (wait stamps now delay s) r)
      (nearest (λ j. bit_at pending j && young stamps false now delay j) (wait stamps now delay)) (λ s. refl) (λ s k. refl) chunks at j e)
      ∙ joined_step (young stamps false now delay j) (wait stamps now delay j) best _

  pub waits_end : (at : ℕ) (best : Option ℕ) → None ≡ least (bit_at pending) at (chunks - at) → joined best (waits_from at) ≡ best
  unfolding waits_from nearest
  waits_end at best e =
      ap (joined best)
      (scan-none (bit_at pending) (young stamps false now delay) (λ s r. nearer (wait stamps now delay s) r)
      (nearest (λ j. bit_at pending j && young stamps false now delay j) (wait stamps now delay)) (λ s. refl) (λ s k. refl) chunks at e)
      ∙ joined-nothing best

  -- no wait is longer than the delay
  pub wait_most : (w : ℕ) → Some w ≡ wait_in pending chunks stamps now delay → w ≤ delay
  unfolding wait_in wait
  wait_most w e =
      subst (AtMost delay) (sym e) (nearest-most (λ j. bit_at pending j && young stamps false now delay j) (wait stamps now delay) delay (λ j. omega arith) 0 chunks)
