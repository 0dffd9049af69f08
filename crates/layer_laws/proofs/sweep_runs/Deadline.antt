-- The deadline that is armed at an arena's end is the earliest stamp + delay counted from now. Assumes nothing.
use Rattle.std.specs.Prelude.{◌≡◌, ◌&&◌, ◌+◌, ◌-◌, ◌^◌, ◌<◌, ◌≤◌}
use Rattle.layer.proofs.Prelude.{refl, sym, ap, ap₂, ◌∙◌, subst, Bool, true, false, cond, true≢false, List, ⊎_elim, ℕ, zero, suc, eq-or-lt_of_le, arith, ltb-true, lt-ltb, get_or, bit_at, lt-or-le, Option, Some, None, and_both, or_one, keeps, armed, age_of, Arena, young, next_wait, rearm_at, rearm}
use Prim.Native.Nat.{min}
use Rattle.clock.specs.Clock.{minus, plus, due_at}
use Rattle.arena.specs.Sweeping.{nearer, nearest, wait}
use Rattle.layer_laws.specs.sweep_runs.Deadline.{Gives, given, Next, earliest, none, Clocked, Rearmed, StaysDisarmed}

-- ---- the nearest

module _ (p : ℕ → Bool) (f : ℕ → ℕ) where
  -- x is the least f j over the places from s on at which p holds
  pub record Least (s k x : ℕ) : Type 0 where
    pub place : ℕ
    pub low : s ≤ place
    pub high : place < s + k
    pub holds : p place ≡ true
    pub is : f place ≡ x
    pub least : (i : ℕ) → s ≤ i → i < s + k → p i ≡ true → x ≤ f i

  abbrev pub Nearest : ℕ → ℕ → Option ℕ → Type 0
  Nearest s k (Some x) = Least s k x
  Nearest s k None = (i : ℕ) → s ≤ i → i < s + k → p i ≡ false

  -- one place more, in front
  ahead : (s k : ℕ) (b : Bool) → p s ≡ b → (r : Option ℕ) → Nearest (suc s) k r → Nearest s (suc k) (cond b (nearer (f s) r) r)
  ahead s k true e (Some y) h = ⊎_elim (λ (u : f s < y). mine u) (λ (u : y ≤ f s). theirs u) (lt-or-le (f s) y)
    where
      -- the place in front has the lesser number, or it has not
      mine : f s < y → Least s (suc k) (min (f s) y)
      mine u = record {
        place = s;
        low = omega arith;
        high = omega arith;
        holds = e;
        is = omega arith;
        least = λ i v w t. ⊎_elim (λ (x : s ≡ i). subst (λ (j : ℕ). min (f s) y ≤ f j) x (omega arith)) (λ (x : s < i). let z : y ≤ f i = h.least i x (omega arith) t in omega arith) (eq-or-lt_of_le v);
      }

      theirs : y ≤ f s → Least s (suc k) (min (f s) y)
      theirs u = record {
        place = h.place;
        low = omega (arith, h.low);
        high = omega (arith, h.high);
        holds = h.holds;
        is = h.is ∙ (let z : y ≡ min (f s) y = omega arith in z);
        least = λ i v w t. ⊎_elim (λ (x : s ≡ i). subst (λ (j : ℕ). min (f s) y ≤ f j) x (omega arith)) (λ (x : s < i). let z : y ≤ f i = h.least i x (omega arith) t in omega arith) (eq-or-lt_of_le v);
      }
  ahead s k true e None h = record {
    place = s;
    low = omega arith;
    high = omega arith;
    holds = e;
    is = refl;
    least = λ i v w t. ⊎_elim (λ (x : s ≡ i). subst (λ (j : ℕ). f s ≤ f j) x (omega arith)) (λ (x : s < i). absurd (true≢false (sym t ∙ h i x (omega arith)))) (eq-or-lt_of_le v);
  }
  ahead s k false e (Some y) h = record {
    place = h.place;
    low = omega (arith, h.low);
    high = omega (arith, h.high);
    holds = h.holds;
    is = h.is;
    least = λ i v w t. ⊎_elim (λ (x : s ≡ i). absurd (true≢false (sym t ∙ ap p (sym x) ∙ e))) (λ (x : s < i). h.least i x (omega arith) t) (eq-or-lt_of_le v);
  }
  ahead s k false e None h = λ i v w. ⊎_elim (λ (x : s ≡ i). ap p (sym x) ∙ e) (λ (x : s < i). h i x (omega arith)) (eq-or-lt_of_le v)

  pub nearest-says : (s k : ℕ) → Nearest s k (nearest p f s k)
  unfolding nearest
  nearest-says s zero = λ i u v. absurd (omega arith)
  nearest-says s (suc k) = ahead s k (p s) refl (nearest p f (suc s) k) (nearest-says (suc s) k)

-- ---- the clock

module _ (stamp now delay : ℕ) (s : stamp < 2 ^ 32) (n : now < 2 ^ 32) (d : delay < 2 ^ 32) (y : minus now stamp < delay) where
  due-is : plus now (delay - minus now stamp) ≡ plus stamp delay
  due-is = omega arith

  wait-is : minus (plus stamp delay) now ≡ delay - minus now stamp
  wait-is = omega arith

-- ---- the arena's end

-- over no deadline the due itself is armed, 0 becoming 1
armed-over-none : (due : ℕ) → armed 0 due ≡ or_one due
unfolding armed keeps
armed-over-none due = refl

module _ (a : Arena) (stamps : List ℕ) (now delay : ℕ) (c : Clocked stamps now delay) (z : a.deadline ≡ 0) where
  -- the chunks that the definition looks at are those that give a deadline
  abbrev looks : ℕ → Bool
  looks j = bit_at a.pending j && young stamps false now delay j

  looked : (j : ℕ) → j < a.chunks → looks j ≡ true → Gives a stamps now delay j
  unfolding young
  looked j h e =
      let b = and_both (bit_at a.pending j) _ e in
      record { here = h; pending = b.0; younger = ltb-true (age_of now (get_or stamps j 0)) delay b.1 }

  gives-looked : (j : ℕ) → Gives a stamps now delay j → looks j ≡ true
  unfolding young
  gives-looked j g = ap₂ ◌&&◌ g.pending (lt-ltb (age_of now (get_or stamps j 0)) delay g.younger)

  -- and it counts their deadlines from now
  counts : (j : ℕ) → Gives a stamps now delay j → minus (given a stamps now delay j) now ≡ wait stamps now delay j
  unfolding wait
  counts j g = wait-is (get_or stamps j 0) now delay (c.2 j) c.0 c.1 g.younger

  falls-due : (j : ℕ) → Gives a stamps now delay j → due_at now (wait stamps now delay j) ≡ given a stamps now delay j
  unfolding wait
  falls-due j g = due-is (get_or stamps j 0) now delay (c.2 j) c.0 c.1 g.younger

  next : (f : Option ℕ) → Nearest looks (wait stamps now delay) 0 a.chunks f → Next a stamps now delay (rearm_at a now f).deadline
  next (Some x) h =
      let g : Gives a stamps now delay h.place = looked h.place (omega (arith, h.high)) h.holds in
      subst (Next a stamps now delay)
      (sym (ap (λ (d : ℕ). armed d (due_at now x)) z ∙ armed-over-none (due_at now x) ∙ ap (λ (y : ℕ). or_one (due_at now y)) (sym h.is) ∙ ap or_one (falls-due h.place g)))
      (earliest h.place g
      (λ i k. let u : x ≤ wait stamps now delay i = h.least i (omega arith) (omega (arith, k.here)) (gives-looked i k) in omega (arith, counts h.place g, counts i k, h.is)))
  next None h = subst (Next a stamps now delay) (sym z) (none (λ j g. true≢false (sym (gives-looked j g) ∙ h j (omega arith) (omega (arith, g.here)))))

-- "a next deadline of stamp + delay, wrapping, the earliest counted from now being rearmed after the arena"
pub rearmed : Rearmed
unfolding rearm next_wait
rearmed a stamps now delay c z = next a stamps now delay c z (nearest (looks a stamps now delay c z) (wait stamps now delay) 0 a.chunks) (nearest-says _ (wait stamps now delay) 0 a.chunks)

pub stays-disarmed : StaysDisarmed
unfolding rearm
stays-disarmed a stamps now delay z = z
