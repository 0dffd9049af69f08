-- A sweep at one arena, case by case. Assumes nothing.
use Rattle.std.specs.Prelude.{◌≡◌, ◌+◌, ◌-◌, ◌*◌, ◌^◌, ◌<◌, ◌≤◌}
use Rattle.state.proofs.Prelude.{refl, sym, ap, ◌∙◌, subst, Bool, true, false, List, ℕ, arith, set, set-get_or, when, unless, by_cond, Option, Some, None, First, first_says, Arena, with_deadline, sweep_due, disarm, borrow_chunk, stamps_of, next_deadline, Sweep, blank, at}
use native.Mathlib.Nat.{mul-le-mul_right}
use Rattle.arena.specs.Sweeping.{to_ask, next_asked}
use Rattle.arena.proofs.purge.MapLaws.{next-disarmed, rearm-disarmed}
use Rattle.layer.proofs.Kept.{disarm-range, borrow-range, rearm-range}
use Rattle.sweeping.specs.Visit.{asked_at, left_by, visited}

-- the next chunk to ask about
abbrev pub next : Sweep → Arena → List ℕ → ℕ → Option ℕ
next w a stamps from = next_asked a stamps w.force w.now w.delay from

-- by what a search of the code had before it, and what it found
pub next-found : {v : Sweep} {a b : Arena} {stamps own : List ℕ} {force : Bool} {now delay : ℕ} {r found : Option ℕ} (w : Sweep) (from : ℕ)
    → v ≡ w → b ≡ a → own ≡ stamps → (force ≡ v.force) × (now ≡ v.now) × (delay ≡ v.delay) → r ≡ next_asked b own force now delay from → r ≡ found → next w a stamps from ≡ found
next-found w from v b own t r found = let n = rw (b, own, t.0, t.1, t.2, v) at r in sym n ∙ found

-- it lies inside its arena
pub next-inside : (w : Sweep) (a : Arena) (stamps : List ℕ) (from j : ℕ) → next w a stamps from ≡ Some j → j < a.chunks
unfolding next_asked
next-inside w a stamps from j e =
    let p = to_ask a stamps w.force w.now w.delay in
    let k : First p from (a.chunks - from) (Some j) = subst (First p from (a.chunks - from)) e (first_says p from (a.chunks - from)) in
    omega (arith, k.0)

-- and its address is in its arena's range
pub chunk-room : (S : ℕ) (a : Arena) (j : ℕ) → j < a.chunks → a.base + a.chunks * S < 2 ^ 64 → a.base + j * S < 2 ^ 64
chunk-room S a j h r = let z : j * S ≤ a.chunks * S = mul-le-mul_right S (omega arith) in omega arith

-- ---- the ways of a visit

module _ (l : List Arena) (stamps : List ℕ) (i : ℕ) (w : Sweep) where
  abbrev a : Arena
  a = at l i

  abbrev own : List ℕ
  own = stamps_of stamps i

  abbrev f : Option ℕ
  f = next w a own 0

  -- what a visit that says f and leaves m comes to
  abbrev pub Visits : Option ℕ → List Arena → Type 0
  Visits x m = (x ≡ asked_at w a own) × (m ≡ set l i (visited w a own))

  -- the arena is passed by
  pub passed-by : sweep_due a w.force w.now ≡ false → Visits None l
  unfolding asked_at visited
  passed-by e = (sym (unless _ _ _ e), sym (ap (set l i) (unless _ _ _ e) ∙ set-get_or l i blank))

  module _ (e : sweep_due a w.force w.now ≡ true) where
    asks : (x : Option ℕ) → f ≡ x → (x ≡ asked_at w a own) × (left_by w (disarm a) own x ≡ visited w a own)
    unfolding asked_at visited
    asks x g =
        let n : next w (disarm a) own 0 ≡ x = next-disarmed a own w.force w.now w.delay 0 ∙ g in
        (sym (when _ _ _ e ∙ n), sym (when _ _ _ e ∙ ap (left_by w (disarm a) own) n))

    -- a chunk is asked about
    pub borrowed : (j : ℕ) → f ≡ Some j → Visits (Some j) (set l i (borrow_chunk (disarm a) j))
    borrowed j g = let h = asks (Some j) g in (h.0, ap (set l i) h.1)

    -- none is
    pub armed : f ≡ None → Visits None (set l i (with_deadline a (next_deadline 0 a.pending a.chunks own w.force w.now w.delay)))
    armed g = let h = asks None g in (h.0, ap (set l i) (rearm-disarmed a own w.force w.now w.delay ∙ h.1))

-- ---- a visit leaves the range

left-range : (w : Sweep) (a : Arena) (stamps : List ℕ) (f : Option ℕ) → ((left_by w a stamps f).base ≡ a.base) × ((left_by w a stamps f).chunks ≡ a.chunks)
left-range w a stamps (Some j) = borrow-range a j
left-range w a stamps None = rearm-range a stamps w.force w.now w.delay

pub visited-range : (w : Sweep) (a : Arena) (stamps : List ℕ) → ((visited w a stamps).base ≡ a.base) × ((visited w a stamps).chunks ≡ a.chunks)
unfolding visited
visited-range w a stamps =
    by_cond (λ (b : Arena). (b.base ≡ a.base) × (b.chunks ≡ a.chunks)) (sweep_due a w.force w.now) _ _
    (λ e. let r = left-range w (disarm a) stamps (next w (disarm a) stamps 0) in (r.0 ∙ (disarm-range a).0, r.1 ∙ (disarm-range a).1))
    (λ e. (refl, refl))
