-- The test of numbers field by field says whether they are a state's. Assumes nothing.
use Rattle.std.specs.Prelude.{◌≡◌, ◌&&◌, ◌||◌, ◌<◌, ◌≤◌}
use Rattle.state.proofs.Prelude.{refl, sym, ap, ap₂, ◌∙◌, subst, Bool, true, false, cond, true≢false, ℕ, arith, eqb-true, leb-true, leb-false, eqb, leb, by_cond, same, and_both, as_flag, State, Question, Idle, Committing, Purging, Reserving, GivingBack, Waiting, Reserve, Claim, Unusable, Count, Misaligned, Full}
use borrow.Author.Tests.{eqb-false}
use Rattle.layer.specs.World.{state_with}
use Rattle.surface.specs.declared.StateNumbers.{StateNumbers}
use Rattle.surface.specs.Numbers.{sweep_in, state_of, state_numbers, waiting_number, waiting_chunks, waiting_commits, cause_number, question_numbers, numbers_of, is_state}
use Rattle.surface.specs.Fields.{no_place, no_memory, no_waiting, no_sweep, is_waiting, is_cause, is_calm, is_placed, is_of_memory}
use Rattle.surface.proofs.NumberLaws.{is_state-numbers_of, state-written}

abbrev fieldwise : StateNumbers → Bool
fieldwise f =
    leb f.mark 1 && cond (eqb f.question 0) (is_calm f) (cond (leb f.question 2) (is_placed f) (leb f.question 4 && is_of_memory f))

-- ---- a state's numbers pass

both : {a b : Bool} → a ≡ true → b ≡ true → a && b ≡ true
both d e = ap₂ ◌&&◌ d e

flag_small : (b : Bool) → leb (as_flag b) 1 ≡ true
flag_small true = refl
flag_small false = refl

question-passes : (k m : ℕ) → leb m 1 ≡ true → (q : Question) → fieldwise (question_numbers k m q) ≡ true
question-passes k m e Idle = both e refl
question-passes k m e (Committing id start n) = both e refl
question-passes k m e (Purging id chunk w) = both e (both (both (flag_small w.force) (flag_small w.decommit)) refl)
question-passes k m e (Reserving chunks bytes commit exclusive Reserve) = both e (both (both (flag_small commit) (flag_small exclusive)) refl)
question-passes k m e (Reserving chunks bytes commit exclusive (Claim n commits)) =
    both e (both (both (both (flag_small commits) refl) (both (flag_small commit) (flag_small exclusive))) refl)
question-passes k m e (GivingBack Count Reserve) = both e refl
question-passes k m e (GivingBack Misaligned Reserve) = both e refl
question-passes k m e (GivingBack Full Reserve) = both e refl
question-passes k m e (GivingBack Count (Claim n commits)) = both e (both (both (both (flag_small commits) refl) refl) refl)
question-passes k m e (GivingBack Misaligned (Claim n commits)) = both e (both (both (both (flag_small commits) refl) refl) refl)
question-passes k m e (GivingBack Full (Claim n commits)) = both e (both (both (both (flag_small commits) refl) refl) refl)

state-passes : (s : State) → fieldwise (numbers_of s) ≡ true
unfolding numbers_of
state-passes s = question-passes s.count (as_flag s.mark) (flag_small s.mark) s.question

-- ---- what passes is a state's numbers

zero_is : (x : ℕ) → eqb x 0 ≡ true → 0 ≡ x
zero_is x e = sym (eqb-true x 0 e)

flag_is : (x : ℕ) → leb x 1 ≡ true → as_flag (eqb x 1) ≡ x
flag_is x e = go (eqb x 1) (eqb-true x 1) (eqb-false x 1)
  where
    go : (b : Bool) → (b ≡ true → x ≡ 1) → (b ≡ false → x ≡ 1 → ⊥) → as_flag b ≡ x
    go true y n = sym (y refl)
    go false y n = let l : x ≤ 1 = leb-true x 1 e in let h : x ≡ 1 → ⊥ = n refl in omega (arith, l, h)

module _ (f : StateNumbers) where
  place-zero : no_place f ≡ true → (0 ≡ f.id) × (0 ≡ f.start)
  place-zero e = let p = and_both (eqb f.id 0) _ e in (zero_is f.id p.0, zero_is f.start p.1)

  memory-zero : no_memory f ≡ true → (0 ≡ f.chunks) × (0 ≡ f.bytes) × (0 ≡ f.commit) × (0 ≡ f.exclusive)
  memory-zero e =
      let p = and_both (eqb f.chunks 0 && eqb f.bytes 0 && eqb f.commit 0) _ e in
      let q = and_both (eqb f.chunks 0 && eqb f.bytes 0) _ p.0 in
      let r = and_both (eqb f.chunks 0) _ q.0 in
      (zero_is f.chunks r.0, zero_is f.bytes r.1, zero_is f.commit q.1, zero_is f.exclusive p.1)

  waiting-zero : no_waiting f ≡ true → (0 ≡ f.waiting) × (0 ≡ f.commits) × (0 ≡ f.cause)
  waiting-zero e =
      let p = and_both (eqb f.waiting 0 && eqb f.commits 0) _ e in
      let q = and_both (eqb f.waiting 0) _ p.0 in (zero_is f.waiting q.0, zero_is f.commits q.1, zero_is f.cause p.1)

  sweep-zero : no_sweep f ≡ true → (0 ≡ f.force) × (0 ≡ f.now) × (0 ≡ f.delay) × (0 ≡ f.decommit) × (0 ≡ f.purged)
  sweep-zero e =
      let p = and_both ((eqb f.force 0 && eqb f.decommit 0) && (eqb f.now 0 && eqb f.delay 0)) _ e in
      let q = and_both (eqb f.force 0 && eqb f.decommit 0) _ p.0 in
      let r = and_both (eqb f.force 0) _ q.0 in
      let s = and_both (eqb f.now 0) _ q.1 in
      (zero_is f.force r.0, zero_is f.now s.0, zero_is f.delay s.1, zero_is f.decommit r.1, zero_is f.purged p.1)

  -- who waits, and the three numbers that say it
  record Waiter : Type 0 where
    who : Waiting
    chunks : waiting_chunks who ≡ f.n
    waits-is : waiting_number who ≡ f.waiting
    commits : waiting_commits who ≡ f.commits

  waiter : is_waiting f ≡ true → Waiter
  waiter = by_cond (λ (b : Bool). b ≡ true → Waiter) (eqb f.waiting 1) _ _
      (λ y e. record { who = Claim f.n (eqb f.commits 1); chunks = refl; waits-is = sym (eqb-true f.waiting 1 y); commits = flag_is f.commits e })
      (λ _ e.
      let p = and_both (eqb f.waiting 0 && eqb f.commits 0) _ e in
      let q = and_both (eqb f.waiting 0) _ p.0 in
      record { who = Reserve; chunks = zero_is f.n p.1; waits-is = zero_is f.waiting q.0; commits = zero_is f.commits q.1 })

  record Caused : Type 0 where
    cause : Unusable
    number_is : cause_number cause ≡ f.cause

  caused : is_cause f.cause ≡ true → Caused
  caused = go (eqb f.cause 12) (eqb f.cause 7) (eqb f.cause 13) (eqb-true f.cause 12) (eqb-true f.cause 7) (eqb-true f.cause 13)
    where
      go : (a b c : Bool) → (a ≡ true → f.cause ≡ 12) → (b ≡ true → f.cause ≡ 7) → (c ≡ true → f.cause ≡ 13) → a || b || c ≡ true → Caused
      go true b c x y z e = record { cause = Count; number_is = sym (x refl) }
      go false true c x y z e = record { cause = Misaligned; number_is = sym (y refl) }
      go false false true x y z e = record { cause = Full; number_is = sym (z refl) }
      go false false false x y z e = absurd (true≢false (sym e))

  -- numbers that a state is written in
  of-state : (q : Question) → leb f.mark 1 ≡ true → question_numbers f.count f.mark q ≡ f → is_state f ≡ true
  unfolding numbers_of
  of-state q m e =
      let s : State = state_with f.count (eqb f.mark 1) q in
      subst (λ (g : StateNumbers). is_state g ≡ true) (ap (λ (x : ℕ). question_numbers f.count x q) (flag_is f.mark m) ∙ e) (is_state-numbers_of s)

  calm-passes : leb f.mark 1 ≡ true → f.question ≡ 0 → is_calm f ≡ true → is_state f ≡ true
  calm-passes m k e =
      let p = and_both (no_place f && eqb f.n 0 && no_memory f && no_waiting f) _ e in
      let q = and_both (no_place f && eqb f.n 0 && no_memory f) _ p.0 in
      let r = and_both (no_place f && eqb f.n 0) _ q.0 in
      let t = and_both (no_place f) _ r.0 in
      let a = place-zero t.0 in
      let b = zero_is f.n t.1 in
      let c = memory-zero r.1 in
      let d = waiting-zero q.1 in
      let g = sweep-zero p.1 in
      of-state Idle m (λ i. state_numbers f.count f.mark (sym k i) (a.0 i) (a.1 i) (b i) (c.0 i) (c.1 i) (c.2 i) (c.3 i) (d.0 i) (d.1 i) (d.2 i) (g.0 i) (g.1 i) (g.2 i) (g.3 i) (g.4 i))

  commit-passes : leb f.mark 1 ≡ true → f.question ≡ 1 → no_memory f && no_waiting f && no_sweep f ≡ true → is_state f ≡ true
  commit-passes m k e =
      let p = and_both (no_memory f && no_waiting f) _ e in
      let q = and_both (no_memory f) _ p.0 in
      let c = memory-zero q.0 in
      let d = waiting-zero q.1 in
      let g = sweep-zero p.1 in
      of-state (Committing f.id f.start f.n) m
      (λ i. state_numbers f.count f.mark (sym k i) f.id f.start f.n (c.0 i) (c.1 i) (c.2 i) (c.3 i) (d.0 i) (d.1 i) (d.2 i) (g.0 i) (g.1 i) (g.2 i) (g.3 i) (g.4 i))

  purge-passes : leb f.mark 1 ≡ true → f.question ≡ 2 → no_memory f && no_waiting f && (leb f.force 1 && leb f.decommit 1) && eqb f.n 0 ≡ true → is_state f ≡ true
  purge-passes m k e =
      let p = and_both (no_memory f && no_waiting f && (leb f.force 1 && leb f.decommit 1)) _ e in
      let q = and_both (no_memory f && no_waiting f) _ p.0 in
      let r = and_both (no_memory f) _ q.0 in
      let t = and_both (leb f.force 1) _ q.1 in
      let b = zero_is f.n p.1 in
      let c = memory-zero r.0 in
      let d = waiting-zero r.1 in
      let u = flag_is f.force t.0 in
      let v = flag_is f.decommit t.1 in
      of-state (Purging f.id f.start (sweep_in f)) m
      (λ i. state_numbers f.count f.mark (sym k i) f.id f.start (b i) (c.0 i) (c.1 i) (c.2 i) (c.3 i) (d.0 i) (d.1 i) (d.2 i) (u i) f.now f.delay (v i) f.purged)

  placed-passes : leb f.mark 1 ≡ true → (f.question ≡ 0 → ⊥) → f.question ≤ 2 → is_placed f ≡ true → is_state f ≡ true
  placed-passes m z l = by_cond (λ (b : Bool). b ≡ true → is_state f ≡ true) (eqb f.question 1) _ _
      (λ y e. commit-passes m (eqb-true f.question 1 y) e)
      (λ n e. let h : f.question ≡ 1 → ⊥ = eqb-false f.question 1 n in purge-passes m (omega (arith, z, h, l)) e)

  memory-passes : leb f.mark 1 ≡ true → f.question ≡ 3 → no_place f && is_waiting f && no_sweep f && (leb f.commit 1 && leb f.exclusive 1) && eqb f.cause 0 ≡ true → is_state f ≡ true
  memory-passes m k e =
      let p = and_both (no_place f && is_waiting f && no_sweep f && (leb f.commit 1 && leb f.exclusive 1)) _ e in
      let q = and_both (no_place f && is_waiting f && no_sweep f) _ p.0 in
      let r = and_both (no_place f && is_waiting f) _ q.0 in
      let t = and_both (no_place f) _ r.0 in
      let x = and_both (leb f.commit 1) _ q.1 in
      let a = place-zero t.0 in
      let w = waiter t.1 in
      let g = sweep-zero r.1 in
      let z = zero_is f.cause p.1 in
      let u = flag_is f.commit x.0 in
      let v = flag_is f.exclusive x.1 in
      of-state (Reserving f.chunks f.bytes (eqb f.commit 1) (eqb f.exclusive 1) w.who) m
      (λ i. state_numbers f.count f.mark (sym k i) (a.0 i) (a.1 i) (w.chunks i) f.chunks f.bytes (u i) (v i) (w.waits-is i) (w.commits i) (z i) (g.0 i) (g.1 i) (g.2 i) (g.3 i) (g.4 i))

  back_passes : leb f.mark 1 ≡ true → f.question ≡ 4 → no_place f && is_waiting f && no_sweep f && no_memory f && is_cause f.cause ≡ true → is_state f ≡ true
  back_passes m k e =
      let p = and_both (no_place f && is_waiting f && no_sweep f && no_memory f) _ e in
      let q = and_both (no_place f && is_waiting f && no_sweep f) _ p.0 in
      let r = and_both (no_place f && is_waiting f) _ q.0 in
      let t = and_both (no_place f) _ r.0 in
      let a = place-zero t.0 in
      let w = waiter t.1 in
      let g = sweep-zero r.1 in
      let c = memory-zero q.1 in
      let y = caused p.1 in
      of-state (GivingBack y.cause w.who) m
      (λ i. state_numbers f.count f.mark (sym k i) (a.0 i) (a.1 i) (w.chunks i) (c.0 i) (c.1 i) (c.2 i) (c.3 i) (w.waits-is i) (w.commits i) (y.number_is i) (g.0 i) (g.1 i) (g.2 i) (g.3 i) (g.4 i))

  asks-passes : leb f.mark 1 ≡ true → 2 < f.question → f.question ≤ 4 → is_of_memory f ≡ true → is_state f ≡ true
  asks-passes m l u = by_cond (λ (b : Bool). b ≡ true → is_state f ≡ true) (eqb f.question 3) _ _
      (λ y e. memory-passes m (eqb-true f.question 3 y) e)
      (λ n e. let h : f.question ≡ 3 → ⊥ = eqb-false f.question 3 n in back_passes m (omega (arith, h, l, u)) e)

  passes : fieldwise f ≡ true → is_state f ≡ true
  passes e =
      let p = and_both (leb f.mark 1) _ e in
      by_cond (λ (b : Bool). b ≡ true → is_state f ≡ true) (eqb f.question 0) _ _
      (λ y h. calm-passes p.0 (eqb-true f.question 0 y) h)
      (λ n. by_cond (λ (b : Bool). b ≡ true → is_state f ≡ true) (leb f.question 2) _ _
      (λ l h. placed-passes p.0 (eqb-false f.question 0 n) (leb-true f.question 2 l) h)
      (λ g h.
      let q = and_both (leb f.question 4) _ h in
      asks-passes p.0 (leb-false f.question 2 g) (leb-true f.question 4 q.0) q.1))
      p.1

  pub state_by_fields : is_state f ≡ fieldwise f
  state_by_fields = same (is_state f) (fieldwise f) (λ e. subst (λ (g : StateNumbers). fieldwise g ≡ true) (state-written f e) (state-passes (state_of f))) passes
