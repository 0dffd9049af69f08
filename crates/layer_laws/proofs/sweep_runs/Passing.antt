-- A sweep from its first call to its end: the deadline that it leaves each arena is the one that the arena's pending chunks gave at its start.
-- Assumes nothing.
use Rattle.std.specs.Prelude.{◌≡◌, ◌&&◌, ◌∷◌, ◌⊎◌, ◌↔◌, ◌+◌, ◌-◌, ◌*◌, ◌/◌, ◌%◌, ◌^◌, ◌<◌, ◌≤◌}
use Rattle.layer.proofs.Prelude.{refl, sym, ap, ap₂, ◌∙◌, subst, Bool, true, false, cond, not, true≢false, List, [], inl, inr, ⊎_elim, ℕ, zero, suc, arith, ℕ_discrete, lt-ltb, not-true, ltb, ℤ, pos, negsuc, length, set, get_or, take, drop, length-set, bit_at, clear_run, by_cond, Stands, before, inside, stands, within-before, within-after, lt-or-le, Option, Some, None, least, First, first_says, and_both, or_one, now_ms, delay_ms, age_of, Arena, take_run, give_back_run, tell_run, sweep_due, young, to_ask, next_asked, disarm, borrow_chunk, unpend_chunk, return_chunk, rearm, stamps_of, Rows, bit_in, bit-out, World, Outcome, state_with, world_of, calm, at, sound, purge_reply, swept_reply, visit_at, visit, sweep_from, is_for, answer_purge, answer_of, Call, reserve, manage, adopt, claim, release, sweep, answer, owns, area, sweep_of, step_on, act, query, rules, sweeps_none, unless}
use lib.Seq.{get_or-drop}
use Rattle.bitmap.proofs.words.RowLaws.{beyond}
use Rattle.layer.specs.declared.Settings.{Settings}
use Rattle.layer.specs.declared.Sweep.{Sweep}
use Rattle.layer.specs.declared.Question.{Question}
use Rattle.layer.specs.declared.Question.TheVariants.{Idle, Purging}
use Rattle.layer.specs.declared.Kind.TheVariants.{ForCommit, ForPurge, ForMemory, ForGiveBack, ForNone}
use Rattle.layer.proofs.Tools.{at_same, at_other, by-not}
use Rattle.layer.proofs.Calls.{past-1}
use Rattle.layer.proofs.Kept.{SoundWorld, return-range}
use Rattle.layer.proofs.Stepped.{Words, sound-facts, step-on-kept}
use Rattle.layer_laws.specs.sweep_runs.Run.{is_purging, Made, Run, is_open, more, go_on, with_count}
use Rattle.layer_laws.specs.sweep_runs.Deadline.{Gives, Next, earliest, none, Clocked, After, DeadlineLeft, DeadlinesLeft}
use Rattle.layer_laws.proofs.sweep_runs.Deadline.{rearmed, stays-disarmed}

-- ---- records that give the same deadlines

module _ (a b : Arena) (stamps : List ℕ) (now delay : ℕ) where
  abbrev Alike : Type 0
  Alike = (c : ℕ) → Gives a stamps now delay c ↔ Gives b stamps now delay c

  next-alike : Alike → (due : ℕ) → Next a stamps now delay due → Next b stamps now delay due
  next-alike e due (earliest j g h) = earliest j ((e j).0 g) (λ i k. h i ((e i).1 k))
  next-alike e due (none h) = none (λ j g. h j ((e j).1 g))

  -- chunks and pending bits decide
  alike-by : a.chunks ≡ b.chunks → ((c : ℕ) → Gives a stamps now delay c → bit_at b.pending c ≡ true) → ((c : ℕ) → Gives b stamps now delay c → bit_at a.pending c ≡ true) → Alike
  alike-by n to from c = (
    λ g. record { here = omega (arith, g.here); pending = to c g; younger = g.younger },
    λ g. record { here = omega (arith, g.here); pending = from c g; younger = g.younger },
  )

same-pending : (a b : Arena) (stamps : List ℕ) (now delay : ℕ) → a.chunks ≡ b.chunks → a.pending ≡ b.pending → Alike a b stamps now delay
same-pending a b stamps now delay n p =
    alike-by a b stamps now delay n (λ c g. ap (λ (ws : List ℕ). bit_at ws c) (sym p) ∙ g.pending) (λ c g. ap (λ (ws : List ℕ). bit_at ws c) p ∙ g.pending)

-- ---- the changes of a sweep

disarmed : (a : Arena) → ((disarm a).deadline ≡ 0) × ((disarm a).chunks ≡ a.chunks) × ((disarm a).pending ≡ a.pending)
unfolding disarm
disarmed a = (refl, refl, refl)

borrowed : (a : Arena) (j : ℕ) → ((borrow_chunk a j).deadline ≡ a.deadline) × ((borrow_chunk a j).chunks ≡ a.chunks) × ((borrow_chunk a j).pending ≡ a.pending)
unfolding borrow_chunk take_run
borrowed a j = (refl, refl, refl)

returned-deadline : (a : Arena) (j : ℕ) (granted decommit : Bool) → (return_chunk a j granted decommit).deadline ≡ a.deadline
unfolding return_chunk tell_run give_back_run unpend_chunk
returned-deadline a j true true = refl
returned-deadline a j true false = refl
returned-deadline a j false decommit = refl

returned-pending : (a : Arena) (j : ℕ) (granted decommit : Bool) → (return_chunk a j granted decommit).pending ≡ (unpend_chunk a j).pending
unfolding return_chunk tell_run give_back_run
returned-pending a j true true = refl
returned-pending a j true false = refl
returned-pending a j false decommit = refl

-- an answer clears the pending bit of its chunk alone; where that one gave no deadline, the record gives the same as before
module _ (a : Arena) (stamps : List ℕ) (now delay j : ℕ) (granted decommit : Bool) (r : Rows a) (h : j < 1024) (old : Gives a stamps now delay j → ⊥) where
  bit-returned : (c : ℕ) → (c ≡ j → ⊥) → bit_at (return_chunk a j granted decommit).pending c ≡ bit_at a.pending c
  bit-returned c d = ap (λ (ws : List ℕ). bit_at ws c) (returned-pending a j granted decommit) ∙ (unfold unpend_chunk in go (stands j 1 c))
    where
      go : Stands j 1 c → bit_at (clear_run a.pending j 1) c ≡ bit_at a.pending c
      go (before p) = bit-out false a.pending j 1 r.pending (omega arith) c (within-before j 1 c p)
      go (inside p q) = absurd (d (omega arith))
      go (beyond p) = bit-out false a.pending j 1 r.pending (omega arith) c (within-after j 1 c p)

  bit-cleared : bit_at (return_chunk a j granted decommit).pending j ≡ false
  bit-cleared =
      ap (λ (ws : List ℕ). bit_at ws j) (returned-pending a j granted decommit)
      ∙ (unfold unpend_chunk in (bit_in false a.pending j 1 r.pending (omega arith) j (omega arith) (omega arith)))

  returned-alike : Alike (return_chunk a j granted decommit) a stamps now delay
  returned-alike =
      alike-by (return_chunk a j granted decommit) a stamps now delay (return-range a j granted decommit).1
      (λ c g. go c (ℕ_discrete c j) (λ d. sym (bit-returned c d) ∙ g.pending) (λ e. absurd (true≢false (sym g.pending ∙ ap (bit_at (return_chunk a j granted decommit).pending) e ∙ bit-cleared))))
      (λ c g. go-back c g (ℕ_discrete c j))
    where
      go : (c : ℕ) → Dec (c ≡ j) → ((c ≡ j → ⊥) → bit_at a.pending c ≡ true) → (c ≡ j → bit_at a.pending c ≡ true) → bit_at a.pending c ≡ true
      go c (yes e) x y = y e
      go c (no d) x y = x d

      go-back : (c : ℕ) → Gives a stamps now delay c → Dec (c ≡ j) → bit_at (return_chunk a j granted decommit).pending c ≡ true
      go-back c g (yes e) = absurd (old (subst (Gives a stamps now delay) e g))
      go-back c g (no d) = bit-returned c d ∙ g.pending

-- ---- how far a sweep is

-- l₀ are the records at its start
module _ (l₀ : List Arena) (stamps : List ℕ) (k : ℕ) (force : Bool) (now delay : ℕ) where
  -- the sweep is past arena i, whose record is a
  abbrev Done : ℕ → Arena → Type 0
  Done i a = DeadlineLeft force (at l₀ i) (stamps_of stamps i) now delay a.deadline

  -- it is past the arenas before p, and has not come to those from p on
  abbrev Past : ℕ → List Arena → Type 0
  Past p l = (i : ℕ) → i < k → (i < p → Done i (at l i)) × (p ≤ i → at l i ≡ at l₀ i)

  -- it is at arena i, and at no other
  abbrev Around : ℕ → List Arena → Type 0
  Around i l = (m : ℕ) → m < k → (m < i → Done m (at l m)) × (i < m → at l m ≡ at l₀ m)

  -- it is at arena i, whose record is a: disarmed, and what gave a deadline at the start gives it still
  record Under (i : ℕ) (a : Arena) : Type 0 where
    due : sweep_due (at l₀ i) force now ≡ true
    off : a.deadline ≡ 0
    alike : force ≡ false → Alike a (at l₀ i) (stamps_of stamps i) now delay

  -- a question about chunk j of arena i is open: the chunk gives no deadline
  record Asked (l : List Arena) (i j : ℕ) : Type 0 where
    low : i < k
    around : Around i l
    under : Under i (at l i)
    old : force ≡ false → Gives (at l i) (stamps_of stamps i) now delay j → ⊥

  -- a record of the same chunks and pending bits, disarmed too
  under-as : (i : ℕ) (a b : Arena) → b.deadline ≡ a.deadline → b.chunks ≡ a.chunks → b.pending ≡ a.pending → Under i a → Under i b
  under-as i a b d n p u = record {
    due = u.due;
    off = d ∙ u.off;
    alike = λ e c.
        let x = same-pending b a (stamps_of stamps i) now delay n p c in
        let y = u.alike e c in
        (λ g. y.0 (x.0 g), λ g. x.1 (y.1 g));
  }

  -- at the arena's end
  ended : (i : ℕ) (a : Arena) (f : Bool) → force ≡ f → Clocked (stamps_of stamps i) now delay → Under i a → After f (at l₀ i) (stamps_of stamps i) now delay (rearm a (stamps_of stamps i) f now delay).deadline
  ended i a true e c u = stays-disarmed a (stamps_of stamps i) now delay u.off
  ended i a false e c u = next-alike a (at l₀ i) (stamps_of stamps i) now delay (u.alike e) _ (rearmed a (stamps_of stamps i) now delay c u.off)

  -- the records around a store in arena i
  around-put : (i : ℕ) (l : List Arena) (a : Arena) → Around i l → Around i (set l i a)
  around-put i l a h m u = (
    λ v. subst (Done m) (sym (at_other l i m a (λ e. omega arith))) ((h m u).0 v),
    λ v. at_other l i m a (λ e. omega arith) ∙ (h m u).1 v,
  )

  past-around : (i : ℕ) (l : List Arena) → Past i l → Around i l
  past-around i l h m u = ((h m u).0, λ v. (h m u).1 (omega arith))

  around-past : (i : ℕ) (l : List Arena) → Around i l → Done i (at l i) → Past (i + 1) l
  around-past i l h d m u = (
    λ v. ⊎_elim (λ (x : m < i). (h m u).0 x) (λ (x : i ≤ m). subst (λ (z : ℕ). Done z (at l z)) (let z : i ≡ m = omega arith in z) d) (lt-or-le m i),
    λ v. (h m u).1 (omega arith),
  )

-- ---- where a sweep goes

module _ (S : ℕ) (l₀ : List Arena) (stamps : List ℕ) (k : ℕ) (mark : Bool) (v : Sweep) (clocked : (i : ℕ) → Clocked (stamps_of stamps i) v.now v.delay) where
  data Goes (o : Outcome) : Type 0 where
    asks : (l : List Arena) (i j : ℕ) → Asked l₀ stamps k v.force v.now v.delay l i j → o.world ≡ world_of l stamps (state_with k mark (Purging i j v)) → Goes o
    ends : (l : List Arena) → Past l₀ stamps k v.force v.now v.delay k l → o.world ≡ world_of l stamps (calm k mark) → Goes o

  visit-goes : (l : List Arena) (i from : ℕ) (a : Arena) (rest : List Arena → Outcome) → i < k → k ≤ length l → Around l₀ stamps k v.force v.now v.delay i l
      → Under l₀ stamps k v.force v.now v.delay i a → ((m : List Arena) → k ≤ length m → Past l₀ stamps k v.force v.now v.delay (i + 1) m → Goes (rest m))
      → Goes (visit S stamps k mark v l i a from rest)
  unfolding visit next_asked purge_reply to_ask young
  visit-goes l i from a rest h long around u on =
      go (least (to_ask a (stamps_of stamps i) v.force v.now v.delay) from (a.chunks - from))
      (first_says (to_ask a (stamps_of stamps i) v.force v.now v.delay) from (a.chunks - from))
    where
      there : i < length l
      there = omega (arith, h, long)

      go : (f : Option ℕ) → First (to_ask a (stamps_of stamps i) v.force v.now v.delay) from (a.chunks - from) f → Goes (visit_at S stamps k mark v l i a rest f)
      go (Some j) f =
          let b = borrow_chunk a j in
          let same : at (set l i b) i ≡ b = at_same l i b there in
          let p = and_both (bit_at a.pending j) _ f.2 in
          asks (set l i b) i j (record {
            low = h;
            around = around-put l₀ stamps k v.force v.now v.delay i l b around;
            under = subst (Under l₀ stamps k v.force v.now v.delay i) (sym same) (under-as l₀ stamps k v.force v.now v.delay i a b (borrowed a j).0 (borrowed a j).1 (borrowed a j).2 u);
            old = λ e g. true≢false (sym (ap₂ (λ (x y : Bool). not x && y) e (lt-ltb (age_of v.now (get_or (stamps_of stamps i) j 0)) v.delay g.younger)) ∙ not-true (not v.force && ltb (age_of v.now (get_or (stamps_of stamps i) j 0)) v.delay) (and_both (not (not v.force && ltb (age_of v.now (get_or (stamps_of stamps i) j 0)) v.delay)) _ p.1).0);
          }) refl
      go None f =
          let b = rearm a (stamps_of stamps i) v.force v.now v.delay in
          on (set l i b) (omega (arith, long, length-set l i b))
          (around-past l₀ stamps k v.force v.now v.delay i (set l i b) (around-put l₀ stamps k v.force v.now v.delay i l b around)
          (subst (Done l₀ stamps k v.force v.now v.delay i) (sym (at_same l i b there))
          (λ e. ended l₀ stamps k v.force v.now v.delay i a v.force refl (clocked i) u, λ e. absurd (true≢false (sym u.due ∙ e)))))

  sweep-goes : (f i : ℕ) (l : List Arena) → i + f ≡ k → k ≤ length l → Past l₀ stamps k v.force v.now v.delay i l → Goes (sweep_from S stamps k mark v f i l)
  unfolding sweep_from swept_reply
  sweep-goes zero i l e long p = ends l (subst (λ (x : ℕ). Past l₀ stamps k v.force v.now v.delay x l) (let z : i ≡ k = omega arith in z) p) refl
  sweep-goes (suc f) i l e long p =
      let h : i < k = omega arith in
      let same : at l i ≡ at l₀ i = (p i h).1 (omega arith) in
      by_cond Goes (sweep_due (at l i) v.force v.now) _ _
      (λ d. visit-goes l i 0 (disarm (at l i)) (sweep_from S stamps k mark v f (i + 1)) h long (past-around l₀ stamps k v.force v.now v.delay i l p)
      (record {
        due = ap (λ (a : Arena). sweep_due a v.force v.now) (sym same) ∙ d;
        off = (disarmed (at l i)).0;
        alike = λ _. same-pending (disarm (at l i)) (at l₀ i) (stamps_of stamps i) v.now v.delay ((disarmed (at l i)).1 ∙ ap (λ (a : Arena). a.chunks) same) ((disarmed (at l i)).2 ∙ ap (λ (a : Arena). a.pending) same);
      })
      (λ m u q. sweep-goes f (i + 1) m (omega arith) u q))
      (λ d. sweep-goes f (i + 1) l (omega arith) long
      (around-past l₀ stamps k v.force v.now v.delay i l (past-around l₀ stamps k v.force v.now v.delay i l p)
      (λ g. absurd (true≢false (sym g ∙ ap (λ (a : Arena). sweep_due a v.force v.now) (sym same) ∙ d)), λ g. ap (λ (a : Arena). a.deadline) same)))

  -- the answer to the question that the sweep put as x, before this answer was counted
  answer-goes : (x : Sweep) (l : List Arena) (i j : ℕ) (granted : Bool) → SoundWorld S (world_of l stamps (state_with k mark (Purging i j x))) → Asked l₀ stamps k v.force v.now v.delay l i j
      → Goes (visit S stamps k mark v l i (return_chunk (at l i) j granted v.decommit) (j + 1) (sweep_from S stamps k mark v (k - (i + 1)) (i + 1)))
  answer-goes x l i j granted t q =
      let long : k ≤ length l = omega (arith, t.table.long, t.table.few) in
      let few : j < 1024 = omega (arith, t.question.1, (t.table.each i q.low).range.few) in
      visit-goes l i (j + 1) (return_chunk (at l i) j granted v.decommit) (sweep_from S stamps k mark v (k - (i + 1)) (i + 1)) q.low long q.around
      (record {
        due = q.under.due;
        off = returned-deadline (at l i) j granted v.decommit ∙ q.under.off;
        alike = λ e c.
            let z = returned-alike (at l i) (stamps_of stamps i) v.now v.delay j granted v.decommit (t.table.rows i q.low) few (q.old e) c in
            let y = q.under.alike e c in
            (λ g. y.0 (z.0 g), λ g. z.1 (y.1 g));
      })
      (λ m u p. sweep-goes (k - (i + 1)) (i + 1) m (omega (arith, q.low)) u p)

-- ---- call after call

-- a call while the question is open leaves all as it was, or it is the answer
during : (S : ℕ) (l : List Arena) (stamps : List ℕ) (k : ℕ) (mark : Bool) (i j : ℕ) (x : Sweep) (ns : ℕ) (settings : Settings) (c : Call)
    → ((step_on S l stamps k mark (Purging i j x) ns settings c).world ≡ world_of l stamps (state_with k mark (Purging i j x)))
    ⊎ ((granted : Bool) × (step_on S l stamps k mark (Purging i j x) ns settings c ≡ answer_purge S l stamps k mark i j x granted))
unfolding answer_of is_for
during S l stamps k mark i j x ns settings (act (reserve size commit large exclusive)) = inl refl
during S l stamps k mark i j x ns settings (act (manage start size exclusive node mapped reserved)) = inl refl
during S l stamps k mark i j x ns settings (act (adopt address size)) = inl refl
during S l stamps k mark i j x ns settings (act (claim id n commits)) = inl refl
during S l stamps k mark i j x ns settings (act (release address n told pending)) = inl refl
during S l stamps k mark i j x ns settings (act (sweep force)) = inl refl
during S l stamps k mark i j x ns settings (answer ForCommit granted base) = inl refl
during S l stamps k mark i j x ns settings (answer ForPurge granted base) = inr (granted, refl)
during S l stamps k mark i j x ns settings (answer ForMemory granted base) = inl refl
during S l stamps k mark i j x ns settings (answer ForGiveBack granted base) = inl refl
during S l stamps k mark i j x ns settings (answer ForNone granted base) = inl refl
during S l stamps k mark i j x ns settings (query (owns address)) = inl refl
during S l stamps k mark i j x ns settings (query (area id)) = inl refl

module _ (S : ℕ) (some : 0 < S) (l₀ : List Arena) (stamps : List ℕ) (k : ℕ) (mark : Bool) (first : Sweep) (clocked : (i : ℕ) → Clocked (stamps_of stamps i) first.now first.delay) where
  -- the sweep is under way, or has ended
  data Fares (w : World) : Type 0 where
    going : (l : List Arena) (i j n : ℕ) → SoundWorld S (world_of l stamps (state_with k mark (Purging i j (with_count first n))))
        → Asked l₀ stamps k first.force first.now first.delay l i j → w ≡ world_of l stamps (state_with k mark (Purging i j (with_count first n))) → Fares w
    finished : (l : List Arena) → Past l₀ stamps k first.force first.now first.delay k l → w ≡ world_of l stamps (calm k mark) → Fares w

  fares : (n : ℕ) (o : Outcome) → SoundWorld S o.world → Goes S l₀ stamps k mark (with_count first n) clocked o → Fares o.world
  fares n o t (asks l i j q e) = going l i j n (subst (SoundWorld S) e t) q e
  fares n o t (ends l p e) = finished l p e

  called : (l : List Arena) (i j n ns : ℕ) (settings : Settings) (c : Call) → SoundWorld S (world_of l stamps (state_with k mark (Purging i j (with_count first n))))
      → Asked l₀ stamps k first.force first.now first.delay l i j
      → Fares (rules S (world_of l stamps (state_with k mark (Purging i j (with_count first n)))) ns settings c).world
  unfolding rules
  called l i j n ns settings c t q =
      by-not (λ (o : Outcome). Fares o.world) (sound S (world_of l stamps (state_with k mark (Purging i j (with_count first n)))) settings.page) _ _
      (λ e. go (during S l stamps k mark i j (with_count first n) ns settings c) (step-on-kept S some l stamps k mark t.table t.stamps (Purging i j (with_count first n)) ns settings c t.question))
      (λ e. going l i j n t q refl)
    where
      o : Outcome
      o = step_on S l stamps k mark (Purging i j (with_count first n)) ns settings c

      go : (o.world ≡ world_of l stamps (state_with k mark (Purging i j (with_count first n)))) ⊎ ((granted : Bool) × (o ≡ answer_purge S l stamps k mark i j (with_count first n) granted))
          → SoundWorld S o.world → Fares o.world
      go (inl e) u = going l i j n t q e
      go (inr (granted, e)) u =
          fares (n + cond granted 1 0) o u
          (subst (Goes S l₀ stamps k mark (with_count first (n + cond granted 1 0)) clocked) (sym e) (answer-goes S l₀ stamps k mark (with_count first (n + cond granted 1 0)) clocked (with_count first n) l i j granted t q))

  more-fares : (r : Run) (c : Made) → Fares r.last.world → Fares (more S r c).last.world
  more-fares r c (finished l p e) = by_cond (λ (x : Run). Fares x.last.world) (is_open r) _ _ (λ f. absurd (true≢false (sym f ∙ ap (λ (w : World). is_purging w.state.question) e))) (λ f. finished l p e)
  more-fares r c (going l i j n t q e) =
      by_cond (λ (x : Run). Fares x.last.world) (is_open r) _ _
      (λ f. subst (λ (w : World). Fares (rules S w c.ns c.settings c.call).world) (sym e) (called l i j n c.ns c.settings c.call t q)) (λ f. going l i j n t q e)

  goes-fares : (cs : List Made) (r : Run) → Fares r.last.world → Fares (go_on S r cs).last.world
  unfolding go_on
  goes-fares [] r f = f
  goes-fares (c ∷ cs) r f = goes-fares cs (more S r c) (more-fares r c f)

-- ---- the theorem

-- numbers of the clock
or-one-small : (x : ℕ) → x < 2 ^ 32 → or_one x < 2 ^ 32
unfolding or_one
or-one-small zero h = omega arith
or-one-small (suc x) h = h

clock-small : (ns : ℕ) → now_ms ns < 2 ^ 32
unfolding now_ms
clock-small ns = or-one-small (ns / 1000000 % 2 ^ 32) (omega arith)

delay-small : (z : ℤ) → delay_ms z < 2 ^ 32
unfolding delay_ms
delay-small (pos n) = omega arith
delay-small (negsuc n) = omega arith

take-small : (n : ℕ) (xs : List ℕ) → ((j : ℕ) → get_or xs j 0 < 2 ^ 32) → (j : ℕ) → get_or (take n xs) j 0 < 2 ^ 32
take-small zero xs h j = omega arith
take-small (suc n) [] h j = omega arith
take-small (suc n) (x ∷ xs) h zero = h 0
take-small (suc n) (x ∷ xs) h (suc j) = take-small n xs (λ i. h (suc i)) j

stamp-small : (stamps : List ℕ) (i : ℕ) → ((j : ℕ) → get_or stamps j 0 < 2 ^ 32) → (j : ℕ) → get_or (stamps_of stamps i) j 0 < 2 ^ 32
unfolding stamps_of
stamp-small stamps i h j = take-small 1024 (drop (1024 * i) stamps) (λ x. subst (λ (y : ℕ). y < 2 ^ 32) (sym (get_or-drop (1024 * i) stamps x 0)) (h (1024 * i + x))) j

-- "Deadline 0: skipped [..]. Otherwise disarmed. [..] a next deadline of stamp + delay, wrapping, the earliest counted from now being rearmed after
-- the arena": of a sweep's call on a world that row 1 lets pass, with stamps of the clock and no question open, and of any calls after it until the
-- sweep has ended
pub sweep-leaves : (S : ℕ) → 0 < S → (w : World) (ns : ℕ) (settings : Settings) (force : Bool) (calls : List Made) → Words w → ((j : ℕ) → get_or w.stamps j 0 < 2 ^ 32)
    → sound S w settings.page ≡ true → w.state.question ≡ Idle → DeadlinesLeft S w ns settings force calls
unfolding rules
sweep-leaves S some w ns settings force calls words small passed idle over = go _ (goes-fares S some l w.stamps k w.state.mark first clocked calls _ begins)
  where
    l : List Arena
    l = w.records

    k : ℕ
    k = w.state.count

    first : Sweep
    first = sweep_of force ns settings

    clocked : (i : ℕ) → Clocked (stamps_of w.stamps i) (now_ms ns) (delay_ms settings.delay)
    clocked i = (clock-small ns, delay-small settings.delay, stamp-small w.stamps i small)

    begins : Fares S some l w.stamps k w.state.mark first clocked (rules S w ns settings (act (sweep force))).world
    begins =
        let f = (sound-facts S w settings.page words passed).0 in
        subst (λ (o : Outcome). Fares S some l w.stamps k w.state.mark first clocked o.world)
        (sym (past-1 S w ns settings passed (act (sweep force)) ∙ ap (λ (q : Question). step_on S l w.stamps k w.state.mark q ns settings (act (sweep force))) idle))
        (fares S some l w.stamps k w.state.mark first clocked 0 _ (step-on-kept S some l w.stamps k w.state.mark f.table f.stamps Idle ns settings (act (sweep force)) tt)
        (subst (Goes S l w.stamps k w.state.mark first clocked) (sym (unless (sweeps_none settings force) _ _ over)) (sweep-goes S l w.stamps k w.state.mark first clocked k 0 l (omega arith) (omega (arith, f.table.long, f.table.few)) (λ i u. (λ v. absurd (omega arith), λ v. refl)))))

    go : (v : World) → Fares S some l w.stamps k w.state.mark first clocked v → is_purging v.state.question ≡ false → (i : ℕ) → i < k
        → DeadlineLeft force (at l i) (stamps_of w.stamps i) (now_ms ns) (delay_ms settings.delay) (at v.records i).deadline
    go v (going m i j n t q e) closed = absurd (true≢false (sym (ap (λ (x : World). is_purging x.state.question) e) ∙ closed))
    go v (finished m p e) closed = λ i h. subst (λ (x : World). Done l w.stamps k force (now_ms ns) (delay_ms settings.delay) i (at x.records i)) (sym e) ((p i h).0 h)
