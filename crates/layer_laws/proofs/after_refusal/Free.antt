-- The answers that document 01 leaves free, and that the layer never comes to them. Assumes nothing.
use Rattle.std.specs.Prelude.{◌≡◌, ◌&&◌, ◌∷◌, ◌+◌, ◌*◌, ◌<◌, ◌≤◌}
use Rattle.layer.proofs.Prelude.{refl, sym, ap, ap₂, ◌∙◌, subst, Bool, true, false, cond, not, List, [], ⊎_elim, ℕ, zero, suc, arith, leb-false, eqb-true, eqb, negsuc, length, set, set-get_or, NoRun, CommitRefused, lt-or-le, Option, Some, None, all, least, First, first_says, Arena, is_on, reserved_arena, free, find_run, run_committed, run_fresh, take_run, give_back_run, commit_run, dirty_run, finish_grant, Rows, never, Outcome, blank, state_with, world_of, outcome, turn_down, calm, Row, first_of, at, is_some, ask_memory, with_record, with_stamps, eligible, serves, asks_commit, grant_arena, grant_reply, grant_found, search_at, search_of, is_for, answer_commit, answer_to}
use Rattle.bitmap.proofs.runs.LowestLaws.{at-iff}
use Rattle.arena.specs.Record.{with_used, with_dirty, with_committed}
use Rattle.arena.proofs.RowLaws.{write_same}
use Rattle.layer.specs.declared.Question.{Question}
use Rattle.layer.specs.declared.Question.TheVariants.{Committing, Reserving}
use Rattle.layer.specs.declared.Waiting.{Waiting}
use Rattle.layer.specs.declared.Waiting.TheVariants.{Reserve, Claim}
use Rattle.layer.specs.declared.Kind.TheVariants.{ForCommit, ForMemory}
use Rattle.layer.specs.declared.Answer.TheVariants.{Refused, Claimed}
use Rattle.layer.specs.Answering.{yes_rows}
use Rattle.layer.proofs.Tools.{by-set}
use Rattle.layer.proofs.Facts.{SoundQuestion}
use Rattle.layer.proofs.Registered.{reserved-rows}
use Rattle.layer.proofs.Stepped.{sound-facts}
use Rattle.layer.proofs.Calls.{past-3}
use Rattle.layer_laws.specs.after_refusal.Free.{is_empty, NoneMade, empty_commit, EmptyCommit, empty_run, empty_claim, EmptyClaim}
use Rattle.layer_laws.proofs.after_refusal.Forms.{Waits, step-forms}

-- ---- none is made

not-empty : (n : ℕ) → (n ≡ 0 → ⊥) → eqb n 0 ≡ false
not-empty n h = never (eqb n 0) (λ e. h (eqb-true n 0 e))

pub none_made : (S : ℕ) → NoneMade S
unfolding ask_memory
none_made S w ns settings c some = step-forms S w ns settings c (λ (o : Outcome). is_empty o.world.state.question ≡ false) (record {
  as_it_was = λ r a. some;
  ended = λ r a m t n gave-up stand kept. refl;
  commits = λ m t count i s n address stand a b. ⊎_elim (λ (h : n ≡ 0 → ⊥). not-empty n h) (λ h. sym (ap is_empty h.5) ∙ some) a;
  purges = λ m i j address v stand. refl;
  reserves = λ size page commit large exclusive waiting a. waits size page commit exclusive waiting a;
  gives_back = λ chunks bytes commit exclusive waiting kind base cause a b d. refl;
})
  where
    waits : (size page : ℕ) (commit exclusive : Bool) (waiting : Waiting) → Waits waiting → is_empty (Reserving size page commit exclusive waiting) ≡ false
    waits size page commit exclusive Reserve a = refl
    waits size page commit exclusive (Claim n commits) a = not-empty n a

-- ---- a run of no chunk changes no record

module _ (a : Arena) (s : ℕ) (r : Rows a) (h : s ≤ 1024) where
  take_none : take_run a s 0 ≡ a
  unfolding take_run
  take_none = ap (with_used a) (write_same true a.used s 0 r.used (omega arith) (λ j u v. absurd (omega arith)))

  give-back-none : give_back_run a s 0 ≡ a
  unfolding give_back_run
  give-back-none = ap (with_used a) (write_same false a.used s 0 r.used (omega arith) (λ j u v. absurd (omega arith)))

  commit-none : commit_run a s 0 ≡ a
  unfolding commit_run
  commit-none = ap (with_committed a) (write_same true a.committed s 0 r.committed (omega arith) (λ j u v. absurd (omega arith)))

  dirty-none : dirty_run a s 0 ≡ a
  unfolding dirty_run
  dirty-none = ap (with_dirty a) (write_same true a.dirty s 0 r.dirty (omega arith) (λ j u v. absurd (omega arith)))

  finish-none : finish_grant a s 0 true ≡ a
  unfolding finish_grant
  finish-none = ap (λ (b : Arena). dirty_run b s 0) commit-none ∙ dirty-none

-- nor the table
put_same : (l : List Arena) (i : ℕ) (a : Arena) → a ≡ at l i → set l i a ≡ l
put_same l i a e = ap (set l i) e ∙ set-get_or l i blank

-- ---- the commit question

commit-none-answered : (S : ℕ) (l : List Arena) (stamps : List ℕ) (k : ℕ) (mark : Bool) (q : Question) (i s : ℕ) (granted : Bool) → Rows (at l i) → s ≤ 1024
    → answer_commit S l stamps k mark i s 0 granted ≡ empty_commit S (world_of l stamps (state_with k mark q)) i s granted
unfolding run_fresh all
commit-none-answered S l stamps k mark q i s true r h =
    ap (λ (m : List Arena). outcome (Claimed ((at l i).base + s * S) true true) (world_of m stamps (calm k mark))) (put_same l i _ (finish-none (at l i) s r h))
commit-none-answered S l stamps k mark q i s false r h =
    ap (λ (m : List Arena). outcome (Refused CommitRefused) (world_of m stamps (calm k mark))) (put_same l i _ (give-back-none (at l i) s r h))

pub empty-commit : (S : ℕ) → EmptyCommit S
unfolding is_for
empty-commit S w ns settings i s granted base lent e =
    let f = (sound-facts S w settings.page lent.0 lent.1).0 in
    let q : SoundQuestion w.records w.state.count (Committing i s 0) = subst (SoundQuestion w.records w.state.count) e f.question in
    past-3 S w ns settings lent.1 ForCommit (ap (λ (x : Question). is_for x ForCommit) e) granted base
    ∙ ap (λ (x : Question). answer_to S w.records w.stamps w.state.count w.state.mark x granted base) e
    ∙ commit-none-answered S w.records w.stamps w.state.count w.state.mark w.state.question i s granted (lent.0 i q.0) (omega (arith, q.1, (f.table.each i q.0).range.few))

-- ---- the claim that waits

-- a run of no chunk is found at once
found_none : (a : Arena) → find_run a 0 ≡ Some 0
unfolding find_run
found_none a = (at-iff (free a) a.chunks 0 0).1 (record { room = omega arith; all-free = λ j u v. absurd (omega arith) }, λ t h x. absurd (omega arith))

least-same : (p q : ℕ → Bool) → ((j : ℕ) → p j ≡ q j) → (s k : ℕ) → least p s k ≡ least q s k
unfolding least
least-same p q h s zero = refl
least-same p q h s (suc k) = ap₂ (λ (b : Bool) (r : Option ℕ). cond b (Some s) r) (h s) (least-same p q h (suc s) k)

-- so every arena that is not exclusive serves it
serves-none : (l : List Arena) (j : ℕ) → serves (negsuc 0) 0 l j ≡ not (is_on (at l j).exclusive)
unfolding serves eligible
serves-none l j = ap (λ (f : Option ℕ). not (is_on (at l j).exclusive) && is_some f) (found_none (at l j)) ∙ and-true (not (is_on (at l j).exclusive))
  where
    and-true : (b : Bool) → b && true ≡ b
    and-true true = refl
    and-true false = refl

module _ (S : ℕ) (l : List Arena) (stamps : List ℕ) (k : ℕ) (mark : Bool) (rows : (i : ℕ) → i < k → Rows (at l i)) where
  granted : (i : ℕ) → i < k
      → outcome (Claimed ((at l i).base + 0 * S) true true) (world_of (set l i (dirty_run (take_run (at l i) 0 0) 0 0)) stamps (calm k mark))
      ≡ outcome (Claimed (at l i).base true true) (world_of l stamps (calm k mark))
  granted i h =
      let r : Rows (at l i) = rows i h in
      ap₂ (λ (x : ℕ) (m : List Arena). outcome (Claimed x true true) (world_of m stamps (calm k mark))) (let z : (at l i).base + 0 * S ≡ (at l i).base = omega arith in z)
      (put_same l i _ (ap (λ (b : Arena). dirty_run b 0 0) (take_none (at l i) 0 r (omega arith)) ∙ dirty-none (at l i) 0 r (omega arith)))

  grant-none : (i : ℕ) (commits : Bool) → i < k
      → grant_found S l stamps k mark i 0 commits (Some 0) ≡ outcome (Claimed (at l i).base true true) (world_of l stamps (calm k mark))
  unfolding grant_arena grant_reply asks_commit run_committed run_fresh all
  grant-none i true h = granted i h
  grant-none i false h = granted i h

  found : (commits : Bool) (f : Option ℕ) → First (λ i. not (is_on (at l i).exclusive)) 0 k f
      → search_at S l stamps k mark 0 commits (turn_down NoRun (calm k mark)) f ≡ empty_run (world_of l stamps (calm k mark)) f
  found commits (Some i) h = ap (grant_found S l stamps k mark i 0 commits) (found_none (at l i)) ∙ grant-none i commits (omega (arith, h.1))
  found commits None h = refl

  search-none : (commits : Bool) → search_of S l stamps k mark (negsuc 0) 0 commits (turn_down NoRun (calm k mark)) ≡ empty_claim (world_of l stamps (calm k mark))
  unfolding search_of
  search-none commits =
      ap (search_at S l stamps k mark 0 commits (turn_down NoRun (calm k mark))) (least-same (serves (negsuc 0) 0 l) (λ i. not (is_on (at l i).exclusive)) (serves-none l) 0 k)
      ∙ found commits (least (λ i. not (is_on (at l i).exclusive)) 0 k) (first_says (λ i. not (is_on (at l i).exclusive)) 0 k)

abbrev Passed : List (Row Outcome) → Type 0
Passed [] = Unit {0}
Passed (r ∷ rows) = (r.holds ≡ false) × Passed rows

-- rows whose act is the same where none of them holds
first-same : (cs : List (Row Outcome)) (a b : Outcome) → (Passed cs → a ≡ b) → first_of cs a ≡ first_of cs b
first-same [] a b h = h tt
first-same (c ∷ cs) a b h = go c.holds refl (λ e. first-same cs a b (λ p. h (e, p)))
  where
    go : (x : Bool) → c.holds ≡ x → (c.holds ≡ false → first_of cs a ≡ first_of cs b) → cond c.holds c.ends (first_of cs a) ≡ cond c.holds c.ends (first_of cs b)
    go true e more = rw e refl
    go false e more = ap (cond c.holds c.ends) (more e)

pub empty-claim : (S : ℕ) → EmptyClaim S
unfolding is_for
empty-claim S w ns settings chunks bytes commit exclusive commits base lent e =
    let f = (sound-facts S w settings.page lent.0 lent.1).0 in
    past-3 S w ns settings lent.1 ForMemory (ap (λ (x : Question). is_for x ForMemory) e) true base
    ∙ ap (λ (q : Question). answer_to S w.records w.stamps w.state.count w.state.mark q true base) e
    ∙ first-same (yes_rows S w.records w.stamps w.state.count w.state.mark chunks bytes commit exclusive (Claim 0 commits) base) _ _
    (λ p. search-none S (with_record w.records w.state.count a) (with_stamps w.stamps w.state.count) (suc w.state.count) w.state.mark
    (rows (omega (arith, f.table.long, leb-false 32 w.state.count p.1.1.1.0))) commits)
  where
    a : Arena
    a = reserved_arena base chunks commit exclusive

    rows : w.state.count < length w.records → (i : ℕ) → i < suc w.state.count → Rows (at (with_record w.records w.state.count a) i)
    rows h i u =
        by-set Rows w.records w.state.count a h (reserved-rows base chunks commit exclusive) i
        (λ d. lent.0 i (⊎_elim (λ (m : i < w.state.count). m) (λ (m : w.state.count ≤ i). absurd (d (omega arith))) (lt-or-le i w.state.count)))
