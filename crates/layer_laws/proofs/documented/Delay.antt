-- Option 15, purge_delay: where every call carries a negative delay nothing is purged, over whole histories. No deadline is ever set, so a forced sweep asks nothing either. Assumes nothing.
use Rattle.std.specs.Prelude.{◌≡◌, ◌&&◌, ◌||◌, ◌+◌, ◌-◌, ◌<◌, ◌≤◌, ◌/◌}
use Rattle.layer.proofs.Prelude.{refl, sym, ap, ◌∙◌, subst, Bool, true, false, not, true≢false, List, ⊎_elim, ℕ, zero, suc, arith, ℕ_discrete, eq-eqb, ℤ, pos, negsuc, ltb, length, set, lt-or-le, by_cond, unless, Refusal, never_purges, is_due, Arena, Commitment, new_arena, reserved_arena, managed_arena, adopted_arena, grown_arena, take_run, dirty_run, give_back_run, commit_run, finish_grant, release_run, sweep_due, World, Outcome, world_of, state_with, after, blank, at, ask_memory, with_record, with_stamps, sweep_from, swept_reply, fail_reply, resume, answer_to, answer_of, is_for, Act, claim, reserve, manage, adopt, release, sweep, owns, area, Call, act, query, answer, sweep_of, sweeps_none, act_on, step_on, rules, by_rules, History, begin, next, joining, Lent, left, join, empty, search_of, release_of, now_ms, delay_ms, sound, is_idle, JoinOutcome, is_broken, outcome_by, is_broken_join, join_by, Side, side_of, of_first, of_second, Items, release_list, listing, list_by}
use lib.ListN.{get_or-eq_default}
use lib.Seq.{set_out}
use Rattle.options.proofs.Differences.{never-is-negative}
use Rattle.layer.specs.declared.Settings.{Settings}
use Rattle.layer.specs.declared.Sweep.{Sweep}
use Rattle.layer.specs.declared.Question.{Question}
use Rattle.layer.specs.declared.Question.TheVariants.{Idle, Committing, Purging, Reserving, GivingBack}
use Rattle.layer.specs.declared.Waiting.{Waiting}
use Rattle.layer.specs.declared.Waiting.TheVariants.{Reserve, Claim}
use Rattle.layer.specs.declared.Answer.{Answer}
use Rattle.layer.specs.declared.Answer.TheVariants.{Refused, Asks, Registered, Claimed, Released, Swept, Owns, Area}
use Rattle.layer.specs.declared.Kind.{Kind}
use Rattle.layer.specs.declared.Reply.{Reply}
use Rattle.layer.specs.World.{size_of}
use Rattle.layer.specs.Step.{Query, query_on}
use Rattle.layer.proofs.Tools.{at_same, at_other, by-not}
use Rattle.layer.proofs.Rules.{Again, again}
use Rattle.layer.proofs.Cases.{register, grant-cases, search-cases, miss-cases, claim-cases, release-in-cases, release-cases, reserve-cases, register-cases, manage-cases, adopt-cases, memory-cases}
use Rattle.layer.proofs.Sweeps.{all-or-none}
use Rattle.layer.proofs.Lists.{list-keeps}
use Rattle.layer.proofs.Joins.{Comes, both-stay, one_table, join-comes}
use Rattle.layer_laws.specs.sweep_runs.Run.{asks_purge, is_purging}
use Rattle.layer_laws.specs.joined.Join.{OneTable}
use Rattle.layer_laws.specs.documented.Options.{EachDelay, NothingPurged, SaidNever, Negative}
use Rattle.layer_laws.proofs.never.Delay.{stays_at, told-deadline}
use Rattle.layer_laws.proofs.joined.Join.{by-the-wish}

-- ---- no deadline is set

abbrev Unarmed : List Arena → ℕ → Type 0
Unarmed l k = (i : ℕ) → i < k → (at l i).deadline ≡ 0

-- a change that leaves the deadline, and a new arena
changed : (l : List Arena) (k : ℕ) → Unarmed l k → (i : ℕ) (a : Arena) → a.deadline ≡ (at l i).deadline → Unarmed (set l i a) k
changed l k u i a e j h = stays_at (λ (b : Arena). b.deadline) l i a e j ∙ u j h

added : (l : List Arena) (k : ℕ) → Unarmed l k → (a : Arena) → a.deadline ≡ 0 → Unarmed (set l k a) (suc k)
added l k u a e j h = go (ℕ_discrete j k)
  where
    here : (at (set l k a) k).deadline ≡ 0
    here =
        ⊎_elim (λ x. ap (λ (b : Arena). b.deadline) (at_same l k a x) ∙ e)
        (λ x. ap (λ (m : List Arena). (at m k).deadline) (set_out l k a x) ∙ ap (λ (b : Arena). b.deadline) (get_or-eq_default l blank x)) (lt-or-le k (length l))

    go : Dec (j ≡ k) → (at (set l k a) j).deadline ≡ 0
    go (yes d) = subst (λ (x : ℕ). (at (set l k a) x).deadline ≡ 0) (sym d) here
    go (no d) = ap (λ (b : Arena). b.deadline) (at_other l k j a d) ∙ u j (omega (arith, h, d))

-- what is registered has none
reserved-none : (base chunks : ℕ) (commit exclusive : Bool) → (reserved_arena base chunks commit exclusive).deadline ≡ 0
unfolding reserved_arena new_arena
reserved-none base chunks commit exclusive = refl

managed-none : (base chunks : ℕ) (exclusive : Bool) (node : ℤ) → (managed_arena base chunks exclusive node).deadline ≡ 0
unfolding managed_arena new_arena
managed-none base chunks exclusive node = refl

adopted-none : (base chunks : ℕ) → (adopted_arena base chunks).deadline ≡ 0
unfolding adopted_arena new_arena
adopted-none base chunks = refl

-- and what is grown, taken, granted or given back keeps its own
grown-keeps : (a : Arena) (n : ℕ) → (grown_arena a n).deadline ≡ a.deadline
unfolding grown_arena
grown-keeps a n = refl

taken-keeps : (a : Arena) (s n : ℕ) → (take_run a s n).deadline ≡ a.deadline
unfolding take_run
taken-keeps a s n = refl

granted-keeps : (a : Arena) (s n : ℕ) → (dirty_run (take_run a s n) s n).deadline ≡ a.deadline
unfolding take_run dirty_run
granted-keeps a s n = refl

finished-keeps : (a : Arena) (s n : ℕ) → (finish_grant a s n true).deadline ≡ a.deadline
unfolding finish_grant dirty_run commit_run
finished-keeps a s n = refl

given-keeps : (a : Arena) (s n : ℕ) → (give_back_run a s n).deadline ≡ a.deadline
unfolding give_back_run
given-keeps a s n = refl

-- "Deadline 0: skipped."
none-due : (a : Arena) (force : Bool) (now : ℕ) → a.deadline ≡ 0 → sweep_due a force now ≡ false
unfolding sweep_due
none-due a force now e = ap (λ (b : Bool). not b && (force || is_due a.deadline now)) (eq-eqb a.deadline 0 e)

-- ---- one call

-- no deadline is set, and no purge question is open
record Quiet (w : World) : Type 0 where
  unarmed : Unarmed w.records w.state.count
  no-purge : is_purging w.state.question ≡ false

-- it is left so, and none is put
abbrev Fine : Outcome → Type 0
Fine o = Quiet o.world × (asks_purge o.answer ≡ 0)

module _ (S : ℕ) (l : List Arena) (stamps : List ℕ) (k : ℕ) (mark : Bool) (u : Unarmed l k) where
  -- with the records as they are, or with one changed
  as_is : {q : Question} → is_purging q ≡ false → Quiet (world_of l stamps (state_with k mark q))
  as_is e = record { unarmed = u; no-purge = e }

  with-one : {q : Question} {t : List ℕ} (i : ℕ) (a : Arena) → a.deadline ≡ (at l i).deadline → is_purging q ≡ false → Quiet (world_of (set l i a) t (state_with k mark q))
  with-one i a e f = record { unarmed = changed l k u i a e; no-purge = f }

  register-fine : (chunks : ℕ) (a : Arena) → a.deadline ≡ 0 → Fine (register l stamps k mark chunks a)
  register-fine chunks a e =
      register-cases S l stamps k mark Fine chunks a (as_is refl, refl) (as_is refl, refl) (λ f h. (record { unarmed = added l k u a e; no-purge = refl }, refl))

  search-fine : (id : ℤ) (n : ℕ) (commits : Bool) (missed : Reply) → Fine (after missed l stamps) → Fine (search_of S l stamps k mark id n commits missed)
  search-fine id n commits missed m =
      search-cases S l stamps k mark Fine id n commits missed (λ h. m)
      (λ i h g. grant-cases S l stamps k mark Fine i n commits (λ _. (as_is refl, refl)) (λ s _. (with-one i _ (granted-keeps (at l i) s n) refl, refl)) (λ s _. (with-one i _ (taken-keeps (at l i) s n) refl, refl)))

  sweep-fine : (w : Sweep) (f i : ℕ) → i + f ≤ k → Fine (sweep_from S stamps k mark w f i l)
  unfolding sweep_from swept_reply
  sweep-fine w zero i h = (as_is refl, refl)
  sweep-fine w (suc f) i h = subst Fine (sym (unless (sweep_due (at l i) w.force w.now) _ _ (none-due (at l i) w.force w.now (u i (omega arith))))) (sweep-fine w f (i + 1) (omega arith))

  fail-fine : (why : Refusal) (waiting : Waiting) → Fine (after (fail_reply k mark why waiting) l stamps)
  fail-fine why Reserve = (as_is refl, refl)
  fail-fine why (Claim n commits) = (record { unarmed = u; no-purge = refl }, refl)

  -- a release that is not pending
  release-fine : (x n : ℕ) (told : Commitment) (now delay : ℕ) → Fine (release_of S l stamps k mark x n told false now delay)
  unfolding release_run
  release-fine x n told now delay =
      release-cases S l stamps k mark Fine n told false now delay x (λ e. (as_is refl, refl)) (λ e f. (as_is refl, refl))
      (λ i e h f. release-in-cases S l stamps k mark Fine n told false now delay i _ (λ g. (as_is refl, refl)) (λ g v. (as_is refl, refl)) (λ g v. (with-one i _ (told-deadline (at l i) _ n told) refl, refl)))

  act-fine : (q : Question) (ns : ℕ) (settings : Settings) → never_purges settings.delay ≡ true → (a : Act) → Fine (act_on S l stamps k mark q ns settings a)
  unfolding ask_memory
  act-fine q ns settings e (reserve size commit large exclusive) = reserve-cases S l stamps k mark Fine size commit large exclusive settings.page (as_is refl, refl) (as_is refl, refl)
  act-fine q ns settings e (manage start size exclusive node mapped reserved) =
      manage-cases S l stamps k mark Fine start size exclusive node mapped reserved (as_is refl, refl) (as_is refl, refl) (as_is refl, refl) (λ f. register-fine _ _ (managed-none _ _ exclusive node))
  act-fine q ns settings e (adopt address size) =
      adopt-cases S l stamps k mark Fine address size (as_is refl, refl) (as_is refl, refl) (as_is refl, refl) (λ i w h f. (with-one i _ (grown-keeps (at l i) (size / S)) refl, refl))
      (λ w. register-fine _ _ (adopted-none address (size / S)))
  act-fine q ns settings e (claim id n commits) =
      claim-cases S l stamps k mark Fine id n commits settings (λ f. (as_is refl, refl)) (λ f g. (as_is refl, refl))
      (λ f g. search-fine id n commits _ (miss-cases S l stamps k mark Fine id n commits settings (as_is refl, refl) (record { unarmed = u; no-purge = refl }, refl) (as_is refl, refl)))
  act-fine q ns settings e (release x n told pending) =
      subst (λ (b : Bool). Fine (release_of S l stamps k mark x n told b (now_ms ns) (delay_ms settings.delay))) (sym (ap (λ (b : Bool). pending && not b) e ∙ never-stays pending)) (release-fine x n told _ _)
    where
      never-stays : (b : Bool) → b && false ≡ false
      never-stays true = refl
      never-stays false = refl
  act-fine q ns settings e (sweep force) =
      all-or-none S stamps k mark (sweep_of force ns settings) Fine (sweeps_none settings force) l (λ f h. sweep-fine (sweep_of force ns settings) f 0 (omega (arith, h)))

-- ---- answers

module _ (S : ℕ) (l : List Arena) (stamps : List ℕ) (k : ℕ) (mark : Bool) (u : Unarmed l k) where
  resume-fine : (a : Arena) → a.deadline ≡ 0 → (waiting : Waiting) → Fine (resume S l stamps k mark a waiting)
  resume-fine a e Reserve = (record { unarmed = added l k u a e; no-purge = refl }, refl)
  resume-fine a e (Claim n commits) =
      let g : Again S l stamps k mark a n commits = again S l stamps k mark a n commits in
      subst Fine (sym g.is)
      (search-fine S (with_record l k a) (with_stamps stamps k) (suc k) mark (added l k u a e) g.id n commits _ (as_is S (with_record l k a) (with_stamps stamps k) (suc k) mark (added l k u a e) refl, refl))

  answer-fine : (q : Question) (kind : Kind) (granted : Bool) (base : ℕ) → is_purging q ≡ false → Fine (answer_of S l stamps k mark q kind granted base)
  unfolding answer_of
  answer-fine q kind granted base none = by-not Fine (is_for q kind) _ _ (λ e. go q granted none) (λ e. (as_is S l stamps k mark u none, refl))
    where
      go : (p : Question) (granted : Bool) → is_purging p ≡ false → Fine (answer_to S l stamps k mark p granted base)
      go Idle granted e = (as_is S l stamps k mark u refl, refl)
      go (Committing i s n) true e = (with-one S l stamps k mark u i _ (finished-keeps (at l i) s n) refl, refl)
      go (Committing i s n) false e = (with-one S l stamps k mark u i _ (given-keeps (at l i) s n) refl, refl)
      go (Purging i j w) granted e = absurd (true≢false e)
      go (Reserving chunks bytes commit exclusive waiting) false e = fail-fine S l stamps k mark u _ waiting
      go (Reserving chunks bytes commit exclusive waiting) true e =
          memory-cases S l stamps k mark Fine chunks bytes commit exclusive waiting base (as_is S l stamps k mark u refl, refl) (λ cause. (as_is S l stamps k mark u refl, refl))
          (λ d f g h. resume-fine (reserved_arena base chunks commit exclusive) (reserved-none base chunks commit exclusive) waiting)
      go (GivingBack cause waiting) granted e = fail-fine S l stamps k mark u _ waiting

query-none : (S : ℕ) (l : List Arena) (k : ℕ) (c : Query) (stamps : List ℕ) (mark : Bool) (q : Question) (ns : ℕ) (settings : Settings) → asks_purge (query_on S l stamps k mark q ns settings c) ≡ 0
query-none S l k (owns address) stamps mark q ns settings = refl
query-none S l k (area (pos i)) stamps mark q ns settings = by_cond (λ (r : Answer). asks_purge r ≡ 0) (ltb i k) _ _ (λ e. refl) (λ e. refl)
query-none S l k (area (negsuc i)) stamps mark q ns settings = refl

step-fine : (S : ℕ) (w : World) (ns : ℕ) (settings : Settings) (c : Call) → Quiet w → never_purges settings.delay ≡ true → Fine (rules S w ns settings c)
unfolding rules
step-fine S w ns settings c z e = by-not Fine (sound S w settings.page) _ _ (λ f. go c) (λ f. (z, refl))
  where
    go : (c : Call) → Fine (step_on S w.records w.stamps w.state.count w.state.mark w.state.question ns settings c)
    go (act a) =
        by-not Fine (is_idle w.state.question) _ _ (λ f. act-fine S w.records w.stamps w.state.count w.state.mark z.unarmed w.state.question ns settings e a) (λ f. (z, refl))
    go (query c) = (z, query-none S w.records w.state.count c w.stamps w.state.mark w.state.question ns settings)
    go (answer kind granted base) = answer-fine S w.records w.stamps w.state.count w.state.mark z.unarmed w.state.question kind granted base z.no-purge

-- ---- a join

empty-quiet : Quiet empty
unfolding empty
empty-quiet = record { unarmed = λ i h. absurd (omega (arith, h)); no-purge = refl }

joined-quiet : (w v : World) (ns : ℕ) (settings : Settings) → Quiet w → Quiet v → Quiet (join w v ns settings).first × Quiet (join w v ns settings).second
joined-quiet w v ns settings x y = go (join-comes (size_of w.state) w v settings)
  where
    one : (u : World) → OneTable w v u → Quiet u
    one u t = record {
      unarmed = λ i h. ⊎_elim (λ a. ap (λ (b : Arena). b.deadline) (t.first-ids i a) ∙ x.unarmed i a)
          (λ a. let k = w.state.count in
          let same : at u.records i ≡ at v.records (i - k) = subst (λ (j : ℕ). at u.records j ≡ at v.records (i - k)) (let f : k + (i - k) ≡ i = omega (arith, a) in f) (t.second-ids (i - k) (omega (arith, a, h, t.count))) in
          ap (λ (b : Arena). b.deadline) same ∙ y.unarmed (i - k) (omega (arith, a, h, t.count))) (lt-or-le i w.state.count);
      no-purge = ap is_purging t.none_open;
    }

    go : Comes (size_of w.state) w v (join w v ns settings) → Quiet (join w v ns settings).first × Quiet (join w v ns settings).second
    go (both-stay e f g) = (subst Quiet (sym f) x, subst Quiet (sym g) y)
    go (one_table c e) =
        let t = by-the-wish.grant-leaves w v ns settings w.state.count (ap (λ (o : JoinOutcome). o.answer) e) in
        (one (join w v ns settings).first t.0, subst Quiet (sym t.1) empty-quiet)

-- ---- over histories

negative-never : (d : ℤ) → Negative d → never_purges d ≡ true
unfolding never_purges
negative-never d h = ap never_purges h.1

-- a list is releases
list-quiet : (w : World) (ns : ℕ) (settings : Settings) (t : Items) → never_purges settings.delay ≡ true → Quiet w → Quiet (release_list w ns settings t).whole.world
list-quiet w ns settings t n q = list-keeps w ns settings t Quiet (λ v g p x m. (step-fine (size_of v.state) v ns settings _ p n).0) q

quiet : (h : History) → Lent by_rules h → EachDelay Negative h → Quiet (left by_rules h)
quiet begin lent each = empty-quiet
quiet (next h m) lent each =
    by_cond Quiet (is_broken (outcome_by by_rules m).answer) _ _ (λ e. quiet h lent.0 each.0)
    (λ e. (step-fine (size_of m.lent.state) m.lent m.ns m.settings m.call (subst Quiet (sym (lent.1 e)) (quiet h lent.0 each.0)) (negative-never m.settings.delay each.1)).0)
quiet (listing h m) lent each =
    by_cond Quiet (is_broken (list_by by_rules m).whole.answer) _ _ (λ e. quiet h lent.0 each.0)
    (λ e. list-quiet m.lent m.ns m.settings m.items (negative-never m.settings.delay each.1) (subst Quiet (sym (lent.1 e)) (quiet h lent.0 each.0)))
quiet (joining side h g m) lent each =
    by_cond Quiet (is_broken_join (join_by by_rules m).answer) _ _ (λ e. of-side side (left by_rules h) (left by_rules g) (quiet h lent.0 each.0) (quiet g lent.1 each.1))
    (λ e. let t = lent.2 e in
    let b = joined-quiet m.first m.second m.ns m.settings (subst Quiet (sym t.0) (quiet h lent.0 each.0)) (subst Quiet (sym t.1) (quiet g lent.1 each.1)) in
    of-side side _ _ b.0 b.1)
  where
    of-side : (side : Side) (w v : World) → Quiet w → Quiet v → Quiet (side_of side w v)
    of-side of_first w v x y = x
    of-side of_second w v x y = y

-- a call that is refused with 1 asks nothing
broken-none : (a : Answer) → is_broken a ≡ true → asks_purge a ≡ 0
broken-none (Refused why) e = refl
broken-none (Asks ask) e = absurd (true≢false (sym e))
broken-none (Registered id) e = refl
broken-none (Claimed address fresh committed) e = refl
broken-none Released e = refl
broken-none (Swept n) e = refl
broken-none (Owns whether) e = refl
broken-none (Area base bytes) e = refl

pub nothing-purged : NothingPurged Negative by_rules
nothing-purged h m lent each = go (is_broken (outcome_by by_rules m).answer) refl
  where
    go : (b : Bool) → is_broken (outcome_by by_rules m).answer ≡ b → asks_purge (outcome_by by_rules m).answer ≡ 0
    go true e = broken-none (outcome_by by_rules m).answer e
    go false e =
        (step-fine (size_of m.lent.state) m.lent m.ns m.settings m.call (subst Quiet (sym (lent.1 e)) (quiet h lent.0 each.0)) (negative-never m.settings.delay each.1)).1

-- so −1 is what mimalloc.h documents
each-other : (P Q : ℤ → Type 0) → ((d : ℤ) → P d → Q d) → (h : History) → EachDelay P h → EachDelay Q h
each-other P Q f begin e = tt
each-other P Q f (next h m) e = (each-other P Q f h e.0, f _ e.1)
each-other P Q f (listing h m) e = (each-other P Q f h e.0, f _ e.1)
each-other P Q f (joining side h g m) e = (each-other P Q f h e.0, each-other P Q f g e.1)

pub documented-never : NothingPurged SaidNever by_rules
documented-never h m lent each = nothing-purged h m lent (each-other SaidNever Negative never-is-negative (next h m) each)
