-- As many arenas stand after a call, or one more, the one that the call asked for. Assumes nothing.
use Rattle.std.specs.Prelude.{◌≡◌, ◌⊎◌, ◌+◌, ◌-◌, ◌*◌, ◌/◌, ◌%◌, ◌<◌, ◌≤◌}
use Rattle.layer.proofs.Prelude.{by_rules, refl, sym, ap, ◌∙◌, subst, Bool, true, false, List, inl, inr, ℕ, suc, arith, ℕ_discrete, eqb, ℤ, length, set, length-set, eqb-true, Refusal, MemoryRefused, and_both, Arena, is_on, new_arena, reserved_arena, managed_arena, adopted_arena, take_run, dirty_run, flag-read, Settings, Question, Idle, Committing, Purging, Reserving, GivingBack, Waiting, Reserve, Claim, Kind, Outcome, after, at, sound_lent, ask_memory, with_record, with_stamps, first_whole, past_whole, is_for, cause_refusal, counted, fail_reply, resume, answer_to, answer_of, Act, reserve, manage, adopt, claim, release, sweep, Call, act, query, answer, sweep_of, act_on, step_on, stays_pending, sweeps_none}
use Rattle.layer.specs.World.{size_of}
use Rattle.layer.specs.Standing.{Brought, AskedFor, NoneUnasked}
use Rattle.layer.proofs.Tools.{at_same, at_other, by-not}
use Rattle.layer.proofs.ChunkLaws.{size_fits, whole, managed-inside}
use Rattle.layer.proofs.Rules.{Again, again, count-facts}
use Rattle.layer.proofs.Cases.{register, grant-cases, search-cases, miss-cases, claim-cases, release-in-cases, release-cases, reserve-cases, register-cases, manage-cases, adopt-cases, memory-cases}
use Rattle.layer.proofs.Sweeps.{visit-cases, sweep-cases, all-or-none}
use Rattle.layer.proofs.Plain.{passes}

-- a change that leaves the range and the flag
abbrev Kept : Arena → Arena → Type 0
Kept a c = (c.base ≡ a.base) × (c.chunks ≡ a.chunks) × (c.exclusive ≡ a.exclusive)

taken-kept : (a : Arena) (s n : ℕ) → Kept a (take_run a s n)
unfolding take_run
taken-kept a s n = (refl, refl, refl)

granted-kept : (a : Arena) (s n : ℕ) → Kept a (dirty_run (take_run a s n) s n)
unfolding take_run dirty_run
granted-kept a s n = (refl, refl, refl)

module _ (S : ℕ) (some_size : 0 < S) (l : List Arena) (stamps : List ℕ) (k : ℕ) (mark : Bool) (long : length l ≡ 32) where
  -- as many, or the one more that A says
  abbrev Stands : (Arena → Type 0) → Outcome → Type 0
  Stands A o = (o.world.state.count ≡ k) ⊎ ((o.world.state.count ≡ suc k) × A (at o.world.records k))

  register-stands : (A : Arena → Type 0) (chunks : ℕ) (a : Arena) → (1 ≤ chunks → A a) → Stands A (register l stamps k mark chunks a)
  register-stands A chunks a h =
      register-cases S l stamps k mark (Stands A) chunks a (inl refl) (inl refl)
      (λ e f. inr (refl, subst A (sym (at_same l k a (omega (arith, long)))) (h (count-facts chunks e).0)))

  -- the whole chunks of a managed range lie in it
  managed-asked : (from size : ℕ) (exclusive : Bool) (node : ℤ) → let chunks = (past_whole S from size - first_whole S from) / S in 1 ≤ chunks
      → let a = managed_arena (first_whole S from) chunks exclusive node in (from ≤ a.base) × (a.base + a.chunks * S ≤ from + size) × (is_on a.exclusive ≡ exclusive)
  unfolding managed_arena new_arena
  managed-asked from size exclusive node some = let inside = managed-inside S some_size from size some in (inside.0, inside.1, flag-read exclusive)

  adopted-asked : (address size : ℕ) → size % S ≡ 0 → let a = adopted_arena address (size / S) in (a.base ≡ address) × (a.chunks * S ≡ size) × (is_on a.exclusive ≡ false)
  unfolding adopted_arena new_arena
  adopted-asked address size e = (refl, whole S some_size size e, refl)

  act-stands : (q : Question) (ns : ℕ) (settings : Settings) (a : Act) → Stands (AskedFor S q (act a)) (act_on S l stamps k mark q ns settings a)
  unfolding ask_memory
  act-stands q ns settings (reserve size commit large exclusive) = reserve-cases S l stamps k mark (Stands (λ a. ⊥)) size commit large exclusive settings.page (inl refl) (inl refl)
  act-stands q ns settings (manage start size exclusive node mapped reserved) =
      manage-cases S l stamps k mark (Stands (AskedFor S q (act (manage start size exclusive node mapped reserved)))) start size exclusive node mapped reserved (inl refl) (inl refl) (inl refl)
      (λ e. register-stands (AskedFor S q (act (manage start size exclusive node mapped reserved))) _ _ (managed-asked start size exclusive node))
  act-stands q ns settings (adopt address size) =
      adopt-cases S l stamps k mark (Stands (AskedFor S q (act (adopt address size)))) address size (inl refl) (inl refl) (inl refl) (λ i w u e. inl refl)
      (λ w. register-stands (AskedFor S q (act (adopt address size))) _ _ (λ s. adopted-asked address size w.2))
  act-stands q ns settings (claim id n commits) =
      claim-cases S l stamps k mark (Stands (λ a. ⊥)) id n commits settings (λ e. inl refl) (λ e f. inl refl)
      (λ e f. search-cases S l stamps k mark (Stands (λ a. ⊥)) id n commits _ (λ g. miss-cases S l stamps k mark (Stands (λ a. ⊥)) id n commits settings (inl refl) (inl refl) (inl refl))
      (λ i h g. grant-cases S l stamps k mark (Stands (λ a. ⊥)) i n commits (λ _. inl refl) (λ s _. inl refl) (λ s _. inl refl)))
  act-stands q ns settings (release x n told pending) =
      release-cases S l stamps k mark (Stands (λ a. ⊥)) n told (stays_pending settings pending) _ _ x (λ e. inl refl) (λ e f. inl refl)
      (λ i e u f. release-in-cases S l stamps k mark (Stands (λ a. ⊥)) n told (stays_pending settings pending) _ _ i _ (λ g. inl refl) (λ g v. inl refl) (λ g v. inl refl))
  act-stands q ns settings (sweep force) =
      all-or-none S stamps k mark (sweep_of force ns settings) (Stands (λ a. ⊥)) (sweeps_none settings force) l
      (λ f h. sweep-cases S stamps k mark (sweep_of force ns settings) (Stands (λ a. ⊥)) 0 (λ m x a j u. inl refl) (λ m. inl refl) f 0 l (omega arith))

  -- ---- answers

  fail-stands : (A : Arena → Type 0) (why : Refusal) (waiting : Waiting) → Stands A (after (fail_reply k mark why waiting) l stamps)
  fail-stands A why Reserve = inl refl
  fail-stands A why (Claim n commits) = inl refl

  module _ (base chunks : ℕ) (commit exclusive : Bool) (room : k < 32) where
    abbrev new : Arena
    new = reserved_arena base chunks commit exclusive

    abbrev Is : Arena → Type 0
    Is a = (a.base ≡ base) × (a.chunks ≡ chunks) × (is_on a.exclusive ≡ exclusive)

    is-new : Is new
    unfolding reserved_arena new_arena
    is-new = (refl, refl, flag-read exclusive)

    here : Is (at (with_record l k new) k)
    here = subst Is (sym (at_same l k new (omega (arith, long)))) is-new

    -- a run taken in any of the arenas leaves what the new one is
    taken : (i : ℕ) (c : Arena) → i < suc k → Kept (at (with_record l k new) i) c → Is (at (set (with_record l k new) i c) k)
    taken i c h kept = go (ℕ_discrete k i)
      where
        go : Dec (k ≡ i) → Is (at (set (with_record l k new) i c) k)
        go (no d) = subst Is (sym (at_other (with_record l k new) i k c d)) here
        go (yes d) =
            subst Is (sym (ap (at (set (with_record l k new) i c)) d ∙ at_same (with_record l k new) i c (omega (arith, length-set l k new, long))))
            (let at_i : Is (at (with_record l k new) i) = subst (λ (j : ℕ). Is (at (with_record l k new) j)) d here in
            (kept.0 ∙ at_i.0, kept.1 ∙ at_i.1, ap is_on kept.2 ∙ at_i.2))

    resume-stands : (waiting : Waiting) → Stands Is (resume S l stamps k mark new waiting)
    resume-stands Reserve = inr (refl, here)
    resume-stands (Claim n commits) =
        let g : Again S l stamps k mark new n commits = again S l stamps k mark new n commits in
        subst (Stands Is) (sym g.is)
        (search-cases S (with_record l k new) (with_stamps stamps k) (suc k) mark (Stands Is) g.id n commits _ (λ _. inr (refl, here))
        (λ i h f. grant-cases S (with_record l k new) (with_stamps stamps k) (suc k) mark (Stands Is) i n commits (λ _. inr (refl, here))
        (λ s _. inr (refl, taken i (dirty_run (take_run (at (with_record l k new) i) s n) s n) h (granted-kept (at (with_record l k new) i) s n)))
        (λ s _. inr (refl, taken i (take_run (at (with_record l k new) i) s n) h (taken-kept (at (with_record l k new) i) s n)))))

  answer-stands : (q : Question) (kind : Kind) (accepted : Bool) (base : ℕ) → Stands (Brought base q) (answer_of S l stamps k mark q kind accepted base)
  unfolding answer_of
  answer-stands q kind accepted base = by-not (Stands (Brought base q)) (is_for q kind) _ _ (λ e. go q accepted) (λ e. inl refl)
    where
      go : (p : Question) (accepted : Bool) → Stands (Brought base p) (answer_to S l stamps k mark p accepted base)
      go Idle accepted = inl refl
      go (Committing i s n) true = inl refl
      go (Committing i s n) false = inl refl
      go (Purging i j w) accepted =
          visit-cases S stamps k mark (counted w accepted) (Stands (λ a. ⊥)) 0 (λ m x a c u. inl refl) (λ m. inl refl) l i _ _ _ (omega arith)
          (λ m. sweep-cases S stamps k mark (counted w accepted) (Stands (λ a. ⊥)) 0 (λ n x a c u. inl refl) (λ n. inl refl) (k - (i + 1)) (i + 1) m (omega arith))
      go (Reserving chunks bytes commit exclusive waiting) false = fail-stands (Brought base (Reserving chunks bytes commit exclusive waiting)) MemoryRefused waiting
      go (Reserving chunks bytes commit exclusive waiting) true =
          memory-cases S l stamps k mark (Stands (Brought base (Reserving chunks bytes commit exclusive waiting))) chunks bytes commit exclusive waiting base (inl refl) (λ cause. inl refl)
          (λ d e f u. resume-stands base chunks commit exclusive u waiting)
      go (GivingBack cause waiting) accepted = fail-stands (λ a. ⊥) (cause_refusal cause) waiting

  call-stands : (q : Question) (ns : ℕ) (settings : Settings) (c : Call) → Stands (AskedFor S q c) (step_on S l stamps k mark q ns settings c)
  call-stands q ns settings (act a) = go q
    where
      go : (p : Question) → Stands (AskedFor S p (act a)) (step_on S l stamps k mark p ns settings (act a))
      go Idle = act-stands Idle ns settings a
      go (Committing i s n) = inl refl
      go (Purging i j w) = inl refl
      go (Reserving chunks bytes commit exclusive waiting) = inl refl
      go (GivingBack cause waiting) = inl refl
  call-stands q ns settings (query c) = inl refl
  call-stands q ns settings (answer kind accepted base) = answer-stands q kind accepted base

pub none-unasked : NoneUnasked by_rules
unfolding sound_lent
none-unasked w ns settings c e =
    subst (λ (o : Outcome). Stands S some_size w.records w.stamps w.state.count w.state.mark long (AskedFor S w.state.question c) o) (sym (passes w ns settings c w.state.question e refl))
    (call-stands S some_size w.records w.stamps w.state.count w.state.mark long w.state.question ns settings c)
  where
    S : ℕ
    S = size_of w.state

    some_size : 0 < S
    some_size = (size_fits w.state).0

    long : length w.records ≡ 32
    long = eqb-true (length w.records) 32 (and_both (eqb (length w.records) 32) _ e).0
