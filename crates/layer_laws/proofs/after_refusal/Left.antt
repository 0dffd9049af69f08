-- What each refusal leaves: one theorem over every call, `refusal-leaves`. Assumes nothing.
use Rattle.std.specs.Prelude.{◌≡◌, ◌&&◌, ◌⊎◌, ◌+◌, ◌-◌, ◌*◌, ◌%◌}
use Rattle.layer.proofs.Prelude.{refl, sym, subst, Bool, true, false, not, List, inl, inr, ℕ, zero, suc, eqb, leb, ℤ, negsuc, set, Refusal, Broken, NoSuchQuestion, Range, NotWhole, NoRun, CommitRefused, ChunkCount, TableFull, MemoryRefused, by_cond, Option, Some, None, least, Arena, reserved_arena, find_run, sweep_due, next_asked, disarm, return_chunk, stamps_of, World, Outcome, state_with, world_of, after, turn_down, calm, at, bad_range, sound, too_large, ask_memory, bad_count, with_record, with_stamps, serves, asks_commit, grant_arena, grant_reply, is_negative, miss_reply, grant_found, search_at, search_of, claim_of, purge_reply, swept_reply, visit_at, visit, sweep_from, cause_refusal, counted, fail_reply, answer_commit, answer_purge, resume, answer_memory, is_for, answer_to, answer_of, Act, Call, reserve, manage, adopt, claim, release, sweep, answer, owns, area, sweep_of, act, act_on, query, rules, stays_pending, sweeps_none}
use Rattle.layer.specs.declared.Settings.{Settings}
use Rattle.layer.specs.declared.Sweep.{Sweep}
use Rattle.layer.specs.declared.Question.{Question}
use Rattle.layer.specs.declared.Question.TheVariants.{Idle, Committing, Purging, Reserving, GivingBack}
use Rattle.layer.specs.declared.Waiting.{Waiting}
use Rattle.layer.specs.declared.Waiting.TheVariants.{Reserve, Claim}
use Rattle.layer.specs.declared.Unusable.{Unusable}
use Rattle.layer.specs.declared.Unusable.TheVariants.{Count, Misaligned, Full}
use Rattle.layer.specs.declared.Answer.TheVariants.{Refused}
use Rattle.layer.specs.declared.Reply.{Reply}
use Rattle.layer.proofs.Tools.{by-not}
use Rattle.layer.proofs.Cases.{register, claim-cases, release-in-cases, release-cases, reserve-cases, register-cases, manage-cases, adopt-cases}
use Rattle.layer.proofs.Calls.{calm-world, act-cases}
use Rattle.layer_laws.proofs.after_refusal.Answers.{same-refusal, asks-not, registered-not, claimed-not, released-not, swept-not}
use Rattle.layer_laws.specs.after_refusal.Left.{closed, mark_set, LeftByAnswer, LeftBy}
use Rattle.layer.proofs.Sweeps.{all-or-none}

-- an outcome that is a refusal leaves what document 01 says
abbrev pub Says : World → ℕ → Outcome → Type 0
Says w base o = (why : Refusal) → o.answer ≡ Refused why → LeftByAnswer w base why o.world

-- an outcome that is no refusal
abbrev pub Grants : Outcome → Type 0
Grants o = (why : Refusal) → o.answer ≡ Refused why → ⊥

-- the refusal that was answered, at its line
line : (w : World) (base : ℕ) (v : World) (x why : Refusal) → LeftByAnswer w base x v → Refused x ≡ Refused why → LeftByAnswer w base why v
line w base v x why h e = subst (λ (y : Refusal). LeftByAnswer w base y v) (same-refusal why x e) h

-- ---- a sweep is refused nothing once it goes

module _ (S : ℕ) (stamps : List ℕ) (k : ℕ) (mark : Bool) (w : Sweep) where
  visit-grants : (l : List Arena) (i from : ℕ) (a : Arena) (rest : List Arena → Outcome) → ((m : List Arena) → Grants (rest m)) → Grants (visit S stamps k mark w l i a from rest)
  unfolding visit purge_reply
  visit-grants l i from a rest h = go (next_asked a (stamps_of stamps i) w.force w.now w.delay from)
    where
      go : (f : Option ℕ) → Grants (visit_at S stamps k mark w l i a rest f)
      go (Some j) = λ why e. asks-not _ why e
      go None = h _

  sweep-grants : (f i : ℕ) (l : List Arena) → Grants (sweep_from S stamps k mark w f i l)
  unfolding sweep_from swept_reply
  sweep-grants zero i l = λ why e. swept-not w.purged why e
  sweep-grants (suc f) i l =
      by_cond Grants (sweep_due (at l i) w.force w.now) _ _ (λ e. visit-grants l i 0 (disarm (at l i)) (sweep_from S stamps k mark w f (i + 1)) (sweep-grants f (i + 1)))
      (λ e. sweep-grants f (i + 1) l)

-- ---- a search: a grant is no refusal, and a miss leaves what it leaves

module _ (S : ℕ) (l : List Arena) (stamps : List ℕ) (k : ℕ) (mark : Bool) where
  search-leaves : (R : Refusal → World → Type 0) (id : ℤ) (n : ℕ) (commits : Bool) (missed : Reply) → R NoRun (world_of l stamps (calm k mark))
      → ((why : Refusal) → missed.answer ≡ Refused why → R why (world_of l stamps missed.state))
      → (why : Refusal) → (search_of S l stamps k mark id n commits missed).answer ≡ Refused why → R why (search_of S l stamps k mark id n commits missed).world
  unfolding search_of grant_reply
  search-leaves R id n commits missed none m = go (least (serves id n l) 0 k)
    where
      T : Outcome → Type 0
      T o = (why : Refusal) → o.answer ≡ Refused why → R why o.world

      run : (i : ℕ) (f : Option ℕ) → T (grant_found S l stamps k mark i n commits f)
      run i (Some s) =
          by_cond (λ (r : Reply). T (after r (set l i (grant_arena (at l i) s n commits)) stamps)) (asks_commit (at l i) s n commits) _ _
          (λ e why f. absurd (asks-not _ why f)) (λ e why f. absurd (claimed-not _ _ _ why f))
      run i None = λ why e. subst (λ (x : Refusal). R x (world_of l stamps (calm k mark))) (same-refusal why NoRun e) none

      go : (f : Option ℕ) → T (search_at S l stamps k mark n commits missed f)
      go (Some i) = run i (find_run (at l i) n)
      go None = m

-- ---- answers

module _ (S : ℕ) (l : List Arena) (stamps : List ℕ) (k : ℕ) (mark : Bool) (base : ℕ) where
  -- the world that the answer finds, by its question
  abbrev W : Question → World
  W q = world_of l stamps (state_with k mark q)

  commit-says : (i s n : ℕ) (granted : Bool) → Says (W (Committing i s n)) base (answer_commit S l stamps k mark i s n granted)
  commit-says i s n true why e = absurd (claimed-not _ _ _ why e)
  commit-says i s n false why e = line _ base _ CommitRefused why (i, s, n, refl, refl) e

  purge-says : (i j : ℕ) (w : Sweep) (granted : Bool) → Says (W (Purging i j w)) base (answer_purge S l stamps k mark i j w granted)
  purge-says i j w granted why e =
      absurd
      (visit-grants S stamps k mark (counted w granted) l i (j + 1) (return_chunk (at l i) j granted w.decommit)
      (sweep_from S stamps k mark (counted w granted) (k - (i + 1)) (i + 1))
      (sweep-grants S stamps k mark (counted w granted) (k - (i + 1)) (i + 1)) why e)

  -- the memory did not come, or is given back
  fail-says : (q : Question) (x : Refusal) (waiting : Waiting) → LeftByAnswer (W q) base x (closed (W q)) → Says (W q) base (after (fail_reply k mark x waiting) l stamps)
  fail-says q x Reserve h why e = line _ base _ x why h e
  fail-says q x (Claim n commits) h why e = line _ base _ NoRun why (inl refl) e

  resume-says : (chunks bytes : ℕ) (commit exclusive : Bool) (waiting : Waiting)
      → Says (W (Reserving chunks bytes commit exclusive waiting)) base (resume S l stamps k mark (reserved_arena base chunks commit exclusive) waiting)
  resume-says chunks bytes commit exclusive Reserve why e = absurd (registered-not k why e)
  resume-says chunks bytes commit exclusive (Claim n commits) why e =
      search-leaves S (with_record l k (reserved_arena base chunks commit exclusive)) (with_stamps stamps k) (suc k) mark
      (LeftByAnswer (W (Reserving chunks bytes commit exclusive (Claim n commits))) base) (negsuc 0) n commits (turn_down NoRun (calm (suc k) mark))
      (inr (chunks, bytes, commit, exclusive, n, commits, refl, refl)) (λ y f. line _ base _ NoRun y (inr (chunks, bytes, commit, exclusive, n, commits, refl, refl)) f) why e

  memory-says : (chunks bytes : ℕ) (commit exclusive : Bool) (waiting : Waiting) (granted : Bool)
      → Says (W (Reserving chunks bytes commit exclusive waiting)) base (answer_memory S l stamps k mark chunks bytes commit exclusive waiting granted base)
  memory-says chunks bytes commit exclusive waiting false = fail-says (Reserving chunks bytes commit exclusive waiting) MemoryRefused waiting refl
  memory-says chunks bytes commit exclusive waiting true =
      by_cond P (bad_range S l k base (chunks * S)) _ _ (λ e why f. line _ base _ Range why refl f)
      (λ e. by_cond P (bad_count chunks) _ _ (λ f why g. absurd (asks-not _ why g))
      (λ f. by-not P (eqb (base % S) 0) _ _
      (λ g. by_cond P (leb 32 k) _ _ (λ h why i. absurd (asks-not _ why i)) (λ h. resume-says chunks bytes commit exclusive waiting))
      (λ g why h. absurd (asks-not _ why h))))
    where
      P : Outcome → Type 0
      P = Says (world_of l stamps (state_with k mark (Reserving chunks bytes commit exclusive waiting))) base

  give-back-says : (cause : Unusable) (waiting : Waiting) → Says (W (GivingBack cause waiting)) base (after (fail_reply k mark (cause_refusal cause) waiting) l stamps)
  give-back-says Count waiting = fail-says (GivingBack Count waiting) ChunkCount waiting refl
  give-back-says Misaligned waiting = fail-says (GivingBack Misaligned waiting) NotWhole waiting refl
  give-back-says Full waiting = fail-says (GivingBack Full waiting) TableFull waiting refl

  answer-to-says : (q : Question) (granted : Bool) → Says (W q) base (answer_to S l stamps k mark q granted base)
  answer-to-says Idle granted = λ why e. line _ base _ NoSuchQuestion why refl e
  answer-to-says (Committing i s n) granted = commit-says i s n granted
  answer-to-says (Purging i j w) granted = purge-says i j w granted
  answer-to-says (Reserving chunks bytes commit exclusive waiting) granted = memory-says chunks bytes commit exclusive waiting granted
  answer-to-says (GivingBack cause waiting) granted = give-back-says cause waiting

-- ---- every call

-- a refusal leaves all as it was; or it is a claim's 10, and the mark is set
abbrev pub Untouched : World → Outcome → Type 0
Untouched w o = (why : Refusal) → o.answer ≡ Refused why → o.world ≡ w

abbrev pub Marked : World → Outcome → Type 0
Marked w o = (why : Refusal) → o.answer ≡ Refused why → (o.world ≡ w) ⊎ ((why ≡ NoRun) × (o.world ≡ mark_set w))

-- every act but a claim
abbrev Unclaiming : Act → Type 0
Unclaiming (reserve size commit large exclusive) = Unit {0}
Unclaiming (manage start size exclusive node mapped reserved) = Unit {0}
Unclaiming (adopt address size) = Unit {0}
Unclaiming (claim id n commits) = ⊥
Unclaiming (release address n told pending) = Unit {0}
Unclaiming (sweep force) = Unit {0}

-- a miss, where no question is open
miss-leaves : (S : ℕ) (l : List Arena) (stamps : List ℕ) (k : ℕ) (mark : Bool) (id : ℤ) (n : ℕ) (commits : Bool) (settings : Settings)
    → Marked (world_of l stamps (calm k mark)) (after (miss_reply S k mark id n commits settings) l stamps)
unfolding miss_reply ask_memory
miss-leaves S l stamps k mark id n commits settings =
    by_cond M (is_negative id && (leb S settings.reserve && not mark)) _ _
    (λ e. by_cond M (too_large S settings.reserve) _ _ (λ f why g. inr (sym (same-refusal why NoRun g), refl)) (λ f why g. absurd (asks-not _ why g)))
    (λ e why f. inl refl)
  where
    M : Reply → Type 0
    M r = Marked (world_of l stamps (calm k mark)) (after r l stamps)

claim-leaves : (S : ℕ) (l : List Arena) (stamps : List ℕ) (k : ℕ) (mark : Bool) (id : ℤ) (n : ℕ) (commits : Bool) (settings : Settings)
    → Marked (world_of l stamps (calm k mark)) (claim_of S l stamps k mark id n commits settings)
claim-leaves S l stamps k mark id n commits settings =
    claim-cases S l stamps k mark (Marked (world_of l stamps (calm k mark))) id n commits settings (λ e why f. inl refl) (λ e f why g. inl refl)
    (λ e f. search-leaves S l stamps k mark (λ why v. (v ≡ world_of l stamps (calm k mark)) ⊎ ((why ≡ NoRun) × (v ≡ world_of l stamps (calm k true)))) id n commits
    (miss_reply S k mark id n commits settings) (inl refl) (miss-leaves S l stamps k mark id n commits settings))

-- the calls that register and release, where no question is open
module _ (S : ℕ) (l : List Arena) (stamps : List ℕ) (k : ℕ) (mark : Bool) where
  abbrev U : Outcome → Type 0
  U = Untouched (world_of l stamps (calm k mark))

  register-leaves : (chunks : ℕ) (a : Arena) → U (register l stamps k mark chunks a)
  register-leaves chunks a = register-cases S l stamps k mark U chunks a (λ why e. refl) (λ why e. refl) (λ e f why g. absurd (registered-not _ why g))

  act-leaves : (q : Question) (ns : ℕ) (settings : Settings) (a : Act) → Unclaiming a → U (act_on S l stamps k mark q ns settings a)
  unfolding ask_memory
  act-leaves q ns settings (reserve size commit large exclusive) h =
      reserve-cases S l stamps k mark U size commit large exclusive settings.page (λ why e. refl) (λ why e. absurd (asks-not _ why e))
  act-leaves q ns settings (manage start size exclusive node mapped reserved) h =
      manage-cases S l stamps k mark U start size exclusive node mapped reserved (λ why e. refl) (λ why e. refl) (λ why e. refl) (λ e. register-leaves _ _)
  act-leaves q ns settings (adopt address size) h =
      adopt-cases S l stamps k mark U address size (λ why e. refl) (λ why e. refl) (λ why e. refl) (λ i w u e why f. absurd (registered-not _ why f)) (λ w. register-leaves _ _)
  act-leaves q ns settings (claim id n commits) h = absurd h
  act-leaves q ns settings (release address n told pending) h =
      release-cases S l stamps k mark U n told (stays_pending settings pending) _ _ address (λ e why f. refl) (λ e f why g. refl)
      (λ i e u f. release-in-cases S l stamps k mark U n told (stays_pending settings pending) _ _ i _ (λ g why x. refl) (λ g v why x. refl) (λ g v why x. absurd (released-not why x)))
  act-leaves q ns settings (sweep force) h =
      all-or-none S stamps k mark (sweep_of force ns settings) U (sweeps_none settings force) l
      (λ f x why e. absurd (sweep-grants S stamps k mark (sweep_of force ns settings) f 0 l why e))

unclaiming : (S : ℕ) (w : World) (ns : ℕ) (settings : Settings) (a : Act) → Unclaiming a → Untouched w (rules S w ns settings (act a))
unclaiming S w ns settings a h =
    act-cases S w ns settings (Untouched w) (λ why x e. refl) a
    (λ e idle. subst (λ (v : World). Untouched v (act_on S w.records w.stamps w.state.count w.state.mark w.state.question ns settings a)) (calm-world w idle)
    (act-leaves S w.records w.stamps w.state.count w.state.mark w.state.question ns settings a h))

-- "Each refusal leaves all state and lent memory untouched, but [..]": of every call, on every lent table
pub refusal-leaves : (S : ℕ) (w : World) (ns : ℕ) (settings : Settings) (c : Call) (why : Refusal) → (rules S w ns settings c).answer ≡ Refused why
    → LeftBy w c why (rules S w ns settings c).world
unfolding rules
refusal-leaves S w ns settings (act (reserve size commit large exclusive)) = unclaiming S w ns settings (reserve size commit large exclusive) tt
refusal-leaves S w ns settings (act (manage start size exclusive node mapped reserved)) = unclaiming S w ns settings (manage start size exclusive node mapped reserved) tt
refusal-leaves S w ns settings (act (adopt address size)) = unclaiming S w ns settings (adopt address size) tt
refusal-leaves S w ns settings (act (claim id n commits)) =
    act-cases S w ns settings (Marked w) (λ why x e. inl refl) (claim id n commits)
    (λ e idle. subst (λ (v : World). Marked v (claim_of S w.records w.stamps w.state.count w.state.mark id n commits settings)) (calm-world w idle)
    (claim-leaves S w.records w.stamps w.state.count w.state.mark id n commits settings))
refusal-leaves S w ns settings (act (release address n told pending)) = unclaiming S w ns settings (release address n told pending) tt
refusal-leaves S w ns settings (act (sweep force)) = unclaiming S w ns settings (sweep force) tt
refusal-leaves S w ns settings (answer kind granted base) =
    by-not (Says w base) (sound S w settings.page) _ _
    (λ e. unfold answer_of in by-not (Says w base) (is_for w.state.question kind) _ _
    (λ f. answer-to-says S w.records w.stamps w.state.count w.state.mark base w.state.question granted) (λ f why g. line w base w NoSuchQuestion why refl g))
    (λ e why f. line w base w Broken why refl f)
refusal-leaves S w ns settings (query (owns address)) = by-not (Untouched w) (sound S w settings.page) _ _ (λ e why f. refl) (λ e why f. refl)
refusal-leaves S w ns settings (query (area id)) = by-not (Untouched w) (sound S w settings.page) _ _ (λ e why f. refl) (λ e why f. refl)
