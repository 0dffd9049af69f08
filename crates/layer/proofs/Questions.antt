-- What each call leaves of the open question. Assumes nothing.
use Rattle.std.specs.Prelude.{◌≡◌, ◌⊎◌, ◌+◌, ◌-◌, ◌*◌, ◌%◌, ◌≤◌, ◌^◌, ◌<◌}
use Rattle.layer.proofs.Prelude.{by_rules, refl, sym, ap, ◌∙◌, subst, Bool, true, false, not, true≢false, List, inl, inr, ℕ, suc, arith, ne_eqb, lt-leb, eqb, leb, Refusal, NoSuchQuestion, Range, MemoryRefused, by_cond, when, unless, Arena, reserved_arena, Settings, Sweep, Question, Idle, Committing, Purging, Reserving, GivingBack, Waiting, Reserve, Claim, Count, Misaligned, Full, Kind, Reply, Answer, Refused, Asks, Registered, Claimed, Released, Swept, Owns, Area, World, Outcome, state_with, world_of, after, bad_range, sound, chunks_for, too_large, bytes_asked, reserve_reply, reserve_of, ask_memory, bad_count, with_record, with_stamps, is_for, counted, fail_reply, resume, answer_purge, answer_memory, answer_to, answer_of, Act, reserve, manage, adopt, claim, release, sweep, Call, act, query, answer, sweep_of, act_on, step_on, stays_pending, sweeps_none}
use Rattle.refusals.specs.Number.{number}
use Rattle.layer.specs.declared.Ask.{Ask}
use Rattle.layer.specs.declared.Ask.TheVariants.{AskMemory}
use Rattle.layer.specs.World.{size_of}
use Rattle.layer.specs.Questions.{TurnedDown, CommitOf, AfterAnswer, AfterAct, AfterCall, QuestionsByRules, ReservesAsk}
use Rattle.layer.proofs.Tools.{by-not}
use Rattle.layer.proofs.ChunkLaws.{size_fits, up_is}
use Rattle.layer.proofs.Facts.{SoundQuestion}
use Rattle.layer.proofs.Rules.{Again, again}
use Rattle.layer.proofs.Cases.{register, grant-cases, search-cases, miss-cases, claim-cases, release-in-cases, release-cases, reserve-cases, register-cases, manage-cases, adopt-cases}
use Rattle.layer.proofs.Sweeps.{visit-cases, sweep-cases, all-or-none}
use Rattle.layer.proofs.Plain.{some-chunk, few-chunks, not-6, passes}
use Rattle.layer.proofs.Outcomes.{sound-question}
use Rattle.layer.proofs.Demand.{no-question}

-- ---- acts: an answer that is no question leaves none

abbrev Put : Outcome → Type 0
Put o = (o.world.state.question ≡ Idle) ⊎ ((ask : Ask) × (o.answer ≡ Asks ask))

module _ (S : ℕ) (l : List Arena) (stamps : List ℕ) (k : ℕ) (mark : Bool) where
  register-put : (chunks : ℕ) (a : Arena) → Put (register l stamps k mark chunks a)
  register-put chunks a = register-cases S l stamps k mark Put chunks a (inl refl) (inl refl) (λ e f. inl refl)

  -- a question about a place from lo on, or none
  abbrev From : ℕ → Outcome → Type 0
  From lo o = (o.world.state.question ≡ Idle) ⊎ ((i : ℕ) × (j : ℕ) × (x : Sweep) × (o.world.state.question ≡ Purging i j x) × (lo ≤ 1024 * i + j))

  act-put : (ns : ℕ) (settings : Settings) (a : Act) → Put (act_on S l stamps k mark Idle ns settings a)
  unfolding ask_memory
  act-put ns settings (reserve size commit large exclusive) = reserve-cases S l stamps k mark Put size commit large exclusive settings.page (inl refl) (inr (_, refl))
  act-put ns settings (manage start size exclusive node mapped reserved) =
      manage-cases S l stamps k mark Put start size exclusive node mapped reserved (inl refl) (inl refl) (inl refl) (λ e. register-put _ _)
  act-put ns settings (adopt address size) = adopt-cases S l stamps k mark Put address size (inl refl) (inl refl) (inl refl) (λ i w u e. inl refl) (λ w. register-put _ _)
  act-put ns settings (claim id n commits) =
      claim-cases S l stamps k mark Put id n commits settings (λ e. inl refl) (λ e f. inl refl)
      (λ e f. search-cases S l stamps k mark Put id n commits _ (λ g. miss-cases S l stamps k mark Put id n commits settings (inl refl) (inl refl) (inr (_, refl)))
      (λ i h g. grant-cases S l stamps k mark Put i n commits (λ _. inl refl) (λ s _. inl refl) (λ s _. inr (_, refl))))
  act-put ns settings (release x n told pending) =
      release-cases S l stamps k mark Put n told (stays_pending settings pending) _ _ x (λ e. inl refl) (λ e f. inl refl)
      (λ i e u f. release-in-cases S l stamps k mark Put n told (stays_pending settings pending) _ _ i _ (λ g. inl refl) (λ g v. inl refl) (λ g v. inl refl))
  act-put ns settings (sweep force) =
      all-or-none S stamps k mark (sweep_of force ns settings) Put (sweeps_none settings force) l
      (λ f h. sweep-cases S stamps k mark (sweep_of force ns settings) Put 0 (λ m x a j u. inr (_, refl)) (λ m. inl refl) f 0 l (omega arith))

-- ---- answers

-- 6
abbrev is_range : Answer → Bool
is_range (Refused why) = eqb (number why) 6
is_range (Asks ask) = false
is_range (Registered id) = false
is_range (Claimed address fresh committed) = false
is_range Released = false
is_range (Swept count) = false
is_range (Owns whether) = false
is_range (Area at_base bytes) = false

not-range : (r : Answer) → is_range r ≡ false → r ≡ Refused Range → ⊥
not-range r e f = true≢false (sym (ap is_range f) ∙ e)

module _ (w : World) (page : ℕ) (e : sound (size_of w.state) w page ≡ true) (base : ℕ) where
  abbrev S : ℕ
  S = size_of w.state

  abbrev After : Question → Outcome → Type 0
  After q o = AfterAnswer w base q o.answer o.world.state.question

  abbrev l : List Arena
  l = w.records

  abbrev k : ℕ
  k = w.state.count

  fail-after : (why : Refusal) (waiting : Waiting) → (after (fail_reply k w.state.mark why waiting) l w.stamps).world.state.question ≡ Idle
  fail-after why Reserve = refl
  fail-after why (Claim n commits) = refl

  -- who waits goes on
  resume-after : (a : Arena) (waiting : Waiting)
      → let o = resume S l w.stamps k w.state.mark a waiting in
      (o.answer ≡ Refused Range → ⊥) × ((o.world.state.question ≡ Idle) ⊎ CommitOf waiting o.world.state.question)
  resume-after a Reserve = (not-range _ refl, inl refl)
  resume-after a (Claim n commits) =
      let g : Again S l w.stamps k w.state.mark a n commits = again S l w.stamps k w.state.mark a n commits in
      let P : Outcome → Type 0 = λ o. (o.answer ≡ Refused Range → ⊥) × ((o.world.state.question ≡ Idle) ⊎ CommitOf (Claim n commits) o.world.state.question) in
      subst P (sym g.is)
      (search-cases S (with_record l k a) (with_stamps w.stamps k) (suc k) w.state.mark P g.id n commits _ (λ _. (not-range _ refl, inl refl))
      (λ i h f. grant-cases S (with_record l k a) (with_stamps w.stamps k) (suc k) w.state.mark P i n commits (λ _. (not-range _ refl, inl refl)) (λ s _. (not-range _ refl, inl refl)) (λ s _. (not-range _ refl, inr (i, s, refl)))))

  no-memory : (waiting : Waiting) → (after (fail_reply k w.state.mark MemoryRefused waiting) l w.stamps).answer ≡ Refused Range → ⊥
  no-memory Reserve = not-range _ refl
  no-memory (Claim n commits) = not-range _ refl

  memory-after : (chunks bytes : ℕ) (commit exclusive : Bool) (waiting : Waiting) (accepted : Bool)
      → After (Reserving chunks bytes commit exclusive waiting) (answer_memory S l w.stamps k w.state.mark chunks bytes commit exclusive waiting accepted base)
  memory-after chunks bytes commit exclusive waiting false = inr (no-memory waiting, inl (fail-after MemoryRefused waiting))
  memory-after chunks bytes commit exclusive waiting true =
      let P : Outcome → Type 0 = After (Reserving chunks bytes commit exclusive waiting) in
      by_cond P (bad_range S l k base (chunks * S)) _ _
      (λ f. inl (refl, refl, λ r. true≢false (sym f ∙ not-6 w (some-chunk w page e) base chunks r)))
      (λ f. by_cond P (bad_count chunks) _ _ (λ g. inr (not-range _ refl, inr (inl (Count, refl))))
      (λ g. by-not P (eqb (base % S) 0) _ _
      (λ h. by_cond P (leb 32 k) _ _ (λ m. inr (not-range _ refl, inr (inl (Full, refl))))
      (λ m. let x = resume-after (reserved_arena base chunks commit exclusive) waiting in inr (x.0, goes x.1)))
      (λ h. inr (not-range _ refl, inr (inl (Misaligned, refl))))))
    where
      goes : {v : Question} → (v ≡ Idle) ⊎ CommitOf waiting v → {B : Type 0} → (v ≡ Idle) ⊎ (B ⊎ CommitOf waiting v)
      goes (inl x) = inl x
      goes (inr x) = inr (inr x)

  answer-after : (q : Question) → SoundQuestion l k q → (kind : Kind) (accepted : Bool) → is_for q kind ≡ true → After q (answer_to S l w.stamps k w.state.mark q accepted base)
  answer-after Idle h kind accepted f = absurd (true≢false (sym f ∙ no-question kind))
  answer-after (Committing i s n) h kind true f = refl
  answer-after (Committing i s n) h kind false f = refl
  answer-after (Purging i j x) h kind accepted f =
      behind (answer_purge S l w.stamps k w.state.mark i j x accepted)
      (visit-cases S w.stamps k w.state.mark (counted x accepted) later (1024 * i + (j + 1)) (λ m i' a j' u. inr (i', j', counted x accepted, refl, u)) (λ m. inl refl) l i _ (j + 1) _ (omega arith)
      (λ m. sweep-cases S w.stamps k w.state.mark (counted x accepted) later (1024 * i + (j + 1)) (λ n i' a j' u. inr (i', j', counted x accepted, refl, u)) (λ n. inl refl) (k - (i + 1)) (i + 1) m
      (omega (arith, h.1, few-chunks w page e i h.0))))
    where
      later : Outcome → Type 0
      later = From S l w.stamps k w.state.mark (1024 * i + (j + 1))

      behind : (o : Outcome) → From S l w.stamps k w.state.mark (1024 * i + (j + 1)) o → After (Purging i j x) o
      behind o (inl y) = inl y
      behind o (inr y) = inr (y.0, y.1, y.2, y.3, omega (arith, y.4))
  answer-after (Reserving chunks bytes commit exclusive waiting) h kind accepted f = memory-after chunks bytes commit exclusive waiting accepted
  answer-after (GivingBack cause waiting) h kind accepted f = fail-after _ waiting

-- ---- a reserve of so many chunks

asks-for : (S : ℕ) (l : List Arena) (stamps : List ℕ) (k : ℕ) (mark : Bool) (size n : ℕ) (commit large exclusive : Bool) (page : ℕ) → chunks_for S size ≡ n → (size ≡ 0 → ⊥) → n * S + S < 2 ^ 64
    → (reserve_of S l stamps k mark size commit large exclusive page).answer ≡ Asks (AskMemory (n * S) S commit large)
unfolding reserve_of reserve_reply ask_memory too_large bytes_asked
asks-for S l stamps k mark size n commit large exclusive page c some fits =
    ap (λ (r : Reply). r.answer) (unless (leb (2 ^ 64) (chunks_for S size * S + S)) _ _ (ap (λ (x : ℕ). leb (2 ^ 64) (x * S + S)) c ∙ lt-leb (2 ^ 64) (n * S + S) fits))
    ∙ ap (λ (x : ℕ). Asks (AskMemory x S commit large)) (unless (eqb size 0) _ _ (ne_eqb size 0 some) ∙ ap (λ (x : ℕ). x * S) c)

-- ---- every call

pub questions-by-rules : QuestionsByRules by_rules
unfolding answer_of
questions-by-rules w ns settings c e = subst (AfterCall w c) (sym (passes w ns settings c w.state.question e refl)) (go c)
  where
    S : ℕ
    S = size_of w.state

    shut : (q : Question) → w.state.question ≡ q → (a : Act) → AfterAct w q (step_on S w.records w.stamps w.state.count w.state.mark q ns settings (act a))
    shut Idle is a = act-put S w.records w.stamps w.state.count w.state.mark ns settings a
    shut (Committing i s n) is a = (refl, ap (λ (q : Question). world_of w.records w.stamps (state_with w.state.count w.state.mark q)) (sym is))
    shut (Purging i j x) is a = (refl, ap (λ (q : Question). world_of w.records w.stamps (state_with w.state.count w.state.mark q)) (sym is))
    shut (Reserving chunks bytes commit exclusive waiting) is a = (refl, ap (λ (q : Question). world_of w.records w.stamps (state_with w.state.count w.state.mark q)) (sym is))
    shut (GivingBack cause waiting) is a = (refl, ap (λ (q : Question). world_of w.records w.stamps (state_with w.state.count w.state.mark q)) (sym is))

    answered : (kind : Kind) (accepted : Bool) (base : ℕ) → AfterCall w (answer kind accepted base) (answer_of S w.records w.stamps w.state.count w.state.mark w.state.question kind accepted base)
    answered kind accepted base = (
      (λ f. subst (λ (o : Outcome). AfterAnswer w base w.state.question o.answer o.world.state.question) (sym (unless (not (is_for w.state.question kind)) _ _ (ap not f)))
          (answer-after w settings.page e base w.state.question (sound-question S w settings.page e) kind accepted f)),
      (λ f. subst (TurnedDown NoSuchQuestion w) (sym (when (not (is_for w.state.question kind)) _ _ (ap not f))) (refl, refl)),
    )

    go : (c : Call) → AfterCall w c (step_on S w.records w.stamps w.state.count w.state.mark w.state.question ns settings c)
    go (act a) = shut w.state.question refl a
    go (query c) = refl
    go (answer kind accepted base) = answered kind accepted base

-- ---- a reserve asks

pub reserves-ask : ReservesAsk by_rules
reserves-ask w ns settings size n commit large exclusive e idle some lo hi fits =
    ap (λ (o : Outcome). o.answer) (passes w ns settings (act (reserve size commit large exclusive)) Idle e idle) ∙ asks
  where
    S : ℕ
    S = size_of w.state

    chunks : chunks_for S size ≡ n
    chunks = up_is S (size_fits w.state).0 size n lo hi

    asks : (reserve_of S w.records w.stamps w.state.count w.state.mark size commit large exclusive settings.page).answer ≡ Asks (AskMemory (n * S) S commit large)
    asks = asks-for S w.records w.stamps w.state.count w.state.mark size n commit large exclusive settings.page chunks (λ z. omega (arith, some, z)) fits
