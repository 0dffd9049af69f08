-- The open question is of the call that put it: what the rules' own run remembers of that call is what the question says. Assumes nothing.
use Rattle.std.specs.Prelude.{◌≡◌, ◌+◌, ◌-◌, ◌<◌, ◌≤◌}
use Rattle.layer.proofs.Prelude.{refl, sym, ap, ◌∙◌, subst, Bool, true, false, cond, List, ℕ, suc, arith, ℤ, pos, negsuc, length, set, length-set, Refusal, Arena, is_on, take_run, never, Settings, Sweep, Question, Idle, Committing, Purging, Reserving, GivingBack, Waiting, Reserve, Claim, Kind, Reply, Outcome, after, at, chunks_for, ask_memory, with_record, with_stamps, serves, search_of, miss_reply, visit, sweep_from, is_for, counted, fail_reply, resume, answer_to, answer_of, Act, reserve, manage, adopt, claim, release, sweep, Call, act, query, answer, sweep_of, act_on, step_on, is_idle, stays_pending, sweeps_none}
use Rattle.layer.proofs.Tools.{at_same, by-not}
use Rattle.layer.proofs.Rules.{not-shared, served-named, Again, again}
use Rattle.layer.proofs.Cases.{register, grant-cases, search-cases, miss-cases, claim-cases, release-in-cases, release-cases, reserve-cases, register-cases, manage-cases, adopt-cases, memory-cases}
use Rattle.layer.proofs.Sweeps.{visit-cases, sweep-cases, all-or-none}

-- the arena that a claim at the id was served in: the one that it names, and with a negative id one that is not exclusive
abbrev pub ServedIn : List Arena → ℤ → ℕ → Type 0
ServedIn l (pos x) i = x ≡ i
ServedIn l (negsuc x) i = is_on (at l i).exclusive ≡ false

-- the call for which memory is asked
abbrev pub WaitsFor : ℕ → ℕ → Bool → Bool → Waiting → Call → Type 0
WaitsFor S chunks commit exclusive Reserve c = (size : ℕ) × (large : Bool) × (c ≡ act (reserve size commit large exclusive)) × (chunks ≡ chunks_for S size)
WaitsFor S chunks commit exclusive (Claim n commits) c = (x : ℕ) × (c ≡ act (claim (negsuc x) n commits))

abbrev pub Gives : Waiting → Call → Type 0
Gives Reserve c = (size : ℕ) × (commit : Bool) × (large : Bool) × (exclusive : Bool) × (c ≡ act (reserve size commit large exclusive))
Gives (Claim n commits) c = (x : ℕ) × (c ≡ act (claim (negsuc x) n commits))

abbrev pub Asked : ℕ → List Arena → Question → Call → Type 0
Asked S l Idle c = Unit {0}
Asked S l (Committing i s n) c = (id : ℤ) × (commits : Bool) × (c ≡ act (claim id n commits)) × ServedIn l id i
Asked S l (Purging i j w) c = (force : Bool) × (c ≡ act (sweep force))
Asked S l (Reserving chunks bytes commit exclusive waiting) c = WaitsFor S chunks commit exclusive waiting c
Asked S l (GivingBack cause waiting) c = Gives waiting c

-- what comes out of a call, if the question open after it is of c
abbrev pub AskedOf : ℕ → Call → Outcome → Type 0
AskedOf S c o = Asked S o.world.records o.world.state.question c

gives_back : (S chunks : ℕ) (commit exclusive : Bool) (waiting : Waiting) (c : Call) → WaitsFor S chunks commit exclusive waiting c → Gives waiting c
gives_back S chunks commit exclusive Reserve c h = (h.0, commit, h.1, exclusive, h.2)
gives_back S chunks commit exclusive (Claim n commits) c h = h

-- ---- searches

module _ (S : ℕ) (l : List Arena) (stamps : List ℕ) (k : ℕ) (mark : Bool) (long : length l ≡ 32) (few : k ≤ 32) where
  -- the run is taken, and its arena stays what it is
  taken_in : (id : ℤ) (i s n : ℕ) → i < k → ServedIn l id i → ServedIn (set l i (take_run (at l i) s n)) id i
  taken_in (pos x) i s n h e = e
  taken_in (negsuc x) i s n h e = ap (λ (a : Arena). is_on a.exclusive) (at_same l i (take_run (at l i) s n) (omega (arith, long, few))) ∙ (unfold take_run in e)

  -- a search for n chunks, which puts the commit question of the claim at the id
  search-asked : (sought id : ℤ) (n : ℕ) (commits : Bool) (missed : Reply) → ((i : ℕ) → serves sought n l i ≡ true → ServedIn l id i) → AskedOf S (act (claim id n commits)) (after missed l stamps)
      → AskedOf S (act (claim id n commits)) (search_of S l stamps k mark sought n commits missed)
  search-asked sought id n commits missed served h =
      search-cases S l stamps k mark (AskedOf S (act (claim id n commits))) sought n commits missed (λ e. h)
      (λ i u e. grant-cases S l stamps k mark (AskedOf S (act (claim id n commits))) i n commits (λ _. tt) (λ s _. tt)
      (λ s _. (id, commits, refl, taken_in id i s n u (served i e))))

-- ---- calls where no question is open

module _ (S : ℕ) (l : List Arena) (stamps : List ℕ) (k : ℕ) (mark : Bool) (long : length l ≡ 32) (few : k ≤ 32) where
  serves-in : (id : ℤ) (n i : ℕ) → serves id n l i ≡ true → ServedIn l id i
  serves-in (pos x) n i e = sym (served-named x n l i e)
  serves-in (negsuc x) n i e = never (is_on (at l i).exclusive) (λ f. not-shared x n l i i f e refl)

  register-asked : (c : Call) (chunks : ℕ) (a : Arena) → AskedOf S c (register l stamps k mark chunks a)
  register-asked c chunks a = register-cases S l stamps k mark (AskedOf S c) chunks a tt tt (λ e f. tt)

  memory-asked : (id : ℤ) (n : ℕ) (commits : Bool) (settings : Settings) → AskedOf S (act (claim id n commits)) (after (miss_reply S k mark id n commits settings) l stamps)
  unfolding miss_reply ask_memory
  memory-asked (pos x) n commits settings = tt
  memory-asked (negsuc x) n commits settings =
      miss-cases S l stamps k mark (AskedOf S (act (claim (negsuc x) n commits))) (negsuc x) n commits settings tt tt (x, refl)

  -- a sweep's questions are its own
  visit-asked : (w : Sweep) (force : Bool) (l : List Arena) (i : ℕ) (a : Arena) (from : ℕ) (rest : List Arena → Outcome) → ((m : List Arena) → AskedOf S (act (sweep force)) (rest m))
      → AskedOf S (act (sweep force)) (visit S stamps k mark w l i a from rest)
  visit-asked w force l i a from rest go_on = visit-cases S stamps k mark w (AskedOf S (act (sweep force))) 0 (λ m x b j u. (force, refl)) (λ m. tt) l i a from rest (omega arith) go_on

  sweep-asked : (w : Sweep) (force : Bool) (f i : ℕ) (l : List Arena) → AskedOf S (act (sweep force)) (sweep_from S stamps k mark w f i l)
  sweep-asked w force f i l = sweep-cases S stamps k mark w (AskedOf S (act (sweep force))) 0 (λ m x b j u. (force, refl)) (λ m. tt) f i l (omega arith)

  act-asked : (q : Question) (ns : ℕ) (settings : Settings) (a : Act) → AskedOf S (act a) (act_on S l stamps k mark q ns settings a)
  unfolding ask_memory
  act-asked q ns settings (reserve size commit large exclusive) =
      reserve-cases S l stamps k mark (AskedOf S (act (reserve size commit large exclusive))) size commit large exclusive settings.page tt (size, large, refl, refl)
  act-asked q ns settings (manage start size exclusive node mapped reserved) =
      manage-cases S l stamps k mark (AskedOf S _) start size exclusive node mapped reserved tt tt tt (λ e. register-asked _ _ _)
  act-asked q ns settings (adopt address size) = adopt-cases S l stamps k mark (AskedOf S _) address size tt tt tt (λ i w u e. tt) (λ w. register-asked _ _ _)
  act-asked q ns settings (claim id n commits) =
      claim-cases S l stamps k mark (AskedOf S (act (claim id n commits))) id n commits settings (λ e. tt) (λ e f. tt)
      (λ e f. search-asked S l stamps k mark long few id id n commits _ (serves-in id n) (memory-asked id n commits settings))
  act-asked q ns settings (release x n told pending) =
      release-cases S l stamps k mark (AskedOf S _) n told (stays_pending settings pending) _ _ x (λ e. tt) (λ e f. tt)
      (λ i e u f. release-in-cases S l stamps k mark (AskedOf S _) n told (stays_pending settings pending) _ _ i _ (λ g. tt) (λ g v. tt) (λ g v. tt))
  act-asked q ns settings (sweep force) =
      all-or-none S stamps k mark (sweep_of force ns settings) (AskedOf S (act (sweep force))) (sweeps_none settings force) l
      (λ f h. sweep-asked (sweep_of force ns settings) force f 0 l)

  -- ---- answers: the call that put the question goes on

  resume-asked : (chunks : ℕ) (commit exclusive : Bool) (waiting : Waiting) (a : Arena) (c : Call) → k < 32 → WaitsFor S chunks commit exclusive waiting c
      → AskedOf S c (resume S l stamps k mark a waiting)
  resume-asked chunks commit exclusive Reserve a c h w = tt
  resume-asked chunks commit exclusive (Claim n commits) a c h w =
      let g : Again S l stamps k mark a n commits = again S l stamps k mark a n commits in
      subst (λ (x : Call). AskedOf S x (resume S l stamps k mark a (Claim n commits))) (sym w.1)
      (subst (AskedOf S (act (claim (negsuc w.0) n commits))) (sym g.is)
      (search-asked S (with_record l k a) (with_stamps stamps k) (suc k) mark (length-set l k a ∙ long) (omega arith) g.id (negsuc w.0) n commits _
      (λ i e. never (is_on (at (with_record l k a) i).exclusive) (λ f. g.passes_over i i f e refl)) tt))

  fail-asked : (why : Refusal) (waiting : Waiting) (c : Call) → AskedOf S c (after (fail_reply k mark why waiting) l stamps)
  fail-asked why Reserve c = tt
  fail-asked why (Claim n commits) c = tt

  answer-asked : (q : Question) (c : Call) (kind : Kind) (accepted : Bool) (base : ℕ) → Asked S l q c → AskedOf S c (answer_of S l stamps k mark q kind accepted base)
  unfolding answer_of
  answer-asked q c kind accepted base h = by-not (AskedOf S c) (is_for q kind) _ _ (λ e. go q h accepted) (λ e. h)
    where
      go : (p : Question) → Asked S l p c → (accepted : Bool) → AskedOf S c (answer_to S l stamps k mark p accepted base)
      go Idle x accepted = tt
      go (Committing i s n) x true = tt
      go (Committing i s n) x false = tt
      go (Purging i j w) x accepted =
          subst (λ (y : Call). AskedOf S y (answer_to S l stamps k mark (Purging i j w) accepted base)) (sym x.1)
          (visit-asked (counted w accepted) x.0 l i _ _ _ (λ m. sweep-asked (counted w accepted) x.0 (k - (i + 1)) (i + 1) m))
      go (Reserving chunks bytes commit exclusive waiting) x false = fail-asked _ waiting c
      go (Reserving chunks bytes commit exclusive waiting) x true =
          memory-cases S l stamps k mark (AskedOf S c) chunks bytes commit exclusive waiting base x (λ cause. gives_back S chunks commit exclusive waiting c x)
          (λ d e f u. resume-asked chunks commit exclusive waiting _ c u x)
      go (GivingBack cause waiting) x accepted = fail-asked _ waiting c

  -- ---- one call, where asked put what is open

  pub step-asked : (q : Question) (asked : Call) (ns : ℕ) (settings : Settings) (c : Call) → Asked S l q asked → AskedOf S (cond (is_idle q) c asked) (step_on S l stamps k mark q ns settings c)
  step-asked q asked ns settings (act a) h = go q h
    where
      go : (q : Question) → Asked S l q asked → AskedOf S (cond (is_idle q) (act a) asked) (step_on S l stamps k mark q ns settings (act a))
      go Idle h = act-asked Idle ns settings a
      go (Committing i s n) h = h
      go (Purging i j w) h = h
      go (Reserving chunks bytes commit exclusive waiting) h = h
      go (GivingBack cause waiting) h = h
  step-asked q asked ns settings (query c) h = go q h
    where
      go : (q : Question) → Asked S l q asked → Asked S l q (cond (is_idle q) (query c) asked)
      go Idle h = tt
      go (Committing i s n) h = h
      go (Purging i j w) h = h
      go (Reserving chunks bytes commit exclusive waiting) h = h
      go (GivingBack cause waiting) h = h
  step-asked q asked ns settings (answer kind accepted base) h = go q h
    where
      go : (q : Question) → Asked S l q asked → AskedOf S (cond (is_idle q) (answer kind accepted base) asked) (answer_of S l stamps k mark q kind accepted base)
      go Idle h = answer-asked Idle (answer kind accepted base) kind accepted base tt
      go (Committing i s n) h = answer-asked (Committing i s n) asked kind accepted base h
      go (Purging i j w) h = answer-asked (Purging i j w) asked kind accepted base h
      go (Reserving chunks bytes commit exclusive waiting) h = answer-asked (Reserving chunks bytes commit exclusive waiting) asked kind accepted base h
      go (GivingBack cause waiting) h = answer-asked (GivingBack cause waiting) asked kind accepted base h
