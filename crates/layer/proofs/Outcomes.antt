-- What the answer of a call on a sound table tells, whatever the call: a refusal is none of row 1's, and a grant lies in no exclusive arena but one that the
-- call or the open question names. Assumes nothing.
use Rattle.std.specs.Prelude.{◌≡◌, ◌+◌, ◌-◌, ◌*◌, ◌/◌, ◌%◌, ◌<◌, ◌≤◌}
use Rattle.layer.proofs.Prelude.{refl, sym, ap, ap₂, ◌∙◌, subst, Bool, true, false, cond, not, List, ℕ, suc, add-mul, mul-le-mul_right, arith, eqb-false, leb, ltb, eqb, ℤ, pos, negsuc, length, by_cond, all, and_both, page_size_sound, Refusal, Broken, Arena, is_on, reserved_arena, is_inside, sound_arena, never, found_inside, Settings, Question, Idle, Committing, Purging, Reserving, GivingBack, Waiting, Reserve, Claim, Unusable, Count, Misaligned, Full, Kind, Answer, Refused, Asks, Registered, Claimed, Released, Swept, Owns, Area, World, Outcome, after, outcome, at, meets, bad_range, apart, sound_table, sound_lent, sound, ask_memory, bad_count, with_record, with_stamps, serves, claim_of, is_for, cause_refusal, counted, fail_reply, answer_commit, resume, answer_memory, answer_to, answer_of, Act, reserve, manage, adopt, claim, release, sweep, owns, area, Call, act, query, answer, sweep_of, act_on, step_on, rules, is_broken, chunks_of, stays_pending, sweeps_none}
use Rattle.refusals.specs.Number.{number}
use Rattle.arena.proofs.PlaceLaws.{inside-test}
use Rattle.layer.specs.Answering.{is_idle}
use Rattle.layer.specs.Step.{Query, query_on}
use Rattle.layer.proofs.Tools.{at_other, by-not}
use Rattle.layer.proofs.Facts.{SoundTable, SoundQuestion, question-facts}
use Rattle.layer.proofs.Rules.{not-shared, served-named, Again, again, count-facts}
use Rattle.layer.proofs.Registered.{good-range, new-table, reserved-rows, reserved-sound, reserved-range}
use Rattle.layer.proofs.Cases.{register, grant-cases, search-cases, miss-cases, claim-cases, release-in-cases, release-cases, reserve-cases, register-cases, manage-cases, adopt-cases, memory-cases}
use Rattle.layer.proofs.Sweeps.{visit-cases, sweep-cases, all-or-none}
use Rattle.layer.proofs.Does.{only_one}

-- ---- no address lies in two arenas

-- the n chunks from s on of arena i have no address of arena j
elsewhere : (S : ℕ) (l : List Arena) (k i j s n : ℕ) → SoundTable S l k → i < k → j < k → (i ≡ j → ⊥) → s + n ≤ (at l i).chunks
    → (y : ℕ) → (at l i).base + s * S ≤ y → y < (at l i).base + s * S + n * S → is_inside S (at l j) y ≡ false
elsewhere S l k i j s n t h g d m y lo hi =
    never (is_inside S (at l j) y) (λ f. d (only_one S l k i j y t h g (inside-test S (at l i) y (record { from = omega arith; before = top })) f))
  where
    top : y < (at l i).base + (at l i).chunks * S
    top = let e : (s + n) * S ≡ s * S + n * S = add-mul s n S in let u : (s + n) * S ≤ (at l i).chunks * S = mul-le-mul_right S m in omega arith

-- ---- what an answer tells

-- the arena that a call names in a claim, or that it ends a commit question about
abbrev pub names_in : Question → ℕ → Bool
names_in Idle j = false
names_in (Committing i s n) j = eqb i j
names_in (Purging i c w) j = false
names_in (Reserving chunks bytes commit exclusive waiting) j = false
names_in (GivingBack cause waiting) j = false

abbrev pub act_names : Act → ℕ → Bool
act_names (claim (pos i) n commits) j = eqb i j
act_names (claim (negsuc i) n commits) j = false
act_names (reserve size commit large exclusive) j = false
act_names (manage from size exclusive node mapped reserved) j = false
act_names (adopt address size) j = false
act_names (release address n tell pending) j = false
act_names (sweep force) j = false

abbrev pub names : Question → Call → ℕ → Bool
names q (act a) j = act_names a j
names q (query c) j = false
names q (answer kind accepted base) j = names_in q j

-- how many chunks it is about
abbrev pub asks_in : Question → ℕ
asks_in Idle = 0
asks_in (Committing i s n) = n
asks_in (Purging i j w) = 0
asks_in (Reserving chunks bytes commit exclusive Reserve) = 0
asks_in (Reserving chunks bytes commit exclusive (Claim n commits)) = n
asks_in (GivingBack cause Reserve) = 0
asks_in (GivingBack cause (Claim n commits)) = n

abbrev pub asks_for : Question → Call → ℕ
asks_for q (act a) = chunks_of (act a)
asks_for q (query c) = 0
asks_for q (answer kind accepted base) = asks_in q

module _ (S : ℕ) (l : List Arena) (k : ℕ) where
  -- so many chunks from x on have no address of an exclusive arena that is not named
  abbrev pub Away : ℕ → (ℕ → Bool) → ℕ → Type 0
  Away n named x = (j : ℕ) → j < k → is_on (at l j).exclusive ≡ true → named j ≡ false → (y : ℕ) → x ≤ y → y < x + n * S → is_inside S (at l j) y ≡ false

  abbrev pub Tells : ℕ → (ℕ → Bool) → Answer → World → Type 0
  Tells n named (Refused why) w = ◌≡◌ {A = Bool} (eqb (number why) 1) false
  Tells n named (Asks ask) w = Unit {0}
  Tells n named (Registered i) w = Unit {0}
  Tells n named (Claimed x fresh committed) w = SoundTable S l k → Away n named x
  Tells n named Released w = Unit {0}
  Tells n named (Swept count) w = Unit {0}
  Tells n named (Owns whether) w = Unit {0}
  Tells n named (Area base bytes) w = Unit {0}

  abbrev pub TellsOf : ℕ → (ℕ → Bool) → Outcome → Type 0
  TellsOf n named o = Tells n named o.answer o.world

-- ---- claims

module _ (S : ℕ) (l : List Arena) (stamps : List ℕ) (k : ℕ) (mark : Bool) where
  asks-memory : (n : ℕ) (named : ℕ → Bool) (size page : ℕ) (commit large exclusive : Bool) (waiting : Waiting)
      → TellsOf S l k n named (after (ask_memory S k mark size page commit large exclusive waiting) l stamps)
  unfolding ask_memory
  asks-memory n named size page commit large exclusive waiting = tt

  claim-tells : (id : ℤ) (n : ℕ) (commits : Bool) (settings : Settings) → TellsOf S l k n (act_names (claim id n commits)) (claim_of S l stamps k mark id n commits settings)
  claim-tells id n commits settings =
      claim-cases S l stamps k mark (TellsOf S l k n (act_names (claim id n commits))) id n commits settings (λ e. refl) (λ e f. refl)
      (λ e f. search-cases S l stamps k mark (TellsOf S l k n (act_names (claim id n commits))) id n commits _
      (λ g. miss-cases S l stamps k mark (TellsOf S l k n (act_names (claim id n commits))) id n commits settings refl refl
      (asks-memory n (act_names (claim id n commits)) settings.reserve settings.page false false false (Claim n commits)))
      (λ i h g. grant-cases S l stamps k mark (TellsOf S l k n (act_names (claim id n commits))) i n commits (λ _. refl)
      (λ s r t j u x z. elsewhere S l k i j s n t h u (other id i j g x z) (found_inside (at l i) n s r)) (λ s _. tt)))
    where
      other : (id : ℤ) (i j : ℕ) → serves id n l i ≡ true → is_on (at l j).exclusive ≡ true → act_names (claim id n commits) j ≡ false → i ≡ j → ⊥
      other (pos x) i j e f g d = eqb-false x j g (sym (served-named x n l i e) ∙ d)
      other (negsuc x) i j e f g d = not-shared x n l i j f e d

  register-tells : (m : ℕ) (named : ℕ → Bool) (chunks : ℕ) (a : Arena) → TellsOf S l k m named (register l stamps k mark chunks a)
  register-tells m named chunks a = register-cases S l stamps k mark (TellsOf S l k m named) chunks a refl refl (λ f h. tt)

  -- ---- answers

  commit-tells : (i s n : ℕ) (accepted : Bool) → SoundQuestion l k (Committing i s n) → TellsOf S l k n (names_in (Committing i s n)) (answer_commit S l stamps k mark i s n accepted)
  commit-tells i s n true h = λ t j u x z. elsewhere S l k i j s n t h.0 u (eqb-false i j z) h.1
  commit-tells i s n false h = refl

  fail-tells : (m : ℕ) (named : ℕ → Bool) (why : Refusal) (waiting : Waiting) → ◌≡◌ {A = Bool} (eqb (number why) 1) false → TellsOf S l k m named (after (fail_reply k mark why waiting) l stamps)
  fail-tells m named why Reserve h = h
  fail-tells m named why (Claim n commits) h = refl

  -- the reserved range is registered, and who waits goes on
  resume-tells : (base chunks bytes : ℕ) (commit exclusive : Bool) (waiting : Waiting) → bad_range S l k base (chunks * S) ≡ false → bad_count chunks ≡ false → base % S ≡ 0 → k < 32
      → TellsOf S l k (asks_in (Reserving chunks bytes commit exclusive waiting)) (λ j. false) (resume S l stamps k mark (reserved_arena base chunks commit exclusive) waiting)
  resume-tells base chunks bytes commit exclusive Reserve e f g h = tt
  resume-tells base chunks bytes commit exclusive (Claim n commits) e f g h =
      subst (TellsOf S l k n (λ j. false)) (sym once.is)
      (search-cases S m (with_stamps stamps k) (suc k) mark (TellsOf S l k n (λ j. false)) once.id n commits _ (λ _. refl)
      (λ i u v. grant-cases S m (with_stamps stamps k) (suc k) mark (TellsOf S l k n (λ j. false)) i n commits (λ _. refl)
      (λ s r t j w x z y lo hi. subst (λ (a : Arena). is_inside S a y ≡ false) (kept j w)
      (elsewhere S m (suc k) i j s n (made t) u (omega arith) (once.passes_over i j (ap (λ (a : Arena). is_on a.exclusive) (kept j w) ∙ x) v) (found_inside (at m i) n s r) y lo hi))
      (λ s _. tt)))
    where
      m : List Arena
      m = with_record l k (reserved_arena base chunks commit exclusive)

      once : Again S l stamps k mark (reserved_arena base chunks commit exclusive) n commits
      once = again S l stamps k mark (reserved_arena base chunks commit exclusive) n commits

      kept : (j : ℕ) → j < k → at m j ≡ at l j
      kept j u = at_other l k j (reserved_arena base chunks commit exclusive) (λ d. omega arith)

      made : SoundTable S l k → SoundTable S m (suc k)
      made t =
          let x = good-range S l k base (chunks * S) e in
          let z = reserved-range S base chunks commit exclusive in
          new-table S l k (reserved_arena base chunks commit exclusive) t h (reserved-rows base chunks commit exclusive)
          (reserved-sound S base chunks commit exclusive (record { somewhere = x.somewhere; aligned = g; some = (count-facts chunks f).0; few = (count-facts chunks f).1; ends = x.ends }))
          (λ i u. ap₂ (meets S (at l i)) z.0 z.1 ∙ x.alone i u)

  memory-tells : (chunks bytes : ℕ) (commit exclusive : Bool) (waiting : Waiting) (accepted : Bool) (base : ℕ)
      → TellsOf S l k (asks_in (Reserving chunks bytes commit exclusive waiting)) (λ j. false) (answer_memory S l stamps k mark chunks bytes commit exclusive waiting accepted base)
  memory-tells chunks bytes commit exclusive waiting false base = fail-tells _ _ _ waiting refl
  memory-tells chunks bytes commit exclusive waiting true base =
      memory-cases S l stamps k mark (TellsOf S l k (asks_in (Reserving chunks bytes commit exclusive waiting)) (λ j. false)) chunks bytes commit exclusive waiting base refl (λ cause. tt)
      (resume-tells base chunks bytes commit exclusive waiting)

-- ---- one step

module _ (S : ℕ) (l : List Arena) (stamps : List ℕ) (k : ℕ) (mark : Bool) where
  answer-tells : (q : Question) (kind : Kind) (accepted : Bool) (base : ℕ) → SoundQuestion l k q → TellsOf S l k (asks_in q) (names_in q) (answer_of S l stamps k mark q kind accepted base)
  unfolding answer_of
  answer-tells q kind accepted base h = by-not (TellsOf S l k (asks_in q) (names_in q)) (is_for q kind) _ _ (λ e. go q h) (λ e. refl)
    where
      cause : (c : Unusable) → ◌≡◌ {A = Bool} (eqb (number (cause_refusal c)) 1) false
      cause Count = refl
      cause Misaligned = refl
      cause Full = refl

      go : (p : Question) → SoundQuestion l k p → TellsOf S l k (asks_in p) (names_in p) (answer_to S l stamps k mark p accepted base)
      go Idle x = refl
      go (Committing i s n) x = commit-tells S l stamps k mark i s n accepted x
      go (Purging i j w) x =
          visit-cases S stamps k mark (counted w accepted) (TellsOf S l k 0 (λ u. false)) 0 (λ m x a j u. tt) (λ m. tt) l i _ _ _ (omega arith)
          (λ m. sweep-cases S stamps k mark (counted w accepted) (TellsOf S l k 0 (λ u. false)) 0 (λ n x a j u. tt) (λ n. tt) (k - (i + 1)) (i + 1) m (omega arith))
      go (Reserving chunks bytes commit exclusive waiting) x = memory-tells S l stamps k mark chunks bytes commit exclusive waiting accepted base
      go (GivingBack c waiting) x = fail-tells S l stamps k mark _ _ _ waiting (cause c)

  act-tells : (q : Question) (ns : ℕ) (settings : Settings) (a : Act) → TellsOf S l k (chunks_of (act a)) (act_names a) (act_on S l stamps k mark q ns settings a)
  act-tells q ns settings (reserve size commit large exclusive) =
      reserve-cases S l stamps k mark (TellsOf S l k 0 (λ j. false)) size commit large exclusive settings.page refl
      (asks-memory S l stamps k mark 0 (λ j. false) size settings.page commit large exclusive Reserve)
  act-tells q ns settings (manage start size exclusive node mapped reserved) =
      manage-cases S l stamps k mark (TellsOf S l k 0 (λ j. false)) start size exclusive node mapped reserved refl refl refl
      (λ g. register-tells S l stamps k mark 0 (λ j. false) _ _)
  act-tells q ns settings (adopt address size) =
      adopt-cases S l stamps k mark (TellsOf S l k 0 (λ j. false)) address size refl refl refl
      (λ i w u g. tt) (λ w. register-tells S l stamps k mark 0 (λ j. false) (size / S) _)
  act-tells q ns settings (claim (pos i) n commits) = claim-tells S l stamps k mark (pos i) n commits settings
  act-tells q ns settings (claim (negsuc i) n commits) = claim-tells S l stamps k mark (negsuc i) n commits settings
  act-tells q ns settings (release x n told pending) =
      release-cases S l stamps k mark (TellsOf S l k 0 (λ j. false)) n told (stays_pending settings pending) _ _ x (λ e. refl) (λ e f. refl)
      (λ i e u f. release-in-cases S l stamps k mark (TellsOf S l k 0 (λ j. false)) n told (stays_pending settings pending) _ _ i _ (λ g. refl) (λ g v. refl) (λ g v. tt))
  act-tells q ns settings (sweep force) =
      all-or-none S stamps k mark (sweep_of force ns settings) (TellsOf S l k 0 (λ j. false)) (sweeps_none settings force) l
      (λ f h. sweep-cases S stamps k mark (sweep_of force ns settings) (TellsOf S l k 0 (λ j. false)) 0 (λ m x a j u. tt) (λ m. tt) f 0 l (omega arith))

  query-tells : (q : Question) (ns : ℕ) (settings : Settings) (c : Query) (w : World) → Tells S l k 0 (λ j. false) (query_on S l stamps k mark q ns settings c) w
  query-tells q ns settings (owns address) w = tt
  query-tells q ns settings (area (pos i)) w = by_cond (λ (r : Answer). Tells S l k 0 (λ j. false) r w) (ltb i k) _ _ (λ e. tt) (λ e. tt)
  query-tells q ns settings (area (negsuc i)) w = tt

  pub step-tells : (q : Question) (ns : ℕ) (settings : Settings) (c : Call) → SoundQuestion l k q → TellsOf S l k (asks_for q c) (names q c) (step_on S l stamps k mark q ns settings c)
  step-tells q ns settings (act a) h = by-not (TellsOf S l k (chunks_of (act a)) (act_names a)) (is_idle q) _ _ (λ e. act-tells q ns settings a) (λ e. refl)
  step-tells q ns settings (query c) h = query-tells q ns settings c _
  step-tells q ns settings (answer kind accepted base) h = answer-tells q kind accepted base h

-- ---- a call is refused with 1 exactly if row 1 does not let pass what it is lent

not-broken : (S : ℕ) (l : List Arena) (k n : ℕ) (named : ℕ → Bool) (r : Answer) (w : World) → Tells S l k n named r w → is_broken r ≡ false
not-broken S l k n named (Refused why) w h = h
not-broken S l k n named (Asks ask) w h = refl
not-broken S l k n named (Registered i) w h = refl
not-broken S l k n named (Claimed x fresh committed) w h = refl
not-broken S l k n named Released w h = refl
not-broken S l k n named (Swept count) w h = refl
not-broken S l k n named (Owns whether) w h = refl
not-broken S l k n named (Area base bytes) w h = refl

pub sound-question : (S : ℕ) (w : World) (page : ℕ) → sound S w page ≡ true → SoundQuestion w.records w.state.count w.state.question
unfolding sound_lent sound_table
sound-question S w page e =
    let a = and_both (eqb (length w.records) 32) _ e in
    let b = and_both (eqb (length w.stamps) 32768) _ a.1 in
    let c = and_both (page_size_sound page) _ b.1 in
    let d = and_both (leb w.state.count 32) _ c.1 in
    let f = and_both (all (λ i. sound_arena S (at w.records i)) 0 w.state.count) _ d.1 in
    let g = and_both (apart S w.records w.state.count) _ f.1 in
    question-facts S w.records w.state.count w.state.question g.1

pub refused-1 : (S : ℕ) (w : World) (ns : ℕ) (settings : Settings) (c : Call) → is_broken (rules S w ns settings c).answer ≡ not (sound S w settings.page)
unfolding rules
refused-1 S w ns settings c = go (sound S w settings.page) refl
  where
    o : Outcome
    o = step_on S w.records w.stamps w.state.count w.state.mark w.state.question ns settings c

    go : (x : Bool) → sound S w settings.page ≡ x → is_broken (cond (not x) (outcome (Refused Broken) w) o).answer ≡ not x
    go true e =
        not-broken S w.records w.state.count (asks_for w.state.question c) (names w.state.question c) o.answer o.world
        (step-tells S w.records w.stamps w.state.count w.state.mark w.state.question ns settings c (sound-question S w settings.page e))
    go false e = refl
