-- Demand 3 of the exported calls: read back, they answer and leave what the rules say. Assumes nothing.
use Rattle.std.specs.Prelude.{◌≡◌, ◌+◌, ◌-◌, ◌&&◌, Result, Ok, Err}
use Rattle.state.proofs.Prelude.{refl, sym, ap, ap₂, ◌∙◌, subst, Bool, true, false, List, ℕ, suc, arith, eqb, ltb, pos, negsuc, by_cond, when, unless, Refusal, Broken, QuestionOpen, NoSuchQuestion, Zero, ArenasOff, Range, NotWhole, NotInside, PastEnd, NoRun, CommitRefused, ChunkCount, TableFull, MemoryRefused, NoWholeChunk, HostRefused, Arena, Settings, State, Question, Idle, Committing, Purging, Reserving, GivingBack, Waiting, Reserve, Claim, Kind, AskCommit, AskPurge, AskMemory, Answer, Asks, Registered, Claimed, Released, Area, World, Outcome, size_of, world_of, after, sound, ask_memory, with_record, with_stamps, is_for, counted, fail_reply, resume, answer_to, answer_of as answer_on, Act, claim, release, sweep, Query, Call, act, query, answer, stays_pending, sweep_of, sweeps_none, act_on, query_on, rules, step}
use Rattle.refusals.specs.declared.Refusal.TheVariants.{TablesOverlap, TooManyArenas, ListLength}
use Rattle.refusals.specs.Number.{number}
use Rattle.arena.proofs.FlagLaws.{flag-read}
use Rattle.layer.specs.declared.Ask.TheVariants.{AskGiveBack}
use Rattle.layer.specs.declared.Answer.TheVariants.{Refused, Swept, Owns}
use Rattle.layer.specs.World.{outcome}
use Rattle.layer.specs.Step.{reserve, manage, adopt, owns, area, step_on}
use Rattle.layer.specs.Listing.{Items, ListOutcome, list_outcome, release_list}
use Rattle.layer.specs.Joining.{JoinOutcome, join_outcome, join}
use Rattle.layer.specs.Demand.{Demand3}
use Rattle.layer.proofs.Tools.{by-not}
use Rattle.layer.proofs.Rules.{Again, again}
use Rattle.layer.proofs.Cases.{register, grant-cases, search-cases, miss-cases, claim-cases, release-in-cases, release-cases, reserve-cases, register-cases, manage-cases, adopt-cases, memory-cases}
use Rattle.layer.proofs.Sweeps.{visit-cases, sweep-cases, all-or-none}
use Rattle.layer.proofs.Lists.{each-granted, ListComes, turned_down, one_by_one, list-comes}
use Rattle.layer.proofs.Elsewhere.{demand3}
use Rattle.surface.specs.declared.StateNumbers.{StateNumbers}
use Rattle.surface.specs.Numbers.{state_of, numbers_of, is_state}
use Rattle.surface.specs.Told.{settings_of}
use Rattle.surface.specs.Replies.{answer_numbers, in_numbers, step_numbers}
use Rattle.surface.specs.Lists.{list_in_numbers, list_numbers}
use Rattle.surface.specs.Joins.{join_answer_numbers, both_in_numbers, join_numbers}
use Rattle.surface.specs.Exported.{settings_numbers, Grant, registering, claiming, releasing, sweeping, owning, lying, grant_of_act, grant_of_query, grant_of_waiting, grant_of_question, grant_of, granting, refusal_of, answer_of, join_answer_of, read_list_back, read_back, read_both_back, exported}
use Rattle.surface.proofs.NumberLaws.{state-read, is_state-numbers_of}

-- ---- what is granted is of the call's kind

abbrev Shape : Grant → Answer → Type 0
Shape g (Refused why) = Unit {0}
Shape g (Asks ask) = Unit {0}
Shape g (Registered id) = g ≡ registering
Shape g (Claimed address fresh committed) = g ≡ claiming
Shape g Released = g ≡ releasing
Shape g (Swept count) = g ≡ sweeping
Shape g (Owns whether) = g ≡ owning
Shape g (Area base bytes) = g ≡ lying

abbrev ShapeOf : Grant → Outcome → Type 0
ShapeOf g o = Shape g o.answer

module _ (S : ℕ) (l : List Arena) (stamps : List ℕ) (k : ℕ) (mark : Bool) where
  register-shape : (chunks : ℕ) (a : Arena) → ShapeOf registering (register l stamps k mark chunks a)
  register-shape chunks a = register-cases S l stamps k mark (ShapeOf registering) chunks a tt tt (λ e f. refl)

  act-shape : (q : Question) (ns : ℕ) (settings : Settings) (a : Act) → ShapeOf (grant_of_act a) (act_on S l stamps k mark q ns settings a)
  unfolding ask_memory
  act-shape q ns settings (reserve size commit large exclusive) = reserve-cases S l stamps k mark (ShapeOf registering) size commit large exclusive settings.page tt tt
  act-shape q ns settings (manage start size exclusive node mapped reserved) =
      manage-cases S l stamps k mark (ShapeOf registering) start size exclusive node mapped reserved tt tt tt (λ e. register-shape _ _)
  act-shape q ns settings (adopt address size) = adopt-cases S l stamps k mark (ShapeOf registering) address size tt tt tt (λ i w u e. refl) (λ w. register-shape _ _)
  act-shape q ns settings (claim id n commits) =
      claim-cases S l stamps k mark (ShapeOf claiming) id n commits settings (λ e. tt) (λ e f. tt)
      (λ e f. search-cases S l stamps k mark (ShapeOf claiming) id n commits _ (λ g. miss-cases S l stamps k mark (ShapeOf claiming) id n commits settings tt tt tt)
      (λ i h g. grant-cases S l stamps k mark (ShapeOf claiming) i n commits (λ _. tt) (λ s _. refl) (λ s _. tt)))
  act-shape q ns settings (release x n told pending) =
      release-cases S l stamps k mark (ShapeOf releasing) n told (stays_pending settings pending) _ _ x (λ e. tt) (λ e f. tt)
      (λ i e u f. release-in-cases S l stamps k mark (ShapeOf releasing) n told (stays_pending settings pending) _ _ i _ (λ g. tt) (λ g v. tt) (λ g v. refl))
  act-shape q ns settings (sweep force) =
      all-or-none S stamps k mark (sweep_of force ns settings) (ShapeOf sweeping) (sweeps_none settings force) l
      (λ f h. sweep-cases S stamps k mark (sweep_of force ns settings) (ShapeOf sweeping) 0 (λ m x a j u. tt) (λ m. refl) f 0 l (omega arith))

  fail-shape : (g : Grant) (why : Refusal) (waiting : Waiting) → ShapeOf g (after (fail_reply k mark why waiting) l stamps)
  fail-shape g why Reserve = tt
  fail-shape g why (Claim n commits) = tt

  resume-shape : (a : Arena) (waiting : Waiting) → ShapeOf (grant_of_waiting waiting) (resume S l stamps k mark a waiting)
  resume-shape a Reserve = refl
  resume-shape a (Claim n commits) =
      let g : Again S l stamps k mark a n commits = again S l stamps k mark a n commits in
      subst (ShapeOf claiming) (sym g.is)
      (search-cases S (with_record l k a) (with_stamps stamps k) (suc k) mark (ShapeOf claiming) g.id n commits _ (λ _. tt)
      (λ i h f. grant-cases S (with_record l k a) (with_stamps stamps k) (suc k) mark (ShapeOf claiming) i n commits (λ _. tt) (λ s _. refl) (λ s _. tt)))

  answer-shape : (q : Question) (kind : Kind) (accepted : Bool) (base : ℕ) → ShapeOf (grant_of_question q) (answer_on S l stamps k mark q kind accepted base)
  unfolding answer_on
  answer-shape q kind accepted base = by-not (ShapeOf (grant_of_question q)) (is_for q kind) _ _ (λ e. go q accepted) (λ e. tt)
    where
      go : (p : Question) (accepted : Bool) → ShapeOf (grant_of_question p) (answer_to S l stamps k mark p accepted base)
      go Idle accepted = tt
      go (Committing i s n) true = refl
      go (Committing i s n) false = tt
      go (Purging i j w) accepted =
          visit-cases S stamps k mark (counted w accepted) (ShapeOf sweeping) 0 (λ m x a c u. tt) (λ m. refl) l i _ _ _ (omega arith)
          (λ m. sweep-cases S stamps k mark (counted w accepted) (ShapeOf sweeping) 0 (λ n x a c u. tt) (λ n. refl) (k - (i + 1)) (i + 1) m (omega arith))
      go (Reserving chunks bytes commit exclusive waiting) false = fail-shape _ _ waiting
      go (Reserving chunks bytes commit exclusive waiting) true =
          memory-cases S l stamps k mark (ShapeOf (grant_of_waiting waiting)) chunks bytes commit exclusive waiting base tt (λ cause. tt) (λ d e f u. resume-shape _ waiting)
      go (GivingBack cause waiting) accepted = fail-shape _ _ waiting

  query-shape : (q : Question) (ns : ℕ) (settings : Settings) (c : Query) → Shape (grant_of_query c) (query_on S l stamps k mark q ns settings c)
  query-shape q ns settings (owns address) = refl
  query-shape q ns settings (area (pos i)) = by_cond (Shape lying) (ltb i k) _ _ (λ e. refl) (λ e. refl)
  query-shape q ns settings (area (negsuc i)) = refl

  call_shape : (q : Question) (ns : ℕ) (settings : Settings) (c : Call) → ShapeOf (grant_of q c) (step_on S l stamps k mark q ns settings c)
  call_shape q ns settings (act a) = go q
    where
      go : (p : Question) → ShapeOf (grant_of_act a) (step_on S l stamps k mark p ns settings (act a))
      go Idle = act-shape Idle ns settings a
      go (Committing i s n) = tt
      go (Purging i j w) = tt
      go (Reserving chunks bytes commit exclusive waiting) = tt
      go (GivingBack cause waiting) = tt
  call_shape q ns settings (query c) = query-shape q ns settings c
  call_shape q ns settings (answer kind accepted base) = answer-shape q kind accepted base

-- ---- an answer is read as it was written

-- no refusal's number is that of a grant or of a question, and each is read as the refusal that it is of
abbrev IsRefusal : Refusal → Type 0
IsRefusal why = (eqb (number why) 0 ≡ false) × (eqb (number why) 255 ≡ false) × (refusal_of (number why) ≡ why)

is-refusal : (why : Refusal) → IsRefusal why
is-refusal Broken = (refl, refl, refl)
is-refusal QuestionOpen = (refl, refl, refl)
is-refusal NoSuchQuestion = (refl, refl, refl)
is-refusal Zero = (refl, refl, refl)
is-refusal ArenasOff = (refl, refl, refl)
is-refusal Range = (refl, refl, refl)
is-refusal NotWhole = (refl, refl, refl)
is-refusal NotInside = (refl, refl, refl)
is-refusal PastEnd = (refl, refl, refl)
is-refusal NoRun = (refl, refl, refl)
is-refusal CommitRefused = (refl, refl, refl)
is-refusal ChunkCount = (refl, refl, refl)
is-refusal TableFull = (refl, refl, refl)
is-refusal MemoryRefused = (refl, refl, refl)
is-refusal NoWholeChunk = (refl, refl, refl)
is-refusal HostRefused = (refl, refl, refl)
is-refusal TablesOverlap = (refl, refl, refl)
is-refusal TooManyArenas = (refl, refl, refl)
is-refusal ListLength = (refl, refl, refl)

answer-read : (g : Grant) (r : Answer) (st : StateNumbers) → Shape g r → answer_of g (answer_numbers r st) ≡ r
answer-read g (Refused why) st h =
    let n : IsRefusal why = is-refusal why in unless (eqb (number why) 0) _ _ n.0 ∙ unless (eqb (number why) 255) _ _ n.1 ∙ ap Refused n.2
answer-read g (Asks (AskCommit address bytes)) st h = refl
answer-read g (Asks (AskPurge address bytes decommit)) st h = refl
answer-read g (Asks (AskMemory bytes align commit large)) st h = refl
answer-read g (Asks (AskGiveBack address bytes)) st h = refl
answer-read g (Registered id) st h = ap (λ (x : Grant). granting x (answer_numbers (Registered id) st)) h
answer-read g (Claimed address fresh committed) st h = ap (λ (x : Grant). granting x (answer_numbers (Claimed address fresh committed) st)) h
answer-read g Released st h = ap (λ (x : Grant). granting x (answer_numbers Released st)) h
answer-read g (Swept count) st h = ap (λ (x : Grant). granting x (answer_numbers (Swept count) st)) h
answer-read g (Owns whether) st h = ap (λ (x : Grant). granting x (answer_numbers (Owns whether) st)) h
answer-read g (Area base bytes) st h = ap (λ (x : Grant). granting x (answer_numbers (Area base bytes) st)) h

-- the reply has the state's numbers
reply-state : (r : Answer) (st : StateNumbers) → (answer_numbers r st).state ≡ st
reply-state (Refused why) st = refl
reply-state (Asks (AskCommit address bytes)) st = refl
reply-state (Asks (AskPurge address bytes decommit)) st = refl
reply-state (Asks (AskMemory bytes align commit large)) st = refl
reply-state (Asks (AskGiveBack address bytes)) st = refl
reply-state (Registered id) st = refl
reply-state (Claimed address fresh committed) st = refl
reply-state Released st = refl
reply-state (Swept count) st = refl
reply-state (Owns whether) st = refl
reply-state (Area base bytes) st = refl

join-answer-read : (r : Result ℕ Refusal) (f g : StateNumbers) → join_answer_of (join_answer_numbers r f g) ≡ r
join-answer-read (Err why) f g = let n : IsRefusal why = is-refusal why in unless (eqb (number why) 0) _ _ n.0 ∙ ap Err n.2
join-answer-read (Ok rise) f g = refl

-- and a join's has those of both
first-state : (r : Result ℕ Refusal) (f g : StateNumbers) → (join_answer_numbers r f g).first ≡ f
first-state (Err why) f g = refl
first-state (Ok rise) f g = refl

second-state : (r : Result ℕ Refusal) (f g : StateNumbers) → (join_answer_numbers r f g).second ≡ g
second-state (Err why) f g = refl
second-state (Ok rise) f g = refl

settings-read : (s : Settings) → settings_of (settings_numbers s) ≡ s
unfolding settings_of
settings-read s = λ i. record { delay = s.delay; decommits = flag-read s.decommits i; off = flag-read s.off i; reserve = s.reserve; page = s.page }

-- ---- so the exported calls are the rules

step-shape : (w : World) (ns : ℕ) (settings : Settings) (c : Call) → Shape (grant_of w.state.question c) (step w ns settings c).answer
unfolding rules
step-shape w ns settings c =
    by-not (ShapeOf (grant_of w.state.question c)) (sound (size_of w.state) w settings.page) _ _
    (λ e. call_shape (size_of w.state) w.records w.stamps w.state.count w.state.mark w.state.question ns settings c) (λ e. tt)

pub exported-rules : (w : World) (ns : ℕ) (settings : Settings) (c : Call) → exported.does w ns settings c ≡ step w ns settings c
unfolding step_numbers
exported-rules w ns settings c =
    let o : Outcome = step w ns settings c in
    ap (read_back w c) (when (is_state (numbers_of w.state)) _ _ (is_state-numbers_of w.state))
    ∙ ap₂ (λ (s : State) (t : Settings). read_back w c (in_numbers (step (world_of w.records w.stamps s) ns t c))) (state-read w.state) (settings-read settings)
    ∙ ap₂ (λ (r : Answer) (s : State). outcome r (world_of o.world.records o.world.stamps s))
    (answer-read (grant_of w.state.question c) o.answer (numbers_of o.world.state) (step-shape w ns settings c))
    (ap state_of (reply-state o.answer (numbers_of o.world.state)) ∙ state-read o.world.state)

-- a list is granted as a release is, or turned down
list-shape : (w : World) (ns : ℕ) (settings : Settings) (t : Items) → Shape releasing (release_list w ns settings t).whole.answer
list-shape w ns settings t = go (release_list w ns settings t) (list-comes w ns settings t)
  where
    go : (o : ListOutcome) → ListComes w ns settings t o → Shape releasing o.whole.answer
    go o (turned_down why e is) = subst (λ (u : ListOutcome). Shape releasing u.whole.answer) (sym is) tt
    go o (one_by_one e idle fits is) =
        subst (Shape releasing) (sym (ap (λ (u : ListOutcome). u.whole.answer) is ∙ each-granted ns settings t.pending w t.addresses t.counts)) refl

pub exported-list : (w : World) (ns : ℕ) (settings : Settings) (t : Items) → exported.lists w ns settings t ≡ release_list w ns settings t
unfolding list_numbers
exported-list w ns settings t =
    let o : ListOutcome = release_list w ns settings t in
    ap read_list_back (when (is_state (numbers_of w.state)) _ _ (is_state-numbers_of w.state))
    ∙ ap₂ (λ (s : State) (c : Settings). read_list_back (list_in_numbers (release_list (world_of w.records w.stamps s) ns c t))) (state-read w.state) (settings-read settings)
    ∙ ap₂ (λ (r : Answer) (s : State). list_outcome (outcome r (world_of o.whole.world.records o.whole.world.stamps s)) o.numbers)
    (answer-read releasing o.whole.answer (numbers_of o.whole.world.state) (list-shape w ns settings t))
    (ap state_of (reply-state o.whole.answer (numbers_of o.whole.world.state)) ∙ state-read o.whole.world.state)

pub exported-join : (w v : World) (ns : ℕ) (settings : Settings) → exported.joins w v ns settings ≡ join w v ns settings
unfolding join_numbers
exported-join w v ns settings =
    let o : JoinOutcome = join w v ns settings in
    let f : StateNumbers = numbers_of o.first.state in
    let g : StateNumbers = numbers_of o.second.state in
    ap read_both_back (when (is_state (numbers_of w.state) && is_state (numbers_of v.state)) _ _ (ap₂ (λ (a b : Bool). a && b) (is_state-numbers_of w.state) (is_state-numbers_of v.state)))
    ∙ (λ i. read_both_back (both_in_numbers (join (world_of w.records w.stamps (state-read w.state i)) (world_of v.records v.stamps (state-read v.state i)) ns (settings-read settings i))))
    ∙ (λ i. join_outcome (join-answer-read o.answer f g i)
    (world_of o.first.records o.first.stamps ((ap state_of (first-state o.answer f g) ∙ state-read o.first.state) i))
    (world_of o.second.records o.second.stamps ((ap state_of (second-state o.answer f g) ∙ state-read o.second.state) i)))

-- DEMAND 3, of what people link
pub demand3-exported : Demand3 exported
demand3-exported = demand3 exported exported-rules exported-list exported-join
