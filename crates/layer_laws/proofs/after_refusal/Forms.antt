-- Every outcome of a call is of one of six forms: what holds of each of them holds of the call. Assumes nothing.
use Rattle.std.specs.Prelude.{◌≡◌, ◌∷◌, ◌⊎◌, ◌+◌, ◌-◌, ◌*◌, ◌/◌, ◌%◌, ◌<◌, ◌≤◌}
use Rattle.layer.proofs.Prelude.{refl, sym, ap, ◌∙◌, subst, Bool, true, false, not, List, [], inl, inr, ⊎_elim, ℕ, zero, suc, arith, eqb-false, eqb, leb, ltb, ℤ, pos, negsuc, set, set-get_or, Refusal, Broken, QuestionOpen, Range, NoRun, by_cond, Option, Some, None, and_both, Arena, is_on, Commitment, Untold, Committed, Uncommitted, grown_arena, take_run, give_back_run, commit_run, dirty_run, finish_grant, tell_run, pend_run, release_run, sweep_due, next_asked, disarm, borrow_chunk, unpend_chunk, return_chunk, next_wait, rearm_at, rearm, stamps_of, World, Outcome, blank, state_with, world_of, outcome, after, turn_down, calm, refuse, first_of, at, bad_range, sound, ask_memory, bad_count, with_record, with_stamps, grows, search_of, claim_of, purge_reply, swept_reply, visit_at, visit, sweep_from, is_for, counted, fail_reply, answer_commit, resume, answer_memory, answer_to, answer_of, Call, reserve, manage, adopt, claim, release, sweep, answer, owns, area, sweep_of, step_on, act, query, rules, stays_pending, sweeps_none}
use Rattle.layer.specs.declared.Settings.{Settings}
use Rattle.layer.specs.declared.Sweep.{Sweep}
use Rattle.layer.specs.declared.Question.{Question}
use Rattle.layer.specs.declared.Question.TheVariants.{Idle, Committing, Purging, Reserving, GivingBack}
use Rattle.layer.specs.declared.Waiting.{Waiting}
use Rattle.layer.specs.declared.Waiting.TheVariants.{Reserve, Claim}
use Rattle.layer.specs.declared.Unusable.{Unusable}
use Rattle.layer.specs.declared.Unusable.TheVariants.{Count, Misaligned, Full}
use Rattle.layer.specs.declared.Kind.{Kind}
use Rattle.layer.specs.declared.Ask.TheVariants.{AskCommit, AskPurge, AskGiveBack}
use Rattle.layer.specs.declared.Answer.{Answer}
use Rattle.layer.specs.declared.Answer.TheVariants.{Refused, Asks, Registered, Claimed, Released, Swept, Owns, Area}
use Rattle.layer.specs.declared.Reply.{Reply}
use Rattle.layer.specs.Answering.{is_idle}
use Rattle.layer.proofs.Tools.{at_other, by-not}
use Rattle.layer.proofs.Rules.{grows-facts}
use Rattle.layer.proofs.Cases.{register, grant-cases, search-cases, miss-cases, claim-cases, release-in-cases, release-cases, reserve-cases, register-cases, manage-cases, adopt-cases}
use Rattle.layer.proofs.Kept.{take_range}
use Rattle.layer_laws.specs.after_refusal.Standing.{head_of, longer, Grown, GoesOn, ArenasStand}
use Rattle.layer.proofs.Sweeps.{all-or-none}

abbrev pub is_ask : Answer → Bool
is_ask (Refused why) = false
is_ask (Asks ask) = true
is_ask (Registered id) = false
is_ask (Claimed address fresh committed) = false
is_ask Released = false
is_ask (Swept count) = false
is_ask (Owns whether) = false
is_ask (Area base bytes) = false

-- n chunks are claimed by a call, and so more than none, or by the claim that waits for memory
abbrev pub Claims : Question → ℕ → Type 0
Claims q n =
    (n ≡ 0 → ⊥) ⊎ ((chunks : ℕ) × (bytes : ℕ) × (commit : Bool) × (exclusive : Bool) × (commits : Bool) × (q ≡ Reserving chunks bytes commit exclusive (Claim n commits)))

-- who waits for memory that a call asks for: a reserve, or a claim of more than no chunk
abbrev pub Waits : Waiting → Type 0
Waits Reserve = Unit {0}
Waits (Claim n commits) = n ≡ 0 → ⊥

-- a store of a record that f cannot tell from another, and from the one that stood there
pub set-as : {X : Type 0} (f : Arena → X) (l : List Arena) (i : ℕ) (a b : Arena) (j : ℕ) → f a ≡ f b → f (at (set l i a) j) ≡ f (at (set l i b) j)
set-as f [] i a b j e = refl
set-as f (x ∷ l) zero a b zero e = e
set-as f (x ∷ l) zero a b (suc j) e = refl
set-as f (x ∷ l) (suc i) a b zero e = refl
set-as f (x ∷ l) (suc i) a b (suc j) e = set-as f l i a b j e

pub set_keeps : {X : Type 0} (f : Arena → X) (l : List Arena) (i : ℕ) (a : Arena) (j : ℕ) → f a ≡ f (at l i) → f (at (set l i a) j) ≡ f (at l j)
set_keeps f l i a j e = set-as f l i a (at l i) j e ∙ ap (λ (m : List Arena). f (at m j)) (set-get_or l i blank)

set-either : (l : List Arena) (i : ℕ) (a : Arena) (j : ℕ) → (at (set l i a) j ≡ at l j) ⊎ ((j ≡ i) × (at (set l i a) j ≡ a))
set-either [] i a j = inl refl
set-either (x ∷ l) zero a zero = inr (refl, refl)
set-either (x ∷ l) zero a (suc j) = inl refl
set-either (x ∷ l) (suc i) a zero = inl refl
set-either (x ∷ l) (suc i) a (suc j) = ⊎_elim (λ (e : at (set l i a) j ≡ at l j). inl e) (λ (e : (j ≡ i) × (at (set l i a) j ≡ a)). inr (ap suc e.0, e.1)) (set-either l i a j)

-- ---- what a change leaves of an arena's head

take_head : (a : Arena) (s n : ℕ) → head_of (take_run a s n) ≡ head_of a
unfolding take_run
take_head a s n = refl

grant-head : (a : Arena) (s n : ℕ) → head_of (dirty_run (take_run a s n) s n) ≡ head_of a
unfolding take_run dirty_run
grant-head a s n = refl

finish-head : (a : Arena) (s n : ℕ) → head_of (finish_grant a s n true) ≡ head_of a
unfolding finish_grant commit_run dirty_run
finish-head a s n = refl

give-back-head : (a : Arena) (s n : ℕ) → head_of (give_back_run a s n) ≡ head_of a
unfolding give_back_run
give-back-head a s n = refl

release-head : (a : Arena) (s n : ℕ) (told : Commitment) (pending : Bool) (now delay : ℕ) → head_of (release_run a s n told pending now delay) ≡ head_of a
unfolding release_run pend_run tell_run give_back_run
release-head a s n Untold true now delay = refl
release-head a s n Untold false now delay = refl
release-head a s n Committed true now delay = refl
release-head a s n Committed false now delay = refl
release-head a s n Uncommitted true now delay = refl
release-head a s n Uncommitted false now delay = refl

disarm-head : (a : Arena) → head_of (disarm a) ≡ head_of a
unfolding disarm
disarm-head a = refl

borrow-head : (a : Arena) (j : ℕ) → head_of (borrow_chunk a j) ≡ head_of a
unfolding borrow_chunk
borrow-head a j = take_head a j 1

return-head : (a : Arena) (j : ℕ) (granted decommit : Bool) → head_of (return_chunk a j granted decommit) ≡ head_of a
unfolding return_chunk tell_run give_back_run unpend_chunk
return-head a j true true = refl
return-head a j true false = refl
return-head a j false decommit = refl

rearm-at-head : (a : Arena) (now : ℕ) (f : Option ℕ) → head_of (rearm_at a now f) ≡ head_of a
rearm-at-head a now (Some w) = refl
rearm-at-head a now None = refl

rearm-head : (a : Arena) (stamps : List ℕ) (force : Bool) (now delay : ℕ) → head_of (rearm a stamps force now delay) ≡ head_of a
unfolding rearm
rearm-head a stamps true now delay = refl
rearm-head a stamps false now delay = rearm-at-head a now (next_wait a stamps now delay)

grown-head : (a : Arena) (n : ℕ) → head_of (grown_arena a n) ≡ longer a n
unfolding grown_arena
grown-head a n = refl

-- only an owned arena grows
owned-grows : (S : ℕ) (a : Arena) (address n : ℕ) → grows S a address n ≡ true → is_on a.owned ≡ true
unfolding grows
owned-grows S a address n e = (and_both (is_on a.owned) _ e).0

-- ---- the k arenas of l stand among the first so many of m

abbrev pub Stand : List Arena → ℕ → List Arena → ℕ → Type 0
Stand l k m count = (k ≤ count) × ((i : ℕ) → i < k → GoesOn (at l i) (at m i))

stand-same : (l : List Arena) (k : ℕ) → Stand l k l k
stand-same l k = (omega arith, λ i h. inl refl)

-- a store of a record with the same head
stand-put : (l : List Arena) (k : ℕ) (m : List Arena) (count i : ℕ) (a : Arena) → head_of a ≡ head_of (at m i) → Stand l k m count → Stand l k (set m i a) count
stand-put l k m count i a e h = (
  h.0,
  λ j u. ⊎_elim (λ (g : head_of (at m j) ≡ head_of (at l j)). inl (set_keeps head_of m i a j e ∙ g))
      (λ (g : Grown (at l j) (at m j)). inr (g.0, g.1, g.2, set_keeps head_of m i a j e ∙ g.3)) (h.1 j u),
)

stand-new : (l : List Arena) (k : ℕ) (a : Arena) → Stand l k (set l k a) (suc k)
stand-new l k a = (omega arith, λ j u. inl (ap head_of (at_other l k j a (λ e. omega arith))))

stand-grown : (l : List Arena) (k i n : ℕ) → is_on (at l i).owned ≡ true → is_on (at l i).exclusive ≡ false → Stand l k (set l i (grown_arena (at l i) n)) k
stand-grown l k i n o x = (
  omega arith,
  λ j u. ⊎_elim (λ (e : at (set l i (grown_arena (at l i) n)) j ≡ at l j). inl (ap head_of e))
      (λ (e : (j ≡ i) × (at (set l i (grown_arena (at l i) n)) j ≡ grown_arena (at l i) n)).
      subst (λ (z : ℕ). GoesOn (at l z) (at (set l i (grown_arena (at l i) n)) j)) (sym e.0) (inr (o, x, n, ap head_of e.1 ∙ grown-head (at l i) n))) (set-either l i (grown_arena (at l i) n) j),
)

module _ (S : ℕ) (l : List Arena) (stamps : List ℕ) (k : ℕ) (mark : Bool) (q : Question) (P : Outcome → Type 0) where
  pub record Forms (c : Call) : Type 0 where
    -- nothing changes: a refusal, or a query
    pub as_it_was : (r : Answer) → is_ask r ≡ false → P (outcome r (world_of l stamps (state_with k mark q)))
    -- no question is open then
    pub ended : (r : Answer) → is_ask r ≡ false → (m : List Arena) (t : List ℕ) (n : ℕ) (gave-up : Bool) → Stand l k m n → (mark ≡ true → gave-up ≡ true) → P (outcome r (world_of m t (calm n gave-up)))
    -- a question is put; a commit question is about the run's own address
    pub commits : (m : List Arena) (t : List ℕ) (count i s n address : ℕ) → Stand l k m count → Claims q n → address ≡ (at m i).base + s * S
        → P (outcome (Asks (AskCommit address (n * S))) (world_of m t (state_with count mark (Committing i s n))))
    pub purges : (m : List Arena) (i j address : ℕ) (w : Sweep) → Stand l k m k → P (outcome (Asks (AskPurge address S w.decommit)) (world_of m stamps (state_with k mark (Purging i j w))))
    pub reserves : (size page : ℕ) (commit large exclusive : Bool) (waiting : Waiting) → Waits waiting → P (after (ask_memory S k mark size page commit large exclusive waiting) l stamps)
    pub gives_back : (chunks bytes : ℕ) (commit exclusive : Bool) (waiting : Waiting) (kind : Kind) (base : ℕ) (cause : Unusable)
        → q ≡ Reserving chunks bytes commit exclusive waiting → c ≡ answer kind true base → bad_range S l k base (chunks * S) ≡ false
        → P (outcome (Asks (AskGiveBack base bytes)) (world_of l stamps (state_with k mark (GivingBack cause waiting))))

  module _ (c : Call) (f : Forms c) where
    -- a refusal where no question is open
    down : (why : Refusal) → P (outcome (Refused why) (world_of l stamps (calm k mark)))
    down why = f.ended (Refused why) refl l stamps k mark (stand-same l k) (λ e. e)

    search-forms : (m : List Arena) (t : List ℕ) (count : ℕ) (id : ℤ) (n : ℕ) (asks : Bool) (missed : Reply) → Stand l k m count → Claims q n → P (after missed m t)
        → P (search_of S m t count mark id n asks missed)
    search-forms m t count id n asks missed stand some none =
        search-cases S m t count mark P id n asks missed (λ e. none)
        (λ i h e. grant-cases S m t count mark P i n asks (λ g. f.ended _ refl m t count mark stand (λ x. x))
        (λ s g. f.ended _ refl _ t count mark (stand-put l k m count i _ (grant-head (at m i) s n) stand) (λ x. x))
        (λ s g. f.commits _ t count i s n _ (stand-put l k m count i _ (take_head (at m i) s n) stand) some
        (ap (λ (x : ℕ). x + s * S) (sym (set_keeps (λ (a : Arena). a.base) m i (take_run (at m i) s n) i (take_range (at m i) s n).0)))))

    register-forms : (chunks : ℕ) (a : Arena) → P (register l stamps k mark chunks a)
    register-forms chunks a = register-cases S l stamps k mark P chunks a (down _) (down _) (λ e h. f.ended _ refl _ _ (suc k) mark (stand-new l k a) (λ x. x))

    visit-forms : (w : Sweep) (m : List Arena) (i : ℕ) (a : Arena) (from : ℕ) (rest : List Arena → Outcome) → Stand l k m k → head_of a ≡ head_of (at m i)
        → ((n : List Arena) → Stand l k n k → P (rest n)) → P (visit S stamps k mark w m i a from rest)
    unfolding visit purge_reply
    visit-forms w m i a from rest stand e on = go (next_asked a (stamps_of stamps i) w.force w.now w.delay from)
      where
        go : (found : Option ℕ) → P (visit_at S stamps k mark w m i a rest found)
        go (Some j) = f.purges _ i j _ w (stand-put l k m k i _ (borrow-head a j ∙ e) stand)
        go None = on _ (stand-put l k m k i _ (rearm-head a (stamps_of stamps i) w.force w.now w.delay ∙ e) stand)

    sweep-forms : (w : Sweep) (left i : ℕ) (m : List Arena) → Stand l k m k → P (sweep_from S stamps k mark w left i m)
    unfolding sweep_from swept_reply
    sweep-forms w zero i m stand = f.ended _ refl m stamps k mark stand (λ x. x)
    sweep-forms w (suc left) i m stand =
        by_cond P (sweep_due (at m i) w.force w.now) _ _
        (λ e. visit-forms w m i (disarm (at m i)) 0 (sweep_from S stamps k mark w left (i + 1)) stand (disarm-head (at m i)) (λ n u. sweep-forms w left (i + 1) n u))
        (λ e. sweep-forms w left (i + 1) m stand)

    -- ---- answers

    fail-forms : (why : Refusal) (waiting : Waiting) → P (after (fail_reply k mark why waiting) l stamps)
    fail-forms why Reserve = down why
    fail-forms why (Claim n asks) = f.ended _ refl l stamps k true (stand-same l k) (λ x. refl)

    resume-forms : (chunks bytes : ℕ) (commit exclusive : Bool) (waiting : Waiting) (a : Arena) → q ≡ Reserving chunks bytes commit exclusive waiting → P (resume S l stamps k mark a waiting)
    resume-forms chunks bytes commit exclusive Reserve a e = f.ended _ refl _ _ (suc k) mark (stand-new l k a) (λ x. x)
    resume-forms chunks bytes commit exclusive (Claim n asks) a e =
        search-forms (with_record l k a) (with_stamps stamps k) (suc k) (negsuc 0) n asks (turn_down NoRun (calm (suc k) mark)) (stand-new l k a)
        (inr (chunks, bytes, commit, exclusive, asks, e)) (f.ended _ refl _ _ (suc k) mark (stand-new l k a) (λ x. x))

    commit-forms : (i s n : ℕ) (granted : Bool) → P (answer_commit S l stamps k mark i s n granted)
    commit-forms i s n true = f.ended _ refl _ stamps k mark (stand-put l k l k i _ (finish-head (at l i) s n) (stand-same l k)) (λ x. x)
    commit-forms i s n false = f.ended _ refl _ stamps k mark (stand-put l k l k i _ (give-back-head (at l i) s n) (stand-same l k)) (λ x. x)

  -- the answer to the question that is open
  memory-forms : (kind : Kind) (granted : Bool) (base : ℕ) → Forms (answer kind granted base) → (chunks bytes : ℕ) (commit exclusive : Bool) (waiting : Waiting)
      → q ≡ Reserving chunks bytes commit exclusive waiting → P (answer_memory S l stamps k mark chunks bytes commit exclusive waiting granted base)
  memory-forms kind false base f chunks bytes commit exclusive waiting e = fail-forms (answer kind false base) f _ waiting
  memory-forms kind true base f chunks bytes commit exclusive waiting e =
      by_cond P (bad_range S l k base (chunks * S)) _ _
      (λ g. subst (λ (x : Question). P (outcome (Refused Range) (world_of l stamps (state_with k mark x)))) e (f.as_it_was (Refused Range) refl))
      (λ g. by_cond P (bad_count chunks) _ _ (λ h. unusable g Count)
      (λ h. by-not P (eqb (base % S) 0) _ _
      (λ i. by_cond P (leb 32 k) _ _ (λ j. unusable g Full) (λ j. resume-forms (answer kind true base) f chunks bytes commit exclusive waiting _ e)) (λ i. unusable g Misaligned)))
    where
      unusable : bad_range S l k base (chunks * S) ≡ false → (cause : Unusable) → P (outcome (Asks (AskGiveBack base bytes)) (world_of l stamps (state_with k mark (GivingBack cause waiting))))
      unusable g cause = f.gives_back chunks bytes commit exclusive waiting kind base cause e refl g

  answer-forms : (kind : Kind) (granted : Bool) (base : ℕ) → Forms (answer kind granted base) → P (answer_of S l stamps k mark q kind granted base)
  unfolding answer_of
  answer-forms kind granted base f = by-not P (is_for q kind) _ _ (λ e. go q refl) (λ e. f.as_it_was _ refl)
    where
      go : (p : Question) → q ≡ p → P (answer_to S l stamps k mark p granted base)
      go Idle e = down (answer kind granted base) f _
      go (Committing i s n) e = commit-forms (answer kind granted base) f i s n granted
      go (Purging i j w) e =
          visit-forms (answer kind granted base) f (counted w granted) l i (return_chunk (at l i) j granted w.decommit) (j + 1) (sweep_from S stamps k mark (counted w granted) (k - (i + 1)) (i + 1))
          (stand-same l k) (return-head (at l i) j granted w.decommit) (sweep-forms (answer kind granted base) f (counted w granted) (k - (i + 1)) (i + 1))
      go (Reserving chunks bytes commit exclusive waiting) e = memory-forms kind granted base f chunks bytes commit exclusive waiting e
      go (GivingBack cause waiting) e = fail-forms (answer kind granted base) f _ waiting

  -- ---- the calls

  -- row 2
  act-forms : (c : Call) → Forms c → (go : Outcome) → P go → P (first_of (refuse (world_of l stamps (state_with k mark q)) QuestionOpen (not (is_idle q)) ∷ []) go)
  act-forms c f go x = by-not P (is_idle q) _ _ (λ e. x) (λ e. f.as_it_was (Refused QuestionOpen) refl)

  claim-forms : (id : ℤ) (n : ℕ) (asks : Bool) (settings : Settings) → Forms (act (claim id n asks)) → P (claim_of S l stamps k mark id n asks settings)
  claim-forms id n asks settings f =
      claim-cases S l stamps k mark P id n asks settings (λ e. down c f _) (λ e g. down c f _)
      (λ e g. search-forms c f l stamps k id n asks _ (stand-same l k) (inl (eqb-false n 0 e))
      (miss-cases S l stamps k mark P id n asks settings (down c f _) (f.ended _ refl l stamps k true (stand-same l k) (λ x. refl))
      (f.reserves settings.reserve settings.page false false false (Claim n asks) (eqb-false n 0 e))))
    where
      c : Call
      c = act (claim id n asks)

  module _ (ns : ℕ) (settings : Settings) where
    pub step-on-forms : (c : Call) → Forms c → P (step_on S l stamps k mark q ns settings c)
    step-on-forms (act (reserve size commit large exclusive)) f =
        act-forms _ f _
        (reserve-cases S l stamps k mark P size commit large exclusive settings.page (down (act (reserve size commit large exclusive)) f _) (f.reserves size settings.page commit large exclusive Reserve tt))
    step-on-forms (act (manage start size exclusive node mapped reserved)) f =
        act-forms _ f _
        (manage-cases S l stamps k mark P start size exclusive node mapped reserved (down (act (manage start size exclusive node mapped reserved)) f _)
        (down (act (manage start size exclusive node mapped reserved)) f _) (down (act (manage start size exclusive node mapped reserved)) f _) (λ g. register-forms (act (manage start size exclusive node mapped reserved)) f _ _))
    step-on-forms (act (adopt address size)) f =
        act-forms _ f _
        (adopt-cases S l stamps k mark P address size (down (act (adopt address size)) f _) (down (act (adopt address size)) f _) (down (act (adopt address size)) f _)
        (λ i w h g. f.ended _ refl _ stamps k mark (stand-grown l k i (size / S) (owned-grows S (at l i) address (size / S) g) (grows-facts S (at l i) address (size / S) g).0) (λ x. x)) (λ w. register-forms (act (adopt address size)) f _ _))
    step-on-forms (act (claim id n asks)) f = act-forms _ f _ (claim-forms id n asks settings f)
    step-on-forms (act (release address n told pending)) f =
        act-forms _ f _
        (release-cases S l stamps k mark P n told (stays_pending settings pending) _ _ address (λ e. down c f _) (λ e g. down c f _)
        (λ i e h g. release-in-cases S l stamps k mark P n told (stays_pending settings pending) _ _ i _ (λ x. down c f _) (λ x y. down c f _) (λ x y. f.ended _ refl _ _ k mark (stand-put l k l k i _ (release-head (at l i) _ n told (stays_pending settings pending) _ _) (stand-same l k)) (λ z. z))))
      where
        c : Call
        c = act (release address n told pending)
    step-on-forms (act (sweep force)) f =
        act-forms _ f _
        (all-or-none S stamps k mark (sweep_of force ns settings) P (sweeps_none settings force) l (λ g h. sweep-forms (act (sweep force)) f (sweep_of force ns settings) g 0 l (stand-same l k)))
    step-on-forms (answer kind granted base) f = answer-forms kind granted base f
    step-on-forms (query (owns address)) f = f.as_it_was _ refl
    step-on-forms (query (area (pos i))) f =
        by_cond (λ (r : Answer). P (outcome r (world_of l stamps (state_with k mark q)))) (ltb i k) _ _ (λ e. f.as_it_was _ refl) (λ e. f.as_it_was _ refl)
    step-on-forms (query (area (negsuc i))) f = f.as_it_was _ refl

pub step-forms : (S : ℕ) (w : World) (ns : ℕ) (settings : Settings) (c : Call) (P : Outcome → Type 0)
    → Forms S w.records w.stamps w.state.count w.state.mark w.state.question P c → P (rules S w ns settings c)
unfolding rules
step-forms S w ns settings c P f =
    by-not P (sound S w settings.page) _ _
    (λ e. step-on-forms S w.records w.stamps w.state.count w.state.mark w.state.question P ns settings c f) (λ e. f.as_it_was (Refused Broken) refl)

-- an arena that is registered stands for good
pub arenas-stand : (S : ℕ) → ArenasStand S
unfolding ask_memory
arenas-stand S w ns settings c i h = step-forms S w ns settings c (λ (o : Outcome). (i < o.world.state.count) × GoesOn (at w.records i) (at o.world.records i)) (record {
  as_it_was = λ r a. (h, inl refl);
  ended = λ r a m t n gave-up stand kept. (omega (arith, stand.0), stand.1 i h);
  commits = λ m t count j s n address stand a b. (omega (arith, stand.0), stand.1 i h);
  purges = λ m x j address v stand. (h, stand.1 i h);
  reserves = λ size page commit large exclusive waiting a. (h, inl refl);
  gives_back = λ chunks bytes commit exclusive waiting kind base cause a b d. (h, inl refl);
})
