-- "11 restores the used bits": a grant whose commit is answered no leaves the world as it was before the grant. "11 [may leave] a new arena": the one that
-- the grant's search was made in. Assumes nothing.
use Rattle.std.specs.Prelude.{◌≡◌, ◌&&◌, ◌∷◌, ◌*◌, ◌%◌, ◌<◌, ◌≤◌}
use Rattle.layer.proofs.Prelude.{refl, ap, ◌∙◌, subst, Bool, true, false, not, List, [], ⊎_elim, ℕ, zero, suc, arith, leb-false, ltb-false, eqb, leb, ℤ, negsuc, length, set, length-set, set-get_or, Refusal, NoRun, CommitRefused, unless, by_cond, lt-or-le, Option, Some, None, least, First, first_says, page_size_sound, Arena, new_arena, reserved_arena, find_run, take_run, give_back_run, Rows, World, Outcome, blank, state_with, world_of, outcome, after, turn_down, calm, at, bad_range, sound, too_large, ask_memory, bad_count, with_record, with_stamps, serves, asks_commit, grant_arena, grant_reply, miss_reply, is_negative, grant_found, search_at, search_of, claim_of, is_for, resume, answer_of, claim, answer, act, rules}
use Rattle.arena.proofs.Changes.{grant-give-back}
use Rattle.layer.specs.declared.Settings.{Settings}
use Rattle.layer.specs.declared.Question.{Question}
use Rattle.layer.specs.declared.Question.TheVariants.{Idle, Committing, Purging, Reserving, GivingBack}
use Rattle.layer.specs.declared.Waiting.{Waiting}
use Rattle.layer.specs.declared.Waiting.TheVariants.{Reserve, Claim}
use Rattle.layer.specs.declared.Kind.TheVariants.{ForCommit, ForMemory}
use Rattle.layer.specs.declared.Ask.TheVariants.{AskCommit}
use Rattle.layer.specs.declared.Answer.TheVariants.{Refused, Asks}
use Rattle.layer.specs.declared.Reply.{Reply}
use Rattle.layer.proofs.Tools.{or-false, at_same, by-set, by-not}
use Rattle.layer.proofs.Cases.{claim-cases}
use Rattle.layer.proofs.Calls.{calm-world, act-cases}
use Rattle.layer.proofs.Registered.{reserved-rows}
use Rattle.layer.proofs.Stepped.{Words, sound-facts, step-sound}
use Rattle.layer_laws.specs.after_refusal.Left.{LeftReserved}
use Rattle.layer_laws.proofs.after_refusal.Answers.{refused-no-commit, registered-no-commit, claimed-no-commit, memory-no-commit, give-back-no-commit}

-- ---- the record as it was

set-again : (l : List Arena) (i : ℕ) (a b : Arena) → set (set l i a) i b ≡ set l i b
set-again [] i a b = refl
set-again (x ∷ l) zero a b = refl
set-again (x ∷ l) (suc i) a b = ap (λ (m : List Arena). x ∷ m) (set-again l i a b)

undone : (l : List Arena) (i n s : ℕ) → i < length l → Rows (at l i) → (at l i).chunks ≤ 1024 → find_run (at l i) n ≡ Some s
    → set (set l i (take_run (at l i) s n)) i (give_back_run (at (set l i (take_run (at l i) s n)) i) s n) ≡ l
undone l i n s h r c e =
    set-again l i (take_run (at l i) s n) _
    ∙ ap (set l i) (ap (λ (b : Arena). give_back_run b s n) (at_same l i (take_run (at l i) s n) h) ∙ grant-give-back (at l i) n s r c e)
    ∙ set-get_or l i blank

-- ---- the answer no, to a commit question that a search put

module _ (S : ℕ) (later : ℕ) (others : Settings) (base : ℕ) where
  no_step : (l : List Arena) (stamps : List ℕ) (k : ℕ) (mark : Bool) (i s n : ℕ) → sound S (world_of l stamps (state_with k mark (Committing i s n))) others.page ≡ true
      → rules S (world_of l stamps (state_with k mark (Committing i s n))) later others (answer ForCommit false base)
      ≡ outcome (Refused CommitRefused) (world_of (set l i (give_back_run (at l i) s n)) stamps (calm k mark))
  unfolding rules answer_of is_for
  no_step l stamps k mark i s n e = unless (not (sound S (world_of l stamps (state_with k mark (Committing i s n))) others.page)) _ _ (ap not e)

  -- the outcome that asks for a commit is undone by a no: the world v is left
  abbrev Undone : World → Outcome → Type 0
  Undone v o =
      (address bytes : ℕ) → o.answer ≡ Asks (AskCommit address bytes) → sound S o.world others.page ≡ true
      → rules S o.world later others (answer ForCommit false base) ≡ outcome (Refused CommitRefused) v

  module _ (l : List Arena) (stamps : List ℕ) (k : ℕ) (mark : Bool) (long : length l ≡ 32) (few : k ≤ 32)
      (fit : (i : ℕ) → i < k → Rows (at l i) × ((at l i).chunks ≤ 1024)) where
    search-undone : (id : ℤ) (n : ℕ) (commits : Bool) (missed : Reply) → Undone (world_of l stamps (calm k mark)) (after missed l stamps)
        → Undone (world_of l stamps (calm k mark)) (search_of S l stamps k mark id n commits missed)
    unfolding search_of grant_reply grant_arena
    search-undone id n commits missed m = go (least (serves id n l) 0 k) (first_says (serves id n l) 0 k)
      where
        U : Outcome → Type 0
        U = Undone (world_of l stamps (calm k mark))

        grant : (i s : ℕ) → i < k → find_run (at l i) n ≡ Some s → (b : Bool) → asks_commit (at l i) s n commits ≡ b → U (grant_found S l stamps k mark i n commits (Some s))
        grant i s h f true e =
            rw e (λ address bytes g t.
            no_step (set l i (take_run (at l i) s n)) stamps k mark i s n t
            ∙ ap (λ (m : List Arena). outcome (Refused CommitRefused) (world_of m stamps (calm k mark))) (undone l i n s (omega (arith, long, few)) (fit i h).0 (fit i h).1 f))
        grant i s h f false e = rw e (λ address bytes g t. claimed-no-commit _ _ _ address bytes g)

        run : (i : ℕ) → i < k → (f : Option ℕ) → find_run (at l i) n ≡ f → U (grant_found S l stamps k mark i n commits f)
        run i h (Some s) e = grant i s h e (asks_commit (at l i) s n commits) refl
        run i h None e = λ address bytes g t. refused-no-commit NoRun address bytes g

        go : (f : Option ℕ) → First (serves id n l) 0 k f → U (search_at S l stamps k mark n commits missed f)
        go (Some i) h = run i (omega (arith, h.1)) (find_run (at l i) n) refl
        go None h = m

    claim-undone : (id : ℤ) (n : ℕ) (commits : Bool) (settings : Settings)
        → Undone (world_of l stamps (calm k mark)) (claim_of S l stamps k mark id n commits settings)
    unfolding miss_reply ask_memory
    claim-undone id n commits settings =
        claim-cases S l stamps k mark (Undone (world_of l stamps (calm k mark))) id n commits settings (λ e address bytes g t. refused-no-commit _ address bytes g)
        (λ e f address bytes g t. refused-no-commit _ address bytes g)
        (λ e f. search-undone id n commits (miss_reply S k mark id n commits settings)
        (by_cond U (is_negative id && (leb S settings.reserve && not mark)) _ _
        (λ g. by_cond U (too_large S settings.reserve) _ _ (λ h address bytes i t. refused-no-commit _ address bytes i) (λ h address bytes i t. memory-no-commit _ _ _ _ address bytes i))
        (λ g address bytes h t. refused-no-commit _ address bytes h)))
      where
        U : Reply → Type 0
        U r = Undone (world_of l stamps (calm k mark)) (after r l stamps)

-- a claim that asked for a commit, answered no: the world is the one before the claim
pub claim-then-no : (S : ℕ) → 0 < S → (w : World) (ns later : ℕ) (settings others : Settings) (id : ℤ) (n : ℕ) (commits : Bool) (address bytes base : ℕ) → Words w
    → sound S w settings.page ≡ true → page_size_sound others.page ≡ true → (rules S w ns settings (act (claim id n commits))).answer ≡ Asks (AskCommit address bytes)
    → rules S (rules S w ns settings (act (claim id n commits))).world later others (answer ForCommit false base) ≡ outcome (Refused CommitRefused) w
claim-then-no S pos w ns later settings others id n commits address bytes base words e p asked =
    let f = (sound-facts S w settings.page words e).0 in
    act-cases S w ns settings (U w) turned (claim id n commits)
    (λ g idle. subst (λ (v : World). U v (claim_of S w.records w.stamps w.state.count w.state.mark id n commits settings)) (calm-world w idle)
    (claim-undone S later others base w.records w.stamps w.state.count w.state.mark f.table.long f.table.few (λ i u. (f.table.rows i u, (f.table.each i u).range.few)) id n commits settings))
    address bytes asked (step-sound S pos w ns settings (act (claim id n commits)) words e others.page p).0
  where
    U : World → Outcome → Type 0
    U = Undone S later others base

    turned : (why : Refusal) → U w (outcome (Refused why) w)
    turned why = λ a b g t. refused-no-commit why a b g

-- ---- a yes to the memory question of a claim that waits: the new arena stays

module _ (S : ℕ) (later : ℕ) (others : Settings) (base : ℕ) (l : List Arena) (stamps : List ℕ) (k : ℕ) (mark : Bool) (place : ℕ) where
  -- the outcome that asks for a commit is answered no: 11, and the range at `place` is registered
  abbrev Stays : Question → Outcome → Type 0
  Stays q o =
      (address bytes : ℕ) → o.answer ≡ Asks (AskCommit address bytes) → sound S o.world others.page ≡ true
      → ((rules S o.world later others (answer ForCommit false base)).answer ≡ Refused CommitRefused)
      × LeftReserved (world_of l stamps (state_with k mark q)) place (rules S o.world later others (answer ForCommit false base)).world

module _ (S : ℕ) (later : ℕ) (others : Settings) (base : ℕ) (l : List Arena) (stamps : List ℕ) (k : ℕ) (mark : Bool) (place : ℕ) (long : length l ≡ 32) (few : k ≤ 32)
    (fit : (i : ℕ) → i < k → Rows (at l i) × ((at l i).chunks ≤ 1024)) where
  abbrev Stay : Question → Outcome → Type 0
  Stay = Stays S later others base l stamps k mark place

  registered-fit : (chunks : ℕ) (commit exclusive : Bool) → k < 32 → chunks ≤ 1024
      → (i : ℕ) → i < suc k → Rows (at (with_record l k (reserved_arena place chunks commit exclusive)) i) × ((at (with_record l k (reserved_arena place chunks commit exclusive)) i).chunks ≤ 1024)
  unfolding reserved_arena new_arena
  registered-fit chunks commit exclusive h c i u =
      by-set (λ (a : Arena). Rows a × (a.chunks ≤ 1024)) l k (reserved_arena place chunks commit exclusive) (omega (arith, long)) (reserved-rows place chunks commit exclusive, c) i
      (λ e. fit i (⊎_elim (λ (m : i < k). m) (λ (m : k ≤ i). absurd (e (omega arith))) (lt-or-le i k)))

  resume-stays : (chunks bytes : ℕ) (commit exclusive : Bool) (waiting : Waiting) → k < 32 → chunks ≤ 1024
      → Stay (Reserving chunks bytes commit exclusive waiting) (resume S l stamps k mark (reserved_arena place chunks commit exclusive) waiting)
  resume-stays chunks bytes commit exclusive Reserve h c = λ a b e t. registered-no-commit k a b e
  resume-stays chunks bytes commit exclusive (Claim n commits) h c = λ a b e t.
      let u = search-undone S later others base (with_record l k (reserved_arena place chunks commit exclusive)) (with_stamps stamps k) (suc k) mark
      (length-set l k (reserved_arena place chunks commit exclusive) ∙ long) h (registered-fit chunks commit exclusive h c) (negsuc 0) n commits (turn_down NoRun (calm (suc k) mark))
      (λ x y f g. refused-no-commit NoRun x y f) a b e t in
      (ap (λ (o : Outcome). o.answer) u, (chunks, bytes, commit, exclusive, n, commits, refl, ap (λ (o : Outcome). o.world) u))

  memory-stays : (q : Question) → Stay q (answer_of S l stamps k mark q ForMemory true place)
  unfolding answer_of is_for bad_count
  memory-stays Idle = λ a b e t. refused-no-commit _ a b e
  memory-stays (Committing i s n) = λ a b e t. refused-no-commit _ a b e
  memory-stays (Purging i j w) = λ a b e t. refused-no-commit _ a b e
  memory-stays (GivingBack cause waiting) = λ a b e t. refused-no-commit _ a b e
  memory-stays (Reserving chunks bytes commit exclusive waiting) =
      by_cond Q (bad_range S l k place (chunks * S)) _ _ (λ e a b f t. refused-no-commit _ a b f)
      (λ e. by_cond Q (bad_count chunks) _ _ (λ f a b g t. give-back-no-commit _ _ a b g)
      (λ f. by-not Q (eqb (place % S) 0) _ _
      (λ g. by_cond Q (leb 32 k) _ _ (λ h a b i t. give-back-no-commit _ _ a b i)
      (λ h. resume-stays chunks bytes commit exclusive waiting (leb-false 32 k h) (ltb-false 1024 chunks (or-false (eqb chunks 0) _ f).1)))
      (λ g a b h t. give-back-no-commit _ _ a b h)))
    where
      Q : Outcome → Type 0
      Q = Stay (Reserving chunks bytes commit exclusive waiting)

-- a yes at `place` to a memory question, whereupon the claim that waits asks for a commit, answered no: 11, and the new arena stands, all else as before
pub yes-then-no : (S : ℕ) → 0 < S → (w : World) (ns later : ℕ) (settings others : Settings) (place address bytes base : ℕ) → Words w → sound S w settings.page ≡ true
    → page_size_sound others.page ≡ true → (rules S w ns settings (answer ForMemory true place)).answer ≡ Asks (AskCommit address bytes)
    → ((rules S (rules S w ns settings (answer ForMemory true place)).world later others (answer ForCommit false base)).answer ≡ Refused CommitRefused)
    × LeftReserved w place (rules S (rules S w ns settings (answer ForMemory true place)).world later others (answer ForCommit false base)).world
unfolding rules
yes-then-no S pos w ns later settings others place address bytes base words e p asked =
    let f = (sound-facts S w settings.page words e).0 in
    by-not Q (sound S w settings.page) _ _
    (λ g. memory-stays S later others base w.records w.stamps w.state.count w.state.mark place f.table.long f.table.few (λ i u. (f.table.rows i u, (f.table.each i u).range.few)) w.state.question)
    (λ g a b h t. refused-no-commit _ a b h)
    address bytes asked (step-sound S pos w ns settings (answer ForMemory true place) words e others.page p).0
  where
    Q : Outcome → Type 0
    Q = Stays S later others base w.records w.stamps w.state.count w.state.mark place w.state.question
