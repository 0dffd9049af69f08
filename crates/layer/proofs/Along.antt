-- One arena along a call, in a table that changes: the book that its record shows stays, or a run of it is granted. No call and no role. Assumes nothing.
use Rattle.std.specs.Prelude.{◌≡◌, ◌∷◌, ◌++◌, ◌+◌, ◌-◌, ◌*◌, ◌/◌, ◌≤◌, ◌<◌}
use Rattle.layer.proofs.Prelude.{refl, sym, ap, ap₂, ◌∙◌, subst, Bool, true, false, not, true≢false, List, [], ℕ, zero, suc, arith, ℕ_discrete, not-true, ℤ, length, set, length-set, Refusal, bit_at, by_cond, Option, Some, None, least, lowest_run, First, first_says, and_both, Arena, Commitment, find_run, run_fresh, run_committed, take_run, dirty_run, release_run, sweep_due, disarm, to_ask, young, next_asked, borrow_chunk, rearm, is_inside, stamps_of, Rows, found_inside, disarm-rows, rearm-rows, Settings, Sweep, Question, Idle, Committing, Purging, Waiting, Reserve, Claim, AskCommit, Answer, Asks, Claimed, Reply, Outcome, state_with, reply, after, at, is_some, ask_memory, with_record, serves, miss_reply, grant_found, search_of, release_of, purge_reply, swept_reply, visit_at, visit, sweep_from, fail_reply, reserve, answer, Book, Say, unheld, hold, claimed, said}
use Rattle.layer.proofs.Tools.{at_same, at_other}
use Rattle.layer.proofs.Rules.{served-found}
use Rattle.layer.proofs.Shown.{View, calm, committing, purging, view_of, waits_in, owed_in, book_in, Same}
use Rattle.layer.proofs.View.{view-commit, view-purge, view-commit-other, view-purge-other, book-granted, book-taken, say-fresh, owed-taken, book-disarmed, book-rearmed, book-borrowed, take_same, dirty-same, disarm-same, borrow-same, rearm-same}
use Rattle.layer.proofs.Cases.{register, granting, asking, grant-cases, search-cases, miss-cases, release-in-cases, release-cases, register-cases}

-- the run of n from s on of arena i, which begins at base, is granted, or its commit is asked for
pub data Given (S i base s n : ℕ) (o : Outcome) : Type 0 where
  at_once : (fresh committed : Bool) → o.answer ≡ Claimed (base + s * S) fresh committed → o.world.state.question ≡ Idle → Given S i base s n o
  asked : o.answer ≡ Asks (AskCommit (base + s * S) (n * S)) → o.world.state.question ≡ Committing i s n → Given S i base s n o

-- ---- an arena along a call: c is its record before it, and B the book that is shown

-- where no claim waits nothing is owed
pub none-owed : (S : ℕ) (v : View) (a : Arena) → waits_in v ≡ [] → owed_in S v a ≡ []
none-owed S calm a e = refl
none-owed S (committing s n) a e = let z : ◌≡◌ {A = ℕ} 0 1 = cc in absurd (omega arith)
none-owed S (purging j) a e = refl

module _ (S id : ℕ) (c : Arena) (small : c.chunks ≤ 1024) (B : Book) where
  -- a record that shows it, nothing open about it
  pub record Ready (a : Arena) : Type 0 where
    pub rows : Rows a
    pub same : Same c c.chunks a
    pub shows : book_in S calm a ≡ B

  -- a table of k arenas in which the arena is such
  pub record Stands (l : List Arena) (k : ℕ) : Type 0 where
    pub low : id < k
    pub few : k ≤ 32
    pub long : length l ≡ 32
    pub ready : Ready (at l id)

  -- the call leaves the book, and no claim waits there
  pub record Leaves (o : Outcome) : Type 0 where
    pub low : id < o.world.state.count
    pub same : Same c c.chunks (at o.world.records id)
    pub book : book_in S (view_of id o.world.state.question) (at o.world.records id) ≡ B
    pub none : waits_in (view_of id o.world.state.question) ≡ []

  -- the call takes the run of m from s on
  pub record Takes (m s : ℕ) (o : Outcome) : Type 0 where
    pub low : id < o.world.state.count
    pub same : Same c c.chunks (at o.world.records id)
    pub book : book_in S (view_of id o.world.state.question) (at o.world.records id) ≡ hold B s m
    pub given : Given S id c.base s m o
    pub says : (claimed B m (Some s)).say ∷ [] ≡ said o.answer ++ owed_in S (view_of id o.world.state.question) (at o.world.records id)

  -- that table is left, with no question about the arena
  pub rests : (l : List Arena) (k : ℕ) (q : Question) (r : Answer) (stamps : List ℕ) (mark : Bool) → view_of id q ≡ calm → Stands l k
      → Leaves (after (reply r (state_with k mark q)) l stamps)
  rests l k q r stamps mark e h =
      record { low = h.low; same = h.ready.same; book = ap (λ (x : View). book_in S x (at l id)) e ∙ h.ready.shows; none = ap waits_in e }

  -- the arena's record is as it was
  pub unmoved : (l l' : List Arena) (k : ℕ) → length l' ≡ length l → at l' id ≡ at l id → Stands l k → Stands l' k
  unmoved l l' k u there h = record { low = h.low; few = h.few; long = u ∙ h.long; ready = subst Ready (sym there) h.ready }

  -- another record is stored
  pub elsewhere : (l : List Arena) (k i : ℕ) (a : Arena) → (i ≡ id → ⊥) → Stands l k → Stands (set l i a) k
  elsewhere l k i a d h = unmoved l (set l i a) k (length-set l i a) (at_other l i id a (λ e. d (sym e))) h

  -- registering: always past the last arena
  pub added : (l : List Arena) (k : ℕ) (a : Arena) → k < 32 → Stands l k → Stands (with_record l k a) (suc k)
  added l k a u h =
      let x : Stands (with_record l k a) k = elsewhere l k k a (λ d. omega (arith, d, h.low)) h in
      record { low = omega (arith, h.low); few = u; long = x.long; ready = x.ready }

  -- ---- claims
  module _ (l : List Arena) (stamps : List ℕ) (k : ℕ) (mark : Bool) (h : Stands l k) where
    -- the arena's record after a store
    here : (a : Arena) → at (set l id a) id ≡ a
    here a = at_same l id a (omega (arith, h.low, h.few, h.long))

    -- a run that was found ends inside its maps
    fits : (m s : ℕ) → find_run (at l id) m ≡ Some s → s + m ≤ 1024
    fits m s e = omega (arith, found_inside (at l id) m s e, h.ready.same.chunks, small)

    -- what the book says of it is what the record's book says
    told : (m s : ℕ) → (claimed B m (Some s)).say ≡ (claimed (book_in S calm (at l id)) m (Some s)).say
    told m s = ap (λ (b : Book). (claimed b m (Some s)).say) (sym h.ready.shows)

    -- the run is granted, or its commit asked for
    granted-run : (m s : ℕ) → find_run (at l id) m ≡ Some s → Takes m s (granting S l stamps k mark id m s)
    granted-run m s e =
        let there : at (set l id (dirty_run (take_run (at l id) s m) s m)) id ≡ dirty_run (take_run (at l id) s m) s m = here _ in
        record {
          low = h.low;
          same = subst (Same c c.chunks) (sym there) (dirty-same c c.chunks _ (take_same c c.chunks _ h.ready.same s m) s m);
          book = ap (book_in S calm) there ∙ book-granted (at l id) s m h.ready.rows (fits m s e) ∙ ap (λ (b : Book). hold b s m) h.ready.shows;
          given = at_once _ _ (ap (λ (b : ℕ). Claimed (b + s * S) (run_fresh (at l id) s m) (run_committed (at l id) s m)) h.ready.same.base) refl;
          says = ap (λ (x : Say). x ∷ []) (told m s ∙ say-fresh S (at l id) s m);
        }

    asked-run : (m s : ℕ) → find_run (at l id) m ≡ Some s → Takes m s (asking S l stamps k mark id m s)
    asked-run m s e =
        let there : at (set l id (take_run (at l id) s m)) id ≡ take_run (at l id) s m = here _ in
        record {
          low = h.low;
          same = subst (Same c c.chunks) (sym there) (take_same c c.chunks _ h.ready.same s m);
          book = ap₂ (book_in S) (view-commit id s m) there ∙ book-taken (at l id) s m h.ready.rows (fits m s e) ∙ ap (λ (b : Book). hold b s m) h.ready.shows;
          given = asked (ap (λ (b : ℕ). Asks (AskCommit (b + s * S) (m * S))) h.ready.same.base) refl;
          says = ap (λ (x : Say). x ∷ []) (told m s ∙ say-fresh S (at l id) s m) ∙ sym (ap₂ (owed_in S) (view-commit id s m) there ∙ owed-taken S (at l id) s m);
        }

    -- another arena's run
    grants : (i m : ℕ) (commits : Bool) → (i ≡ id → ⊥) → Leaves (grant_found S l stamps k mark i m commits (find_run (at l i) m))
    grants i m commits d =
        grant-cases S l stamps k mark Leaves i m commits (λ e. rests l k Idle _ stamps mark refl h)
        (λ s e. rests (set l i (dirty_run (take_run (at l i) s m) s m)) k Idle _ stamps mark refl (elsewhere l k i _ d h))
        (λ s e. rests (set l i (take_run (at l i) s m)) k (Committing i s m) _ stamps mark (view-commit-other id i s m d) (elsewhere l k i _ d h))

    -- a search finds no arena, another one, or this one
    pub data Seeks (at-id : ℤ) (m : ℕ) (missed : Reply) (o : Outcome) : Type 0 where
      none : serves at-id m l id ≡ false → o ≡ after missed l stamps → Seeks at-id m missed o
      other : (j : ℕ) → serves at-id m l j ≡ true → (j ≡ id → ⊥) → Leaves o → Seeks at-id m missed o
      this : (s : ℕ) → serves at-id m l id ≡ true → lowest_run (unheld B) B.chunks m ≡ Some s → Takes m s o → Seeks at-id m missed o

    pub seeks : (at-id : ℤ) (m : ℕ) (commits : Bool) (missed : Reply) → Seeks at-id m missed (search_of S l stamps k mark at-id m commits missed)
    seeks at-id m commits missed =
        search-cases S l stamps k mark (Seeks at-id m missed) at-id m commits missed (λ f. none (f id h.low) refl) (λ j u f. found j f (ℕ_discrete j id))
      where
        by-book : (s : ℕ) → find_run (at l id) m ≡ Some s → lowest_run (unheld B) B.chunks m ≡ Some s
        by-book s e = ap (λ (b : Book). lowest_run (unheld b) b.chunks m) (sym h.ready.shows) ∙ (unfold find_run in e)

        run : serves at-id m l id ≡ true → Seeks at-id m missed (grant_found S l stamps k mark id m commits (find_run (at l id) m))
        run f =
            grant-cases S l stamps k mark (Seeks at-id m missed) id m commits (λ e. absurd (true≢false (sym (served-found at-id m l id f) ∙ ap is_some e)))
            (λ s e. this s f (by-book s e) (granted-run m s e)) (λ s e. this s f (by-book s e) (asked-run m s e))

        found : (j : ℕ) → serves at-id m l j ≡ true → Dec (j ≡ id) → Seeks at-id m missed (grant_found S l stamps k mark j m commits (find_run (at l j) m))
        found j f (no d) = other j f d (grants j m commits d)
        found j f (yes e) =
            subst (λ (x : ℕ). Seeks at-id m missed (grant_found S l stamps k mark x m commits (find_run (at l x) m))) (sym e) (run (subst (λ (x : ℕ). serves at-id m l x ≡ true) e f))

    pub asks-memory : (size page : ℕ) (commit large exclusive : Bool) (waiting : Waiting) → Leaves (after (ask_memory S k mark size page commit large exclusive waiting) l stamps)
    unfolding ask_memory
    asks-memory size page commit large exclusive waiting = rests l k _ _ stamps mark refl h

    pub misses : (at-id : ℤ) (m : ℕ) (commits : Bool) (settings : Settings) → Leaves (after (miss_reply S k mark at-id m commits settings) l stamps)
    misses at-id m commits settings =
        miss-cases S l stamps k mark Leaves at-id m commits settings (rests l k Idle _ stamps mark refl h) (rests l k Idle _ stamps true refl h)
        (asks-memory settings.reserve settings.page false false false (Claim m commits))

    -- ---- releases outside the range
    pub releases-elsewhere : (x m : ℕ) (tell : Commitment) (pending : Bool) (now delay : ℕ) → is_inside S (at l id) x ≡ false → Leaves (release_of S l stamps k mark x m tell pending now delay)
    releases-elsewhere x m tell pending now delay e =
        release-cases S l stamps k mark Leaves m tell pending now delay x (λ f. rests l k Idle _ stamps mark refl h) (λ f g. rests l k Idle _ stamps mark refl h)
        (λ i f u g. release-in-cases S l stamps k mark Leaves m tell pending now delay i (x - (at l i).base)
        (λ v. rests l k Idle _ stamps mark refl h) (λ v w. rests l k Idle _ stamps mark refl h)
        (λ v w. rests (set l i (release_run (at l i) ((x - (at l i).base) / S) m tell pending now delay)) k Idle _ _ mark refl
        (elsewhere l k i _ (λ d. true≢false (sym g ∙ ap (λ (j : ℕ). is_inside S (at l j) x) d ∙ e)) h)))

    -- ---- registering
    pub registers-one : (chunks : ℕ) (a : Arena) → Leaves (register l stamps k mark chunks a)
    registers-one chunks a =
        register-cases S l stamps k mark Leaves chunks a (rests l k Idle _ stamps mark refl h) (rests l k Idle _ stamps mark refl h)
        (λ e f. rests (with_record l k a) (suc k) Idle _ _ mark refl (added l k a f h))

    pub fails : (why : Refusal) (waiting : Waiting) → Leaves (after (fail_reply k mark why waiting) l stamps)
    fails why Reserve = rests l k Idle _ stamps mark refl h
    fails why (Claim m commits) = rests l k Idle _ stamps true refl h

  -- ---- sweeps: many stores, and at most one question
  module _ (stamps : List ℕ) (k : ℕ) (mark : Bool) (w : Sweep) (low : id < k) (few : k ≤ 32) where
    -- what holds of the record that is stored or of the one that was there
    by-store : (P : Arena → Type 0) (l : List Arena) (i : ℕ) (a : Arena) → length l ≡ 32 → (i ≡ id → P a) → ((i ≡ id → ⊥) → P (at l id)) → P (at (set l i a) id)
    by-store P l i a u f g = go (ℕ_discrete i id)
      where
        go : Dec (i ≡ id) → P (at (set l i a) id)
        go (yes e) = subst P (sym (ap (λ (x : ℕ). at (set l x a) id) e ∙ at_same l id a (omega (arith, u, low, few)))) (f e)
        go (no d) = subst P (sym (at_other l i id a (λ e. d (sym e)))) (g d)

    -- arena i, whose record is a, from a place on
    pub visits : (l : List Arena) (i : ℕ) (a : Arena) (from : ℕ) (rest : List Arena → Outcome) → length l ≡ 32 → (i ≡ id → Ready a) → ((i ≡ id → ⊥) → Ready (at l id))
        → ((m : List Arena) → length m ≡ 32 → Ready (at m id) → Leaves (rest m)) → Leaves (visit S stamps k mark w l i a from rest)
    unfolding visit next_asked purge_reply to_ask
    visits l i a from rest u f g next =
        go (least (to_ask a (stamps_of stamps i) w.force w.now w.delay) from (a.chunks - from))
        (first_says (to_ask a (stamps_of stamps i) w.force w.now w.delay) from (a.chunks - from))
      where
        go : (x : Option ℕ) → First (to_ask a (stamps_of stamps i) w.force w.now w.delay) from (a.chunks - from) x → Leaves (visit_at S stamps k mark w l i a rest x)
        go None h =
            next (set l i (rearm a (stamps_of stamps i) w.force w.now w.delay)) (length-set l i _ ∙ u)
            (by-store Ready l i _ u
            (λ e. let r : Ready a = f e in
            record {
              rows = rearm-rows a (stamps_of stamps i) w.force w.now w.delay r.rows;
              same = rearm-same c c.chunks a r.same (stamps_of stamps i) w.force w.now w.delay;
              shows = book-rearmed a (stamps_of stamps i) w.force w.now w.delay ∙ r.shows;
            })
            g)
        go (Some j) h = ask (ℕ_discrete i id)
          where
            clear : bit_at a.used j ≡ false
            clear = not-true (bit_at a.used j) (and_both (not (young (stamps_of stamps i) w.force w.now w.delay j)) _ (and_both (bit_at a.pending j) _ h.2).1).1

            own : Ready a → Leaves (after (purge_reply S k mark w id a j) (set l id (borrow_chunk a j)) stamps)
            own r =
                let there : at (set l id (borrow_chunk a j)) id ≡ borrow_chunk a j = at_same l id (borrow_chunk a j) (omega (arith, u, low, few)) in
                record {
                  low = low;
                  same = subst (Same c c.chunks) (sym there) (borrow-same c c.chunks a r.same j);
                  book = ap₂ (book_in S) (view-purge id j w) there ∙ book-borrowed a j r.rows (omega (arith, h.0, h.1, r.same.chunks, small)) clear ∙ r.shows;
                  none = ap waits_in (view-purge id j w);
                }

            ask : Dec (i ≡ id) → Leaves (after (purge_reply S k mark w i a j) (set l i (borrow_chunk a j)) stamps)
            ask (yes e) = subst (λ (x : ℕ). Leaves (after (purge_reply S k mark w x a j) (set l x (borrow_chunk a j)) stamps)) (sym e) (own (f e))
            ask (no d) =
                rests (set l i (borrow_chunk a j)) k (Purging i j w) _ stamps mark (view-purge-other id i j w d)
                (elsewhere l k i _ d (record { low = low; few = few; long = u; ready = g d }))

    pub sweeps : (f i : ℕ) (l : List Arena) → length l ≡ 32 → Ready (at l id) → Leaves (sweep_from S stamps k mark w f i l)
    unfolding sweep_from swept_reply
    sweeps zero i l u r = rests l k Idle _ stamps mark refl (record { low = low; few = few; long = u; ready = r })
    sweeps (suc f) i l u r =
        by_cond Leaves (sweep_due (at l i) w.force w.now) _ _
        (λ e. visits l i (disarm (at l i)) 0 (sweep_from S stamps k mark w f (i + 1)) u
        (λ d. subst (λ (x : ℕ). Ready (disarm (at l x))) (sym d)
        (record { rows = disarm-rows (at l id) r.rows; same = disarm-same c c.chunks (at l id) r.same; shows = book-disarmed (at l id) ∙ r.shows }))
        (λ d. r) (λ m v x. sweeps f (i + 1) m v x))
        (λ e. sweeps f (i + 1) l u r)
