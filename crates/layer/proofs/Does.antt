-- What one call does to the share book of any arena below the count, shared or exclusive, and by which call: demand 3's exclusive arena is a case (`Keeps`).
-- Assumes nothing.
use Rattle.std.specs.Prelude.{◌≡◌, ◌&&◌, ◌∷◌, ◌++◌, ◌⊎◌, ◌+◌, ◌-◌, ◌*◌, ◌/◌, ◌%◌, ◌≤◌, ◌<◌}
use Rattle.layer.proofs.Prelude.{refl, sym, ap, ap₂, ◌∙◌, subst, Bool, true, false, cond, true≢false, List, [], inl, inr, ⊎_elim, ℕ, suc, div-add-mod', arith, ℕ_discrete, eq-eqb, ne_eqb, eqb-true, eqb-false, leb-true, ℤ, pos, negsuc, eqb, leb, set, length-set, Refusal, QuestionOpen, Zero, NotWhole, PastEnd, NoRun, CommitRefused, lt-or-le, when, unless, Option, Some, None, lowest_run, now_ms, delay_ms, arena_allowed, Arena, is_on, Commitment, grown_arena, find_run, give_back_run, bytes_of, end_of, is_inside, Rows, never, return-rows, Settings, Sweep, Question, Idle, Committing, Purging, Reserving, GivingBack, Waiting, Reserve, Claim, Kind, ForCommit, ForPurge, ForMemory, ForGiveBack, ForNone, Answer, Refused, Registered, Released, Outcome, state_with, reply, after, turn_down, at, is_some, with_record, with_stamps, grows as grows_by, eligible, serves, miss_reply, claim_of, release_of, visit, sweep_from, is_for, counted, resume, answer_commit, answer_purge, answer_of, Act, reserve, manage, adopt, claim, release, sweep, Call, act, query, answer, act_on, step_on, Eligible, Book, lowest, Fed, claims, releases, Say, refused, released, turn, unheld, hold, unhold, claimed, enter, is_idle, said, in_range, is_answer, stays_pending, sweeps_none, sweep_of}
use Rattle.refusals.specs.Number.{number}
use Rattle.arena.proofs.PlaceLaws.{Within, inside-facts}
use Rattle.layer.proofs.Tools.{at_same, by-not}
use Rattle.layer.proofs.Facts.{SoundTable, SoundQuestion}
use Rattle.layer.proofs.Rules.{served-named, served-eligible, grows-facts, grows-owned, others-left, Again, again}
use Rattle.layer.proofs.Registered.{meets-false}
use Rattle.layer.proofs.Shown.{View, calm, committing, purging, view_of, waits_in, owed_in, Role, feeding, closing, aside, ends, role, book_in, grow, Same}
use Rattle.layer.proofs.View.{view-commit, view-purge, view-commit-other, view-purge-other, book-committed, freed-held, book-freed, book-released, book-returned, book-grown, unchanged, finish-same, give-back-same, release-same, return-same, grown-same}
use Rattle.layer.proofs.Cases.{release_in, claim-cases, release-in-cases, release-cases, reserve-cases, manage-cases, adopt-cases, memory-cases}
use Rattle.layer.proofs.Along.{Given, none-owed, Stands, Leaves, Takes, Seeks, none, other, this, rests, unmoved, elsewhere, added, seeks, asks-memory, misses, releases-elsewhere, registers-one, fails, visits, sweeps}
use Rattle.layer.proofs.Sweeps.{all-or-none}

-- ---- what a call does to one arena's book

-- nothing; a run of n from s on becomes held, unheld, or as it was before its claim; n chunks are added
pub data Change : Type 0 where
  still : Change
  holds : ℕ → ℕ → Change
  drops : ℕ → ℕ → Change
  undoes : ℕ → ℕ → Change
  grows : ℕ → Change

-- a claim is undone: its run is unheld, and the book with it held is the book before
pub record Undone (s n : ℕ) (b b' : Book) : Type 0 where
  pub frees : (j : ℕ) → b'.held j ≡ (unhold b s n).held j
  pub again : hold b' s n ≡ b

-- the book before and after it
abbrev pub changed : Change → Book → Book → Type 0
changed still b b' = b' ≡ b
changed (holds s n) b b' = b' ≡ hold b s n
changed (drops s n) b b' = b' ≡ unhold b s n
changed (undoes s n) b b' = Undone s n b b'
changed (grows n) b b' = b' ≡ grow b n

-- how many chunks of m there are then
abbrev pub chunks_after : Change → ℕ → ℕ
chunks_after still m = m
chunks_after (holds s n) m = m
chunks_after (drops s n) m = m
chunks_after (undoes s n) m = m
chunks_after (grows n) m = m + n

-- ---- by which call, and what is answered

-- arena i of table l, where question q is open, before the call and after it
module _ (S i : ℕ) (l : List Arena) (q : Question) (call : Call) (o : Outcome) where
  -- its book
  abbrev pub book_before : Book
  book_before = book_in S (view_of i q) (at l i)

  abbrev pub book_after : Book
  book_after = book_in S (view_of i o.world.state.question) (at o.world.records i)

  -- the grant that waits for its yes
  abbrev pub owed_before : List Say
  owed_before = owed_in S (view_of i q) (at l i)

  abbrev pub owed_after : List Say
  owed_after = owed_in S (view_of i o.world.state.question) (at o.world.records i)

  -- what the call is to the arena, managed or not
  abbrev pub Is : Role → Type 0
  Is r = (managed : Bool) → role (record { id = i; size = S; base = (at l i).base; chunks = (at l i).chunks; managed = managed }) q call ≡ r

  -- it is none of the arena's business: what is owed stays, and no claim waits there that did not wait before; or it comes while a question is open; or it
  -- is turned down as the book says; or it is the yes, and who claimed is told what is owed
  pub data Still : Type 0 where
    passes : Is aside → owed_after ≡ owed_before → (waits_in (view_of i o.world.state.question) ≡ []) ⊎ (o.world.state.question ≡ q) → Still
    shut : is_idle q ≡ false → is_answer call ≡ false → owed_after ≡ owed_before → o.world.state.question ≡ q → Still
    turned_down : (f : Fed) (why : Refusal) → Is (feeding (f ∷ [])) → q ≡ Idle → enter book_before f ≡ turn (refused (number why)) book_before → o.answer ≡ Refused why
        → o.world.state.question ≡ Idle → Still
    says-yes : Is closing → said o.answer ≡ owed_before → o.world.state.question ≡ Idle → Still

  -- a claim of n for which the arena is eligible, or the memory for one that waited: it passes exclusive arenas over
  pub data Claims (n : ℕ) : Type 0 where
    by-claim : (id : ℤ) (commits : Bool) → q ≡ Idle → call ≡ act (claim id n commits) → (n ≡ 0 → ⊥) → Eligible id i (at l i) → Claims n
    by-memory : (chunks bytes base : ℕ) (commit exclusive commits : Bool) → q ≡ Reserving chunks bytes commit exclusive (Claim n commits) → call ≡ answer ForMemory true base
        → is_on (at l i).exclusive ≡ false → Claims n

  -- the run is the lowest that the book has unheld; what the book says of it is told, or owed until the yes
  pub record Holds (s n : ℕ) : Type 0 where
    pub by : Claims n
    pub lowest : lowest_run (unheld book_before) book_before.chunks n ≡ Some s
    pub given : Given S i (at l i).base s n o
    pub says : (claimed book_before n (Some s)).say ∷ [] ≡ said o.answer ++ owed_after

  -- a release of the run, as the book says
  pub record Drops (s n : ℕ) : Type 0 where
    pub address : ℕ
    pub told : Commitment
    pub pending : Bool
    pub idle : q ≡ Idle
    pub is : call ≡ act (release address n told pending)
    pub there : address ≡ (at l i).base + s * S
    pub some : n ≡ 0 → ⊥
    pub room : s + n ≤ (at l i).chunks
    pub feeds : Is (feeding (releases address n ∷ []))
    pub by-book : enter book_before (releases address n) ≡ turn released (unhold book_before s n)
    pub answered : o.answer ≡ Released
    pub closed : o.world.state.question ≡ Idle

  -- the no to the commit question about the run
  pub record Undoes (s n : ℕ) : Type 0 where
    pub base : ℕ
    pub open_is : q ≡ Committing i s n
    pub is : call ≡ answer ForCommit false base
    pub answered : o.answer ≡ Refused CommitRefused
    pub closed : o.world.state.question ≡ Idle

  -- a block of n chunks adopted at the arena's end
  pub record Grows (n : ℕ) : Type 0 where
    pub address : ℕ
    pub idle : q ≡ Idle
    pub is : call ≡ act (adopt address (n * S))
    pub at-end : address ≡ (at l i).base + (at l i).chunks * S
    pub owned : is_on (at l i).owned ≡ true
    pub shared : is_on (at l i).exclusive ≡ false
    pub answered : o.answer ≡ Registered i
    pub closed : o.world.state.question ≡ Idle

  -- why, for each change
  abbrev pub Because : Change → Type 0
  Because still = Still
  Because (holds s n) = Holds s n
  Because (drops s n) = Drops s n
  Because (undoes s n) = Undoes s n
  Because (grows n) = Grows n

  -- what the call does to the arena's book, why, and that base and flags stay
  pub record Does : Type 0 where
    pub what : Change
    pub does-it : changed what book_before book_after
    pub because : Because what
    pub low : i < o.world.state.count
    pub same : Same (at l i) (chunks_after what (at l i).chunks) (at o.world.records i)

-- an address lies in one arena at most
pub only_one : (S : ℕ) (l : List Arena) (k i j x : ℕ) → SoundTable S l k → i < k → j < k → is_inside S (at l i) x ≡ true → is_inside S (at l j) x ≡ true → i ≡ j
only_one S l k i j x t u v e f = go (ℕ_discrete i j)
  where
    apart : (i j : ℕ) → i < j → j < k → is_inside S (at l i) x ≡ true → is_inside S (at l j) x ≡ true → ⊥
    apart i j u v e f =
        let g : Within S (at l i) x = inside-facts S (at l i) x e in
        let h : Within S (at l j) x = inside-facts S (at l j) x f in
        ⊎_elim (λ (m : end_of S (at l i) ≤ (at l j).base). omega (arith, g.before, h.from, ends i))
        (λ (m : (at l j).base + bytes_of S (at l j) ≤ (at l i).base). omega (arith, g.from, h.before, bytes j))
        (meets-false S (at l i) (at l j).base (bytes_of S (at l j)) (t.apart i j u v) (omega (arith, h.from, h.before, bytes j)))
      where
        bytes : (j : ℕ) → bytes_of S (at l j) ≡ (at l j).chunks * S
        bytes j = unfold bytes_of in refl

        ends : (j : ℕ) → end_of S (at l j) ≡ (at l j).base + (at l j).chunks * S
        ends j = unfold end_of bytes_of in refl

    go : Dec (i ≡ j) → i ≡ j
    go (yes d) = d
    go (no d) = ⊎_elim (λ (m : i < j). absurd (apart i j m v e f)) (λ (m : j ≤ i). absurd (apart j i (omega (arith, d)) u f e)) (lt-or-le i j)

-- an answer to a purge question: the sweep goes on from a record that shows the book without the borrowed chunk
record Returned (S : ℕ) (l : List Arena) (stamps : List ℕ) (k : ℕ) (mark : Bool) (i j : ℕ) (w : Sweep) (accepted : Bool) : Type 0 where
  back : Arena
  is : answer_purge S l stamps k mark i j w accepted
      ≡ visit S stamps k mark (counted w accepted) l i back (j + 1) (sweep_from S stamps k mark (counted w accepted) (k - (i + 1)) (i + 1))
  shows : book_in S calm back ≡ book_in S (purging j) (at l i)
  rows : Rows back
  same : Same (at l i) (at l i).chunks back

returned : (S : ℕ) (l : List Arena) (stamps : List ℕ) (k : ℕ) (mark : Bool) → SoundTable S l k → (i j : ℕ) (w : Sweep) (accepted : Bool) → SoundQuestion l k (Purging i j w)
    → Returned S l stamps k mark i j w accepted
returned S l stamps k mark t i j w accepted h = record {
  back = _;
  is = refl;
  shows = book-returned (at l i) j accepted w.decommit (t.rows i h.0) (omega (arith, h.1, (t.each i h.0).range.few));
  rows = return-rows (at l i) j accepted w.decommit (t.rows i h.0);
  same = return-same (at l i) (at l i).chunks (at l i) (unchanged (at l i)) j accepted w.decommit;
}

-- ---- what comes of it, where l is the table that the arena is seen in before the call

module _ (S id : ℕ) (l : List Arena) (small : (at l id).chunks ≤ 1024) where
  -- the arena's book
  abbrev pub shown : Question → Book
  shown q = book_in S (view_of id q) (at l id)

  -- the call passes the arena over
  pub passed : (q : Question) (call : Call) (o : Outcome) → waits_in (view_of id q) ≡ [] → Is S id l q call o aside → Leaves S id (at l id) small (shown q) o → Does S id l q call o
  passed q call o e is h = record {
    what = still;
    does-it = h.book;
    because = passes is (none-owed S (view_of id o.world.state.question) (at o.world.records id) h.none ∙ sym (none-owed S (view_of id q) (at l id) e)) (inl h.none);
    low = h.low;
    same = h.same;
  }

  -- it takes a run of it
  taken : (q : Question) (call : Call) (o : Outcome) (m s : ℕ) → Claims S id l q call o m → lowest_run (unheld (shown q)) (shown q).chunks m ≡ Some s
      → Takes S id (at l id) small (shown q) m s o → Does S id l q call o
  taken q call o m s by e h = record {
    what = holds s m;
    does-it = h.book;
    because = record { by = by; lowest = e; given = h.given; says = h.says };
    low = h.low;
    same = h.same;
  }

  -- memory came, and a is its record: who waits goes on in the new table, and a claim "searches once more"
  module _ (old : List Arena) (stamps : List ℕ) (k : ℕ) (mark : Bool) (a : Arena) (h : Stands S id (at l id) small (shown Idle) (with_record old k a) (suc k)) where
    pub resumes : (chunks bytes : ℕ) (commit exclusive : Bool) (waiting : Waiting) (base : ℕ)
        → Does S id l (Reserving chunks bytes commit exclusive waiting) (answer ForMemory true base) (resume S old stamps k mark a waiting)
    resumes chunks bytes commit exclusive Reserve base =
        passed _ _ _ refl (λ managed. refl) (rests S id (at l id) small (shown Idle) (with_record old k a) (suc k) Idle _ _ mark refl h)
    resumes chunks bytes commit exclusive (Claim m commits) base =
        subst P (sym g.is) (go _ (seeks S id (at l id) small (shown Idle) (with_record old k a) (with_stamps stamps k) (suc k) mark h g.id m commits _))
      where
        q : Question
        q = Reserving chunks bytes commit exclusive (Claim m commits)

        P : Outcome → Type 0
        P = Does S id l q (answer ForMemory true base)

        g : Again S old stamps k mark a m commits
        g = again S old stamps k mark a m commits

        over : (o : Outcome) → Leaves S id (at l id) small (shown Idle) o → P o
        over o x = passed q (answer ForMemory true base) o refl (λ managed. refl) x

        go : (o : Outcome)
            → Seeks S id (at l id) small (shown Idle) (with_record old k a) (with_stamps stamps k) (suc k) mark h g.id m (turn_down NoRun (state_with (suc k) mark Idle)) o → P o
        go o (none f e) = subst P (sym e) (over _ (rests S id (at l id) small (shown Idle) (with_record old k a) (suc k) Idle _ _ mark refl h))
        go o (other j f d x) = over o x
        go o (this s f e x) =
            taken q (answer ForMemory true base) o m s
            (by-memory chunks bytes base commit exclusive commits refl refl (ap is_on (sym h.ready.same.exclusive) ∙ never (is_on (at (with_record old k a) id).exclusive) (λ y. g.passes_over id id y f refl)))
            e x

-- ---- one call: arena id is below the count of a sound table

module _ (S id : ℕ) (l : List Arena) (stamps : List ℕ) (k : ℕ) (mark : Bool) (t : SoundTable S l k) (low : id < k) where
  -- its maps have a bit for each of its chunks
  small : (at l id).chunks ≤ 1024
  small = (t.each id low).range.few

  -- its book before the call, and an outcome that leaves it
  abbrev before : Question → Book
  before q = shown S id l small q

  abbrev Over : Question → Outcome → Type 0
  Over q = Leaves S id (at l id) small (before q)

  -- the table before the call, nothing open about the arena
  stands : (q : Question) → view_of id q ≡ calm → Stands S id (at l id) small (before q) l k
  stands q e = record {
    low = low;
    few = t.few;
    long = t.long;
    ready = record { rows = t.rows id low; same = unchanged (at l id); shows = ap (λ (x : View). book_in S x (at l id)) (sym e) };
  }

  -- its record after a store
  stored : (a : Arena) → at (set l id a) id ≡ a
  stored a = at_same l id a (omega (arith, low, t.long, t.few))

  -- nothing but the answer
  same-table : (q : Question) (call : Call) (r : Answer) (m : Bool) → Still S id l q call (after (reply r (state_with k m q)) l stamps)
      → Does S id l q call (after (reply r (state_with k m q)) l stamps)
  same-table q call r m why = record { what = still; does-it = refl; because = why; low = low; same = unchanged (at l id) }

  -- and that is nothing to the arena
  nothing : (q : Question) (call : Call) (r : Answer) → Is S id l q call (after (reply r (state_with k mark q)) l stamps) aside → Does S id l q call (after (reply r (state_with k mark q)) l stamps)
  nothing q call r is = same-table q call r mark (passes is refl (inr refl))

  -- row 2: a question is open
  busy : (q : Question) (call : Call) → is_idle q ≡ false → is_answer call ≡ false → Does S id l q call (after (turn_down QuestionOpen (state_with k mark q)) l stamps)
  busy q call e f = same-table q call _ mark (shut e f refl refl)

  -- it is none of the arena's business
  over : (q : Question) (call : Call) (o : Outcome) → waits_in (view_of id q) ≡ [] → Is S id l q call o aside → Over q o → Does S id l q call o
  over q call o e is h = passed S id l small q call o e is h

  -- it leaves the table and no question
  quiet : (r : Answer) → Over Idle (after (reply r (state_with k mark Idle)) l stamps)
  quiet r = rests S id (at l id) small (before Idle) l k Idle r stamps mark refl (stands Idle refl)

  -- what the book turns down is turned down
  turned : (call : Call) (f : Fed) (why : Refusal) → Is S id l Idle call (after (turn_down why (state_with k mark Idle)) l stamps) (feeding (f ∷ []))
      → enter (before Idle) f ≡ turn (refused (number why)) (before Idle) → Does S id l Idle call (after (turn_down why (state_with k mark Idle)) l stamps)
  turned call f why is e = same-table Idle call (Refused why) mark (turned_down f why is refl e refl refl)

  -- ---- claims

  -- one that names the arena finds it exactly if it has the run
  own-claim : (m : ℕ) (commits : Bool) (settings : Settings) → Does S id l Idle (act (claim (pos id) m commits)) (claim_of S l stamps k mark (pos id) m commits settings)
  unfolding enter
  own-claim m commits settings =
      claim-cases S l stamps k mark P (pos id) m commits settings (λ e. turned call (claims lowest m) Zero names (when (eqb m 0) _ _ e))
      (λ e f. absurd (true≢false (sym (allowed settings.off) ∙ f)))
      (λ e f. go e _ (seeks S id (at l id) small (before Idle) l stamps k mark (stands Idle refl) (pos id) m commits _))
    where
      call : Call
      call = act (claim (pos id) m commits)

      P : Outcome → Type 0
      P = Does S id l Idle call

      names : (managed : Bool) → feeding (cond (eqb id id) (claims lowest m ∷ []) [] ++ []) ≡ feeding (claims lowest m ∷ [])
      names managed = ap (λ (b : Bool). feeding (cond b (claims lowest m ∷ []) [] ++ [])) (eq-eqb id id refl)

      allowed : (off : Bool) → arena_allowed off (pos id) ≡ true
      allowed true = unfold arena_allowed in refl
      allowed false = unfold arena_allowed in refl

      missed : (f : Option ℕ) → is_some f ≡ false → f ≡ None
      missed (Some s) e = absurd (true≢false e)
      missed None e = refl

      none_found : serves (pos id) m l id ≡ false → lowest_run (unheld (before Idle)) (before Idle).chunks m ≡ None
      none_found f = unfold serves eligible find_run in missed (find_run (at l id) m) (sym (ap (λ (x : Bool). x && is_some (find_run (at l id) m)) (eq-eqb id id refl)) ∙ f)

      go : eqb m 0 ≡ false → (o : Outcome) → Seeks S id (at l id) small (before Idle) l stamps k mark (stands Idle refl) (pos id) m (miss_reply S k mark (pos id) m commits settings) o → P o
      go e o (none f g) =
          subst P (sym g) (unfold miss_reply in turned call (claims lowest m) NoRun names (unless (eqb m 0) _ _ e ∙ ap (claimed (before Idle) m) (none_found f)))
      go e o (other j f d h) = absurd (d (served-named id m l j f))
      go e o (this s f g h) = taken S id l small Idle call o m s (by-claim (pos id) commits refl refl (eqb-false m 0 e) (served-eligible (pos id) m l id f)) g h

  -- one that does not
  other-claim : (at-id : ℤ) (m : ℕ) (commits : Bool) (settings : Settings)
      → ((managed : Bool) → role (record { id = id; size = S; base = (at l id).base; chunks = (at l id).chunks; managed = managed }) Idle (act (claim at-id m commits)) ≡ aside)
      → Does S id l Idle (act (claim at-id m commits)) (claim_of S l stamps k mark at-id m commits settings)
  other-claim at-id m commits settings is =
      claim-cases S l stamps k mark P at-id m commits settings (λ e. past _ (quiet _)) (λ e f. past _ (quiet _))
      (λ e f. go e _ (seeks S id (at l id) small (before Idle) l stamps k mark h at-id m commits _))
    where
      P : Outcome → Type 0
      P = Does S id l Idle (act (claim at-id m commits))

      h : Stands S id (at l id) small (before Idle) l k
      h = stands Idle refl

      past : (o : Outcome) → Over Idle o → P o
      past o x = over Idle (act (claim at-id m commits)) o refl is x

      go : eqb m 0 ≡ false → (o : Outcome) → Seeks S id (at l id) small (before Idle) l stamps k mark h at-id m (miss_reply S k mark at-id m commits settings) o → P o
      go e o (none f g) = subst P (sym g) (past _ (misses S id (at l id) small (before Idle) l stamps k mark h at-id m commits settings))
      go e o (other j f d x) = past o x
      go e o (this s f g x) = taken S id l small Idle (act (claim at-id m commits)) o m s (by-claim at-id commits refl refl (eqb-false m 0 e) (served-eligible at-id m l id f)) g x

  -- ---- releases

  -- whether an address is in the range, by the record
  release-role : (x m : ℕ) (tell : Commitment) (pending b : Bool) → is_inside S (at l id) x ≡ b → (managed : Bool)
      → role (record { id = id; size = S; base = (at l id).base; chunks = (at l id).chunks; managed = managed }) Idle (act (release x m tell pending)) ≡ feeding (cond b (releases x m ∷ []) [] ++ [])
  unfolding in_range is_inside end_of bytes_of
  release-role x m tell pending b e managed = ap (λ (y : Bool). feeding (cond y (releases x m ∷ []) [] ++ [])) e

  -- one in the range is the arena's
  own-release : (x m : ℕ) (tell : Commitment) (pending stays : Bool) (now delay : ℕ) → is_inside S (at l id) x ≡ true
      → Does S id l Idle (act (release x m tell pending)) (release_of S l stamps k mark x m tell stays now delay)
  unfolding enter
  own-release x m tell pending stays now delay e =
      release-cases S l stamps k mark P m tell stays now delay x (λ f. turned call (releases x m) Zero names (when (eqb m 0) _ _ f)) (λ f g. absurd (true≢false (sym e ∙ g id low)))
      (λ i f u g. subst (λ (j : ℕ). P (release_in S l stamps k mark j (x - (at l j).base) m tell stays now delay)) (only_one S l k id i x t low u e g) (inside f))
    where
      call : Call
      call = act (release x m tell pending)

      P : Outcome → Type 0
      P = Does S id l Idle call

      names : (managed : Bool) → role (record { id = id; size = S; base = (at l id).base; chunks = (at l id).chunks; managed = managed }) Idle call ≡ feeding (releases x m ∷ [])
      names = release-role x m tell pending true e

      s : ℕ
      s = (x - (at l id).base) / S

      inside : eqb m 0 ≡ false → P (release_in S l stamps k mark id (x - (at l id).base) m tell stays now delay)
      inside z =
          release-in-cases S l stamps k mark P m tell stays now delay id (x - (at l id).base)
          (λ f. turned call (releases x m) NotWhole names (unless (eqb m 0) _ _ z ∙ unless (eqb ((x - (at l id).base) % S) 0) _ _ f))
          (λ f g. turned call (releases x m) PastEnd names (unless (eqb m 0) _ _ z ∙ when (eqb ((x - (at l id).base) % S) 0) _ _ f ∙ unless (leb (s + m) (at l id).chunks) _ _ g))
          (λ f g. record {
            what = drops s m;
            does-it = ap (book_in S calm) (stored _) ∙ book-released (at l id) s m (t.rows id low) (omega (arith, leb-true (s + m) (at l id).chunks g, small)) tell stays now delay;
            because = record {
              address = x;
              told = tell;
              pending = pending;
              idle = refl;
              is = refl;
              there = let r : x - (at l id).base ≡ s * S + (x - (at l id).base) % S = sym (div-add-mod' (x - (at l id).base) S) in
                  omega (arith, eqb-true ((x - (at l id).base) % S) 0 f, (inside-facts S (at l id) x e).from);
              some = eqb-false m 0 z;
              room = leb-true (s + m) (at l id).chunks g;
              feeds = names;
              by-book = unless (eqb m 0) _ _ z ∙ when (eqb ((x - (at l id).base) % S) 0) _ _ f ∙ when (leb (s + m) (at l id).chunks) _ _ g;
              answered = refl;
              closed = refl;
            };
            low = low;
            same = subst (Same (at l id) (at l id).chunks) (sym (stored _)) (release-same _ _ _ (unchanged (at l id)) s m tell stays now delay);
          })

  -- ---- adopting: the arena that ends at the block

  grown : (address size : ℕ) → size % S ≡ 0 → grows_by S (at l id) address (size / S) ≡ true
      → Does S id l Idle (act (adopt address size)) (after (reply (Registered id) (state_with k mark Idle)) (set l id (grown_arena (at l id) (size / S))) stamps)
  unfolding end_of bytes_of
  grown address size e g =
      let f = grows-facts S (at l id) address (size / S) g in
      record {
        what = grows (size / S);
        does-it = ap (book_in S calm) (stored _) ∙ book-grown (at l id) (size / S) (t.rows id low) f.2 (t.each id low).used;
        because = record {
          address = address;
          idle = refl;
          is = ap (λ (x : ℕ). act (adopt address x)) (let r : size / S * S + size % S ≡ size = div-add-mod' size S in omega arith);
          at-end = sym f.1;
          owned = grows-owned S (at l id) address (size / S) g;
          shared = f.0;
          answered = refl;
          closed = refl;
        };
        low = low;
        same = subst (Same (at l id) ((at l id).chunks + size / S)) (sym (stored _)) (grown-same _ _ _ (unchanged (at l id)) (size / S));
      }

  -- ---- the calls where no question is open

  acts : (ns : ℕ) (settings : Settings) (a : Act) → Does S id l Idle (act a) (act_on S l stamps k mark Idle ns settings a)
  acts ns settings (reserve size commit large exclusive) =
      over Idle _ _ refl (λ managed. refl) (reserve-cases S l stamps k mark (Over Idle) size commit large exclusive settings.page (quiet _)
      (asks-memory S id (at l id) small (before Idle) l stamps k mark (stands Idle refl) size settings.page commit large exclusive Reserve))
  acts ns settings (manage start size exclusive node mapped reserved) =
      over Idle _ _ refl (λ managed. refl) (manage-cases S l stamps k mark (Over Idle) start size exclusive node mapped reserved (quiet _) (quiet _) (quiet _)
      (λ g. registers-one S id (at l id) small (before Idle) l stamps k mark (stands Idle refl) _ _))
  acts ns settings (adopt address size) =
      adopt-cases S l stamps k mark P address size (past _ (quiet _)) (past _ (quiet _)) (past _ (quiet _)) (λ i w u e. go i w.2 e (ℕ_discrete i id))
      (λ w. past _ (registers-one S id (at l id) small (before Idle) l stamps k mark (stands Idle refl) _ _))
    where
      P : Outcome → Type 0
      P = Does S id l Idle (act (adopt address size))

      past : (o : Outcome) → Over Idle o → P o
      past o x = over Idle (act (adopt address size)) o refl (λ managed. refl) x

      go : (i : ℕ) → size % S ≡ 0 → grows_by S (at l i) address (size / S) ≡ true → Dec (i ≡ id)
          → P (after (reply (Registered i) (state_with k mark Idle)) (set l i (grown_arena (at l i) (size / S))) stamps)
      go i e g (yes d) =
          subst (λ (x : ℕ). grows_by S (at l x) address (size / S) ≡ true → P (after (reply (Registered x) (state_with k mark Idle)) (set l x (grown_arena (at l x) (size / S))) stamps)) (sym d)
          (grown address size e) g
      go i e g (no d) = past _ (rests S id (at l id) small (before Idle) _ k Idle _ stamps mark refl (elsewhere S id (at l id) small (before Idle) l k i _ d (stands Idle refl)))
  acts ns settings (claim (pos i) m commits) = go (ℕ_discrete i id)
    where
      go : Dec (i ≡ id) → Does S id l Idle (act (claim (pos i) m commits)) (claim_of S l stamps k mark (pos i) m commits settings)
      go (yes e) = subst (λ (x : ℕ). Does S id l Idle (act (claim (pos x) m commits)) (claim_of S l stamps k mark (pos x) m commits settings)) (sym e) (own-claim m commits settings)
      go (no d) = other-claim (pos i) m commits settings (λ managed. ap (λ (b : Bool). feeding (cond b (claims lowest m ∷ []) [] ++ [])) (ne_eqb i id d))
  acts ns settings (claim (negsuc i) m commits) = other-claim (negsuc i) m commits settings (λ managed. refl)
  acts ns settings (release x m tell pending) = go (is_inside S (at l id) x) refl
    where
      go : (b : Bool) → is_inside S (at l id) x ≡ b → Does S id l Idle (act (release x m tell pending)) (release_of S l stamps k mark x m tell (stays_pending settings pending) (now_ms ns) (delay_ms settings.delay))
      go true e = own-release x m tell pending (stays_pending settings pending) _ _ e
      go false e =
          over Idle _ _ refl (release-role x m tell pending false e) (releases-elsewhere S id (at l id) small (before Idle) l stamps k mark (stands Idle refl) x m tell (stays_pending settings pending) _ _ e)
  acts ns settings (sweep force) =
      all-or-none S stamps k mark (sweep_of force ns settings) (Does S id l Idle (act (sweep force))) (sweeps_none settings force) l
      (λ f h. over Idle _ _ refl (λ managed. refl) (sweeps S id (at l id) small (before Idle) stamps k mark _ low t.few f 0 l t.long (stands Idle refl).ready))

  -- ---- answers

  -- who ends the commit question about the arena
  closes : (i s m : ℕ) (b : Bool) → eqb i id ≡ b → (accepted : Bool) (base : ℕ) (managed : Bool)
      → role (record { id = id; size = S; base = (at l id).base; chunks = (at l id).chunks; managed = managed }) (Committing i s m) (answer ForCommit accepted base) ≡ cond b closing aside
  unfolding is_for
  closes i s m b e accepted base managed = ap (λ (y : Bool). cond y closing aside) e

  -- to the arena's own commit question: yes, and who claimed is told what was owed; no, and the claim is undone
  own-commit : (s m : ℕ) (accepted : Bool) (base : ℕ) → SoundQuestion l k (Committing id s m)
      → Does S id l (Committing id s m) (answer ForCommit accepted base) (answer_commit S l stamps k mark id s m accepted)
  own-commit s m true base h = record {
    what = still;
    does-it = ap (book_in S calm) (stored _) ∙ book-committed (at l id) s m (t.rows id low) (omega (arith, h.1, small)) true ∙ ap (λ (x : View). book_in S x (at l id)) (sym (view-commit id s m));
    because = says-yes (closes id s m true (eq-eqb id id refl) true base) (ap (λ (x : View). owed_in S x (at l id)) (sym (view-commit id s m))) refl;
    low = low;
    same = subst (Same (at l id) (at l id).chunks) (sym (stored _)) (finish-same _ _ _ (unchanged (at l id)) s m true);
  }
  own-commit s m false base h = record {
    what = undoes s m;
    does-it = subst (λ (x : View). Undone s m (book_in S x (at l id)) (book_in S calm (at (set l id (give_back_run (at l id) s m)) id))) (sym (view-commit id s m))
        (subst (λ (a : Arena). Undone s m (book_in S (committing s m) (at l id)) (book_in S calm a)) (sym (stored _))
        (record { frees = freed-held (at l id) s m (t.rows id low) (omega (arith, h.1, small)); again = book-freed (at l id) s m (t.rows id low) (omega (arith, h.1, small)) h.2 }));
    because = record { base = base; open_is = refl; is = refl; answered = refl; closed = refl };
    low = low;
    same = subst (Same (at l id) (at l id).chunks) (sym (stored _)) (give-back-same _ _ _ (unchanged (at l id)) s m);
  }

  -- to another arena's
  other-commit : (i s m : ℕ) (accepted : Bool) (base : ℕ) → (i ≡ id → ⊥) → Does S id l (Committing i s m) (answer ForCommit accepted base) (answer_commit S l stamps k mark i s m accepted)
  other-commit i s m accepted base d =
      over (Committing i s m) _ _ (ap waits_in (view-commit-other id i s m d)) (closes i s m false (ne_eqb i id d) accepted base) (go accepted)
    where
      left_alone : (accepted : Bool) → Stands S id (at l id) small (before (Committing i s m)) (answer_commit S l stamps k mark i s m accepted).world.records k
      left_alone accepted =
          unmoved S id (at l id) small (before (Committing i s m)) l _ k (length-set l i _) (others-left S l stamps k mark i s m accepted id (λ c. d (sym c)))
          (stands (Committing i s m) (view-commit-other id i s m d))

      go : (accepted : Bool) → Over (Committing i s m) (answer_commit S l stamps k mark i s m accepted)
      go true = rests S id (at l id) small _ _ k Idle _ stamps mark refl (left_alone true)
      go false = rests S id (at l id) small _ _ k Idle _ stamps mark refl (left_alone false)

  -- the chunk comes back, and the sweep goes on
  purge-answer : (i j : ℕ) (w : Sweep) (accepted : Bool) → SoundQuestion l k (Purging i j w) → Over (Purging i j w) (answer_purge S l stamps k mark i j w accepted)
  purge-answer i j w accepted h =
      subst (Over (Purging i j w)) (sym r.is)
      (visits S id (at l id) small (before (Purging i j w)) stamps k mark (counted w accepted) low t.few l i r.back (j + 1) _ t.long
      (λ e. record {
        rows = r.rows;
        same = subst (λ (x : ℕ). Same (at l x) (at l x).chunks r.back) e r.same;
        shows = r.shows ∙ ap₂ (λ (x : View) (y : ℕ). book_in S x (at l y)) (sym (ap (λ (x : ℕ). view_of id (Purging x j w)) e ∙ view-purge id j w)) e;
      })
      (λ d. (stands (Purging i j w) (view-purge-other id i j w d)).ready)
      (λ m u x. sweeps S id (at l id) small (before (Purging i j w)) stamps k mark (counted w accepted) low t.few _ _ m u x))
    where
      r : Returned S l stamps k mark i j w accepted
      r = returned S l stamps k mark t i j w accepted h

  -- row 3, and each question's own
  answers : (q : Question) (kind : Kind) (accepted : Bool) (base : ℕ) → SoundQuestion l k q → Does S id l q (answer kind accepted base) (answer_of S l stamps k mark q kind accepted base)
  unfolding answer_of is_for
  answers Idle kind accepted base h =
      by-not (Does S id l Idle (answer kind accepted base)) (is_for Idle kind) _ _ (λ e. nothing Idle _ _ (λ managed. refl))
      (λ e. nothing Idle _ _ (λ managed. refl))
  answers (Committing i s m) ForCommit accepted base h = go (ℕ_discrete i id)
    where
      go : Dec (i ≡ id) → Does S id l (Committing i s m) (answer ForCommit accepted base) (answer_commit S l stamps k mark i s m accepted)
      go (no d) = other-commit i s m accepted base d
      go (yes e) =
          subst (λ (x : ℕ). SoundQuestion l k (Committing x s m) → Does S id l (Committing x s m) (answer ForCommit accepted base) (answer_commit S l stamps k mark x s m accepted)) (sym e)
          (own-commit s m accepted base) h
  answers (Committing i s m) ForPurge accepted base h = nothing (Committing i s m) _ _ (λ managed. refl)
  answers (Committing i s m) ForMemory accepted base h = nothing (Committing i s m) _ _ (λ managed. refl)
  answers (Committing i s m) ForGiveBack accepted base h = nothing (Committing i s m) _ _ (λ managed. refl)
  answers (Committing i s m) ForNone accepted base h = nothing (Committing i s m) _ _ (λ managed. refl)
  answers (Purging i j w) kind accepted base h =
      by-not (Does S id l (Purging i j w) (answer kind accepted base)) (is_for (Purging i j w) kind) _ _
      (λ e. over (Purging i j w) _ _ (none-waits (eqb i id)) (λ managed. refl) (purge-answer i j w accepted h))
      (λ e. nothing (Purging i j w) _ _ (λ managed. refl))
    where
      none-waits : (b : Bool) → waits_in (cond b (purging j) calm) ≡ []
      none-waits true = refl
      none-waits false = refl
  answers (Reserving chunks bytes commit exclusive waiting) ForMemory false base h =
      over (Reserving chunks bytes commit exclusive waiting) _ _ refl (λ managed. refl) (fails S id (at l id) small (before Idle) l stamps k mark (stands Idle refl) _ waiting)
  answers (Reserving chunks bytes commit exclusive waiting) ForMemory true base h =
      let q : Question = Reserving chunks bytes commit exclusive waiting in
      memory-cases S l stamps k mark (Does S id l q (answer ForMemory true base)) chunks bytes commit exclusive waiting base (nothing q _ _ (λ managed. refl))
      (λ cause. over q _ _ refl (λ managed. refl) (rests S id (at l id) small _ l k _ _ stamps mark refl (stands Idle refl)))
      (λ d e f u. resumes S id l small l stamps k mark _ (added S id (at l id) small (before Idle) l k _ u (stands Idle refl)) chunks bytes commit exclusive waiting base)
  answers (Reserving chunks bytes commit exclusive waiting) ForCommit accepted base h = nothing (Reserving chunks bytes commit exclusive waiting) _ _ (λ managed. refl)
  answers (Reserving chunks bytes commit exclusive waiting) ForPurge accepted base h = nothing (Reserving chunks bytes commit exclusive waiting) _ _ (λ managed. refl)
  answers (Reserving chunks bytes commit exclusive waiting) ForGiveBack accepted base h = nothing (Reserving chunks bytes commit exclusive waiting) _ _ (λ managed. refl)
  answers (Reserving chunks bytes commit exclusive waiting) ForNone accepted base h = nothing (Reserving chunks bytes commit exclusive waiting) _ _ (λ managed. refl)
  answers (GivingBack cause waiting) kind accepted base h =
      by-not (Does S id l (GivingBack cause waiting) (answer kind accepted base)) (is_for (GivingBack cause waiting) kind) _ _
      (λ e. over (GivingBack cause waiting) _ _ refl (λ managed. refl) (fails S id (at l id) small (before Idle) l stamps k mark (stands Idle refl) _ waiting))
      (λ e. nothing (GivingBack cause waiting) _ _ (λ managed. refl))

  -- ---- any call

  pub does : (q : Question) (ns : ℕ) (settings : Settings) (call : Call) → SoundQuestion l k q → Does S id l q call (step_on S l stamps k mark q ns settings call)
  does Idle ns settings (act a) h = acts ns settings a
  does (Committing i s m) ns settings (act a) h = busy (Committing i s m) _ refl refl
  does (Purging i j w) ns settings (act a) h = busy (Purging i j w) _ refl refl
  does (Reserving chunks bytes commit exclusive waiting) ns settings (act a) h = busy (Reserving chunks bytes commit exclusive waiting) _ refl refl
  does (GivingBack cause waiting) ns settings (act a) h = busy (GivingBack cause waiting) _ refl refl
  does q ns settings (query c) h = nothing q _ _ (λ managed. refl)
  does q ns settings (answer kind accepted base) h = answers q kind accepted base h
