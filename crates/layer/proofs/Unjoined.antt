-- "a program's calls in its exclusive arena get the addresses and fresh marks they would have got unjoined": the history without joins is the program's alone. It registers the same range in the
-- empty layer, then claims and releases as the book was fed, and puts no commit question, so that none of its calls waits. Assumes nothing.
use Rattle.std.specs.Prelude.{◌≡◌, ◌&&◌, ◌∷◌, ◌++◌, ◌+◌, ◌*◌, ◌^◌, ◌<◌}
use Rattle.layer.proofs.Prelude.{refl, sym, ap, ap₂, ◌∙◌, subst, Bool, true, false, cond, List, [], append_assoc, append-nil, inl, inr, ℕ, arith, eq-eqb, lt-leb, eqb, leb, ltb, pos, negsuc, length, by_cond, when, unless, page_size_sound, Option, Some, None, find_run, Arena, Untold, Settings, Question, Idle, Reserve, ForMemory, Reply, Outcome, empty, after, at, chunks_for, too_large, ask_memory, reserve_reply, reserve_of, asks_commit, grant_reply, miss_reply, grant_found, claim_of, release_of, is_for, Act, reserve, manage, claim, release, Call, act, answer, act_on, step_on, Book, lowest, Fed, claims, releases, Say, opened, say_all, Marked, History, begin, next, joining, of_first, of_second, is_sound, by_rules, Lent, Trail, open_at, is_idle, start, ruled, entries, entries_of, Place, in_range, feeds, fed_by, waits, Registrable, OpensAt, Where, place, fed, told, book_of, MarkedList, listing, is_taken, fed_by_list, entries_of_list}
use Rattle.layer.specs.History.{Entry, claims_at, releases_at, fed_at, bytes_in, Reserves}
use Rattle.layer.specs.Demand.{AllBut, is_unjoined, Unjoined, AsUnjoined}
use Rattle.layer.proofs.ChunkLaws.{size_fits, up_is}
use Rattle.layer.proofs.Cases.{search-cases, claim-cases, release-in-cases, release-cases}
use Rattle.layer.proofs.Stepped.{sound-test}
use Rattle.layer.proofs.Trails.{on_trail, gone, follow-sound, good-ruled, left-ruled}
use Rattle.layer.proofs.Opened.{opening}
use Rattle.layer.proofs.Demand.{place-size, by-the-book}

-- ---- what a book is fed lies in its range

-- of a claim nothing is asked: it names the arena by its id, which the book does not know
abbrev Inside : Book → Fed → Type 0
Inside b (claims how n) = Unit {0}
Inside b (releases x n) = (leb b.base x && ltb x (b.base + b.chunks * b.size)) ≡ true

abbrev AllInside : Book → List Fed → Type 0
AllInside b [] = Unit {0}
AllInside b (f ∷ fs) = Inside b f × AllInside b fs

append-inside : (b : Book) (x y : List Fed) → AllInside b x → AllInside b y → AllInside b (x ++ y)
append-inside b [] y h g = g
append-inside b (f ∷ x) y h g = (h.0, append-inside b x y h.1 g)

module _ (a : Place) where
  entry-inside : (e : Entry) → AllInside (book_of a) (fed_at a e)
  unfolding in_range
  entry-inside (claims_at (pos i) how n) = by_cond (AllInside (book_of a)) (eqb i a.id) _ _ (λ e. (tt, tt)) (λ e. tt)
  entry-inside (claims_at (negsuc i) how n) = tt
  entry-inside (releases_at x n) = by_cond (AllInside (book_of a)) (in_range a x) _ _ (λ e. (e, tt)) (λ e. tt)

  entries-inside : (es : List Entry) → AllInside (book_of a) (feeds a es)
  entries-inside [] = tt
  entries-inside (e ∷ es) = append-inside (book_of a) (fed_at a e) (feeds a es) (entry-inside e) (entries-inside es)

  call-inside : (m : Marked) → AllInside (book_of a) (fed_by a m)
  call-inside m = by_cond (AllInside (book_of a)) (is_sound m) _ _ (λ e. entries-inside (entries m.call)) (λ e. tt)

  list_inside : (t : Trail) (m : MarkedList) → AllInside (book_of a) (fed_by_list a t m)
  list_inside t m = by_cond (AllInside (book_of a)) (is_taken t m) _ _ (λ e. entries-inside (entries_of_list m)) (λ e. tt)

fed-inside : (h : History) (w : Where h) → AllInside (book_of (place h w)) (fed h w)
fed-inside begin w = absurd w
fed-inside (next h m) (inl o) = tt
fed-inside (next h m) (inr w) = append-inside (book_of (place h w)) (fed h w) (fed_by (place h w) m) (fed-inside h w) (call-inside (place h w) m)
fed-inside (listing h m) w = append-inside (book_of (place h w)) (fed h w) (fed_by_list (place h w) (ruled h) m) (fed-inside h w) (list_inside (place h w) (ruled h) m)
fed-inside (joining of_first h g m) (inl w) = fed-inside h w
fed-inside (joining of_first h g m) (inr w) = fed-inside g w.0
fed-inside (joining of_second h g m) w = fed-inside g w.0

-- ---- the range can be registered where nothing stands

range-alone : (h : History) (w : Where h) → Registrable empty (place h w).base (place h w).chunks
unfolding empty
range-alone begin w = absurd w
range-alone (next h m) (inl o) =
    let r = o.registrable in
    record { some = r.some; few = r.few; whole = r.whole; somewhere = r.somewhere; ends = r.ends; apart = λ i low. absurd (omega (arith, low)); room = omega arith }
range-alone (next h m) (inr w) = range-alone h w
range-alone (listing h m) w = range-alone h w
range-alone (joining of_first h g m) (inl w) = range-alone h w
range-alone (joining of_first h g m) (inr w) = range-alone g w.0
range-alone (joining of_second h g m) w = range-alone g w.0

-- ---- a call of the program, lent what the rules left

-- of a sound page size; nothing else in them matters here
abbrev plain : Settings
plain = record { delay = pos 0; decommits = false; off = false; reserve = 0; page = 4096 }

module _ (p : ℕ) (h : History) (c : Call) where
  abbrev call-of : Marked
  call-of = record { who = p; lent = (ruled h).world; ns = 0; settings = plain; call = c }

  call-sound : is_sound call-of ≡ true
  unfolding page_size_sound
  call-sound = sound-test (bytes_in (ruled h)) (ruled h).world 4096 (good-ruled h).world refl

  call-lent : Lent by_rules h → Lent by_rules (next h call-of)
  call-lent l = (l, λ _. sym (left-ruled h l))

  ruled-after : ruled (next h call-of) ≡ gone (ruled h) call-of (on_trail (ruled h) call-of)
  ruled-after = follow-sound (ruled h) call-of (good-ruled h) call-sound

-- ---- claims that put no commit question, and releases, leave none open

-- no question is open after it
abbrev Quiet : Outcome → Type 0
Quiet o = o.world.state.question ≡ Idle

module _ (S : ℕ) (l : List Arena) (stamps : List ℕ) (k : ℕ) (mark : Bool) where
  claim-quiet : (id n : ℕ) (settings : Settings) → Quiet (claim_of S l stamps k mark (pos id) n false settings)
  unfolding miss_reply grant_reply asks_commit
  claim-quiet id n settings =
      claim-cases S l stamps k mark Quiet (pos id) n false settings (λ e. refl) (λ e f. refl)
      (λ e f. search-cases S l stamps k mark Quiet (pos id) n false (miss_reply S k mark (pos id) n false settings) (λ _. refl) (λ i h g. found i (find_run (at l i) n)))
    where
      found : (i : ℕ) (f : Option ℕ) → Quiet (grant_found S l stamps k mark i n false f)
      found i (Some s) = refl
      found i None = refl

  release-quiet : (x n now delay : ℕ) → Quiet (release_of S l stamps k mark x n Untold false now delay)
  release-quiet x n now delay =
      release-cases S l stamps k mark Quiet n Untold false now delay x (λ e. refl) (λ e f. refl)
      (λ i e u f. release-in-cases S l stamps k mark Quiet n Untold false now delay i _ (λ g. refl) (λ g v. refl) (λ g v. refl))

-- ---- the program alone

-- what it did so far; no question is open, so that its next call is let pass
record ByItself (p : ℕ) (a : Place) (fs : List Fed) : Type 0 where
  so_far : Unjoined by_rules p a fs []
  idle : open_at (ruled so_far.history) ≡ Idle

module _ (p : ℕ) (a : Place) (fs : List Fed) (r : ByItself p a fs) where
  abbrev h : History
  h = r.so_far.history

  abbrev w : Where h
  w = r.so_far.arena

  abbrev does : Act → Outcome
  does x = act_on (bytes_in (ruled h)) (ruled h).world.records (ruled h).world.stamps (ruled h).world.state.count (ruled h).world.state.mark Idle 0 plain x

  one_more : (x : Act) (f : Fed) → feeds (place h w) (entries_of x) ≡ f ∷ [] → Quiet (does x) → ByItself p a (fs ++ f ∷ [])
  one_more x f feeds-f quiet = record {
    so_far = record {
      history = next h m;
      none-joined = r.so_far.none-joined;
      arena = inr w;
      lent = call-lent p h (act x) r.so_far.lent;
      keeps = (r.so_far.keeps, record { alone = λ _. refl; sound-lent = λ _. call-sound p h (act x); none_open = λ _ _. r.idle; agreed = λ _ _. refl });
      same-book = r.so_far.same-book;
      same-fed = ap₂ (λ (y z : List Fed). y ++ z) r.so_far.same-fed (when (is_sound m) _ _ (call-sound p h (act x)) ∙ feeds-f);
      same-told = (told by_rules (next h m) (inr w), refl);
    };
    idle = ap open_at (ruled-after p h (act x))
        ∙ ap (λ (q : Question). (step_on (bytes_in (ruled h)) (ruled h).world.records (ruled h).world.stamps (ruled h).world.state.count (ruled h).world.state.mark q 0 plain (act x)).world.state.question) r.idle
        ∙ quiet;
  }
    where
      m : Marked
      m = call-of p h (act x)

  fed-one : (f : Fed) → Inside (book_of a) f → ByItself p a (fs ++ f ∷ [])
  unfolding in_range
  fed-one (claims lowest n) _ =
      one_more (claim (pos (place h w).id) n false) (claims lowest n) (ap (λ (b : Bool). cond b (claims lowest n ∷ []) [] ++ []) (eq-eqb (place h w).id (place h w).id refl))
      (claim-quiet _ _ _ _ _ (place h w).id n plain)
  fed-one (releases x n) e =
      one_more (release x n Untold false) (releases x n) (ap (λ (b : Bool). cond b (releases x n ∷ []) [] ++ []) there)
      (release-quiet _ _ _ _ _ x n _ _)
    where
      there : in_range (place h w) x ≡ true
      there = ap (λ (b : Book). leb b.base x && ltb x (b.base + b.chunks * b.size)) r.so_far.same-book ∙ e

fed-all : (p : ℕ) (a : Place) (fs gs : List Fed) → ByItself p a fs → AllInside (book_of a) gs → ByItself p a (fs ++ gs)
fed-all p a fs [] r _ = subst (ByItself p a) (sym (append-nil fs)) r
fed-all p a fs (g ∷ gs) r e = subst (ByItself p a) (append_assoc fs (g ∷ []) gs) (fed-all p a (fs ++ g ∷ []) gs (fed-one p a fs r g e.0) e.1)

-- ---- it registers the range

module _ (p : ℕ) (a : Place) (size : a.size ≡ bytes_in start) (r : Registrable empty a.base a.chunks) where
  abbrev S : ℕ
  S = bytes_in start

  -- the book opens, and nothing is fed yet
  nothing-fed : (h : History) (c : Call) → is_unjoined h ≡ true → Lent by_rules h → (o : OpensAt (ruled h) (call-of p h c)) → opened S o.base o.chunks o.managed ≡ book_of a → ByItself p a []
  nothing-fed h c none l o same = record {
    so_far = record { history = next h (call-of p h c); none-joined = none; arena = inl o; lent = call-lent p h c l; keeps = tt; same-book = same; same-fed = refl; same-told = ([], refl) };
    idle = (opening p (ruled h) (call-of p h c) (good-ruled h) o).idle;
  }

  book-is : (managed : Bool) → a.managed ≡ managed → opened S a.base a.chunks managed ≡ book_of a
  book-is managed e = ap₂ (λ (x : ℕ) (y : Bool). opened x a.base a.chunks y) (sym size) (sym e)

  by-manage : a.managed ≡ true → ByItself p a []
  unfolding empty
  by-manage e =
      nothing-fed begin (act (manage a.base (a.chunks * S) true (negsuc 0) false true)) refl tt
      (record {
        base = a.base;
        chunks = a.chunks;
        managed = true;
        is-sound = call-sound p begin (act (manage a.base (a.chunks * S) true (negsuc 0) false true));
        registrable = r;
        registers = record {
          from = a.base;
          bytes = a.chunks * S;
          node = negsuc 0;
          is_call = refl;
          none_open = refl;
          some-start = r.somewhere;
          first = (omega arith, omega arith);
          last = (omega arith, omega arith);
          sum_fits = r.ends;
        };
      })
      (book-is true e)

  -- memory is asked for first
  abbrev asking : Marked
  asking = call-of p begin (act (reserve (a.chunks * S) false false true))

  abbrev open-memory : Trail
  open-memory = gone start asking (after (ask_memory S empty.state.count empty.state.mark (a.chunks * S) 4096 false false true Reserve) empty.records empty.stamps)

  not-12 : too_large S (a.chunks * S) ≡ false
  unfolding too_large
  not-12 =
      let n : chunks_for S (a.chunks * S) ≡ a.chunks = up_is S (size_fits start.world.state).0 (a.chunks * S) a.chunks (omega arith) (omega arith) in
      lt-leb (2 ^ 64) (chunks_for S (a.chunks * S) * S + S) (subst (λ (x : ℕ). x * S + S < 2 ^ 64) (sym n) (omega (arith, r.few)))

  memory-asked : ruled (next begin asking) ≡ open-memory
  unfolding empty reserve_of reserve_reply
  memory-asked = ruled-after p begin asking.call ∙ ap (λ (x : Reply). gone start asking (after x empty.records empty.stamps)) (unless (too_large S (a.chunks * S)) _ _ not-12)

  by-reserve : a.managed ≡ false → ByItself p a []
  unfolding empty ask_memory is_for
  by-reserve e =
      nothing-fed (next begin asking) (answer ForMemory true a.base) refl (call-lent p begin asking.call tt)
      (record {
        base = a.base;
        chunks = a.chunks;
        managed = false;
        is-sound = call-sound p (next begin asking) (answer ForMemory true a.base);
        registrable = subst (λ (t : Trail). Registrable t.world a.base a.chunks) (sym memory-asked)
            (record { some = r.some; few = r.few; whole = r.whole; somewhere = r.somewhere; ends = r.ends; apart = λ i low. absurd (omega (arith, low)); room = r.room });
        registers = subst (λ (t : Trail). Reserves t (call-of p (next begin asking) (answer ForMemory true a.base)) a.base a.chunks) (sym memory-asked)
            (record { bytes = a.chunks * S; commit = false; large = false; is_call = refl; memory-open = refl; asked_by = refl; rounds = (omega arith, omega arith) });
      })
      (book-is false e)

  registered-alone : ByItself p a []
  registered-alone = go a.managed refl
    where
      go : (b : Bool) → a.managed ≡ b → ByItself p a []
      go true e = by-manage e
      go false e = by-reserve e

-- ---- what it is told

none_left : (x : List Say) → length x ≡ 0 → x ≡ []
none_left [] e = refl
none_left (s ∷ x) e = absurd (omega (arith, e))

pub as-unjoined : AsUnjoined by_rules
as-unjoined p h w l k = record {
  history = u.history;
  none-joined = u.none-joined;
  arena = u.arena;
  lent = u.lent;
  keeps = u.keeps;
  same-book = u.same-book;
  same-fed = u.same-fed;
  same-told = (book-says.0, book-says.1 ∙ sym told-all);
}
  where
    all_made : ByItself p (place h w) (fed h w)
    all_made = fed-all p (place h w) [] (fed h w) (registered-alone p (place h w) (place-size h w) (range-alone h w)) (fed-inside h w)

    u : Unjoined by_rules p (place h w) (fed h w) []
    u = all_made.so_far

    book-says : AllBut (waits (place h w) (ruled h)) (told by_rules h w) (say_all (book_of (place h w)) (fed h w))
    book-says = by-the-book p h w l k

    -- nothing waits there
    told-all : told by_rules u.history u.arena ≡ say_all (book_of (place h w)) (fed h w)
    told-all =
        let by_itself = by-the-book p u.history u.arena u.lent u.keeps in
        let rest : by_itself.0 ≡ [] = none_left by_itself.0 (by_itself.2 ∙ ap (λ (q : Question). length (cond (is_idle q) [] (feeds (place u.history u.arena) (entries (ruled u.history).asked)))) all_made.idle) in
        sym (append-nil (told by_rules u.history u.arena))
        ∙ ap (λ (x : List Say). told by_rules u.history u.arena ++ x) (sym rest)
        ∙ by_itself.1
        ∙ ap₂ say_all u.same-book u.same-fed
