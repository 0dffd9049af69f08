-- Demand 3, over every history from the empty layer, of every layer that answers and leaves what the rules say: what is told is what the book says. Assumes nothing.
use Rattle.std.specs.Prelude.{◌+◌, ◌<◌, ◌≡◌, ◌&&◌, ◌∷◌, ◌++◌}
use Rattle.layer.proofs.Prelude.{arith, and_both, World, JoinOutcome, joined_world, MarkedJoin, of_first, of_second, joining, both_sound, by_rules, is_joined, join_of, leaving, follow_join, unites, risen, refl, sym, ap, ap₂, ◌∙◌, subst, Bool, true, false, cond, true≢false, List, [], append_assoc, append-nil, inl, inr, ℕ, ne_eqb, eqb, ℤ, pos, negsuc, length, by_cond, when, unless, Arena, is_on, Question, Idle, Committing, Purging, Reserving, GivingBack, Reserve, Claim, Kind, ForCommit, ForPurge, ForMemory, ForGiveBack, ForNone, Answer, Refused, Asks, Registered, Claimed, Released, Swept, Owns, Area, Outcome, at, is_for, Act, reserve, manage, adopt, claim, release, sweep, Call, act, query, answer, step_on, Book, lowest, Fed, claims, Say, enter, enter_all, say_all, Marked, History, begin, next, is_sound, Layer, outcome_by, Lent, Trail, open_at, is_idle, follow, ruled, entries_of, entries, said, goes_on, tells, Place, is_none, feeds, hears, fed_by, told_by, standing, Where, place, fed, told, Premises, Keeps, book_of, ByTheBook, Settings, page_size_sound, Untold, release_each, release_item, item_number, number_says, ListOutcome, list_fits, MarkedList, ListPremises, listing, is_sound_list, is_taken, list_by, list_of, follow_list, fed_by_list, told_by_list, entries_in, entries_of_list, said_of_list}
use mathlib.Core.List.{map}
use Rattle.layer.specs.History.{Entry, claims_at, releases_at, fed_at, bytes_in}
use Rattle.layer.proofs.Facts.{SoundTable}
use Rattle.layer.proofs.Shown.{View, calm, committing, purging, view_of, waits_in, owed_in, Mine, Role, closing, aside, ends, role, fed_of, heard, told_as, Stays, book_in as book_shown, book_at, owed_at, Inv, Fits}
use Rattle.layer.proofs.Keeps.{keeps}
use Rattle.layer.proofs.Asked.{ServedIn, Asked}
use Rattle.layer.proofs.Stepped.{passing-facts, sound-test}
use Rattle.layer.proofs.Lists.{settled, still-past-two, each-granted, ListComes, turned_down, one_by_one, list-comes}
use Rattle.layer.proofs.Joins.{Comes, both-stay, one_table, first-kept, second-moved}
use Rattle.layer.proofs.Trails.{Good, on_trail, gone, on-rules, follow-sound, follow-not, good-follow, size-follows, list-sound, same_size, join-of-comes, good-ruled, answers-ruled, lists-ruled}
use Rattle.layer.proofs.Opened.{opening}

-- ---- the book over two lists

pub enter-append : (b : Book) (x y : List Fed) → enter_all b (x ++ y) ≡ enter_all (enter_all b x) y
enter-append b [] y = refl
enter-append b (f ∷ x) y = enter-append (enter b f).book x y

pub say-append : (b : Book) (x y : List Fed) → say_all b (x ++ y) ≡ say_all b x ++ say_all (enter_all b x) y
say-append b [] y = refl
say-append b (f ∷ x) y = ap (λ (l : List Say). (enter b f).say ∷ l) (say-append (enter b f).book x y)

-- ---- an answer says one thing at most, and a call has one entry at most

said-cases : (P : List Say → Type 0) → P [] → ((s : Say) → P (s ∷ [])) → (r : Answer) → P (said r)
said-cases P none one (Refused why) = one _
said-cases P none one (Claimed address fresh committed) = one _
said-cases P none one Released = one _
said-cases P none one (Asks ask) = none
said-cases P none one (Registered id) = none
said-cases P none one (Swept count) = none
said-cases P none one (Owns whether) = none
said-cases P none one (Area base bytes) = none

pub no-question : (kind : Kind) → is_for Idle kind ≡ false
unfolding is_for
no-question ForCommit = refl
no-question ForPurge = refl
no-question ForMemory = refl
no-question ForGiveBack = refl
no-question ForNone = refl

module _ (a : Place) where
  hears-one : (e : Entry) (r : Answer) → hears a (e ∷ []) (said r) ≡ heard (fed_at a e ++ []) (said r)
  hears-one e r = said-cases (λ (ss : List Say). hears a (e ∷ []) ss ≡ heard (fed_at a e ++ []) ss) (none (fed_at a e)) (λ s. one s (fed_at a e)) r
    where
      none : (fs : List Fed) → [] ≡ heard (fs ++ []) []
      none [] = refl
      none (f ∷ fs) = refl

      one : (s : Say) (fs : List Fed) → cond (is_none fs) [] (s ∷ []) ≡ heard (fs ++ []) (s ∷ [])
      one s [] = refl
      one s (f ∷ fs) = refl

  hears-act : (x : Act) (r : Answer) → hears a (entries_of x) (said r) ≡ heard (feeds a (entries_of x)) (said r)
  hears-act (reserve size commit large exclusive) r = refl
  hears-act (manage from size exclusive node mapped reserved) r = refl
  hears-act (adopt address size) r = refl
  hears-act (claim id n commits) r = hears-one (claims_at id lowest n) r
  hears-act (release address n tell pending) r = hears-one (releases_at address n) r
  hears-act (sweep force) r = refl

  hears-call : (c : Call) (r : Answer) → hears a (entries c) (said r) ≡ heard (feeds a (entries c)) (said r)
  hears-call (act x) r = hears-act x r
  hears-call (query c) r = refl
  hears-call (answer kind accepted base) r = refl

  -- ---- what waits: the claim whose commit question about the arena is open

  module _ (S : ℕ) (l : List Arena) (exclusive : is_on (at l a.id).exclusive ≡ true) where
    asked-there : (q : Question) (c : Call) → Asked S l q c → is_idle q ≡ false → feeds a (entries c) ≡ waits_in (view_of a.id q)
    asked-there Idle c h e = absurd (true≢false e)
    asked-there (Committing i s n) c h e = ap (λ (x : Call). feeds a (entries x)) h.2 ∙ go h.0 h.3
      where
        go : (id : ℤ) → ServedIn l id i → fed_at a (claims_at id lowest n) ++ [] ≡ waits_in (cond (eqb i a.id) (committing s n) calm)
        go (pos x) d = ap (λ (y : ℕ). cond (eqb y a.id) (claims lowest n ∷ []) [] ++ []) d ∙ both (eqb i a.id)
          where
            both : (b : Bool) → cond b (claims lowest n ∷ []) [] ++ [] ≡ waits_in (cond b (committing s n) calm)
            both true = refl
            both false = refl
        go (negsuc x) d = ap (λ (b : Bool). waits_in (cond b (committing s n) calm)) (sym (ne_eqb i a.id (λ f. true≢false (sym exclusive ∙ ap (λ (j : ℕ). is_on (at l j).exclusive) (sym f) ∙ d))))
    asked-there (Purging i j w) c h e = ap (λ (x : Call). feeds a (entries x)) h.1 ∙ go (eqb i a.id)
      where
        go : (b : Bool) → [] ≡ waits_in (cond b (purging j) calm)
        go true = refl
        go false = refl
    asked-there (Reserving chunks bytes commit exclusive (Claim n commits)) c h e = ap (λ (x : Call). feeds a (entries x)) h.1
    asked-there (Reserving chunks bytes commit exclusive Reserve) c h e = ap (λ (x : Call). feeds a (entries x)) h.2
    asked-there (GivingBack cause (Claim n commits)) c h e = ap (λ (x : Call). feeds a (entries x)) h.1
    asked-there (GivingBack cause Reserve) c h e = ap (λ (x : Call). feeds a (entries x)) h.4

    -- as many as are owed
    waits-owed : (q : Question) (c : Call) → Asked S l q c → length (owed_in a.size (view_of a.id q) (at l a.id)) ≡ length (cond (is_idle q) [] (feeds a (entries c)))
    waits-owed q c h = go (is_idle q) refl
      where
        owes : (v : View) → length (owed_in a.size v (at l a.id)) ≡ length (waits_in v)
        owes calm = refl
        owes (committing s n) = refl
        owes (purging j) = refl

        idle : (q : Question) → is_idle q ≡ true → view_of a.id q ≡ calm
        idle Idle e = refl
        idle (Committing i s n) e = absurd (true≢false (sym e))
        idle (Purging i j w) e = absurd (true≢false (sym e))
        idle (Reserving chunks bytes commit alone waiting) e = refl
        idle (GivingBack cause waiting) e = refl

        go : (b : Bool) → is_idle q ≡ b → length (owed_in a.size (view_of a.id q) (at l a.id)) ≡ length (cond b [] (feeds a (entries c)))
        go true e = ap (λ (v : View). length (owed_in a.size v (at l a.id))) (idle q e)
        go false e = owes (view_of a.id q) ∙ ap length (sym (asked-there q c h e))

    -- an answer tells of what waits, if it is for the question
    told-answer : (q : Question) (c : Call) (kind : Kind) (r : Answer) → Asked S l q c
        → cond (is_for q kind) (hears a (entries c) (said r)) [] ≡ told_as (cond (ends a.id q kind) closing aside) r
    told-answer q c kind r h = go q h
      where
        step_by : (q : Question) → is_idle q ≡ false → Asked S l q c → hears a (entries c) (said r) ≡ heard (waits_in (view_of a.id q)) (said r)
        step_by q e h = hears-call c r ∙ ap (λ (fs : List Fed). heard fs (said r)) (asked-there q c h e)

        silent : (b : Bool) → ◌≡◌ {A = List Say} (cond b [] []) []
        silent true = refl
        silent false = refl

        go : (q : Question) → Asked S l q c → cond (is_for q kind) (hears a (entries c) (said r)) [] ≡ told_as (cond (ends a.id q kind) closing aside) r
        go Idle h = none kind
          where
            none : (kind : Kind) → cond (is_for Idle kind) (hears a (entries c) (said r)) [] ≡ []
            none kind = ap (λ (b : Bool). cond b (hears a (entries c) (said r)) []) (no-question kind)
        go (Committing i s n) h = ap (λ (ss : List Say). cond (is_for (Committing i s n) kind) ss []) (step_by (Committing i s n) refl h) ∙ both (is_for (Committing i s n) kind) (eqb i a.id)
          where
            both : (x y : Bool) → cond x (heard (waits_in (cond y (committing s n) calm)) (said r)) [] ≡ told_as (cond (x && y) closing aside) r
            both true true = refl
            both true false = refl
            both false y = refl
        go (Purging i j w) h = ap (λ (ss : List Say). cond (is_for (Purging i j w) kind) ss []) (step_by (Purging i j w) refl h) ∙ both (is_for (Purging i j w) kind) (eqb i a.id)
          where
            both : (x y : Bool) → cond x (heard (waits_in (cond y (purging j) calm)) (said r)) [] ≡ []
            both true true = refl
            both true false = refl
            both false y = refl
        go (Reserving chunks bytes commit alone waiting) h =
            ap (λ (ss : List Say). cond (is_for (Reserving chunks bytes commit alone waiting) kind) ss []) (step_by (Reserving chunks bytes commit alone waiting) refl h) ∙ silent (is_for (Reserving chunks bytes commit alone waiting) kind)
        go (GivingBack cause waiting) h = ap (λ (ss : List Say). cond (is_for (GivingBack cause waiting) kind) ss []) (step_by (GivingBack cause waiting) refl h) ∙ silent (is_for (GivingBack cause waiting) kind)

-- ---- one call

module _ (p : ℕ) (a : Place) where
  abbrev pub InvAt : Trail → Type 0
  InvAt t = Inv a.size p a.id a.base a.chunks t.world.records (standing t) (open_at t) t.asker

  abbrev pub book_in : Trail → Book
  book_in t = book_at a.size p a.id a.base a.chunks t.world.records (open_at t)

  abbrev pub owed : Trail → List Say
  owed t = owed_at a.size p a.id a.base a.chunks t.world.records (open_at t)

  -- from t to u by a call that feeds fs and tells ss
  record Moves (t : Trail) (fs : List Fed) (ss : List Say) (u : Trail) : Type 0 where
    inv : InvAt u
    book : book_in u ≡ enter_all (book_in t) fs
    says : owed t ++ say_all (book_in t) fs ≡ ss ++ owed u

  fed-role : (q : Question) (c : Call) → feeds a (entries c) ≡ fed_of (role a q c)
  fed-role q (act x) = refl
  fed-role q (query c) = refl
  fed-role q (answer kind accepted base) = by_cond (λ (r : Role). [] ≡ fed_of r) (ends a.id q kind) _ _ (λ e. refl) (λ e. refl)

  told-role : (t : Trail) (c : Call) (r : Answer) → Good t → InvAt t → cond (tells t c) (hears a (entries (goes_on t c)) (said r)) [] ≡ told_as (role a (open_at t) c) r
  told-role t (act x) r g v = hears-act a x r
  told-role t (query c) r g v = refl
  told-role t (answer kind accepted base) r g v = told-answer a (bytes_in t) t.world.records v.stays.exclusive (open_at t) t.asked kind r g.asked

  one : (t : Trail) → a.size ≡ bytes_in t → (m : Marked) (L : Layer) → Good t → InvAt t → Premises p a t m → (is_sound m ≡ true → outcome_by L m ≡ on_trail t m) → Moves t (fed_by a m) (told_by L a t m) (follow t m)
  one t sized m L g v k is = go (is_sound m) refl
    where
      fits : is_sound m ≡ true → Fits a.size p a.id a.base a.chunks t.world.records (open_at t) m.who t.asker (role a (open_at t) m.call) (on_trail t m)
      fits e =
          subst (λ (S : ℕ). Fits a.size p a.id a.base a.chunks t.world.records (open_at t) m.who t.asker (role a (open_at t) m.call)
          (step_on S t.world.records t.world.stamps (standing t) t.world.state.mark (open_at t) m.ns m.settings m.call)) sized
          (keeps a.size p a.id a.base a.chunks a.managed t.world.records t.world.stamps (standing t) t.world.state.mark
          (subst (λ (S : ℕ). SoundTable S t.world.records (standing t)) (sym sized) g.world.table) m.who t.asker (open_at t) m.ns m.settings m.call
          g.world.question v (λ f. k.alone (ap is_none (when (is_sound m) _ _ e ∙ fed-role (open_at t) m.call) ∙ f))
          k.none_open (λ f. k.agreed f e))

      go : (b : Bool) → is_sound m ≡ b → Moves t (fed_by a m) (told_by L a t m) (follow t m)
      go true e =
          let f = fits e in
          let fs : fed_by a m ≡ fed_of (role a (open_at t) m.call) = when (is_sound m) _ _ e ∙ fed-role (open_at t) m.call in
          let ss : told_by L a t m ≡ told_as (role a (open_at t) m.call) (on_trail t m).answer =
          ap (λ (b : Bool). cond (b && tells t m.call) (hears a (entries (goes_on t m.call)) (said (outcome_by L m).answer)) []) e
          ∙ told-role t m.call (outcome_by L m).answer g v
          ∙ ap (λ (o : Outcome). told_as (role a (open_at t) m.call) o.answer) (is e) in
          subst (Moves t (fed_by a m) (told_by L a t m)) (sym (follow-sound t m g e))
          (record {
            inv = f.inv;
            book = f.book ∙ ap (enter_all (book_in t)) (sym fs);
            says = ap (λ (x : List Fed). owed t ++ say_all (book_in t) x) fs ∙ f.says ∙ ap (λ (x : List Say). x ++ owed (gone t m (on_trail t m))) (sym ss);
          })
      go false e =
          let fs : fed_by a m ≡ [] = unless (is_sound m) _ _ e in
          let ss : told_by L a t m ≡ [] = ap (λ (b : Bool). cond (b && tells t m.call) (hears a (entries (goes_on t m.call)) (said (outcome_by L m).answer)) []) e in
          subst (Moves t (fed_by a m) (told_by L a t m)) (sym (follow-not t m e))
          (record {
            inv = v;
            book = ap (enter_all (book_in t)) (sym fs);
            says = ap (λ (x : List Fed). owed t ++ say_all (book_in t) x) fs ∙ append-nil (owed t) ∙ ap (λ (x : List Say). x ++ owed t) (sym ss);
          })

  -- ---- all calls

  pub record Along (fs : List Fed) (ss : List Say) (t : Trail) : Type 0 where
    pub inv : InvAt t
    pub book : book_in t ≡ enter_all (book_of a) fs
    pub says : say_all (book_of a) fs ≡ ss ++ owed t

  go_on : (fs gs : List Fed) (ss rs : List Say) (t u : Trail) → Along fs ss t → Moves t gs rs u → Along (fs ++ gs) (ss ++ rs) u
  go_on fs gs ss rs t u r f = record {
    inv = f.inv;
    book = f.book ∙ ap (λ (x : Book). enter_all x gs) r.book ∙ sym (enter-append (book_of a) fs gs);
    says = say-append (book_of a) fs gs
        ∙ ap₂ (λ (x : List Say) (y : Book). x ++ say_all y gs) r.says (sym r.book)
        ∙ append_assoc ss (owed t) (say_all (book_in t) gs)
        ∙ ap (λ (x : List Say). ss ++ x) f.says
        ∙ sym (append_assoc ss rs (owed u));
  }

-- ---- another table: what is told, fed and shown stays, with the id that the arena has then

-- the record of a stands at i in another table, and no question is open in either
moved : (p : ℕ) (a : Place) (i : ℕ) (fs : List Fed) (ss : List Say) (t u : Trail) → Along p a fs ss t → open_at t ≡ Idle → open_at u ≡ Idle → i < standing u
    → at u.world.records i ≡ at t.world.records a.id → Along p (record { id = i; size = a.size; base = a.base; chunks = a.chunks; managed = a.managed }) fs ss u
moved p a i fs ss t u r before now low there = record {
  inv = record {
    low = low;
    stays = subst (Stays a.base a.chunks) (sym there) r.inv.stays;
    mine = subst (λ (q : Question). Mine p u.asker (view_of i q)) (sym now) tt;
  };
  book = ap₂ (λ (q : Question) (x : Arena). book_shown a.size (view_of i q) x) now there
      ∙ sym (ap (λ (q : Question). book_shown a.size (view_of a.id q) (at t.world.records a.id)) before)
      ∙ r.book;
  says = r.says
      ∙ ap (λ (x : List Say). ss ++ x)
      (ap (λ (q : Question). owed_in a.size (view_of a.id q) (at t.world.records a.id)) before
      ∙ sym (ap (λ (q : Question). owed_in a.size (view_of i q) (at u.world.records i)) now));
}

-- ---- lists: item after item, each a release of the list's program

none_before : (x y : List Fed) → is_none y ≡ false → is_none (x ++ y) ≡ false
none_before [] y e = e
none_before (f ∷ x) y e = refl

none-behind : (x y : List Fed) → is_none (x ++ []) ≡ false → is_none (x ++ y) ≡ false
none-behind [] y e = absurd (true≢false e)
none-behind (f ∷ x) y e = refl

module _ (p : ℕ) (a : Place) (who ns : ℕ) (settings : Settings) (pending : Bool) (page : page_size_sound settings.page ≡ true) where
  -- where the items lead
  record Led (w : World) (fs : List Fed) (ss : List Say) (xs counts : List ℕ) : Type 0 where
    to : Trail
    world : to.world ≡ (release_each ns settings pending w xs counts).whole.world
    idle : open_at to ≡ Idle
    along : Along p a (fs ++ feeds a (entries_in xs counts)) (ss ++ hears a (entries_in xs counts) (map number_says (release_each ns settings pending w xs counts).numbers)) to

  nothing-led : (t : Trail) (fs : List Fed) (ss : List Say) → Along p a fs ss t → Along p a (fs ++ []) (ss ++ []) t
  nothing-led t fs ss r = subst (λ (x : List Fed). Along p a x (ss ++ []) t) (sym (append-nil fs)) (subst (λ (x : List Say). Along p a fs x t) (sym (append-nil ss)) r)

  -- the first item as a call, lent what the rules left, and then the others
  module _ (t : Trail) (fs : List Fed) (ss : List Say) (sized : a.size ≡ bytes_in t) (g : Good t) (idle : open_at t ≡ Idle) (r : Along p a fs ss t) (x n : ℕ) where
    abbrev item_call : Marked
    item_call = record { who = who; lent = t.world; ns = ns; settings = settings; call = act (release x n Untold pending) }

    abbrev item : Outcome
    item = release_item ns settings pending t.world x n

    item-passes : is_sound item_call ≡ true
    item-passes = sound-test (bytes_in t) t.world settings.page g.world page

    item-fed : fed_by a item_call ≡ fed_at a (releases_at x n) ++ []
    item-fed = when (is_sound item_call) _ _ item-passes

    item-told : told_by by_rules a t item_call ≡ cond (is_none (fed_at a (releases_at x n))) [] (number_says (item_number item.answer) ∷ [])
    item-told =
        ap (λ (b : Bool). cond (b && true) (hears a (releases_at x n ∷ []) (said item.answer)) []) item-passes
        ∙ ap (hears a (releases_at x n ∷ [])) (settled ns settings pending t.world (item-passes, idle) x n).says

    item-world : (follow t item_call).world ≡ item.world
    item-world = ap (λ (u : Trail). u.world) (when (is_sound item_call) _ _ item-passes)

    item-along : (is_none (fed_at a (releases_at x n) ++ []) ≡ false → who ≡ p) → Along p a (fs ++ fed_by a item_call) (ss ++ told_by by_rules a t item_call) (follow t item_call)
    item-along alone =
        go_on p a fs (fed_by a item_call) ss (told_by by_rules a t item_call) t (follow t item_call) r
        (one p a t sized item_call by_rules g r.inv
        (record { alone = λ e. alone (sym (ap is_none item-fed) ∙ e); sound-lent = λ _. item-passes; none_open = λ _ _. idle; agreed = λ _ _. refl })
        (λ e. on-rules t item_call g e))

    others-led : (xs counts : List ℕ) → Led (follow t item_call).world (fs ++ fed_by a item_call) (ss ++ told_by by_rules a t item_call) xs counts → Led t.world fs ss (x ∷ xs) (n ∷ counts)
    others-led xs counts l = go (subst (λ (w : World). Led w (fs ++ fed_by a item_call) (ss ++ told_by by_rules a t item_call) xs counts) item-world l)
      where
        rest : List Say
        rest = hears a (entries_in xs counts) (map number_says (release_each ns settings pending item.world xs counts).numbers)

        feeds-both : (fs ++ fed_by a item_call) ++ feeds a (entries_in xs counts) ≡ fs ++ (fed_at a (releases_at x n) ++ feeds a (entries_in xs counts))
        feeds-both =
            ap (λ (y : List Fed). (fs ++ y) ++ feeds a (entries_in xs counts)) (item-fed ∙ append-nil (fed_at a (releases_at x n)))
            ∙ append_assoc fs (fed_at a (releases_at x n)) (feeds a (entries_in xs counts))

        both : (s : Say) (b : Bool) → cond b [] (s ∷ []) ++ rest ≡ cond b rest (s ∷ rest)
        both s true = refl
        both s false = refl

        says_both : (ss ++ told_by by_rules a t item_call) ++ rest ≡ ss ++ cond (is_none (fed_at a (releases_at x n))) rest (number_says (item_number item.answer) ∷ rest)
        says_both =
            ap (λ (y : List Say). (ss ++ y) ++ rest) item-told
            ∙ append_assoc ss _ rest
            ∙ ap (λ (y : List Say). ss ++ y) (both (number_says (item_number item.answer)) (is_none (fed_at a (releases_at x n))))

        go : Led item.world (fs ++ fed_by a item_call) (ss ++ told_by by_rules a t item_call) xs counts → Led t.world fs ss (x ∷ xs) (n ∷ counts)
        go l = record {
          to = l.to;
          world = l.world;
          idle = l.idle;
          along = subst (λ (y : List Fed). Along p a y (ss ++ cond (is_none (fed_at a (releases_at x n))) rest (number_says (item_number item.answer) ∷ rest)) l.to) feeds-both
              (subst (λ (y : List Say). Along p a ((fs ++ fed_by a item_call) ++ feeds a (entries_in xs counts)) y l.to) says_both l.along);
        }

  leads : (xs counts : List ℕ) (t : Trail) (fs : List Fed) (ss : List Say) → a.size ≡ bytes_in t → Good t → open_at t ≡ Idle
      → (is_none (feeds a (entries_in xs counts)) ≡ false → who ≡ p) → Along p a fs ss t → Led t.world fs ss xs counts
  leads [] counts t fs ss sized g idle alone r = record { to = t; world = refl; idle = idle; along = nothing-led t fs ss r }
  leads (x ∷ xs) [] t fs ss sized g idle alone r = record { to = t; world = refl; idle = idle; along = nothing-led t fs ss r }
  leads (x ∷ xs) (n ∷ counts) t fs ss sized g idle alone r =
      others-led t fs ss sized g idle r x n xs counts
      (leads xs counts (follow t m) (fs ++ fed_by a m) (ss ++ told_by by_rules a t m) (sized ∙ sym (size-follows t m g)) (good-follow t m g)
      (ap (λ (w : World). w.state.question) (item-world t fs ss sized g idle r x n) ∙ (still-past-two ns settings pending t.world (item-passes t fs ss sized g idle r x n, idle) x n).1)
      (λ e. alone (none_before (fed_at a (releases_at x n)) (feeds a (entries_in xs counts)) e))
      (item-along t fs ss sized g idle r x n (λ e. alone (none-behind (fed_at a (releases_at x n)) (feeds a (entries_in xs counts)) e))))
    where
      m : Marked
      m = item_call t fs ss sized g idle r x n

module _ (p : ℕ) (a : Place) (fs : List Fed) (ss : List Say) (t : Trail) (m : MarkedList) where
  abbrev es : List Entry
  es = entries_of_list m

  -- nothing of a list that is refused as a whole
  none-of-it : is_taken t m ≡ false → Along p a fs ss t → Along p a (fs ++ fed_by_list a t m) (ss ++ told_by_list by_rules a t m) t
  none-of-it e r =
      subst (λ (x : List Fed). Along p a (fs ++ x) (ss ++ told_by_list by_rules a t m) t) (sym (unless (is_taken t m) _ _ e))
      (subst (λ (x : List Say). Along p a (fs ++ []) (ss ++ x) t) (sym (unless (is_taken t m) _ _ e))
      (subst (λ (x : List Fed). Along p a x (ss ++ []) t) (sym (append-nil fs)) (subst (λ (x : List Say). Along p a fs x t) (sym (append-nil ss)) r)))

  list-goes-on : a.size ≡ bytes_in t → Good t → ListPremises p a t m → (is_sound_list m ≡ true → list_by by_rules m ≡ list_of t m) → Along p a fs ss t
      → Along p a (fs ++ fed_by_list a t m) (ss ++ told_by_list by_rules a t m) (follow_list t m)
  list-goes-on sized g k is r = go (is_sound_list m) refl
    where
      after : is_sound_list m ≡ true → (o : ListOutcome) → list_by by_rules m ≡ o → ListComes t.world m.ns m.settings m.items o
          → Along p a (fs ++ fed_by_list a t m) (ss ++ told_by_list by_rules a t m) (leaving t o.whole.world)
      after e o by (turned_down why f z) =
          subst (λ (x : ListOutcome). Along p a (fs ++ fed_by_list a t m) (ss ++ told_by_list by_rules a t m) (leaving t x.whole.world)) (sym z)
          (none-of-it (ap (λ (x : Bool). x && (is_idle (open_at t) && list_fits m.items)) e ∙ sym (ap (λ (x : Bool). x && (is_idle (open_at t) && list_fits m.items)) (list-sound t m g e)) ∙ f) r)
      after e o by (one_by_one f idle fits z) =
          subst (λ (x : List Fed). Along p a (fs ++ x) (ss ++ told_by_list by_rules a t m) (leaving t o.whole.world)) (sym (when (is_taken t m) _ _ taken))
          (subst (λ (x : List Say). Along p a (fs ++ feeds a es) (ss ++ x) (leaving t o.whole.world)) (sym heard-of)
          (subst (λ (x : World). Along p a (fs ++ feeds a es) (ss ++ hears a es (map number_says each.numbers)) (leaving t x)) (l.world ∙ sym (ap (λ (x : ListOutcome). x.whole.world) z))
          (moved p a a.id (fs ++ feeds a es) (ss ++ hears a es (map number_says each.numbers)) l.to (leaving t l.to.world) l.along l.idle l.idle l.along.inv.low refl)))
        where
          page : page_size_sound m.settings.page ≡ true
          page = (passing-facts (bytes_in t) t.world m.settings.page f).page-sound

          each : ListOutcome
          each = release_each m.ns m.settings m.items.pending t.world m.items.addresses m.items.counts

          taken : is_taken t m ≡ true
          taken = ap₂ ◌&&◌ e (ap₂ ◌&&◌ (ap is_idle idle) fits)

          l : Led p a m.who m.ns m.settings m.items.pending page t.world fs ss m.items.addresses m.items.counts
          l = leads p a m.who m.ns m.settings m.items.pending page m.items.addresses m.items.counts t fs ss sized g idle
              (λ u. k.alone (ap is_none (when (is_taken t m) _ _ taken) ∙ u)) r

          heard-of : told_by_list by_rules a t m ≡ hears a es (map number_says each.numbers)
          heard-of =
              when (is_taken t m) _ _ taken
              ∙ ap (λ (x : ListOutcome). hears a es (said_of_list es x.whole.answer x.numbers)) (by ∙ z)
              ∙ ap (λ (x : Answer). hears a es (said_of_list es x each.numbers)) (each-granted m.ns m.settings m.items.pending t.world m.items.addresses m.items.counts)

      go : (b : Bool) → is_sound_list m ≡ b → Along p a (fs ++ fed_by_list a t m) (ss ++ told_by_list by_rules a t m) (follow_list t m)
      go true e =
          subst (Along p a (fs ++ fed_by_list a t m) (ss ++ told_by_list by_rules a t m)) (sym (when (is_sound_list m) _ _ e))
          (after e (list_of t m) (is e) (list-comes t.world m.ns m.settings m.items))
      go false e =
          subst (Along p a (fs ++ fed_by_list a t m) (ss ++ told_by_list by_rules a t m)) (sym (unless (is_sound_list m) _ _ e))
          (none-of-it (ap (λ (x : Bool). x && (is_idle (open_at t) && list_fits m.items)) e) r)

-- ---- joins, for each side

module _ (p : ℕ) (fs : List Fed) (ss : List Say) (t u : Trail) (m : MarkedJoin) where
  -- an arena of the first
  first-goes-on : (a : Place) → Good t → Good u → Along p a fs ss t → Along p a fs ss (follow_join of_first t u m)
  first-goes-on a g h r = go (both_sound m)
    where
      after : (o : JoinOutcome) → Comes (bytes_in t) t.world u.world o → Along p a fs ss (leaving t o.first)
      after o (both-stay e x y) = subst (λ (w : World). Along p a fs ss (leaving t w)) (sym x) r
      after o (one_table e is) =
          subst (λ (z : JoinOutcome). Along p a fs ss (leaving t z.first)) (sym is)
          (moved p a a.id fs ss t (leaving t (joined_world t.world u.world)) r e.first-idle refl (omega (arith, r.inv.low))
          (first-kept (bytes_in t) t.world u.world g.world h.world e a.id r.inv.low))

      go : (b : Bool) → Along p a fs ss (cond b (leaving t (join_of t u m).first) t)
      go true = after (join_of t u m) (join-of-comes t u m)
      go false = r

  -- one of the second, where the two become one table
  second-goes-over : (a : Place) → Good t → Good u → unites t u m ≡ true → Along p a fs ss u → Along p (risen (standing t) a) fs ss (follow_join of_first t u m)
  second-goes-over a g h e r =
      let both = and_both (both_sound m) (is_joined (join_of t u m).answer) e in
      subst (Along p (risen (standing t) a) fs ss) (sym (when (both_sound m) _ _ both.0)) (after (join_of t u m) (join-of-comes t u m) both.1)
    where
      after : (o : JoinOutcome) → Comes (bytes_in t) t.world u.world o → is_joined o.answer ≡ true → Along p (risen (standing t) a) fs ss (leaving t o.first)
      after o (both-stay x y z) f = absurd (true≢false (sym f ∙ x))
      after o (one_table x is) f =
          subst (λ (z : JoinOutcome). Along p (risen (standing t) a) fs ss (leaving t z.first)) (sym is)
          (moved p a (standing t + a.id) fs ss u (leaving t (joined_world t.world u.world)) r x.second-idle refl (omega (arith, r.inv.low))
          (second-moved (bytes_in t) t.world u.world g.world h.world x a.id r.inv.low))

  -- one of the second, where they do not
  second-goes-on : (a : Place) → unites t u m ≡ false → Along p a fs ss u → Along p a fs ss (follow_join of_second t u m)
  second-goes-on a e r = go (both_sound m) e
    where
      after : (o : JoinOutcome) → Comes (bytes_in t) t.world u.world o → is_joined o.answer ≡ false → Along p a fs ss (leaving u o.second)
      after o (both-stay x y z) f = subst (λ (w : World). Along p a fs ss (leaving u w)) (sym z) r
      after o (one_table x is) f = absurd (true≢false (sym (ap (λ (z : JoinOutcome). is_joined z.answer) is) ∙ f))

      go : (b : Bool) → b && is_joined (join_of t u m).answer ≡ false → Along p a fs ss (cond b (leaving u (join_of t u m).second) u)
      go true f = after (join_of t u m) (join-of-comes t u m) f
      go false f = r

-- the size of a place is that of the rules' chunks
pub place-size : (h : History) (w : Where h) → (place h w).size ≡ bytes_in (ruled h)
place-size begin w = absurd w
place-size (next h m) (inl o) = sym (size-follows (ruled h) m (good-ruled h))
place-size (next h m) (inr w) = place-size h w ∙ sym (size-follows (ruled h) m (good-ruled h))
place-size (listing h m) w = place-size h w ∙ same_size (ruled (listing h m)) (ruled h)
place-size (joining of_first h g m) (inl w) = place-size h w ∙ same_size (ruled (joining of_first h g m)) (ruled h)
place-size (joining of_first h g m) (inr w) = place-size g w.0 ∙ same_size (ruled (joining of_first h g m)) (ruled g)
place-size (joining of_second h g m) w = place-size g w.0 ∙ same_size (ruled (joining of_second h g m)) (ruled g)

pub along : (p : ℕ) (h : History) (w : Where h) → Lent by_rules h → Keeps p h w → Along p (place h w) (fed h w) (told by_rules h w) (ruled h)
along p begin w l k = absurd w
along p (next h m) (inl o) l k = let x = opening p (ruled h) m (good-ruled h) o in record { inv = x.inv; book = x.book; says = sym x.owes }
along p (next h m) (inr w) l k =
    go_on p (place h w) (fed h w) (fed_by (place h w) m) (told by_rules h w) (told_by by_rules (place h w) (ruled h) m) (ruled h) (follow (ruled h) m) (along p h w l.0 k.0)
    (one p (place h w) (ruled h) (place-size h w) m by_rules (good-ruled h) (along p h w l.0 k.0).inv k.1 (answers-ruled h m l))
along p (listing h m) w l k =
    list-goes-on p (place h w) (fed h w) (told by_rules h w) (ruled h) m (place-size h w) (good-ruled h) k.1 (lists-ruled h m l) (along p h w l.0 k.0)
along p (joining of_first h g m) (inl w) l k =
    first-goes-on p (fed h w) (told by_rules h w) (ruled h) (ruled g) m (place h w) (good-ruled h) (good-ruled g) (along p h w l.0 k)
along p (joining of_first h g m) (inr w) l k =
    second-goes-over p (fed g w.0) (told by_rules g w.0) (ruled h) (ruled g) m (place g w.0) (good-ruled h) (good-ruled g) w.1 (along p g w.0 l.1 k)
along p (joining of_second h g m) w l k =
    second-goes-on p (fed g w.0) (told by_rules g w.0) (ruled h) (ruled g) m (place g w.0) w.1 (along p g w.0 l.1 k)

-- ---- BY THE BOOK

pub by-the-book : ByTheBook by_rules
by-the-book p h w l k =
    let r = along p h w l k in (
      owed_at (place h w).size p (place h w).id (place h w).base (place h w).chunks (ruled h).world.records (open_at (ruled h)),
      sym r.says,
      waits-owed (place h w) (bytes_in (ruled h)) (ruled h).world.records r.inv.stays.exclusive (open_at (ruled h)) (ruled h).asked (good-ruled h).asked,
    )
