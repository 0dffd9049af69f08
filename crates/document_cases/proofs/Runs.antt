-- Histories worked through call by call: what the rules and a layer leave is written out after each call, so that each call is computed by itself. Assumes nothing.
use Rattle.std.specs.Prelude.{◌≡◌, ◌&&◌, ◌++◌, ◌+◌, ◌*◌, ◌<◌, ◌≤◌, ◌∷◌}
use Rattle.layer.proofs.Prelude.{refl, sym, ap, ap₂, ◌∙◌, subst, Bool, true, false, cond, true≢false, List, [], inl, inr, ℕ, when, unless, World, Outcome, JoinOutcome, empty, step, Fed, Say, say_all, Marked, MarkedJoin, Side, of_first, of_second, History, begin, next, joining, is_sound, both_sound, Layer, outcome_by, join_by, is_broken, is_broken_join, side_of, left, Lent, Trail, open_at, is_idle, follow, start, join_of, leaving, follow_join, ruled, is_joined, unites, entries, said, goes_on, tells, Place, in_range, is_none, feeds, hears, fed_by, told_by, waits, standing, OpensAt, risen, Where, place, fed, told, is_answer, declines, Premises, Keeps, book_of, claimant, chunks_of, Demand3, ListOutcome, release_list, list_fits, MarkedList, ListPremises, listing, list_by, list_of, is_sound_list, is_taken, follow_list, fed_by_list, told_by_list, entries_of_list, said_of_list, not, outcome, sound, Items, list_outcome, item_number, release_each, release_item}
use Rattle.layer.specs.declared.Settings.{Settings}
use Rattle.layer.specs.declared.Question.TheVariants.{Idle}
use Rattle.layer.specs.declared.Answer.{Answer}
use Rattle.layer.specs.declared.Answer.TheVariants.{Claimed, Released}
use Rattle.layer.specs.World.{size_of}
use Rattle.layer.specs.History.{bytes_in}
use Rattle.layer.specs.Demand.{AllBut}

-- the rules' calls and lists, and some way to join
abbrev pub Joining : Type 0
Joining = World → World → ℕ → Settings → JoinOutcome

abbrev pub joins_by : Joining → Layer
joins_by J = record { does = step; lists = release_list; joins = J }

module _ (L : Layer) where
  -- what the layer leaves after m, where x stood
  abbrev pub leaves : World → Marked → World
  leaves x m = cond (is_broken (outcome_by L m).answer) x (outcome_by L m).world

  -- before the book opens: the rules' own run stands at t, and the layer left x
  pub record Before (h : History) (t : Trail) (x : World) : Type 0 where
    pub ruled-is : ruled h ≡ t
    pub left_is : left L h ≡ x
    pub lent : Lent L h

  pub at-start : Before begin start empty
  at-start = record { ruled-is = refl; left_is = refl; lent = tt }

  pub before-next : (h : History) (t : Trail) (x : World) → Before h t x → (m : Marked) (u : Trail) (y : World)
      → (is_broken (outcome_by L m).answer ≡ false → m.lent ≡ x) → follow t m ≡ u → leaves x m ≡ y → Before (next h m) u y
  before-next h t x b m u y lent goes stays = record {
    ruled-is = ap (λ (s : Trail). follow s m) b.ruled-is ∙ goes;
    left_is = ap (λ (z : World). leaves z m) b.left_is ∙ stays;
    lent = (b.lent, λ e. lent e ∙ sym b.left_is);
  }

  -- after that, for program p and the arena a: what was fed and told is written out too
  pub record After (p : ℕ) (a : Place) (h : History) (t : Trail) (x : World) (fs : List Fed) (ss : List Say) : Type 0 where
    pub stands : Before h t x
    pub opens : Where h
    pub place_is : place h opens ≡ a
    pub keeps : Keeps p h opens
    pub fed-is : fed h opens ≡ fs
    pub told_is : told L h opens ≡ ss

  -- the book opens
  pub after_open : (p : ℕ) (h : History) (t : Trail) (x : World) → Before h t x → (m : Marked) (u : Trail) (y : World) (o : OpensAt t m)
      → (is_broken (outcome_by L m).answer ≡ false → m.lent ≡ x) → follow t m ≡ u → leaves x m ≡ y
      → After p (record { id = standing t; size = bytes_in t; base = o.base; chunks = o.chunks; managed = o.managed }) (next h m) u y [] []
  after_open p h t x b m u y o lent goes stays = record {
    stands = before-next h t x b m u y lent goes stays;
    opens = inl (subst (λ (s : Trail). OpensAt s m) (sym b.ruled-is) o);
    place_is = go (ruled h) b.ruled-is;
    keeps = tt;
    fed-is = refl;
    told_is = refl;
  }
    where
      go : (s : Trail) (e : s ≡ t) → ◌≡◌ {A = Place}
          (record {
            id = standing s;
            size = bytes_in s;
            base = (subst (λ (r : Trail). OpensAt r m) (sym e) o).base;
            chunks = (subst (λ (r : Trail). OpensAt r m) (sym e) o).chunks;
            managed = (subst (λ (r : Trail). OpensAt r m) (sym e) o).managed;
          })
          (record { id = standing t; size = bytes_in t; base = o.base; chunks = o.chunks; managed = o.managed })
      go s e = λ i. record { id = standing (e i); size = bytes_in (e i); base = o.base; chunks = o.chunks; managed = o.managed }

  pub after_next : (p : ℕ) (a : Place) (h : History) (t : Trail) (x : World) (fs : List Fed) (ss : List Say) → After p a h t x fs ss → (m : Marked) (u : Trail) (y : World) (gs : List Fed) (rs : List Say)
      → (is_broken (outcome_by L m).answer ≡ false → m.lent ≡ x) → follow t m ≡ u → leaves x m ≡ y → Premises p a t m → fed_by a m ≡ gs → told_by L a t m ≡ rs
      → After p a (next h m) u y (fs ++ gs) (ss ++ rs)
  after_next p a h t x fs ss r m u y gs rs lent goes stays k f s =
      let there : place h r.opens ≡ a = r.place_is in
      record {
        stands = before-next h t x r.stands m u y lent goes stays;
        opens = inr r.opens;
        place_is = there;
        keeps = (r.keeps, subst (λ (b : Place). Premises p b (ruled h) m) (sym there) (subst (λ (s : Trail). Premises p a s m) (sym r.stands.ruled-is) k));
        fed-is = ap₂ (λ (x : List Fed) (b : Place). x ++ fed_by b m) r.fed-is there ∙ ap (λ (x : List Fed). fs ++ x) f;
        told_is = ap₂ (λ (x : List Say) (b : Place). x ++ told_by L b (ruled h) m) r.told_is there
            ∙ ap (λ (q : Trail). ss ++ told_by L a q m) r.stands.ruled-is
            ∙ ap (λ (x : List Say). ss ++ x) s;
      }

  -- ---- a call that row 1 lets pass: o is what the rules make of it, o' what the layer does

  abbrev pub gone : Trail → Marked → Outcome → Trail
  gone t m o = record { world = o.world; asker = cond (is_idle (open_at t)) m.who t.asker; asked = cond (is_idle (open_at t)) m.call t.asked }

  pub record Made (t : Trail) (m : Marked) (o o' : Outcome) : Type 0 where
    pub sound : is_sound m ≡ true
    pub by-rules : step t.world m.ns m.settings m.call ≡ o
    pub by-layer : outcome_by L m ≡ o'
    pub passed : is_broken o'.answer ≡ false

  goes : (t : Trail) (m : Marked) (o o' : Outcome) → Made t m o o' → follow t m ≡ gone t m o
  goes t m o o' k = when (is_sound m) _ _ k.sound ∙ ap (gone t m) k.by-rules

  stays : (x : World) (t : Trail) (m : Marked) (o o' : Outcome) → Made t m o o' → leaves x m ≡ o'.world
  stays x t m o o' k = ap (λ (z : Outcome). cond (is_broken z.answer) x z.world) k.by-layer ∙ unless (is_broken o'.answer) _ _ k.passed

  pub before-made : (h : History) (t : Trail) (x : World) → Before h t x → (m : Marked) (o o' : Outcome) → Made t m o o' → m.lent ≡ x → Before (next h m) (gone t m o) o'.world
  before-made h t x b m o o' k lent = before-next h t x b m (gone t m o) o'.world (λ e. lent) (goes t m o o' k) (stays x t m o o' k)

  pub open_made : (p : ℕ) (h : History) (t : Trail) (x : World) → Before h t x → (m : Marked) (o o' : Outcome) (d : OpensAt t m) → Made t m o o' → m.lent ≡ x
      → After p (record { id = standing t; size = bytes_in t; base = d.base; chunks = d.chunks; managed = d.managed }) (next h m) (gone t m o) o'.world [] []
  open_made p h t x b m o o' d k lent = after_open p h t x b m (gone t m o) o'.world d (λ e. lent) (goes t m o o' k) (stays x t m o o' k)

  pub after-made : (p : ℕ) (a : Place) (h : History) (t : Trail) (x : World) (fs : List Fed) (ss : List Say) → After p a h t x fs ss → (m : Marked) (o o' : Outcome) (gs : List Fed) (rs : List Say)
      → Made t m o o' → m.lent ≡ x → (is_sound m ≡ true → Premises p a t m) → feeds a (entries m.call) ≡ gs → cond (tells t m.call) (hears a (entries (goes_on t m.call)) (said o'.answer)) [] ≡ rs
      → After p a (next h m) (gone t m o) o'.world (fs ++ gs) (ss ++ rs)
  after-made p a h t x fs ss r m o o' gs rs k lent keeps f s =
      after_next p a h t x fs ss r m (gone t m o) o'.world gs rs (λ e. lent) (goes t m o o' k) (stays x t m o o' k) (keeps k.sound) (when (is_sound m) _ _ k.sound ∙ f)
      (ap₂ (λ (b : Bool) (z : Outcome). cond (b && tells t m.call) (hears a (entries (goes_on t m.call)) (said z.answer)) []) k.sound k.by-layer ∙ s)

  -- a call that row 1, and the layer, turn down
  pub after-broken : (p : ℕ) (a : Place) (h : History) (t : Trail) (x : World) (fs : List Fed) (ss : List Say) → After p a h t x fs ss → (m : Marked) → is_sound m ≡ false → is_broken (outcome_by L m).answer ≡ true
      → Premises p a t m → After p a (next h m) t x (fs ++ []) (ss ++ [])
  after-broken p a h t x fs ss r m s b k =
      after_next p a h t x fs ss r m t x [] [] (λ e. absurd (true≢false (sym b ∙ e))) (unless (is_sound m) _ _ s) (when (is_broken (outcome_by L m).answer) _ _ b) k (unless (is_sound m) _ _ s)
      (ap (λ (c : Bool). cond (c && tells t m.call) (hears a (entries (goes_on t m.call)) (said (outcome_by L m).answer)) []) s)

  -- ---- a list that row 1 lets pass: o is what the rules make of it, o' what the layer does; taken says whether rows 2 and 19 let it pass

  pub record MadeList (t : Trail) (m : MarkedList) (o o' : ListOutcome) (taken : Bool) : Type 0 where
    pub sound : is_sound_list m ≡ true
    pub by-rules : list_of t m ≡ o
    pub by-layer : list_by L m ≡ o'
    pub passed : is_broken o'.whole.answer ≡ false
    pub takes : (is_idle (open_at t) && list_fits m.items) ≡ taken

  pub after_list : (p : ℕ) (a : Place) (h : History) (t : Trail) (x : World) (fs : List Fed) (ss : List Say) → After p a h t x fs ss → (m : MarkedList) (o o' : ListOutcome) (taken : Bool) (gs : List Fed) (rs : List Say)
      → MadeList t m o o' taken → m.lent ≡ x → ListPremises p a t m → cond taken (feeds a (entries_of_list m)) [] ≡ gs
      → cond taken (hears a (entries_of_list m) (said_of_list (entries_of_list m) o'.whole.answer o'.numbers)) [] ≡ rs
      → After p a (listing h m) (leaving t o.whole.world) o'.whole.world (fs ++ gs) (ss ++ rs)
  after_list p a h t x fs ss r m o o' taken gs rs k lent keeps f s =
      let there : place h r.opens ≡ a = r.place_is in
      let goes : ruled h ≡ t = r.stands.ruled-is in
      let takes : is_taken t m ≡ taken = ap₂ ◌&&◌ k.sound k.takes in
      record {
        stands = record {
          ruled-is = ap (λ (q : Trail). follow_list q m) goes ∙ when (is_sound_list m) _ _ k.sound ∙ ap (λ (z : ListOutcome). leaving t z.whole.world) k.by-rules;
          left_is = ap (λ (z : ListOutcome). cond (is_broken z.whole.answer) (left L h) z.whole.world) k.by-layer ∙ unless (is_broken o'.whole.answer) _ _ k.passed;
          lent = (r.stands.lent, λ e. lent ∙ sym r.stands.left_is);
        };
        opens = r.opens;
        place_is = there;
        keeps = (r.keeps, subst (λ (b : Place). ListPremises p b (ruled h) m) (sym there) (subst (λ (q : Trail). ListPremises p a q m) (sym goes) keeps));
        fed-is = ap₂ (λ (y : List Fed) (b : Place). y ++ fed_by_list b (ruled h) m) r.fed-is there
            ∙ ap (λ (q : Trail). fs ++ fed_by_list a q m) goes
            ∙ ap (λ (b : Bool). fs ++ cond b (feeds a (entries_of_list m)) []) takes
            ∙ ap (λ (y : List Fed). fs ++ y) f;
        told_is = ap₂ (λ (y : List Say) (b : Place). y ++ told_by_list L b (ruled h) m) r.told_is there
            ∙ ap (λ (q : Trail). ss ++ told_by_list L a q m) goes
            ∙ ap₂ (λ (b : Bool) (z : ListOutcome). ss ++ cond b (hears a (entries_of_list m) (said_of_list (entries_of_list m) z.whole.answer z.numbers)) []) takes k.by-layer
            ∙ ap (λ (y : List Say). ss ++ y) s;
      }

  -- ---- a join that row 1 lets pass on both sides: o is what the rules make of it, o' what the layer does

  pub record MadeJoin (t u : Trail) (m : MarkedJoin) (o o' : JoinOutcome) : Type 0 where
    pub sound : both_sound m ≡ true
    pub by-rules : join_of t u m ≡ o
    pub by-layer : join_by L m ≡ o'
    pub passed : is_broken_join o'.answer ≡ false

  pub before-join : (side : Side) (h g : History) (t u : Trail) (x y : World) → Before h t x → Before g u y → (m : MarkedJoin) (o o' : JoinOutcome) → MadeJoin t u m o o' → m.first ≡ x → m.second ≡ y
      → Before (joining side h g m) (side_of side (leaving t o.first) (leaving u o.second)) (side_of side o'.first o'.second)
  before-join side h g t u x y b c m o o' k first second = record {
    ruled-is = ap₂ (λ (s q : Trail). follow_join side s q m) b.ruled-is c.ruled-is
        ∙ when (both_sound m) _ _ k.sound
        ∙ ap (λ (z : JoinOutcome). side_of side (leaving t z.first) (leaving u z.second)) k.by-rules;
    left_is = ap (λ (z : JoinOutcome). cond (is_broken_join z.answer) (side_of side (left L h) (left L g)) (side_of side z.first z.second)) k.by-layer
        ∙ unless (is_broken_join o'.answer) _ _ k.passed;
    lent = (b.lent, c.lent, λ e. (first ∙ sym b.left_is, second ∙ sym c.left_is));
  }

  -- whether the rules make one table of the two
  unites-is : (h g : History) (t u : Trail) (x y : World) → Before h t x → Before g u y → (m : MarkedJoin) (o o' : JoinOutcome) → MadeJoin t u m o o' → unites (ruled h) (ruled g) m ≡ is_joined o.answer
  unites-is h g t u x y b c m o o' k =
      ap₂ (λ (s q : Trail). unites s q m) b.ruled-is c.ruled-is ∙ ap₂ (λ (z : Bool) (r : JoinOutcome). z && is_joined r.answer) k.sound k.by-rules

  -- an arena of the second has its new id then
  pub after-join : (p : ℕ) (a : Place) (h g : History) (t u : Trail) (x y : World) (fs : List Fed) (ss : List Say) → Before h t x → After p a g u y fs ss → (m : MarkedJoin) (o o' : JoinOutcome)
      → MadeJoin t u m o o' → m.first ≡ x → m.second ≡ y → is_joined o.answer ≡ true → After p (risen (standing t) a) (joining of_first h g m) (leaving t o.first) o'.first fs ss
  after-join p a h g t u x y fs ss b r m o o' k first second e = record {
    stands = before-join of_first h g t u x y b r.stands m o o' k first second;
    opens = inr (r.opens, unites-is h g t u x y b r.stands m o o' k ∙ e);
    place_is = ap₂ (λ (s : Trail) (d : Place). risen (standing s) d) b.ruled-is r.place_is;
    keeps = r.keeps;
    fed-is = r.fed-is;
    told_is = r.told_is;
  }

  -- an arena of the second that the rules leave there
  pub after-refusal : (p : ℕ) (a : Place) (h g : History) (t u : Trail) (x y : World) (fs : List Fed) (ss : List Say) → Before h t x → After p a g u y fs ss → (m : MarkedJoin) (o o' : JoinOutcome)
      → MadeJoin t u m o o' → m.first ≡ x → m.second ≡ y → is_joined o.answer ≡ false → After p a (joining of_second h g m) (leaving u o.second) o'.second fs ss
  after-refusal p a h g t u x y fs ss b r m o o' k first second e = record {
    stands = before-join of_second h g t u x y b r.stands m o o' k first second;
    opens = (r.opens, unites-is h g t u x y b r.stands m o o' k ∙ e);
    place_is = r.place_is;
    keeps = r.keeps;
    fed-is = r.fed-is;
    told_is = r.told_is;
  }

  -- ---- demand 3 of it

  -- what the book of the arena says of what was fed is told, but for what waits
  pub by-book : (p : ℕ) (a : Place) (h : History) (t : Trail) (x : World) (fs : List Fed) (ss : List Say) → After p a h t x fs ss → Demand3 L → AllBut (waits a t) ss (say_all (book_of a) fs)
  by-book p a h t x fs ss r d =
      subst (λ (z : Trail). AllBut (waits a z) ss (say_all (book_of a) fs)) r.stands.ruled-is
      (subst (λ (b : Place). AllBut (waits b (ruled h)) ss (say_all (book_of b) fs)) r.place_is
      (subst (λ (z : List Say). AllBut (waits (place h r.opens) (ruled h)) z (say_all (book_of (place h r.opens)) fs)) r.told_is
      (subst (λ (z : List Fed). AllBut (waits (place h r.opens) (ruled h)) (told L h r.opens) (say_all (book_of (place h r.opens)) z)) r.fed-is
      (d.by-the-book p h r.opens r.stands.lent r.keeps))))

  -- no address of what is granted to another lies in the arena
  pub elsewhere-at : (p : ℕ) (a : Place) (h : History) (t : Trail) (x : World) (fs : List Fed) (ss : List Say) → After p a h t x fs ss → (m : Marked) (o o' : Outcome)
      → Made t m o o' → m.lent ≡ x → Premises p a t m → Demand3 L → (claimant t m ≡ p → ⊥) → (z : ℕ) (fresh committed : Bool) → o'.answer ≡ Claimed z fresh committed
      → (y : ℕ) → z ≤ y → y < z + chunks_of (goes_on t m.call) * a.size → in_range a y ≡ false
  elsewhere-at p a h t x fs ss r m o o' k lent keeps d other z fresh committed e y lo hi =
      let there : place h r.opens ≡ a = r.place_is in
      let goes : ruled h ≡ t = r.stands.ruled-is in
      subst (λ (b : Place). in_range b y ≡ false) there
      (d.others-elsewhere p h m r.opens (r.stands.lent, λ f. lent ∙ sym r.stands.left_is)
      (r.keeps, subst (λ (b : Place). Premises p b (ruled h) m) (sym there) (subst (λ (q : Trail). Premises p a q m) (sym goes) keeps))
      (λ f. other (ap (λ (q : Trail). claimant q m) (sym goes) ∙ f)) z fresh committed (ap (λ (q : Outcome). q.answer) k.by-layer ∙ e) y lo
      (subst (λ (n : ℕ). y < z + n) (ap₂ (λ (q : Trail) (b : Place). chunks_of (goes_on q m.call) * b.size) (sym goes) (sym there)) hi))

-- ---- a list, item after item: each is computed by itself, on the table that the item before it leaves

module _ (ns : ℕ) (settings : Settings) where
  pub then-items : (pending : Bool) (w : World) (x n : ℕ) (a : Answer) (u : World) (xs counts : List ℕ) (v : World) (numbers : List ℕ)
      → release_item ns settings pending w x n ≡ outcome a u → release_each ns settings pending u xs counts ≡ list_outcome (outcome Released v) numbers
      → release_each ns settings pending w (x ∷ xs) (n ∷ counts) ≡ list_outcome (outcome Released v) (item_number a ∷ numbers)
  then-items pending w x n a u xs counts v numbers e f =
      ap (λ (o : Outcome). let rest = release_each ns settings pending o.world xs counts in list_outcome rest.whole (item_number o.answer ∷ rest.numbers)) e
      ∙ ap (λ (r : ListOutcome). list_outcome r.whole (item_number a ∷ r.numbers)) f

  pub past-rows : (w : World) (t : Items) (v : World) (numbers : List ℕ) → sound (size_of w.state) w settings.page ≡ true → is_idle w.state.question ≡ true → list_fits t ≡ true
      → release_each ns settings t.pending w t.addresses t.counts ≡ list_outcome (outcome Released v) numbers → release_list w ns settings t ≡ list_outcome (outcome Released v) numbers
  unfolding release_list
  past-rows w t v numbers e f g r = unless _ _ _ (ap not e) ∙ unless _ _ _ (ap not f) ∙ unless _ _ _ (ap not g) ∙ r

-- ---- the premises at one list

module _ (p : ℕ) (a : Place) (t : Trail) (m : MarkedList) where
  -- of the program's own, where no question is open
  pub own-list : m.who ≡ p → open_at t ≡ Idle → is_sound_list m ≡ true → ListPremises p a t m
  own-list mine q s = record { alone = λ e. mine; sound-lent = λ e. s; none_open = λ e. q }

  -- of another's, of which nothing is fed
  pub others-list : (m.who ≡ p → ⊥) → is_none (fed_by_list a t m) ≡ true → ListPremises p a t m
  others-list other none = record { alone = λ e. absurd (true≢false (sym none ∙ e)); sound-lent = λ e. absurd (other e); none_open = λ e. absurd (other e) }

-- ---- the premises at one call

module _ (p : ℕ) (a : Place) (t : Trail) (m : Marked) where
  -- of the program's own, where no question is open
  pub own-call : m.who ≡ p → open_at t ≡ Idle → declines (open_at t) m.call ≡ false → is_sound m ≡ true → Premises p a t m
  own-call mine q d s = record { alone = λ e. mine; sound-lent = λ e. s; none_open = λ e f. q; agreed = λ e f. d }

  -- of the program's own answer
  pub own-answer : m.who ≡ p → is_answer m.call ≡ true → declines (open_at t) m.call ≡ false → is_sound m ≡ true → Premises p a t m
  own-answer mine q d s = record { alone = λ e. mine; sound-lent = λ e. s; none_open = λ e f. absurd (true≢false (sym q ∙ f)); agreed = λ e f. d }

  -- of another's, which feeds nothing
  pub others-call : (m.who ≡ p → ⊥) → is_none (feeds a (entries m.call)) ≡ true → declines (open_at t) m.call ≡ false → is_sound m ≡ true → Premises p a t m
  others-call other none d s =
      record { alone = λ e. absurd (true≢false (sym (ap is_none (when (is_sound m) _ _ s) ∙ none) ∙ e)); sound-lent = λ e. absurd (other e); none_open = λ e f. absurd (other e); agreed = λ e f. d }

  -- of another's that row 1 turns down
  pub broken-call : (m.who ≡ p → ⊥) → is_sound m ≡ false → Premises p a t m
  broken-call other s =
      record { alone = λ e. absurd (true≢false (sym (ap is_none (unless (is_sound m) _ _ s)) ∙ e)); sound-lent = λ e. absurd (other e); none_open = λ e f. absurd (other e); agreed = λ e f. absurd (true≢false (sym f ∙ s)) }
