-- What follows, in the order's words; and demand 3 as a whole. All but that no other's claim is granted a chunk there follow from what the book says, whatever the layer.
-- Assumes nothing.
use Rattle.std.specs.Prelude.{◌≡◌, ◌&&◌, ◌||◌, ◌∷◌, ◌++◌, ◌⊎◌, ◌↔◌, ◌+◌, ◌-◌, ◌*◌, ◌/◌, ◌%◌, ◌<◌}
use Rattle.layer.proofs.Prelude.{refl, sym, ap, ap₂, ◌∙◌, subst, Bool, false, not, List, [], append_assoc, inl, inr, ℕ, suc, mul-div_cancel, arith, ne_eqb, leb, eqb, length, within, by_cond, unless, Option, Some, None, Starts, Lowest, all, lowest_run, lowest-says, Book, lowest, Fed, claims, releases, Say, refused, granted, Turn, turn, unheld, claimed, enter, enter_all, say_all, History, Layer, Lent, Place, Where, ruled, place, fed, told, Keeps, book_of, ByTheBook}
use Rattle.layer.specs.Demand.{held_from, left_unheld, Claims, GrantedExactly, GrantedLowest, Begins, Alike}
use Rattle.layer.proofs.ChunkLaws.{size_fits}
use Rattle.layer.proofs.Demand.{say-append, place-size}

-- ---- what the program's calls and what it was told leave held is what the book holds

module _ (a : Place) (some : 0 < a.size) where
  spot : (s : ℕ) → (a.base + s * a.size - a.base) / a.size ≡ s
  spot s = ap (λ (x : ℕ). x / a.size) (let z : a.base + s * a.size - a.base ≡ s * a.size = omega arith in z) ∙ mul-div_cancel s some

  -- a book of the place
  record Of (b : Book) : Type 0 where
    size : b.size ≡ a.size
    base : b.base ≡ a.base
    chunks : b.chunks ≡ a.chunks

  record Entered (b : Book) (f : Fed) (t : Turn) : Type 0 where
    of : Of t.book
    held : (fs : List Fed) (ss : List Say) → held_from a b.held (f ∷ fs) (t.say ∷ ss) ≡ held_from a t.book.held fs ss

  entered : (b : Book) → Of b → (f : Fed) → Entered b f (enter b f)
  unfolding enter
  entered b o (claims lowest n) = by_cond (Entered b (claims lowest n)) (eqb n 0) _ _ (λ e. record { of = o; held = λ fs ss. refl }) (λ e. go (lowest_run (unheld b) b.chunks n))
    where
      go : (r : Option ℕ) → Entered b (claims lowest n) (claimed b n r)
      go None = record { of = o; held = λ fs ss. refl }
      go (Some s) = record {
        of = record { size = o.size; base = o.base; chunks = o.chunks };
        held = λ fs ss. ap (λ (i : ℕ). held_from a (λ j. within i n j || b.held j) fs ss) (ap₂ (λ (x y : ℕ). (x + s * y - a.base) / a.size) o.base o.size ∙ spot s);
      }
  entered b o (releases x n) =
      by_cond (Entered b (releases x n)) (eqb n 0) _ _ (λ e. record { of = o; held = λ fs ss. refl })
      (λ e. by_cond (Entered b (releases x n)) (eqb ((x - b.base) % b.size) 0) _ _
      (λ f. by_cond (Entered b (releases x n)) (leb ((x - b.base) / b.size + n) b.chunks) _ _
      (λ g. record {
        of = record { size = o.size; base = o.base; chunks = o.chunks };
        held = λ fs ss. ap₂ (λ (y z : ℕ). held_from a (λ j. not (within ((x - y) / z) n j) && b.held j) fs ss) (sym o.base) (sym o.size);
      })
      (λ g. record { of = o; held = λ fs ss. refl }))
      (λ f. record { of = o; held = λ fs ss. refl }))

  record After (b c : Book) (fs : List Fed) (ss : List Say) : Type 0 where
    of : Of c
    held : held_from a b.held fs ss ≡ c.held

  after-all : (b : Book) → Of b → (fs : List Fed) → After b (enter_all b fs) fs (say_all b fs)
  after-all b o [] = record { of = o; held = refl }
  after-all b o (f ∷ fs) =
      let e = entered b o f in
      let r = after-all (enter b f).book e.of fs in
      record { of = r.of; held = e.held fs (say_all (enter b f).book fs) ∙ r.held }

-- ---- lists

-- two lists that begin alike in as many
length-say : (b : Book) (fs : List Fed) → length (say_all b fs) ≡ length fs
length-say b [] = refl
length-say b (f ∷ fs) = ap suc (length-say (enter b f).book fs)

-- what stands at a place of one list that two ways make
same_place : (x x' : List Say) (s s' : Say) (y y' : List Say) → x ++ s ∷ y ≡ x' ++ s' ∷ y' → length x ≡ length x' → (x ≡ x') × (s ≡ s')
same_place [] [] s s' y y' e l = (refl, (let z : s ≡ s' = cc in z))
same_place [] (c ∷ x') s s' y y' e l = absurd (omega (arith, l))
same_place (c ∷ x) [] s s' y y' e l = absurd (omega (arith, l))
same_place (c ∷ x) (c' ∷ x') s s' y y' e l =
    let h : c ≡ c' = cc in
    let tail : x ++ s ∷ y ≡ x' ++ s' ∷ y' = cc in
    let r = same_place x x' s s' y y' tail (omega (arith, l)) in
    (ap₂ (λ (u : Say) (v : List Say). u ∷ v) h r.0, r.1)

-- of two beginnings of one list one is the beginning of the other
begin-same : (x y u v : List Say) → x ++ u ≡ y ++ v → Begins x y ⊎ Begins y x
begin-same [] y u v e = inl (y, refl)
begin-same (c ∷ x) [] u v e = inr (c ∷ x, refl)
begin-same (c ∷ x) (d ∷ y) u v e =
    let h : c ≡ d = cc in
    let tail : x ++ u ≡ y ++ v = cc in
    go h (begin-same x y u v tail)
  where
    go : c ≡ d → Begins x y ⊎ Begins y x → Begins (c ∷ x) (d ∷ y) ⊎ Begins (d ∷ y) (c ∷ x)
    go h (inl r) = inl (r.0, ap₂ (λ (p : Say) (q : List Say). p ∷ q) h r.1)
    go h (inr r) = inr (r.0, ap₂ (λ (p : Say) (q : List Say). p ∷ q) (sym h) r.1)

-- ---- what one claim is told

module _ (L : Layer) (keeps : ByTheBook L) (p : ℕ) (h : History) (w : Where h) (l : Lent L h) (k : Keeps p h w) (c : Claims (place h w) (fed h w) (told L h w)) where
  abbrev a : Place
  a = place h w

  some_size : 0 < a.size
  some_size = subst (λ (x : ℕ). 0 < x) (sym (place-size h w)) (size_fits (ruled h).world.state).0

  -- the book before it
  abbrev book : Book
  book = enter_all (book_of a) c.fs

  before : After a some_size (book_of a) book c.fs (say_all (book_of a) c.fs)
  before = after-all a some_size (book_of a) (record { size = refl; base = refl; chunks = refl }) c.fs

  told-there : (c.ss ≡ say_all (book_of a) c.fs) × (c.say ≡ (enter book (claims lowest c.n)).say)
  told-there =
      let r = keeps p h w l k in
      same_place c.ss (say_all (book_of a) c.fs) c.say (enter book (claims lowest c.n)).say (c.more ++ r.0) (say_all (enter book (claims lowest c.n)).book c.later)
      (sym (append_assoc c.ss (c.say ∷ c.more) r.0) ∙ ap (λ (x : List Say). x ++ r.0) (sym c.is-told) ∙ r.1 ∙ ap (say_all (book_of a)) c.is-claim ∙ say-append (book_of a) c.fs (claims lowest c.n ∷ c.later))
      (sym c.beside ∙ sym (length-say (book_of a) c.fs))

  abbrev free : ℕ → Bool
  free = left_unheld a c.fs c.ss

  free-is : free ≡ unheld book
  free-is = ap {B = ℕ → Bool} (λ (x : ℕ → Bool). λ j. not (x j)) (ap (held_from a (λ i. false) c.fs) told-there.0 ∙ before.held)

  enters : enter book (claims lowest c.n) ≡ claimed book c.n (lowest_run (unheld book) book.chunks c.n)
  unfolding enter
  enters = unless (eqb c.n 0) (turn (refused 4) book) _ (ne_eqb c.n 0 (λ e. omega (arith, c.some)))

  told-book : c.say ≡ (claimed book c.n (lowest_run free a.chunks c.n)).say
  told-book =
      told-there.1
      ∙ ap (λ (t : Turn). t.say) enters
      ∙ ap (λ (f : Option ℕ). (claimed book c.n f).say) (ap₂ (λ (x : ℕ → Bool) (y : ℕ). lowest_run x y c.n) (sym free-is) before.of.chunks)

  exactly : ((x : ℕ) × (fresh : Bool) × (c.say ≡ granted x fresh)) ↔ ((s : ℕ) × Starts free a.chunks c.n s)
  exactly = go (lowest_run free a.chunks c.n) (lowest-says free a.chunks c.n) told-book
    where
      go : (f : Option ℕ) → Lowest free a.chunks c.n f → c.say ≡ (claimed book c.n f).say → ((x : ℕ) × (fresh : Bool) × (c.say ≡ granted x fresh)) ↔ ((s : ℕ) × Starts free a.chunks c.n s)
      go (Some s) low e = ((λ _. (s, low.0)), (λ _. (book.base + s * book.size, all (λ j. not (book.touched j)) s c.n, e)))
      go None low e = (
        (λ x. absurd (let u : refused 10 ≡ granted x.0 x.1 = sym e ∙ x.2 in let z : ◌≡◌ {A = ℕ} 0 1 = cc in omega arith)),
        (λ y. absurd (low y.0 y.1)),
      )

  lowest-run : (x : ℕ) (fresh : Bool) → c.say ≡ granted x fresh → (s : ℕ) × (x ≡ a.base + s * a.size) × Lowest free a.chunks c.n (Some s)
  lowest-run x fresh is = go (lowest_run free a.chunks c.n) (lowest-says free a.chunks c.n) told-book
    where
      go : (f : Option ℕ) → Lowest free a.chunks c.n f → c.say ≡ (claimed book c.n f).say → (s : ℕ) × (x ≡ a.base + s * a.size) × Lowest free a.chunks c.n (Some s)
      go (Some s) low e =
          let u : granted (book.base + s * book.size) (all (λ j. not (book.touched j)) s c.n) ≡ granted x fresh = sym e ∙ is in
          let v : book.base + s * book.size ≡ x = cc in
          (s, sym v ∙ ap₂ (λ (y z : ℕ). y + s * z) before.of.base before.of.size, low)
      go None low e = absurd (let u : refused 10 ≡ granted x fresh = sym e ∙ is in let z : ◌≡◌ {A = ℕ} 0 1 = cc in omega arith)

-- ---- the statements

module _ (L : Layer) (keeps : ByTheBook L) where
  pub granted-exactly : GrantedExactly L
  granted-exactly p h w l k c = exactly L keeps p h w l k c

  pub granted-lowest : GrantedLowest L
  granted-lowest p h w l k c = lowest-run L keeps p h w l k c

  -- the same book, opened and fed the same
  pub alike : Alike L
  alike p h w l k p' h' w' l' k' e f =
      let r = keeps p h w l k in
      let r' = keeps p' h' w' l' k' in
      begin-same (told L h w) (told L h' w') r.0 r'.0 (r.1 ∙ ap₂ say_all e f ∙ sym r'.1)
