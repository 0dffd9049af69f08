-- Wish 3 of the rules' list: the order of its refusals, that it is single releases in list order, and what follows of these. Assumes nothing.
use Rattle.std.specs.Prelude.{◌≡◌, ◌&&◌, ◌∷◌, ◌⊎◌, ◌<◌, ◌≤◌}
use Rattle.layer.proofs.Prelude.{never, refl, sym, ap, ap₂, ◌∙◌, subst, Bool, true, false, not, true≢false, List, [], inl, inr, ℕ, zero, suc, arith, ℕ_discrete, eq-eqb, eqb-true, leb-true, le-leb, eqb, length, get_or, set, when, unless, and_both, Refusal, Broken, QuestionOpen, Zero, NotWhole, PastEnd, ListLength, now_ms, delay_ms, Arena, Untold, release_run, pend_run, tell_run, give_back_run, World, Outcome, at, sound, stays_pending, by_rules, is_idle, is_broken, Items, ListOutcome, item_number, release_each, release_item, list_fits, release_list}
use Rattle.refusals.specs.declared.Refusal.TheVariants.{NotInside}
use Rattle.refusals.specs.Number.{number}
use Rattle.layer.specs.declared.Settings.{Settings}
use Rattle.layer.specs.declared.Question.TheVariants.{Idle}
use Rattle.layer.specs.declared.Answer.{Answer}
use Rattle.layer.specs.declared.Answer.TheVariants.{Refused, Released}
use Rattle.layer.specs.World.{size_of}
use Rattle.layer.proofs.Tools.{at_same, at_other}
use Rattle.layer.proofs.Stepped.{passing-facts, passing-test}
use Rattle.layer.proofs.Cases.{release-in-cases, release-cases}
use Rattle.layer.proofs.Calls.{idle-is}
use Rattle.layer.proofs.Lists.{PastTwo, item-is, settled, still-past-two, each-granted, list-keeps, ListComes, turned_down, one_by_one, list-comes, broken-list}
use lib.Seq.{ext_get_or}
use Rattle.layer.specs.Step.{Call}
use Rattle.layer.specs.History.{Layer}
use Rattle.layer_laws.specs.sweep_runs.Run.{is_refused}
use Rattle.layer_laws.specs.listed.Releases.{Determined, single, Passes, OneLength, BrokenExactly, OpenExactly, NineteenExactly, GrantedElse, RefusedLeaves, Says, Singly, AsSingles, ReleasesNumber, OnlyReleases, LeavesCommitted, LeavesState, LeavesSound, ReleasesLists}

-- two answers of other numbers
differ : {A : Type 0} (a b : Answer) → a ≡ b → (item_number a ≡ item_number b → ⊥) → A
differ a b e d = absurd (d (ap item_number e))

not-both : {A : Type 0} {why : Refusal} → Released ≡ Refused why → A
not-both e = absurd (true≢false (sym (ap is_refused e)))

-- ---- the rows

fits-length : (t : Items) → list_fits t ≡ true → OneLength t
unfolding list_fits
fits-length t e =
    let a = and_both (eqb (length t.counts) (length t.addresses)) _ e in
    let b = and_both (eqb (length t.answers) (length t.addresses)) _ a.1 in
    record {
      as-counts = eqb-true (length t.counts) (length t.addresses) a.0;
      as-answers = eqb-true (length t.answers) (length t.addresses) b.0;
      most = leb-true (length t.addresses) 32768 b.1;
    }

length-fits : (t : Items) → OneLength t → list_fits t ≡ true
unfolding list_fits
length-fits t l =
    ap₂ ◌&&◌ (eq-eqb (length t.counts) (length t.addresses) l.as-counts)
    (ap₂ ◌&&◌ (eq-eqb (length t.answers) (length t.addresses) l.as-answers) (le-leb (length t.addresses) 32768 l.most))

module _ (w : World) (ns : ℕ) (settings : Settings) (t : Items) where
  abbrev answered : Answer
  answered = (release_list w ns settings t).whole.answer

  row_one : sound (size_of w.state) w settings.page ≡ false → answered ≡ Refused Broken
  unfolding release_list
  row_one e = ap (λ (o : ListOutcome). o.whole.answer) (when (not (sound (size_of w.state) w settings.page)) _ _ (ap not e))

  row-two : Passes w settings → is_idle w.state.question ≡ false → answered ≡ Refused QuestionOpen
  unfolding release_list
  row-two e f =
      ap (λ (o : ListOutcome). o.whole.answer) (unless (not (sound (size_of w.state) w settings.page)) _ _ (ap not e) ∙ when (not (is_idle w.state.question)) _ _ (ap not f))

  row-nineteen : Passes w settings → is_idle w.state.question ≡ true → list_fits t ≡ false → answered ≡ Refused ListLength
  unfolding release_list
  row-nineteen e f g =
      ap (λ (o : ListOutcome). o.whole.answer)
      (unless (not (sound (size_of w.state) w settings.page)) _ _ (ap not e) ∙ unless (not (is_idle w.state.question)) _ _ (ap not f) ∙ when (not (list_fits t)) _ _ (ap not g))

  row-none : Passes w settings → is_idle w.state.question ≡ true → list_fits t ≡ true → answered ≡ Released
  unfolding release_list
  row-none e f g =
      ap (λ (o : ListOutcome). o.whole.answer)
      (unless (not (sound (size_of w.state) w settings.page)) _ _ (ap not e) ∙ unless (not (is_idle w.state.question)) _ _ (ap not f) ∙ unless (not (list_fits t)) _ _ (ap not g))
      ∙ each-granted ns settings t.pending w t.addresses t.counts

  -- past row 2 it is 19 or 0
  not-two : Passes w settings → w.state.question ≡ Idle → answered ≡ Refused QuestionOpen → ⊥
  not-two e idle is = go (list_fits t) refl
    where
      go : (b : Bool) → list_fits t ≡ b → ⊥
      go true g = differ _ _ (sym (row-none e (ap is_idle idle) g) ∙ is) (λ n. omega (arith, n))
      go false g = differ _ _ (sym (row-nineteen e (ap is_idle idle) g) ∙ is) (λ n. omega (arith, n))

broken-exactly : BrokenExactly by_rules
broken-exactly w ns settings t = (
  (λ e p. true≢false (sym (ap is_broken e) ∙ broken-list w ns settings t ∙ ap not p)),
  (λ h. row_one w ns settings t (never (sound (size_of w.state) w settings.page) h)),
)

open-exactly : OpenExactly by_rules
open-exactly w ns settings t p = ((λ e idle. not-two w ns settings t p idle e), (λ h. row-two w ns settings t p (never (is_idle w.state.question) (λ e. h (idle-is w.state.question e)))))

nineteen-exactly : NineteenExactly by_rules
nineteen-exactly w ns settings t p idle = (
  (λ e l. differ _ _ (sym (row-none w ns settings t p (ap is_idle idle) (length-fits t l)) ∙ e) (λ n. omega (arith, n))),
  (λ h. row-nineteen w ns settings t p (ap is_idle idle) (never (list_fits t) (λ e. h (fits-length t e)))),
)

granted-else : GrantedElse by_rules
granted-else w ns settings t p idle l = row-none w ns settings t p (ap is_idle idle) (length-fits t l)

refused-leaves : RefusedLeaves by_rules
refused-leaves w ns settings t why e = go (release_list w ns settings t) (list-comes w ns settings t) e
  where
    go : (o : ListOutcome) → ListComes w ns settings t o → o.whole.answer ≡ Refused why → (o.whole.world ≡ w) × (o.numbers ≡ t.answers)
    go o (turned_down why' f is) e = (ap (λ (u : ListOutcome). u.whole.world) is, ap (λ (u : ListOutcome). u.numbers) is)
    go o (one_by_one f idle fits is) e =
        not-both (sym (ap (λ (u : ListOutcome). u.whole.answer) is ∙ each-granted ns settings t.pending w t.addresses t.counts) ∙ e)

-- ---- one item

-- what a release is answered
ItemSays : Answer → Type 0
ItemSays r = (r ≡ Released) ⊎ ((r ≡ Refused Zero) ⊎ ((r ≡ Refused NotInside) ⊎ ((r ≡ Refused NotWhole) ⊎ (r ≡ Refused PastEnd))))

says-number : (r : Answer) → ItemSays r → Says r (item_number r) × ReleasesNumber (item_number r)
unfolding ItemSays
says-number r (inl e) = (inl (e, ap item_number e), inl (ap item_number e))
says-number r (inr (inl e)) = (inr (Zero, e, ap item_number e), inr (inl (ap item_number e)))
says-number r (inr (inr (inl e))) = (inr (NotInside, e, ap item_number e), inr (inr (inl (ap item_number e))))
says-number r (inr (inr (inr (inl e)))) = (inr (NotWhole, e, ap item_number e), inr (inr (inr (inl (ap item_number e)))))
says-number r (inr (inr (inr (inr e)))) = (inr (PastEnd, e, ap item_number e), inr (inr (inr (inr (ap item_number e)))))

module _ (ns : ℕ) (settings : Settings) (pending : Bool) where
  -- what an item says, and that it leaves the map of committed chunks of every arena
  record Item (w : World) (o : Outcome) : Type 0 where
    says : ItemSays o.answer
    committed : (i : ℕ) → (at o.world.records i).committed ≡ (at w.records i).committed

  run-committed : (a : Arena) (s n : ℕ) (p : Bool) (now delay : ℕ) → (release_run a s n Untold p now delay).committed ≡ a.committed
  unfolding release_run pend_run tell_run give_back_run
  run-committed a s n true now delay = refl
  run-committed a s n false now delay = refl

  set-committed : (l : List Arena) (i : ℕ) (a : Arena) → i < length l → a.committed ≡ (at l i).committed → (j : ℕ) → (at (set l i a) j).committed ≡ (at l j).committed
  set-committed l i a h e j = go (ℕ_discrete j i)
    where
      go : Dec (j ≡ i) → (at (set l i a) j).committed ≡ (at l j).committed
      go (yes f) = ap (λ (z : ℕ). (at (set l i a) z).committed) f ∙ ap (λ (b : Arena). b.committed) (at_same l i a h) ∙ e ∙ ap (λ (z : ℕ). (at l z).committed) (sym f)
      go (no f) = ap (λ (b : Arena). b.committed) (at_other l i j a f)

  item : (w : World) → PastTwo ns settings pending w → (x n : ℕ) → Item w (release_item ns settings pending w x n)
  unfolding ItemSays
  item w h x n =
      subst (Item w) (sym (item-is ns settings pending w h x n))
      (release-cases _ _ _ _ _ (Item w) n Untold (stays_pending settings pending) (now_ms ns) (delay_ms settings.delay) x
      (λ e. record { says = inr (inl refl); committed = λ i. refl }) (λ e f. record { says = inr (inr (inl refl)); committed = λ i. refl })
      (λ i e u f. release-in-cases _ _ _ _ _ (Item w) n Untold (stays_pending settings pending) (now_ms ns) (delay_ms settings.delay) i _
      (λ g. record { says = inr (inr (inr (inl refl))); committed = λ j. refl }) (λ g v. record { says = inr (inr (inr (inr refl))); committed = λ j. refl })
      (λ g v. record {
        says = inl refl;
        committed = set-committed w.records i _ (let p = passing-facts (size_of w.state) w settings.page h.0 in omega (arith, u, p.few, p.long)) (run-committed (at w.records i) _ n _ _ _);
      })))

  -- ---- item after item

  -- the table before the item at each place
  before : World → List ℕ → List ℕ → ℕ → World
  before w xs counts zero = w
  before w (x ∷ xs) (n ∷ counts) (suc j) = before (release_item ns settings pending w x n).world xs counts j
  before w (x ∷ xs) [] (suc j) = w
  before w [] counts (suc j) = w

  abbrev each : World → List ℕ → List ℕ → ListOutcome
  each w xs counts = release_each ns settings pending w xs counts

  abbrev item_at : World → List ℕ → List ℕ → ℕ → Outcome
  item_at w xs counts j = release_item ns settings pending (before w xs counts j) (get_or xs j 0) (get_or counts j 0)

  starts : (w : World) (xs counts : List ℕ) → before w xs counts 0 ≡ w
  unfolding before
  starts w xs counts = refl

  ends : (w : World) (xs counts : List ℕ) → length counts ≡ length xs → before w xs counts (length xs) ≡ (each w xs counts).whole.world
  unfolding before
  ends w [] counts e = refl
  ends w (x ∷ xs) [] e = absurd (omega (arith, e))
  ends w (x ∷ xs) (n ∷ counts) e = ends (release_item ns settings pending w x n).world xs counts (let f : length counts ≡ length xs = omega (arith, e) in f)

  leads : (w : World) (xs counts : List ℕ) → length counts ≡ length xs → (j : ℕ) → j < length xs → (item_at w xs counts j).world ≡ before w xs counts (suc j)
  unfolding before
  leads w [] counts e j h = absurd (omega (arith, h))
  leads w (x ∷ xs) [] e j h = absurd (omega (arith, e))
  leads w (x ∷ xs) (n ∷ counts) e zero h = refl
  leads w (x ∷ xs) (n ∷ counts) e (suc j) h = leads (release_item ns settings pending w x n).world xs counts (let f : length counts ≡ length xs = omega (arith, e) in f) j (omega (arith, h))

  as_many : (w : World) (xs counts : List ℕ) → length counts ≡ length xs → length (each w xs counts).numbers ≡ length xs
  as_many w [] counts e = refl
  as_many w (x ∷ xs) [] e = absurd (omega (arith, e))
  as_many w (x ∷ xs) (n ∷ counts) e = ap suc (as_many (release_item ns settings pending w x n).world xs counts (let f : length counts ≡ length xs = omega (arith, e) in f))

  stands : (w : World) → PastTwo ns settings pending w → (xs counts : List ℕ) → length counts ≡ length xs → (j : ℕ) → j < length xs
      → Says (item_at w xs counts j).answer (get_or (each w xs counts).numbers j 0) × ReleasesNumber (get_or (each w xs counts).numbers j 0)
  unfolding before
  stands w o [] counts e j h = absurd (omega (arith, h))
  stands w o (x ∷ xs) [] e j h = absurd (omega (arith, e))
  stands w o (x ∷ xs) (n ∷ counts) e zero h = says-number _ (item w o x n).says
  stands w o (x ∷ xs) (n ∷ counts) e (suc j) h =
      stands (release_item ns settings pending w x n).world (still-past-two ns settings pending w o x n) xs counts (let f : length counts ≡ length xs = omega (arith, e) in f) j (omega (arith, h))

-- ---- so of a list that is granted

-- what it came from
record Granted (w : World) (ns : ℕ) (settings : Settings) (t : Items) : Type 0 where
  passes : PastTwo ns settings t.pending w
  lengths : OneLength t
  is : release_list w ns settings t ≡ release_each ns settings t.pending w t.addresses t.counts

granted : (w : World) (ns : ℕ) (settings : Settings) (t : Items) → (release_list w ns settings t).whole.answer ≡ Released → Granted w ns settings t
granted w ns settings t e = go (list-comes w ns settings t)
  where
    go : ListComes w ns settings t (release_list w ns settings t) → Granted w ns settings t
    go (turned_down why f is) = not-both (sym e ∙ ap (λ (u : ListOutcome). u.whole.answer) is)
    go (one_by_one f idle fits is) = record { passes = (f, idle); lengths = fits-length t fits; is = is }

as-singles : AsSingles by_rules
as-singles w ns settings t e =
    let g = granted w ns settings t e in
    let same = g.lengths.as-counts in
    record {
      before = before ns settings t.pending w t.addresses t.counts;
      starts = starts ns settings t.pending w t.addresses t.counts;
      ends = ends ns settings t.pending w t.addresses t.counts same ∙ sym (ap (λ (u : ListOutcome). u.whole.world) g.is);
      leads = leads ns settings t.pending w t.addresses t.counts same;
      as_many = ap (λ (u : ListOutcome). length u.numbers) g.is ∙ as_many ns settings t.pending w t.addresses t.counts same;
      stands = λ j h. subst (λ (u : ListOutcome). Says (item_at ns settings t.pending w t.addresses t.counts j).answer (get_or u.numbers j 0)) (sym g.is)
          (stands ns settings t.pending w g.passes t.addresses t.counts same j h).0;
    }

only-releases : OnlyReleases by_rules
only-releases w ns settings t e j h =
    let g = granted w ns settings t e in
    subst (λ (u : ListOutcome). ReleasesNumber (get_or u.numbers j 0)) (sym g.is) (stands ns settings t.pending w g.passes t.addresses t.counts g.lengths.as-counts j h).1

-- ---- and of every list

leaves-committed : LeavesCommitted by_rules
leaves-committed w ns settings t i =
    list-keeps w ns settings t (λ (v : World). (at v.records i).committed ≡ (at w.records i).committed) (λ v o e x n. (item ns settings t.pending v o x n).committed i ∙ e) refl

leaves-state : LeavesState by_rules
leaves-state w ns settings t =
    list-keeps w ns settings t (λ (v : World). v.state ≡ w.state) (λ v o e x n. (settled ns settings t.pending v o x n).state ∙ e) refl

leaves-sound : LeavesSound by_rules
leaves-sound w ns settings t p page h =
    let after : Passes (release_list w ns settings t).whole.world settings = list-keeps w ns settings t (λ (v : World). Passes v settings) (λ v o e x n. (still-past-two ns settings t.pending v o x n).0) p in
    let f = passing-facts _ (release_list w ns settings t).whole.world settings.page after in
    passing-test _ (release_list w ns settings t).whole.world page
    (record { long = f.long; stamps = f.stamps; page-sound = h; few = f.few; each = f.each; apart = f.apart; question = f.question })

-- WISH 3, of the rules
pub releases-lists : ReleasesLists by_rules
releases-lists = record {
  broken-exactly = broken-exactly;
  open-exactly = open-exactly;
  nineteen-exactly = nineteen-exactly;
  granted-else = granted-else;
  refused-leaves = refused-leaves;
  as-singles = as-singles;
  only-releases = only-releases;
  leaves-committed = leaves-committed;
  leaves-state = leaves-state;
  leaves-sound = leaves-sound;
}

-- ---- nothing is left open

-- a number is that of one answer
one_number : (r : Answer) (n m : ℕ) → Says r n → Says r m → n ≡ m
one_number r n m (inl (e, f)) (inl (g, h)) = f ∙ sym h
one_number r n m (inl (e, f)) (inr (why, g, h)) = not-both (sym e ∙ g)
one_number r n m (inr (why, e, f)) (inl (g, h)) = not-both (sym g ∙ e)
one_number r n m (inr (why, e, f)) (inr (why', g, h)) = f ∙ ap item_number (sym e ∙ g) ∙ sym h

module _ (L M : Layer) (alike : (w : World) (ns : ℕ) (settings : Settings) (c : Call) → L.does w ns settings c ≡ M.does w ns settings c) (a : ReleasesLists L) (b : ReleasesLists M)
    (w : World) (ns : ℕ) (settings : Settings) (t : Items) where
  -- refused as a whole by the same number
  both-refuse : (why : Refusal) → (L.lists w ns settings t).whole.answer ≡ Refused why → (M.lists w ns settings t).whole.answer ≡ Refused why → L.lists w ns settings t ≡ M.lists w ns settings t
  both-refuse why e f =
      let x = a.refused-leaves w ns settings t why e in
      let y = b.refused-leaves w ns settings t why f in
      λ i. record { whole = record { answer = (e ∙ sym f) i; world = (x.0 ∙ sym y.0) i }; numbers = (x.1 ∙ sym y.1) i }

  both-grant : (L.lists w ns settings t).whole.answer ≡ Released → (M.lists w ns settings t).whole.answer ≡ Released → L.lists w ns settings t ≡ M.lists w ns settings t
  both-grant e f = λ i. record { whole = record { answer = (e ∙ sym f) i; world = worlds i }; numbers = numbers i }
    where
      x : Singly L ns settings t w (L.lists w ns settings t).whole.world
      x = a.as-singles w ns settings t e

      y : Singly M ns settings t w (M.lists w ns settings t).whole.world
      y = b.as-singles w ns settings t f

      -- the table before each item
      same : (j : ℕ) → j ≤ length t.addresses → x.before j ≡ y.before j
      same zero h = x.starts ∙ sym y.starts
      same (suc j) h =
          sym (x.leads j (omega (arith, h)))
          ∙ ap (λ (o : Outcome). o.world) (alike (x.before j) ns settings _)
          ∙ ap (λ (v : World). (single M ns settings t v j).world) (same j (omega (arith, h)))
          ∙ y.leads j (omega (arith, h))

      worlds : (L.lists w ns settings t).whole.world ≡ (M.lists w ns settings t).whole.world
      worlds = sym x.ends ∙ same (length t.addresses) (omega arith) ∙ y.ends

      answer-same : (j : ℕ) → j < length t.addresses → (single L ns settings t (x.before j) j).answer ≡ (single M ns settings t (y.before j) j).answer
      answer-same j h =
          ap (λ (o : Outcome). o.answer) (alike (x.before j) ns settings _) ∙ ap (λ (v : World). (single M ns settings t v j).answer) (same j (omega (arith, h)))

      numbers : (L.lists w ns settings t).numbers ≡ (M.lists w ns settings t).numbers
      numbers =
          ext_get_or 0 (L.lists w ns settings t).numbers (M.lists w ns settings t).numbers (x.as_many ∙ sym y.as_many)
          (λ j h. let u : j < length t.addresses = omega (arith, h, x.as_many) in
          one_number _ _ _ (x.stands j u) (subst (λ (r : Answer). Says r (get_or (M.lists w ns settings t).numbers j 0)) (sym (answer-same j u)) (y.stands j u)))

  same-list : L.lists w ns settings t ≡ M.lists w ns settings t
  same-list = by-sound (sound (size_of w.state) w settings.page) refl
    where
      by_length : Passes w settings → w.state.question ≡ Idle → (q : Bool) → list_fits t ≡ q → L.lists w ns settings t ≡ M.lists w ns settings t
      by_length p idle true e = both-grant (a.granted-else w ns settings t p idle (fits-length t e)) (b.granted-else w ns settings t p idle (fits-length t e))
      by_length p idle false e =
          let none : OneLength t → ⊥ = λ l. true≢false (sym (length-fits t l) ∙ e) in
          both-refuse ListLength ((a.nineteen-exactly w ns settings t p idle).1 none) ((b.nineteen-exactly w ns settings t p idle).1 none)

      by-question : Passes w settings → (q : Bool) → is_idle w.state.question ≡ q → L.lists w ns settings t ≡ M.lists w ns settings t
      by-question p true e = by_length p (idle-is w.state.question e) (list_fits t) refl
      by-question p false e =
          let none : w.state.question ≡ Idle → ⊥ = λ i. true≢false (sym (ap is_idle i) ∙ e) in
          both-refuse QuestionOpen ((a.open-exactly w ns settings t p).1 none) ((b.open-exactly w ns settings t p).1 none)

      by-sound : (q : Bool) → sound (size_of w.state) w settings.page ≡ q → L.lists w ns settings t ≡ M.lists w ns settings t
      by-sound true e = by-question e (is_idle w.state.question) refl
      by-sound false e =
          let none : Passes w settings → ⊥ = λ p. true≢false (sym p ∙ e) in
          both-refuse Broken ((a.broken-exactly w ns settings t).1 none) ((b.broken-exactly w ns settings t).1 none)

pub determined : Determined
determined L M alike a b w ns settings t = same-list L M alike a b w ns settings t
