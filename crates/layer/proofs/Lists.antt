-- A list of releases: by its rows; and item after item, each of which leaves a sound table sound and the state as it was. So row 1 is looked at once. Assumes nothing.
use Rattle.std.specs.Prelude.{◌≡◌, ◌&&◌, ◌∷◌, ◌+◌, ◌-◌, ◌*◌, ◌/◌, ◌<◌, ◌≤◌}
use Rattle.layer.proofs.Prelude.{refl, sym, ap, ap₂, ◌∙◌, subst, Bool, true, false, not, List, [], ℕ, when, unless, length, Refusal, now_ms, delay_ms, Settings, Idle, Refused, Released, Untold, World, Outcome, outcome, calm, sound, release_of, stays_pending, is_broken, is_idle, said, number_says, Items, ListOutcome, item_number, list_outcome, release_each, release_item, list_fits, release_list, arith, leb-true, cond, set, length-set, by_cond, Arena, SoundArena, Commitment, release_run, stamp_run, world_of, at}
use Rattle.layer.specs.World.{size_of}
use Rattle.layer.specs.declared.State.{State}
use Rattle.arena.proofs.StaysSound.{release-sound}
use Rattle.layer.proofs.Tools.{by-not, by-set}
use Rattle.layer.proofs.Facts.{put_meets}
use Rattle.layer.proofs.Kept.{SoundWorld, Kept, release-range, stamp-length, release-kept}
use Rattle.layer.proofs.Stepped.{Passing, passing-facts, passing-test}
use Rattle.layer.proofs.Cases.{release-in-cases, release-cases}
use Rattle.layer.proofs.Calls.{idle-is, calm-world, past-2}

-- ---- a release keeps the table sound, whatever words its maps are of

module _ (S : ℕ) (l : List Arena) (stamps : List ℕ) (k : ℕ) (mark : Bool) (page : ℕ) (p : Passing S (world_of l stamps (calm k mark)) page) where
  pub release-passes : (x n : ℕ) (told : Commitment) (pending : Bool) (now delay : ℕ) → Passing S (release_of S l stamps k mark x n told pending now delay).world page
  release-passes x n told pending now delay =
      release-cases S l stamps k mark Passes n told pending now delay x (λ e. p) (λ e f. p)
      (λ i e h f. release-in-cases S l stamps k mark Passes n told pending now delay i (x - (at l i).base) (λ g. p) (λ g r. p)
      (λ g r. granted i h ((x - (at l i).base) / S) (leb-true _ _ r)))
    where
      Passes : Outcome → Type 0
      Passes o = Passing S o.world page

      granted : (i : ℕ) → i < k → (s : ℕ) → s + n ≤ (at l i).chunks
          → Passing S (world_of (set l i (release_run (at l i) s n told pending now delay)) (cond pending (stamp_run stamps (1024 * i + s) n now) stamps) (calm k mark)) page
      granted i h s room =
          let a = release_run (at l i) s n told pending now delay in
          let inside : i < length l = omega (arith, p.long, p.few) in
          let range = release-range (at l i) s n told pending now delay in
          record {
            long = length-set l i a ∙ p.long;
            stamps = by_cond (λ (z : List ℕ). length z ≡ 32768) pending _ _
                (λ f. stamp-length stamps (1024 * i + s) n now (omega (arith, room, (p.each i h).range.few, p.few, p.stamps)) ∙ p.stamps) (λ f. p.stamps);
            page-sound = p.page-sound;
            few = p.few;
            each = λ j u. by-set (SoundArena S) l i a inside (release-sound S (at l i) s n told pending now delay (p.each i h) room) j (λ _. p.each j u);
            apart = λ y z u v. put_meets S l i a inside range.0 range.1 y z ∙ p.apart y z u v;
            question = tt;
          }

-- ---- one item

-- what a release where no question is open leaves of the state, and what its answer says
pub record Settled (w : World) (o : Outcome) : Type 0 where
  pub state : o.world.state ≡ w.state
  pub says : said o.answer ≡ number_says (item_number o.answer) ∷ []

module _ (ns : ℕ) (settings : Settings) (pending : Bool) where
  -- what rows 1 and 2 let pass
  abbrev pub PastTwo : World → Type 0
  PastTwo w = (sound (size_of w.state) w settings.page ≡ true) × (w.state.question ≡ Idle)

  module _ (w : World) (h : PastTwo w) (x n : ℕ) where
    abbrev pub item_of : Outcome
    item_of = release_of (size_of w.state) w.records w.stamps w.state.count w.state.mark x n Untold (stays_pending settings pending) (now_ms ns) (delay_ms settings.delay)

    pub item-is : release_item ns settings pending w x n ≡ item_of
    item-is = past-2 (size_of w.state) w ns settings h.0 h.1 _

    item-settled : Settled w item_of
    item-settled =
        release-cases _ _ _ _ _ (Settled w) n Untold (stays_pending settings pending) (now_ms ns) (delay_ms settings.delay) x
        (λ e. record { state = same; says = refl }) (λ e f. record { state = same; says = refl })
        (λ i e u f. release-in-cases _ _ _ _ _ (Settled w) n Untold (stays_pending settings pending) (now_ms ns) (delay_ms settings.delay) i _
        (λ g. record { state = same; says = refl }) (λ g v. record { state = same; says = refl }) (λ g v. record { state = same; says = refl }))
      where
        same : calm w.state.count w.state.mark ≡ w.state
        same = ap (λ (v : World). v.state) (calm-world w h.1)

    pub settled : Settled w (release_item ns settings pending w x n)
    settled = subst (Settled w) (sym item-is) item-settled

    passes : Passing (size_of w.state) (release_item ns settings pending w x n).world settings.page
    passes =
        subst (λ (o : Outcome). Passing (size_of w.state) o.world settings.page) (sym item-is)
        (release-passes _ _ _ _ _ settings.page (subst (λ (v : World). Passing (size_of w.state) v settings.page) (sym (calm-world w h.1)) (passing-facts (size_of w.state) w settings.page h.0))
        x n Untold (stays_pending settings pending) _ _)

    -- so the next item finds what this one found, and row 1 need not be looked at again
    pub still-past-two : PastTwo (release_item ns settings pending w x n).world
    still-past-two = (
      passing-test _ _ settings.page (subst (λ (s : State). Passing (size_of s) (release_item ns settings pending w x n).world settings.page) (sym settled.state) passes),
      ap (λ (s : State). s.question) settled.state ∙ h.1,
    )

    pub item-kept : SoundWorld (size_of w.state) w → SoundWorld (size_of (release_item ns settings pending w x n).world.state) (release_item ns settings pending w x n).world
    item-kept k =
        subst (λ (s : State). SoundWorld (size_of s) (release_item ns settings pending w x n).world) (sym settled.state)
        (subst (Kept (size_of w.state)) (sym item-is) (release-kept _ _ _ _ _ k.table k.stamps x n Untold (stays_pending settings pending) _ _))

  -- ---- item after item

  -- what holds of the world before the items, and is kept by each, holds after them
  pub each_keeps : (Q : World → Type 0) → ((w : World) → PastTwo w → Q w → (x n : ℕ) → Q (release_item ns settings pending w x n).world)
      → (w : World) → PastTwo w → Q w → (xs counts : List ℕ) → Q (release_each ns settings pending w xs counts).whole.world
  each_keeps Q keep w h q [] counts = q
  each_keeps Q keep w h q (x ∷ xs) [] = q
  each_keeps Q keep w h q (x ∷ xs) (n ∷ counts) = each_keeps Q keep (release_item ns settings pending w x n).world (still-past-two w h x n) (keep w h q x n) xs counts

  pub each-sound : (w : World) → PastTwo w → SoundWorld (size_of w.state) w → (xs counts : List ℕ)
      → SoundWorld (size_of (release_each ns settings pending w xs counts).whole.world.state) (release_each ns settings pending w xs counts).whole.world
  each-sound w h k xs counts = each_keeps (λ (v : World). SoundWorld (size_of v.state) v) (λ v g z x n. item-kept v g x n z) w h k xs counts

  pub each-state : (w : World) → PastTwo w → (xs counts : List ℕ) → (release_each ns settings pending w xs counts).whole.world.state ≡ w.state
  each-state w h xs counts = each_keeps (λ (v : World). v.state ≡ w.state) (λ v g e x n. (settled v g x n).state ∙ e) w h refl xs counts

-- the list itself is granted
pub each-granted : (ns : ℕ) (settings : Settings) (pending : Bool) (w : World) (xs counts : List ℕ) → (release_each ns settings pending w xs counts).whole.answer ≡ Released
each-granted ns settings pending w [] counts = refl
each-granted ns settings pending w (x ∷ xs) [] = refl
each-granted ns settings pending w (x ∷ xs) (n ∷ counts) = each-granted ns settings pending (release_item ns settings pending w x n).world xs counts

-- ---- by its rows

-- what becomes of a list: it is turned down as a whole, or its items are released one by one
pub data ListComes (w : World) (ns : ℕ) (settings : Settings) (t : Items) (o : ListOutcome) : Type 0 where
  turned_down : (why : Refusal) → (sound (size_of w.state) w settings.page && (is_idle w.state.question && list_fits t)) ≡ false
      → o ≡ list_outcome (outcome (Refused why) w) t.answers → ListComes w ns settings t o
  one_by_one : sound (size_of w.state) w settings.page ≡ true → w.state.question ≡ Idle → list_fits t ≡ true
      → o ≡ release_each ns settings t.pending w t.addresses t.counts → ListComes w ns settings t o

module _ (w : World) (ns : ℕ) (settings : Settings) (t : Items) where
  pub list-comes : ListComes w ns settings t (release_list w ns settings t)
  unfolding release_list
  list-comes =
      by-not (ListComes w ns settings t) (sound (size_of w.state) w settings.page) _ _
      (λ e. by-not (ListComes w ns settings t) (is_idle w.state.question) _ _
      (λ f. by-not (ListComes w ns settings t) (list_fits t) _ _ (λ g. one_by_one e (idle-is w.state.question f) g refl)
      (λ g. turned_down _ (ap₂ ◌&&◌ e (ap₂ ◌&&◌ f g)) refl))
      (λ f. turned_down _ (ap₂ (λ (a b : Bool). a && (b && list_fits t)) e f) refl))
      (λ e. turned_down _ (ap (λ (a : Bool). a && (is_idle w.state.question && list_fits t)) e) refl)

  -- what holds of the table, and is kept by each item of a list that is granted, holds after it
  pub list-keeps : (Q : World → Type 0) → ((v : World) → PastTwo ns settings t.pending v → Q v → (x n : ℕ) → Q (release_item ns settings t.pending v x n).world) → Q w
      → Q (release_list w ns settings t).whole.world
  list-keeps Q keep q = go list-comes
    where
      go : ListComes w ns settings t (release_list w ns settings t) → Q (release_list w ns settings t).whole.world
      go (turned_down why e is) = subst (λ (u : ListOutcome). Q u.whole.world) (sym is) q
      go (one_by_one e idle fits is) = subst (λ (u : ListOutcome). Q u.whole.world) (sym is) (each_keeps ns settings t.pending Q keep w (e, idle) q t.addresses t.counts)

  -- "1" exactly if row 1 does not let it pass
  pub broken-list : is_broken (release_list w ns settings t).whole.answer ≡ not (sound (size_of w.state) w settings.page)
  unfolding release_list
  broken-list = go (sound (size_of w.state) w settings.page) refl
    where
      Says : ListOutcome → Type 0
      Says o = is_broken o.whole.answer ≡ false

      go : (b : Bool) → sound (size_of w.state) w settings.page ≡ b → is_broken (release_list w ns settings t).whole.answer ≡ not b
      go true e =
          ap (λ (o : ListOutcome). is_broken o.whole.answer) (unless (not (sound (size_of w.state) w settings.page)) _ _ (ap not e))
          ∙ by-not Says (is_idle w.state.question) _ _
          (λ f. by-not Says (list_fits t) _ _ (λ g. ap is_broken (each-granted ns settings t.pending w t.addresses t.counts)) (λ g. refl)) (λ f. refl)
      go false e = ap (λ (o : ListOutcome). is_broken o.whole.answer) (when (not (sound (size_of w.state) w settings.page)) _ _ (ap not e))
