-- What wish 3 of document 02 says of a list of releases, of any layer: when it is turned down, by which number, and what it leaves; and that else it is single releases
-- of that layer in list order. On every lent table and every lent list. Assumes nothing.
use Rattle.std.specs.Prelude.{◌≡◌, true, ◌⊎◌, ◌↔◌, ℕ, suc, ◌<◌, ◌≤◌, length, get_or}
use Rattle.refusals.specs.declared.Refusal.{Refusal}
use Rattle.refusals.specs.declared.Refusal.TheVariants.{Broken, QuestionOpen, Zero, NotInside, NotWhole, PastEnd, ListLength}
use Rattle.refusals.specs.Number.{number}
use Rattle.options.specs.Options.{page_size_sound}
use Rattle.arena.specs.declared.Commitment.TheVariants.{Untold}
use Rattle.layer.specs.declared.Settings.{Settings}
use Rattle.layer.specs.declared.Question.TheVariants.{Idle}
use Rattle.layer.specs.declared.Answer.{Answer}
use Rattle.layer.specs.declared.Answer.TheVariants.{Refused, Released}
use Rattle.layer.specs.World.{World, Outcome, size_of}
use Rattle.layer.specs.Table.{at, sound}
use Rattle.layer.specs.Step.{release, Call, act}
use Rattle.layer.specs.Listing.{Items}
use Rattle.layer.specs.History.{Layer}

-- row 1 lets the table pass
abbrev pub Passes : World → Settings → Type 0
Passes w settings = sound (size_of w.state) w settings.page ≡ true

-- "the three lengths": they are one, and do not "pass 32,768"
pub record OneLength (t : Items) : Type 0 where
  pub as-counts : length t.counts ≡ length t.addresses
  pub as-answers : length t.answers ≡ length t.addresses
  pub most : length t.addresses ≤ 32768

-- ---- the order: 1, 2, 19

abbrev pub BrokenExactly : Layer → Type 0
BrokenExactly L =
    (w : World) (ns : ℕ) (settings : Settings) (t : Items) → ((L.lists w ns settings t).whole.answer ≡ Refused Broken) ↔ (Passes w settings → ⊥)

abbrev pub OpenExactly : Layer → Type 0
OpenExactly L =
    (w : World) (ns : ℕ) (settings : Settings) (t : Items) → Passes w settings
    → ((L.lists w ns settings t).whole.answer ≡ Refused QuestionOpen) ↔ (w.state.question ≡ Idle → ⊥)

-- "19 when the three lengths differ or pass 32,768, checked after 2"
abbrev pub NineteenExactly : Layer → Type 0
NineteenExactly L =
    (w : World) (ns : ℕ) (settings : Settings) (t : Items) → Passes w settings → w.state.question ≡ Idle
    → ((L.lists w ns settings t).whole.answer ≡ Refused ListLength) ↔ (OneLength t → ⊥)

-- else it is granted, whatever its items are: the empty list too
abbrev pub GrantedElse : Layer → Type 0
GrantedElse L =
    (w : World) (ns : ℕ) (settings : Settings) (t : Items) → Passes w settings → w.state.question ≡ Idle → OneLength t
    → (L.lists w ns settings t).whole.answer ≡ Released

-- "a list refused as a whole" leaves the table, and the answers as they were lent
abbrev pub RefusedLeaves : Layer → Type 0
RefusedLeaves L =
    (w : World) (ns : ℕ) (settings : Settings) (t : Items) (why : Refusal) → (L.lists w ns settings t).whole.answer ≡ Refused why
    → ((L.lists w ns settings t).whole.world ≡ w) × ((L.lists w ns settings t).numbers ≡ t.answers)

-- ---- item by item

-- "each item's number (0 for granted)"
abbrev pub Says : Answer → ℕ → Type 0
Says r n = ((r ≡ Released) × (n ≡ 0)) ⊎ ((why : Refusal) × (r ≡ Refused why) × (n ≡ number why))

-- the item at place j, as a call by itself: not told, and pending as all are
abbrev pub single : Layer → ℕ → Settings → Items → World → ℕ → Outcome
single L ns settings t w j = L.does w ns settings (act (release (get_or t.addresses j 0) (get_or t.counts j 0) Untold t.pending))

-- "It leaves what single releases in list order at the same clock and settings would leave, and each item's number (0 for granted) stands at its place": from w to v by a
-- table before each item
pub record Singly (L : Layer) (ns : ℕ) (settings : Settings) (t : Items) (w v : World) : Type 0 where
  pub before : ℕ → World
  pub starts : before 0 ≡ w
  pub ends : before (length t.addresses) ≡ v
  pub leads : (j : ℕ) → j < length t.addresses → (single L ns settings t (before j) j).world ≡ before (suc j)
  pub as_many : length (L.lists w ns settings t).numbers ≡ length t.addresses
  pub stands : (j : ℕ) → j < length t.addresses → Says (single L ns settings t (before j) j).answer (get_or (L.lists w ns settings t).numbers j 0)

abbrev pub AsSingles : Layer → Type 0
AsSingles L =
    (w : World) (ns : ℕ) (settings : Settings) (t : Items) → (L.lists w ns settings t).whole.answer ≡ Released
    → Singly L ns settings t w (L.lists w ns settings t).whole.world

-- ---- what follows

-- a place gets 0, or the number of a refusal of a release: 4, 8, 7, 9
abbrev pub ReleasesNumber : ℕ → Type 0
ReleasesNumber n = (n ≡ 0) ⊎ ((n ≡ number Zero) ⊎ ((n ≡ number NotInside) ⊎ ((n ≡ number NotWhole) ⊎ (n ≡ number PastEnd))))

abbrev pub OnlyReleases : Layer → Type 0
OnlyReleases L =
    (w : World) (ns : ℕ) (settings : Settings) (t : Items) → (L.lists w ns settings t).whole.answer ≡ Released
    → (j : ℕ) → j < length t.addresses → ReleasesNumber (get_or (L.lists w ns settings t).numbers j 0)

-- "it says nothing of commitment"
abbrev pub LeavesCommitted : Layer → Type 0
LeavesCommitted L =
    (w : World) (ns : ℕ) (settings : Settings) (t : Items) (i : ℕ) → (at (L.lists w ns settings t).whole.world.records i).committed ≡ (at w.records i).committed

-- no question is put or closed, and no arena comes or goes: the state stays, whatever is answered
abbrev pub LeavesState : Layer → Type 0
LeavesState L = (w : World) (ns : ℕ) (settings : Settings) (t : Items) → (L.lists w ns settings t).whole.world.state ≡ w.state

-- a sound table stays sound, at every sound page size
abbrev pub LeavesSound : Layer → Type 0
LeavesSound L =
    (w : World) (ns : ℕ) (settings : Settings) (t : Items) → Passes w settings → (page : ℕ) → page_size_sound page ≡ true
    → sound (size_of (L.lists w ns settings t).whole.world.state) (L.lists w ns settings t).whole.world page ≡ true

-- WISH 3, of a layer
pub record ReleasesLists (L : Layer) : Type 0 where
  pub broken-exactly : BrokenExactly L
  pub open-exactly : OpenExactly L
  pub nineteen-exactly : NineteenExactly L
  pub granted-else : GrantedElse L
  pub refused-leaves : RefusedLeaves L
  pub as-singles : AsSingles L
  pub only-releases : OnlyReleases L
  pub leaves-committed : LeavesCommitted L
  pub leaves-state : LeavesState L
  pub leaves-sound : LeavesSound L

-- These sentences leave nothing open: of two layers that answer single calls alike and keep them, the lists are one
abbrev pub Determined : Type 0
Determined =
    (L M : Layer) → ((w : World) (ns : ℕ) (settings : Settings) (c : Call) → L.does w ns settings c ≡ M.does w ns settings c) → ReleasesLists L → ReleasesLists M
    → (w : World) (ns : ℕ) (settings : Settings) (t : Items) → L.lists w ns settings t ≡ M.lists w ns settings t
