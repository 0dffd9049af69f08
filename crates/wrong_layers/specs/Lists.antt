-- Wrong lists of releases, each as what it does with a list, and that each fails wish 3's sentences; two of them fail demand 3 too. Most do as the rules do but for one row, or for one thing that the items
-- do. Single calls and joins go by the rules. Assumes nothing.
use Rattle.std.specs.Prelude.{Bool, true, false, cond, not, ◌&&◌, List, [], ◌∷◌, ◌++◌, map, ℕ, ◌-◌, eqb, leb, ltb, length, take, drop}
use Rattle.refusals.specs.declared.Refusal.TheVariants.{Broken, QuestionOpen, Zero, ListLength}
use Rattle.arena.specs.declared.Commitment.{Commitment}
use Rattle.arena.specs.declared.Commitment.TheVariants.{Committed, Uncommitted}
use Rattle.layer.specs.declared.Settings.{Settings}
use Rattle.layer.specs.declared.Answer.TheVariants.{Refused, Released}
use Rattle.layer.specs.World.{World, outcome, size_of, Row, row, first_of}
use Rattle.layer.specs.Table.{sound}
use Rattle.layer.specs.Answering.{is_idle}
use Rattle.layer.specs.Step.{release, act, step}
use Rattle.layer.specs.Listing.{Items, ListOutcome, list_outcome, refuse_list, item_number, release_item, release_each, list_fits}
use Rattle.layer.specs.Joining.{join}
use Rattle.layer.specs.History.{Layer}
use Rattle.layer.specs.Demand.{Demand3}
use Rattle.layer_laws.specs.listed.Releases.{ReleasesLists}

abbrev pub Listing : Type 0
Listing = World → ℕ → Settings → Items → ListOutcome

-- its single calls and joins go by the rules
abbrev pub but_lists : Listing → Layer
but_lists lists = record { does = step; lists = lists; joins = join }

-- ---- the rules' rows, and their items

abbrev pub one : World → Settings → Items → Row ListOutcome
one w settings t = refuse_list w t Broken (not (sound (size_of w.state) w settings.page))

abbrev pub two : World → Items → Row ListOutcome
two w t = refuse_list w t QuestionOpen (not (is_idle w.state.question))

abbrev pub nineteen : World → Items → Bool → Row ListOutcome
nineteen w t fits = refuse_list w t ListLength (not fits)

abbrev pub right_rows : World → Settings → Items → List (Row ListOutcome)
right_rows w settings t = one w settings t ∷ two w t ∷ nineteen w t (list_fits t) ∷ []

abbrev pub right_items : Listing
right_items w ns settings t = release_each ns settings t.pending w t.addresses t.counts

-- ---- other rows

abbrev pub by_rows : (World → Settings → Items → List (Row ListOutcome)) → Listing
by_rows rows w ns settings t = first_of (rows w settings t) (right_items w ns settings t)

abbrev pub nineteen_before_two : Listing
nineteen_before_two = by_rows (λ w settings t. one w settings t ∷ nineteen w t (list_fits t) ∷ two w t ∷ [])

abbrev pub nineteen_before_one : Listing
nineteen_before_one = by_rows (λ w settings t. nineteen w t (list_fits t) ∷ one w settings t ∷ two w t ∷ [])

-- so long a list does not pass 32,768
abbrev pub limit_refused : Listing
limit_refused = by_rows (λ w settings t. one w settings t ∷ two w t ∷ nineteen w t (list_fits t && ltb (length t.addresses) 32768) ∷ [])

abbrev pub no_limit : Listing
no_limit = by_rows (λ w settings t. one w settings t ∷ two w t ∷ nineteen w t (eqb (length t.counts) (length t.addresses) && eqb (length t.answers) (length t.addresses)) ∷ [])

-- the answers' length is not looked at, or is row 1's
abbrev pub answers_unlooked : Listing
answers_unlooked = by_rows (λ w settings t. one w settings t ∷ two w t ∷ nineteen w t (eqb (length t.counts) (length t.addresses) && leb (length t.addresses) 32768) ∷ [])

abbrev pub answers_are_one : Listing
answers_are_one = by_rows (λ w settings t. one w settings t ∷ refuse_list w t Broken (not (eqb (length t.answers) (length t.addresses))) ∷ two w t ∷ nineteen w t (list_fits t) ∷ [])

-- "n or size is 0"
abbrev pub empty_is_four : Listing
empty_is_four = by_rows (λ w settings t. one w settings t ∷ two w t ∷ nineteen w t (list_fits t) ∷ refuse_list w t Zero (eqb (length t.addresses) 0) ∷ [])

abbrev pub always_nineteen : Listing
always_nineteen = by_rows (λ w settings t. one w settings t ∷ two w t ∷ nineteen w t false ∷ [])

-- what is refused with 19 leaves more: the number in the answers, or the table moved
abbrev pub nineteen_written : Listing
nineteen_written =
    by_rows (λ w settings t. one w settings t ∷ two w t ∷ row (list_outcome (outcome (Refused ListLength) w) (map (λ a. 19) t.answers)) (not (list_fits t)) ∷ [])

abbrev pub moves_refused : Listing
moves_refused w ns settings t =
    first_of
    (one w settings t ∷ two w t ∷ row (list_outcome (outcome (Refused ListLength) (right_items w ns settings t).whole.world) t.answers) (not (list_fits t)) ∷ [])
    (right_items w ns settings t)

-- ---- other items

abbrev pub by_items : Listing → Listing
by_items each w ns settings t = first_of (right_rows w settings t) (each w ns settings t)

-- the first refused item ends it, and the places behind stay
abbrev pub stopping : ℕ → Settings → Bool → World → List ℕ → List ℕ → List ℕ → ListOutcome
stopping ns settings pending w (x ∷ xs) (n ∷ counts) (a ∷ answers) =
    let o = release_item ns settings pending w x n in
    let rest = stopping ns settings pending o.world xs counts answers in
    cond (eqb (item_number o.answer) 0) (list_outcome rest.whole (0 ∷ rest.numbers)) (list_outcome (outcome Released w) (item_number o.answer ∷ answers))
stopping ns settings pending w [] counts answers = list_outcome (outcome Released w) []
stopping ns settings pending w (x ∷ xs) [] answers = list_outcome (outcome Released w) []
stopping ns settings pending w (x ∷ xs) (n ∷ counts) [] = list_outcome (outcome Released w) []

abbrev pub stops_at_refusal : Listing
stops_at_refusal = by_items (λ w ns settings t. stopping ns settings t.pending w t.addresses t.counts t.answers)

-- nothing moves where an item is refused
abbrev pub all_zero : List ℕ → Bool
all_zero [] = true
all_zero (n ∷ numbers) = eqb n 0 && all_zero numbers

abbrev pub all_or_nothing : Listing
all_or_nothing =
    by_items (λ w ns settings t. cond (all_zero (right_items w ns settings t).numbers) (right_items w ns settings t) (list_outcome (outcome Released w) (right_items w ns settings t).numbers))

-- the last item is left out
abbrev pub last_skipped : Listing
last_skipped =
    by_items (λ w ns settings t. let k = length t.addresses - 1 in
    let r = release_each ns settings t.pending w (take k t.addresses) (take k t.counts) in
    list_outcome r.whole (r.numbers ++ drop k t.answers))

-- something is told of commitment
abbrev pub telling : Commitment → ℕ → Settings → Bool → World → List ℕ → List ℕ → ListOutcome
telling told ns settings pending w (x ∷ xs) (n ∷ counts) =
    let o = step w ns settings (act (release x n told pending)) in
    let rest = telling told ns settings pending o.world xs counts in
    list_outcome rest.whole (item_number o.answer ∷ rest.numbers)
telling told ns settings pending w [] counts = list_outcome (outcome Released w) []
telling told ns settings pending w (x ∷ xs) [] = list_outcome (outcome Released w) []

abbrev pub uncommits : Listing
uncommits = by_items (λ w ns settings t. telling Uncommitted ns settings t.pending w t.addresses t.counts)

abbrev pub commits : Listing
commits = by_items (λ w ns settings t. telling Committed ns settings t.pending w t.addresses t.counts)

-- the pending flag is not looked at
abbrev pub pends_none : Listing
pends_none = by_items (λ w ns settings t. release_each ns settings false w t.addresses t.counts)

abbrev pub pends_all : Listing
pends_all = by_items (λ w ns settings t. release_each ns settings true w t.addresses t.counts)

-- each item is released on the table that was lent, so that the last alone counts
abbrev pub from_the_lent : ℕ → Settings → Bool → World → World → List ℕ → List ℕ → ListOutcome
from_the_lent ns settings pending w v (x ∷ xs) (n ∷ counts) =
    let o = release_item ns settings pending w x n in
    let rest = from_the_lent ns settings pending w o.world xs counts in
    list_outcome rest.whole (item_number o.answer ∷ rest.numbers)
from_the_lent ns settings pending w v [] counts = list_outcome (outcome Released v) []
from_the_lent ns settings pending w v (x ∷ xs) [] = list_outcome (outcome Released v) []

abbrev pub last_counts : Listing
last_counts = by_items (λ w ns settings t. from_the_lent ns settings t.pending w w t.addresses t.counts)

-- nothing is released
abbrev pub says_only : Listing
says_only = by_items (λ w ns settings t. list_outcome (outcome Released w) (right_items w ns settings t).numbers)

-- nothing is answered at the places
abbrev pub answers_left : Listing
answers_left = by_items (λ w ns settings t. list_outcome (right_items w ns settings t).whole t.answers)

-- the call is refused where an item is
abbrev pub refused_by_item : Listing
refused_by_item =
    by_items (λ w ns settings t. cond (all_zero (right_items w ns settings t).numbers) (right_items w ns settings t)
    (list_outcome (outcome (Refused ListLength) (right_items w ns settings t).whole.world) (right_items w ns settings t).numbers))

-- ---- that each fails

abbrev pub Fails : Listing → Type 0
Fails lists = ReleasesLists (but_lists lists) → ⊥

pub record ListsFail : Type 0 where
  pub nineteen-before-two : Fails nineteen_before_two
  pub nineteen-before-one : Fails nineteen_before_one
  pub limit-refused : Fails limit_refused
  pub no-limit : Fails no_limit
  pub answers-unlooked : Fails answers_unlooked
  pub answers-are-one : Fails answers_are_one
  pub empty-is-four : Fails empty_is_four
  pub always-nineteen : Fails always_nineteen
  pub nineteen-written : Fails nineteen_written
  pub moves-refused : Fails moves_refused
  pub stops-at-refusal : Fails stops_at_refusal
  pub all-or-nothing : Fails all_or_nothing
  pub last-skipped : Fails last_skipped
  pub uncommits-them : Fails uncommits
  pub commits-them : Fails commits
  pub pends-none : Fails pends_none
  pub pends-all : Fails pends_all
  pub last-counts : Fails last_counts
  pub says-only : Fails says_only
  pub answers-left : Fails answers_left
  pub refused-by-item : Fails refused_by_item
  -- demand 3: the book says released, and then that the chunk is free
  pub book-says-released : Demand3 (but_lists always_nineteen) → ⊥
  pub book-says-free : Demand3 (but_lists says_only) → ⊥
