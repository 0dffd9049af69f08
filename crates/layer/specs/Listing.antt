-- A list of releases, wish 3 of document 02: the rules of the call on any lent table and any lent lists. Its items are releases of `step`, so it stands beside it.
-- Assumes nothing.
use Rattle.std.specs.Prelude.{◌≡◌, ◌&&◌, ◌∷◌}
use Rattle.layer.specs.Prelude.{Bool, not, List, [], ℕ, eqb, leb, length, Refusal, Broken, QuestionOpen, ListLength, Arena, Untold, Settings, Answer, Refused, Asks, Registered, Claimed, Released, Swept, Owns, Area, Reply}
use Rattle.refusals.specs.Number.{number}
use Rattle.layer.specs.World.{World, Outcome, size_of, outcome, Leaves, Row, row, first_of}
use Rattle.layer.specs.Table.{sound}
use Rattle.layer.specs.Answering.{is_idle}
use Rattle.layer.specs.Step.{release, act, step}

-- "one call with a lent list of addresses, one of counts, one for answers, and one pending flag for all; it says nothing of commitment"
pub record Items : Type 0 where
  pub addresses : List ℕ
  pub counts : List ℕ
  pub answers : List ℕ
  pub pending : Bool

abbrev pub items : List ℕ → List ℕ → List ℕ → Bool → Items
items addresses counts answers pending = record { addresses = addresses; counts = counts; answers = answers; pending = pending }

-- what the call as a whole answers and leaves, and the numbers that stand in the list of answers then
pub record ListOutcome : Type 0 where
  pub whole : Outcome
  pub numbers : List ℕ

abbrev pub list_outcome : Outcome → List ℕ → ListOutcome
list_outcome o numbers = record { whole = o; numbers = numbers }

-- "a list refused as a whole": it leaves the table, and its answers as lent
abbrev pub refuse_list : World → Items → Refusal → Bool → Row ListOutcome
refuse_list w t why holds = row (list_outcome (outcome (Refused why) w) t.answers) holds

-- "each item's number (0 for granted) stands at its place"; a release is granted or turned down, so the other answers are none of an item's
abbrev pub item_number : Answer → ℕ
item_number (Refused why) = number why
item_number Released = 0
item_number (Asks ask) = 0
item_number (Registered id) = 0
item_number (Claimed address fresh committed) = 0
item_number (Swept count) = 0
item_number (Owns whether) = 0
item_number (Area base bytes) = 0

-- one item is a release of `step`, not told
abbrev pub release_item : ℕ → Settings → Bool → World → ℕ → ℕ → Outcome
release_item ns settings pending w address n = step w ns settings (act (release address n Untold pending))

-- "It leaves what single releases in list order at the same clock and settings would leave"
abbrev pub release_each : ℕ → Settings → Bool → World → List ℕ → List ℕ → ListOutcome
release_each ns settings pending w (x ∷ xs) (n ∷ counts) =
    let o = release_item ns settings pending w x n in
    let rest = release_each ns settings pending o.world xs counts in
    list_outcome rest.whole (item_number o.answer ∷ rest.numbers)
release_each ns settings pending w [] counts = list_outcome (outcome Released w) []
release_each ns settings pending w (x ∷ xs) [] = list_outcome (outcome Released w) []

-- "19 when the three lengths differ or pass 32,768"
unfoldable pub list_fits : Items → Bool
list_fits t = eqb (length t.counts) (length t.addresses) && (eqb (length t.answers) (length t.addresses) && leb (length t.addresses) 32768)

-- THE RULES of a list, on any lent table. 19 is "checked after 2".
unfoldable pub release_list : World → ℕ → Settings → Items → ListOutcome
release_list w ns settings t =
    first_of
    (refuse_list w t Broken (not (sound (size_of w.state) w settings.page))
    ∷ refuse_list w t QuestionOpen (not (is_idle w.state.question))
    ∷ refuse_list w t ListLength (not (list_fits t))
    ∷ [])
    (release_each ns settings t.pending w t.addresses t.counts)

-- what the entry point over the lent slices leaves
abbrev pub LeavesList : ListOutcome → Reply → List Arena → List ℕ → List ℕ → Type 0
LeavesList o r records stamps answers = Leaves o.whole r records stamps × (answers ≡ o.numbers)
