-- "Closing a ring gives back some hundreds of runs": a short one. Program 7, which holds chunk 0 of its exclusive arena of 3 chunks as in Example, claims the next and gives both back by one list, with
-- an address of no arena and an item twice in it. A list of program 9 that names the arena is refused as a whole, and breaks nobody's "alone". Then 7 claims again. Assumes nothing.
use Rattle.std.specs.Prelude.{◌≡◌, true, false, List, [], ◌∷◌, ◌+◌, pos}
use Rattle.layer.specs.declared.Question.TheVariants.{Idle}
use Rattle.layer.specs.World.{World}
use Rattle.layer.specs.Step.{claim, act}
use Rattle.layer.specs.Listing.{items}
use Rattle.layer.specs.Book.{lowest, Fed, claims, releases, Say, granted, released, say_all}
use Rattle.layer.specs.History.{Marked, MarkedList, History, next, listing, by_rules, Lent, Where, place, fed, told, Keeps}
use Rattle.layer.specs.Demand.{book_of}
use Rattle.document_cases.specs.Example.{S, base, elsewhere, plain, own, one, w₂, by, arena}
use Rattle.document_cases.specs.SwitchOver.{in_second}

-- ---- what the calls leave, one after the other

abbrev pub r₁ : World
r₁ = one (own 3 3 0 0 0) 0 Idle

abbrev pub r₂ : World
r₂ = one (own 0 3 0 0 0) 0 Idle

abbrev pub r₃ : World
r₃ = one (own 1 3 0 0 0) 0 Idle

-- ---- the calls

abbrev pub holds : Marked
holds = by 7 w₂ 0 (act (claim (pos 0) 1 false))

abbrev pub closes : MarkedList
closes =
    record {
      who = 7;
      lent = r₁;
      ns = 0;
      settings = plain;
      items = items (base ∷ elsewhere ∷ (base + S) ∷ (base + S) ∷ []) (1 ∷ 1 ∷ 2 ∷ 1 ∷ []) (9 ∷ 9 ∷ 9 ∷ 9 ∷ []) false;
    }

abbrev pub anothers : MarkedList
anothers = record { who = 9; lent = r₂; ns = 0; settings = plain; items = items (base ∷ []) [] (9 ∷ []) false }

abbrev pub holds_again : Marked
holds_again = by 7 r₂ 0 (act (claim (pos 0) 1 false))

abbrev pub history : History
history = next (listing (listing (next in_second holds) closes) anothers) holds_again

-- ---- what is said: one by one, in list order, and nothing of the item that lies elsewhere

abbrev pub feeding : List Fed
feeding = claims lowest 1 ∷ claims lowest 1 ∷ releases base 1 ∷ releases (base + S) 2 ∷ releases (base + S) 1 ∷ claims lowest 1 ∷ []

abbrev pub telling : List Say
telling = granted base true ∷ granted (base + S) true ∷ released ∷ released ∷ released ∷ granted base false ∷ []

-- ---- what holds of it

pub record Ring : Type 0 where
  pub after : Where history
  pub id-after : place history after ≡ arena
  pub lent : Lent by_rules history
  pub keeps : Keeps 7 history after
  pub fed-is : fed history after ≡ feeding
  pub told_is : told by_rules history after ≡ telling
  pub book-says : say_all (book_of arena) feeding ≡ telling
