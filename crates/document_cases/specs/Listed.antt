-- Wish 3 of document 02, worked by hand: the smallest lists that tell its readings apart, over the rules. Each case is an equation of the answer, of all that is left, and of the list of answers.
-- Assumes nothing.
use Rattle.std.specs.Prelude.{◌≡◌, true, false, List, [], ◌∷◌, ℕ, ◌*◌, ◌+◌, ℤ, pos, negsuc, replicate}
use Rattle.refusals.specs.declared.Refusal.{Refusal}
use Rattle.refusals.specs.declared.Refusal.TheVariants.{Broken, QuestionOpen, ListLength}
use Rattle.layer.specs.declared.Question.TheVariants.{Idle}
use Rattle.layer.specs.declared.Answer.TheVariants.{Refused, Released}
use Rattle.layer.specs.World.{World, outcome}
use Rattle.layer.specs.Listing.{Items, items, list_outcome, release_list}
use Rattle.document_cases.specs.Refused.{S, short}
use Rattle.document_cases.specs.Joined.{four, two, zeros, stamp_in0}
use Rattle.document_cases.specs.Never.{base, table_of, older, calmer, purge_at, at_delay}

-- ---- the lists, at 50 ms. On `older` chunks 0 and 2 of the 4 at `base` are held, and chunk 1 is pending since 10 ms, with the deadline at 20 ms; on `calmer` none is pending

-- granted: v is left, and the numbers stand at their places
abbrev pub Grants : ℤ → World → Items → World → List ℕ → Type 0
Grants d w t v numbers = release_list w 50000000 (at_delay d) t ≡ list_outcome (outcome Released v) numbers

-- refused as a whole: all is left, the answers as they were lent
abbrev pub Refuses : World → Items → Refusal → Type 0
Refuses w t why = release_list w 50000000 (at_delay (pos 10)) t ≡ list_outcome (outcome (Refused why) w) t.answers

-- where a chunk starts, and an address inside the first
abbrev pub chunk : ℕ → ℕ
chunk j = base + j * S

abbrev pub part : ℕ
part = base + 1

-- a list whose releases are not pending
abbrev pub not_pending : List ℕ → List ℕ → List ℕ → Items
not_pending addresses counts answers = items addresses counts answers false

-- two arenas of 4 chunks, at 32 S and at 64 S, by the first words of their used maps
abbrev pub both_held : ℕ → ℕ → World
both_held used others = two (four base used 15 0 0) (four (64 * S) others 15 0 0) zeros false

-- ---- what holds

pub record ListedCases : Type 0 where
  -- "It leaves what single releases in list order [..] would leave, and each item's number (0 for granted) stands at its place"; "it says nothing of commitment"
  pub closes : Grants (pos 10) older (not_pending (chunk 0 ∷ chunk 2 ∷ []) (1 ∷ 1 ∷ []) (99 ∷ 99 ∷ [])) (table_of 0 7 2 20 stamp_in0 Idle) (0 ∷ 0 ∷ [])
  -- a refused item does not stop the list, and does not undo it
  pub passes-refused : Grants (pos 10) older (not_pending (chunk 0 ∷ 5 ∷ chunk 2 ∷ []) (1 ∷ 1 ∷ 1 ∷ []) (99 ∷ 99 ∷ 99 ∷ [])) (table_of 0 7 2 20 stamp_in0 Idle) (0 ∷ 8 ∷ 0 ∷ [])
  pub first-refused : Grants (pos 10) older (not_pending (5 ∷ chunk 0 ∷ []) (1 ∷ 1 ∷ []) (99 ∷ 99 ∷ [])) (table_of 4 7 2 20 stamp_in0 Idle) (8 ∷ 0 ∷ [])
  pub all-refused : Grants (pos 10) older (not_pending (5 ∷ chunk 0 ∷ []) (1 ∷ 0 ∷ []) (99 ∷ 99 ∷ [])) older (8 ∷ 4 ∷ [])
  -- 4, 8, 7 and 9, each at its place
  pub each_number : Grants (pos 10) older (not_pending (chunk 0 ∷ chunk 4 ∷ part ∷ chunk 0 ∷ chunk 2 ∷ []) (0 ∷ 1 ∷ 1 ∷ 5 ∷ 1 ∷ []) (99 ∷ 99 ∷ 99 ∷ 99 ∷ 99 ∷ []))
      (table_of 1 7 2 20 stamp_in0 Idle) (4 ∷ 8 ∷ 7 ∷ 9 ∷ 0 ∷ [])
  -- an item twice, and items that overlap: "held or not" as single releases
  pub twice : Grants (pos 10) older (not_pending (chunk 0 ∷ chunk 0 ∷ []) (1 ∷ 1 ∷ []) (99 ∷ 99 ∷ [])) (table_of 4 7 2 20 stamp_in0 Idle) (0 ∷ 0 ∷ [])
  pub overlapping : Grants (pos 10) older (not_pending (chunk 0 ∷ chunk 1 ∷ []) (2 ∷ 3 ∷ []) (99 ∷ 99 ∷ [])) (table_of 0 7 2 20 stamp_in0 Idle) (0 ∷ 0 ∷ [])
  -- of several arenas
  pub both-arenas : Grants (pos 10) (both_held 15 15) (not_pending (chunk 33 ∷ chunk 0 ∷ []) (1 ∷ 2 ∷ []) (99 ∷ 99 ∷ [])) (both_held 12 13) (0 ∷ 0 ∷ [])
  -- "one pending flag for all": the first item arms, the second finds the deadline set
  pub pends : Grants (pos 10) calmer (items (chunk 0 ∷ chunk 2 ∷ []) (1 ∷ 1 ∷ []) (99 ∷ 99 ∷ []) true) (table_of 0 7 5 60 (50 ∷ 10 ∷ 50 ∷ replicate 32765 0) Idle) (0 ∷ 0 ∷ [])
  -- and with a negative delay none is pending
  pub pends-never : Grants (negsuc 0) calmer (items (chunk 0 ∷ chunk 2 ∷ []) (1 ∷ 1 ∷ []) (99 ∷ 99 ∷ []) true) (table_of 0 7 0 0 stamp_in0 Idle) (0 ∷ 0 ∷ [])
  -- the empty list is granted, and arms nothing
  pub empty-list : Grants (pos 10) calmer (items [] [] [] true) calmer []
  -- "19 when the three lengths differ": each of the three, and the answers stay as they were lent
  pub few-counts : Refuses older (not_pending (chunk 0 ∷ chunk 0 ∷ []) (1 ∷ []) (99 ∷ 98 ∷ [])) ListLength
  pub few-answers : Refuses older (not_pending (chunk 0 ∷ chunk 0 ∷ []) (1 ∷ 1 ∷ []) (99 ∷ [])) ListLength
  pub few-addresses : Refuses older (not_pending (chunk 0 ∷ []) (1 ∷ 1 ∷ []) (99 ∷ 98 ∷ [])) ListLength
  pub no-answers : Refuses older (not_pending (chunk 0 ∷ []) (1 ∷ []) []) ListLength
  -- "checked after 2", and after 1
  pub two-first : Refuses (table_of 7 7 2 0 stamp_in0 (purge_at true 1 0)) (not_pending (chunk 0 ∷ []) [] (99 ∷ [])) QuestionOpen
  pub one-first : Refuses short (not_pending (chunk 0 ∷ []) [] (99 ∷ [])) Broken
