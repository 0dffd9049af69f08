-- A search of the first k records, by what a test may answer of each. Assumes nothing.
use Rattle.std.specs.Prelude.{◌≡◌, Bool, true, false, List, ℕ, ◌<◌, ◌≤◌, Option, Some, None, length}
use Rattle.std.proofs.Common.{subst, sym, arith, take, get_or, ◌∙◌}
use Rattle.std.proofs.lemmas.List.{get_or-take, get_or_default, length-take}
use Rattle.std.specs.Fn.{FnReturnsAt, Shared}
use Rattle.std.specs.List.{AllWithin, HoldsAt}
use Rattle.std.specs.Option.{MatchOption}
use denote.Ref.{Bor}
use Rattle.bitmap.specs.Lowest.{least}
use Rattle.arena.specs.declared.Arena.{Arena}
use Rattle.layer.specs.World.{blank}
use Rattle.layer.specs.Table.{at}
use Rattle.table.specs.Search.{MayAnswer, FirstToPass}
use Rattle.table.proofs.TurnLaws.{found_at, found_none}

module _ (l : List Arena) (k : ℕ) where
  pub length-front : k ≤ length l → length (take k l) ≡ k
  length-front m = omega (arith, length-take k l, m)

  -- the record that stands at a place of the first k, whatever stands for one past the end
  pub front_at : k ≤ length l → (i : ℕ) (d : Arena) → i < k → get_or (take k l) i d ≡ at l i
  front_at m i d h = get_or_default (take k l) i d blank (omega (arith, h, length-front m)) ∙ get_or-take k l i blank h

  pub at-front : k ≤ length l → (i : ℕ) (x : Arena) → i < length (take k l) → x ≡ get_or (take k l) i x → (i < k) × (x ≡ at l i)
  at-front m i x h e = let few : i < k = omega (arith, h, length-front m) in (few, e ∙ front_at m i x few)

  module _ {F : Type 0} (g : Shared F (Bor Arena × Unit {0}) Bool) (test : F) where
    abbrev May : Bool → Arena → Type 0
    May b x = FnReturnsAt g test x b

    in-front : (b : Bool) (j : ℕ) → j < k → HoldsAt (May b) (take k l) j → MayAnswer g test l j b
    in-front b j h e = subst (May b) (get_or-take k l j blank h) (e blank)

    -- what `position` answers of the first k
    pub first-in-front : k ≤ length l → (r : Option ℕ)
        → MatchOption r (AllWithin (May false) (take k l) 0 (length (take k l)))
        (λ i. (i < length (take k l)) × HoldsAt (May true) (take k l) i × AllWithin (May false) (take k l) 0 i)
        → FirstToPass g test l k r
    first-in-front m None h = λ j e. in-front false j e (λ d. h j d (omega arith) (omega (arith, length-front m, e)))
    first-in-front m (Some i) h =
        let few : i < k = omega (arith, h.0, length-front m) in
        (few, in-front true i few h.1, λ j e. in-front false j (omega (arith, e, few)) (λ d. h.2 j d (omega arith) e))

    -- where each answer is p's, the first to pass is the least at which p holds
    pub first-is-least : (p : ℕ → Bool) → ((i : ℕ) (b : Bool) → i < k → MayAnswer g test l i b → b ≡ p i) → (r : Option ℕ)
        → FirstToPass g test l k r → r ≡ least p 0 k
    first-is-least p says None h = found_none p k (λ j e. sym (says j false e (h j e)))
    first-is-least p says (Some i) h =
        found_at p k i h.0 (λ j e. sym (says j false (omega (arith, e, h.0)) (h.2 j e))) (sym (says i true h.0 h.1))
