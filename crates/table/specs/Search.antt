-- A search of the table by a test. `g` is what the test promises. Assumes nothing.
use Rattle.std.specs.Prelude.{◌≡◌, Bool, true, false, List, ℕ, ◌<◌, Option, Some, None}
use Rattle.std.specs.Fn.{FnReturnsAt, Shared}
use denote.Ref.{Bor}
use Rattle.arena.specs.declared.Arena.{Arena}
use Rattle.layer.specs.Table.{at}

module _ {F : Type 0} (g : Shared F (Bor Arena × Unit {0}) Bool) (test : F) (l : List Arena) where
  -- the test may be called on each of the first k records
  abbrev pub TestsArenas : ℕ → Type 0
  TestsArenas k = (i : ℕ) → i < k → (a : Bor Arena) → a.now ≡ at l i → g.pre test (a, tt)

  -- the test may answer b of the record at i
  abbrev pub MayAnswer : ℕ → Bool → Type 0
  MayAnswer i b = FnReturnsAt g test (at l i) b

  -- the first of the first k records at which the test answers true, or none
  abbrev pub FirstToPass : ℕ → Option ℕ → Type 0
  FirstToPass k (Some i) = (i < k) × MayAnswer i true × ((j : ℕ) → j < i → MayAnswer j false)
  FirstToPass k None = (j : ℕ) → j < k → MayAnswer j false
