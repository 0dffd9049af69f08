-- Two layers become one: "At switch-over both layers are running." In the first, program 9 manages a shared arena and claims at id 0. In the second, as in Example, it reserves an exclusive
-- arena of 3 chunks, where program 7 claims at id 0. They are joined, and program 7 goes on in its arena at id 1. Assumes nothing.
use Rattle.std.specs.Prelude.{◌≡◌, true, false, List, [], ◌∷◌, ◌+◌, pos, negsuc, replicate}
use Rattle.arena.specs.declared.Arena.{Arena}
use Rattle.arena.specs.declared.Commitment.TheVariants.{Untold}
use Rattle.arena.specs.Moving.{overwritten}
use Rattle.layer.specs.declared.Question.TheVariants.{Idle}
use Rattle.layer.specs.World.{World, blank, state_with, world_of, empty}
use Rattle.layer.specs.Step.{manage, claim, release, act}
use Rattle.layer.specs.Book.{lowest, Fed, claims, releases, Say, granted, released, say_all}
use Rattle.layer.specs.History.{Marked, MarkedJoin, of_first, History, begin, joining, by_rules, Lent, Place, Where, place, fed, told, Keeps}
use Rattle.layer.specs.Demand.{book_of}
use Rattle.document_cases.specs.Example.{S, base, elsewhere, plain, own, shared, one, w₂, by, c₀, c₁, c₂, go_on, arena}

-- ---- before

-- what the first's calls leave, and its calls: the claim names the id that program 7's arena has in the other table
abbrev pub v₀ : World
v₀ = one (shared 0) 0 Idle

abbrev pub v₁ : World
v₁ = one (shared 1) 0 Idle

abbrev pub d₀ : Marked
d₀ = by 9 empty 0 (act (manage elsewhere 67108864 false (negsuc 0) false true))

abbrev pub d₁ : Marked
d₁ = by 9 v₀ 0 (act (claim (pos 0) 1 true))

abbrev pub in_first : History
in_first = go_on begin (d₀ ∷ d₁ ∷ [])

abbrev pub in_second : History
in_second = go_on begin (c₀ ∷ c₁ ∷ c₂ ∷ [])

-- ---- the join, and after it

abbrev pub switch : MarkedJoin
switch = record { first = v₁; second = w₂; ns = 0; settings = plain }

-- the one table: the second's arena stands behind the first's, and so do its stamps
abbrev pub united : Arena → Arena → World
united a b = world_of (a ∷ b ∷ replicate 30 blank) (overwritten (0 ∷ replicate 32767 0) 1024 (0 ∷ replicate 32767 0) 1024) (state_with 2 false Idle)

abbrev pub u₀ : World
u₀ = united (shared 1) (own 1 1 0 0 0)

abbrev pub u₁ : World
u₁ = united (shared 1) (own 3 3 0 0 0)

abbrev pub u₂ : World
u₂ = united (shared 1) (own 2 3 0 0 0)

-- the next chunk; chunk 0 is released, and claimed again
abbrev pub e₀ : Marked
e₀ = by 7 u₀ 0 (act (claim (pos 1) 1 false))

abbrev pub e₁ : Marked
e₁ = by 7 u₁ 0 (act (release base 1 Untold false))

abbrev pub e₂ : Marked
e₂ = by 7 u₂ 0 (act (claim (pos 1) 1 false))

abbrev pub history : History
history = go_on (joining of_first in_first in_second switch) (e₀ ∷ e₁ ∷ e₂ ∷ [])

-- ---- what is said

-- the arena, at its new id
abbrev pub moved : Place
moved = record { id = 1; size = S; base = base; chunks = 3; managed = false }

abbrev pub feeding : List Fed
feeding = claims lowest 1 ∷ claims lowest 1 ∷ releases base 1 ∷ claims lowest 1 ∷ []

abbrev pub telling : List Say
telling = granted base true ∷ granted (base + S) true ∷ released ∷ granted base false ∷ []

-- ---- what holds of it

pub record SwitchOver : Type 0 where
  -- the arena's id before the join
  pub before : Where in_second
  pub id-before : place in_second before ≡ arena
  -- and after it, where every premise of demand 3 is met for program 7
  pub after : Where history
  pub id-after : place history after ≡ moved
  pub lent : Lent by_rules history
  pub keeps : Keeps 7 history after
  pub fed-is : fed history after ≡ feeding
  pub told_is : told by_rules history after ≡ telling
  pub book-says : say_all (book_of moved) feeding ≡ telling
