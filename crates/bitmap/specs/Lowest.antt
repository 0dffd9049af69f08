-- The lowest run of n free places, over any test of a place and any number of places. It serves arenas (a clear used bit is free), the slice pool (a set
-- bit is free), and whatever else is claimed by runs. Document 01, "Claiming": "Lowest id, then lowest run of n"; "Refusal 10 comes if and only if no
-- eligible arena has n neighbouring clear used bits, written without any search". Assumes nothing.
use Rattle.std.specs.Prelude.{◌≡◌, Bool, true, false, cond, not, ◌&&◌, ℕ, zero, suc, ◌+◌, ◌≤◌, ◌<◌, leb, Option, Some, None}

-- ---- without any search

-- each of the n places from s on is free
abbrev pub Free : (ℕ → Bool) → ℕ → ℕ → Type 0
Free free s n = (j : ℕ) → s ≤ j → j < s + n → free j ≡ true

-- a run of n can start at s
pub record Starts (free : ℕ → Bool) (places n s : ℕ) : Type 0 where
  pub room : s + n ≤ places
  pub all-free : Free free s n

-- what an answer says: a run can start there and at no lower place; or no run can start anywhere
abbrev pub Lowest : (ℕ → Bool) → ℕ → ℕ → Option ℕ → Type 0
Lowest free places n (Some s) = Starts free places n s × ((t : ℕ) → t < s → Starts free places n t → ⊥)
Lowest free places n None = (t : ℕ) → Starts free places n t → ⊥

-- ---- the same, to compute with

-- whether p holds at each of s, s + 1, .., s + n - 1
unfoldable pub all : (ℕ → Bool) → ℕ → ℕ → Bool
all p s zero = true
all p s (suc n) = let rest = all p (suc s) n in cond (p s) rest false

-- the first of s, s + 1, .., s + k - 1 at which p holds
unfoldable pub least : (ℕ → Bool) → ℕ → ℕ → Option ℕ
least p s zero = None
least p s (suc k) = let rest = least p (suc s) k in cond (p s) (Some s) rest

-- the least s with s + n ≤ places and n free places from s on
unfoldable pub lowest_run : (ℕ → Bool) → ℕ → ℕ → Option ℕ
lowest_run free places n = least (λ s. leb (s + n) places && all free s n) 0 (suc places)

-- ---- the sense of a bit

-- whether a place is free, by its bit: a used map has a set bit for a place in use, a free map for a free one
abbrev pub sense : Bool → Bool → Bool
sense true b = not b
sense false b = b
