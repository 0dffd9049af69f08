-- The share book of an exclusive arena, a term of document 01. It is told base, number of chunks and whether managed, and fed the claims and releases of its
-- program; it knows no table, answer, clock or setting. Assumes nothing.
use Rattle.std.specs.Prelude.{Bool, false, cond, not, ◌&&◌, ◌||◌, List, [], ◌∷◌, ℕ, ◌+◌, ◌-◌, ◌*◌, ◌/◌, ◌%◌, leb, eqb, Option, Some, None}
use Rattle.bitmap.specs.Bits.{within}
use Rattle.bitmap.specs.Lowest.{all, lowest_run}

-- the bytes of a chunk, the range, which chunks are held, and which were ever granted
pub record Book : Type 0 where
  pub size : ℕ
  pub base : ℕ
  pub chunks : ℕ
  pub held : ℕ → Bool
  pub touched : ℕ → Bool

-- how a claim chooses its run: "the lowest such run"; later requests add cases
pub data How : Type 0 where
  lowest : How

-- a choice of a run: the test of a place, the number of places, the length
abbrev pub Choice : Type 0
Choice = (ℕ → Bool) → ℕ → ℕ → Option ℕ

abbrev pub chosen : How → Choice
chosen lowest = lowest_run

-- "It is fed, in order, n of each claim of its program at that id, and address and n of each of its releases in the range"
pub data Fed : Type 0 where
  claims : How → ℕ → Fed
  releases : ℕ → ℕ → Fed

-- "Each such claim's refusal, or address and fresh mark, and each such release's refusal or grant": refusals by document 01's numbers
pub data Say : Type 0 where
  refused : ℕ → Say
  granted : ℕ → Bool → Say
  released : Say

-- what the book says, and the book after it
pub record Turn : Type 0 where
  pub say : Say
  pub book : Book

abbrev pub turn : Say → Book → Turn
turn s b = record { say = s; book = b }

-- "told base, number of chunks and whether managed": "At first no chunk is held; all are touched if managed, else none."
abbrev pub opened : ℕ → ℕ → ℕ → Bool → Book
opened size base chunks managed = record { size = size; base = base; chunks = chunks; held = λ j. false; touched = λ j. within 0 chunks j && managed }

abbrev pub unheld : Book → ℕ → Bool
unheld b j = not (b.held j)

-- the run of n from s on "becomes held; [..] now all of it is [touched]"
abbrev pub hold : Book → ℕ → ℕ → Book
hold b s n = record { size = b.size; base = b.base; chunks = b.chunks; held = λ j. within s n j || b.held j; touched = λ j. within s n j || b.touched j }

-- "the run becomes unheld, held before or not"
abbrev pub unhold : Book → ℕ → ℕ → Book
unhold b s n = record { size = b.size; base = b.base; chunks = b.chunks; held = λ j. not (within s n j) && b.held j; touched = b.touched }

-- "Without n neighbouring unheld chunks, 10. Otherwise the lowest such run, at base + start × S, becomes held; it is fresh if none of it was touched"
abbrev pub claimed : Book → ℕ → Option ℕ → Turn
claimed b n None = turn (refused 10) b
claimed b n (Some s) = turn (granted (b.base + s * b.size) (all (λ j. not (b.touched j)) s n)) (hold b s n)

-- "Claim of n: 0 is 4"; "Release of n: 0 is 4, an address not whole 7, a run past the end 9." "A refusal changes nothing."
unfoldable pub enter : Book → Fed → Turn
enter b (claims how n) = cond (eqb n 0) (turn (refused 4) b) (claimed b n (chosen how (unheld b) b.chunks n))
enter b (releases x n) =
    cond (eqb n 0) (turn (refused 4) b)
    (cond (eqb ((x - b.base) % b.size) 0)
    (cond (leb ((x - b.base) / b.size + n) b.chunks) (turn released (unhold b ((x - b.base) / b.size) n)) (turn (refused 9) b))
    (turn (refused 7) b))

-- the book after all that it is fed, and all that it says
abbrev pub enter_all : Book → List Fed → Book
enter_all b [] = b
enter_all b (f ∷ fs) = enter_all (enter b f).book fs

abbrev pub say_all : Book → List Fed → List Say
say_all b [] = []
say_all b (f ∷ fs) = (enter b f).say ∷ say_all (enter b f).book fs
