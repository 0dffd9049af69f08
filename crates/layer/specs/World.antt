-- What a call works on and what it leaves: the 32 records, the 32,768 stamps and the state; and the rows that end a call. Assumes nothing.
use Rattle.std.specs.Prelude.{◌≡◌, ◌∷◌}
use Rattle.layer.specs.Prelude.{Bool, false, cond, List, [], ℕ, pos, replicate, Refusal, Arena, no_bits, State, Question, Idle, Answer, Refused, Reply}

pub record World : Type 0 where
  pub records : List Arena
  pub stamps : List ℕ
  pub state : State

-- what a call answers, and the world that it leaves
pub record Outcome : Type 0 where
  pub answer : Answer
  pub world : World

-- "A chunk is S = 33,554,432 bytes"
abbrev pub size_of : State → ℕ
size_of state = 33554432

abbrev pub state_with : ℕ → Bool → Question → State
state_with count mark question = record { count = count; mark = mark; question = question }

-- no question open
abbrev pub calm : ℕ → Bool → State
calm count mark = state_with count mark Idle

abbrev pub world_of : List Arena → List ℕ → State → World
world_of records stamps state = record { records = records; stamps = stamps; state = state }

abbrev pub outcome : Answer → World → Outcome
outcome answer world = record { answer = answer; world = world }

-- an answer with the state that the call leaves, and the outcome with the records and stamps beside it
abbrev pub reply : Answer → State → Reply
reply answer state = record { answer = answer; state = state }

abbrev pub after : Reply → List Arena → List ℕ → Outcome
after r records stamps = outcome r.answer (world_of records stamps r.state)

-- what an entry point over the lent slices leaves: the outcome's answer and state go back by value, its records and stamps stand in the slices
abbrev pub reply_in : Outcome → Reply
reply_in o = reply o.answer o.world.state

abbrev pub Leaves : Outcome → Reply → List Arena → List ℕ → Type 0
Leaves o r records stamps = (r ≡ reply_in o) × (records ≡ o.world.records) × (stamps ≡ o.world.stamps)

abbrev pub turn_down : Refusal → State → Reply
turn_down why state = reply (Refused why) state

-- ---- rows

-- where a row of a call holds, the call ends so
pub record Row (A : Type 0) : Type 0 where
  pub ends : A
  pub holds : Bool

abbrev pub row : {A : Type 0} → A → Bool → Row A
row ends holds = record { ends = ends; holds = holds }

-- "Each refusal leaves all state and lent memory untouched"
abbrev pub refuse : World → Refusal → Bool → Row Outcome
refuse w why holds = row (outcome (Refused why) w) holds

-- each call is the first of its rows that holds, and else its act
abbrev pub first_of : {A : Type 0} → List (Row A) → A → A
first_of [] go = go
first_of (r ∷ rows) go = cond r.holds r.ends (first_of rows go)

-- ---- the empty layer

-- a record with nothing in it: what an id past the table stands for, and what the empty layer holds
abbrev pub blank : Arena
blank = record { base = 0; chunks = 0; exclusive = 0; owned = 0; node = pos 0; deadline = 0; used = no_bits; dirty = no_bits; committed = no_bits; pending = no_bits }

-- "The empty layer has no arena, no open question, no give-up mark and zeros elsewhere."
unfoldable pub empty : World
empty = world_of (replicate 32 blank) (replicate 32768 0) (calm 0 false)
