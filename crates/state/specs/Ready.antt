-- What a call's core is handed: a table that rows 1 and 2 let pass. Assumes nothing.
use Rattle.std.specs.Prelude.{◌≡◌, true, List, ℕ, ◌≤◌, length}
use Rattle.bitmap.specs.Lowest.{all}
use Rattle.arena.specs.declared.Arena.{Arena}
use Rattle.arena.specs.Soundness.{sound_arena}
use Rattle.layer.specs.declared.State.{State}
use Rattle.layer.specs.declared.Question.TheVariants.{Idle}
use Rattle.layer.specs.World.{size_of}
use Rattle.layer.specs.Table.{at, asked_id, sound_question}

-- 32 records of which the first count are sound, whatever question is open
pub record Standing (l : List Arena) (state : State) : Type 0 where
  pub lent : length l ≡ 32
  pub few : state.count ≤ 32
  pub each : all (λ i. sound_arena (size_of state) (at l i)) 0 state.count ≡ true

-- and no question is open
abbrev pub Ready : List Arena → State → Type 0
Ready l state = Standing l state × (state.question ≡ Idle)

-- and the stamps that are lent, where the core writes or reads them
abbrev pub Stamped : List ℕ → Type 0
Stamped stamps = length stamps ≡ 32768

-- what an answer's core is handed: a table that row 1 lets pass, with the question that is open
pub record Asked (l : List Arena) (stamps : List ℕ) (state : State) : Type 0 where
  pub standing : Standing l state
  pub stamped : Stamped stamps
  pub question : sound_question (at l (asked_id state.question)) state.count state.question ≡ true

-- k arenas that are sound, of chunks of S bytes
abbrev pub SoundArenas : ℕ → List Arena → ℕ → Type 0
SoundArenas S l k = (k ≤ length l) × (all (λ i. sound_arena S (at l i)) 0 k ≡ true)
