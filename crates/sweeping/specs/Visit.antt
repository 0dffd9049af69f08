-- A sweep at one arena as the code makes it, and what its cores are handed. Assumes nothing.
use Rattle.std.specs.Prelude.{cond, List, ℕ, ◌+◌, ◌*◌, ◌^◌, ◌<◌, ◌≤◌, length, Option, Some, None}
use Rattle.arena.specs.declared.Arena.{Arena}
use Rattle.arena.specs.Sweeping.{sweep_due, disarm, next_asked, borrow_chunk, rearm}
use Rattle.layer.specs.declared.State.{State}
use Rattle.layer.specs.declared.Sweep.{Sweep}
use Rattle.layer.specs.World.{size_of}
use Rattle.layer.specs.Table.{at}
use Rattle.state.specs.Ready.{Standing, Stamped}

-- the chunk of arena a that a sweep asks about as it comes to it; `stamps` are the arena's own
unfoldable pub asked_at : Sweep → Arena → List ℕ → Option ℕ
asked_at w a stamps = cond (sweep_due a w.force w.now) (next_asked (disarm a) stamps w.force w.now w.delay 0) None

-- the record a, whose chunk is asked about or none
abbrev pub left_by : Sweep → Arena → List ℕ → Option ℕ → Arena
left_by w a stamps (Some j) = borrow_chunk a j
left_by w a stamps None = rearm a stamps w.force w.now w.delay

-- and as the sweep leaves it
unfoldable pub visited : Sweep → Arena → List ℕ → Arena
visited w a stamps =
    cond (sweep_due a w.force w.now) (left_by w (disarm a) stamps (next_asked (disarm a) stamps w.force w.now w.delay 0)) a

-- arenas that a sweep may go over: each within the bounds of the arithmetic
abbrev pub Ranged : ℕ → List Arena → ℕ → Type 0
Ranged S l k = (i : ℕ) → i < k → ((at l i).chunks ≤ 1024) × ((at l i).base + (at l i).chunks * S < 2 ^ 64)

abbrev pub Sweepable : List Arena → State → Type 0
Sweepable l state = (state.count ≤ 32) × (state.count ≤ length l) × Ranged (size_of state) l state.count

-- a table that row 1 lets pass, with the chunk of arena id whose purge the sweep w has asked for
pub record Borrowed (l : List Arena) (stamps : List ℕ) (state : State) (id chunk : ℕ) (w : Sweep) : Type 0 where
  pub standing : Standing l state
  pub stamped : Stamped stamps
  pub registered : id < state.count
  pub inside : chunk < (at l id).chunks
  pub few : w.purged ≤ 1024 * id + chunk
