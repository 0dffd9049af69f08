-- What a sweep waits for in an arena, by the maps that it reads: `arena`'s next_wait and rearm. `stamps` are the arena's own 1,024; `now` and
-- `delay` are milliseconds. Assumes nothing.
use Rattle.std.specs.Prelude.{Bool, false, cond, ◌&&◌, List, ℕ, Option, Some, None}
use Rattle.bitmap.specs.Bits.{bit_at}
use Rattle.clock.specs.Clock.{armed, due_at}
use Rattle.arena.specs.Sweeping.{young, nearest, wait}

-- the shortest wait for a young chunk among the pending
unfoldable pub wait_in : List ℕ → ℕ → List ℕ → ℕ → ℕ → Option ℕ
wait_in pending chunks stamps now delay = nearest (λ j. bit_at pending j && young stamps false now delay j) (wait stamps now delay) 0 chunks

-- a deadline, armed anew for that wait
abbrev pub armed_for : ℕ → ℕ → Option ℕ → ℕ
armed_for deadline now (Some w) = armed deadline (due_at now w)
armed_for deadline now None = deadline

-- the deadline after a sweep; a forced one leaves it
unfoldable pub next_deadline : ℕ → List ℕ → ℕ → List ℕ → Bool → ℕ → ℕ → ℕ
next_deadline deadline pending chunks stamps force now delay = cond force deadline (armed_for deadline now (wait_in pending chunks stamps now delay))
