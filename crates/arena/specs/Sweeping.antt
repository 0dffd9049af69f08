-- The sweep's work on one arena. Document 01, "Sweeping". `stamps` are the arena's own 1,024; `now` and `delay` are milliseconds. Assumes nothing.
use Rattle.std.specs.Prelude.{Bool, false, cond, not, ◌&&◌, ◌||◌, List, ℕ, zero, suc, ◌-◌, min, eqb, ltb, get_or, Option, Some, None}
use Rattle.bitmap.specs.Bits.{bit_at}
use Rattle.bitmap.specs.Rows.{clear_run}
use Rattle.bitmap.specs.Lowest.{least}
use Rattle.clock.specs.Clock.{armed, is_due, age_of, due_at}
use Rattle.arena.specs.declared.Arena.{Arena}
use Rattle.arena.specs.declared.Commitment.TheVariants.{Uncommitted}
use Rattle.arena.specs.Record.{with_pending, with_deadline}
use Rattle.arena.specs.Claiming.{take_run, give_back_run}
use Rattle.arena.specs.Releasing.{tell_run}

-- "Deadline 0: skipped. Unforced, skipped [unless due]."
unfoldable pub sweep_due : Arena → Bool → ℕ → Bool
sweep_due a force now = not (eqb a.deadline 0) && (force || is_due a.deadline now)

-- "Otherwise disarmed."
unfoldable pub disarm : Arena → Arena
disarm a = with_deadline a 0

-- "Unforced, a pending chunk, used or not, younger than the delay (now − stamp, wrapping)"
unfoldable pub young : List ℕ → Bool → ℕ → ℕ → ℕ → Bool
young stamps force now delay j = not force && ltb (age_of now (get_or stamps j 0)) delay

-- a young one "is not asked about; of the others a used one is passed over, still pending; the rest are asked about"
unfoldable pub to_ask : Arena → List ℕ → Bool → ℕ → ℕ → ℕ → Bool
to_ask a stamps force now delay j = bit_at a.pending j && (not (young stamps force now delay j) && not (bit_at a.used j))

-- the next chunk to ask about from a place on: "chunks ascending"
unfoldable pub next_asked : Arena → List ℕ → Bool → ℕ → ℕ → ℕ → Option ℕ
next_asked a stamps force now delay from = least (to_ask a stamps force now delay) from (a.chunks - from)

-- "used bit set meanwhile"
unfoldable pub borrow_chunk : Arena → ℕ → Arena
borrow_chunk a j = take_run a j 1

unfoldable pub unpend_chunk : Arena → ℕ → Arena
unpend_chunk a j = with_pending a (clear_run a.pending j 1)

-- "An answer clears pending and used; yes [..] with decommit, clears committed."
unfoldable pub return_chunk : Arena → ℕ → Bool → Bool → Arena
return_chunk a j granted decommit =
    let b = give_back_run (unpend_chunk a j) j 1 in
    cond (granted && decommit) (tell_run b j 1 Uncommitted) b

-- the lesser of a number and one that was found
abbrev pub nearer : ℕ → Option ℕ → Option ℕ
nearer x None = Some x
nearer x (Some y) = Some (min x y)

-- the least f j over the j among s, s + 1, .., s + k - 1 at which p holds
unfoldable pub nearest : (ℕ → Bool) → (ℕ → ℕ) → ℕ → ℕ → Option ℕ
nearest p f s zero = None
nearest p f s (suc k) = let rest = nearest p f (suc s) k in cond (p s) (nearer (f s) rest) rest

-- how long from now a young chunk's deadline is: its stamp + delay, counted from now
unfoldable pub wait : List ℕ → ℕ → ℕ → ℕ → ℕ
wait stamps now delay j = delay - age_of now (get_or stamps j 0)

-- the young among the pending chunks give "a next deadline of stamp + delay, wrapping, the earliest counted from now"
unfoldable pub next_wait : Arena → List ℕ → ℕ → ℕ → Option ℕ
next_wait a stamps now delay = nearest (λ j. bit_at a.pending j && young stamps false now delay j) (wait stamps now delay) 0 a.chunks

-- "being rearmed after the arena"
abbrev pub rearm_at : Arena → ℕ → Option ℕ → Arena
rearm_at a now (Some w) = with_deadline a (armed a.deadline (due_at now w))
rearm_at a now None = a

-- a forced sweep judges no age, so it rearms nothing
unfoldable pub rearm : Arena → List ℕ → Bool → ℕ → ℕ → Arena
rearm a stamps force now delay = cond force a (rearm_at a now (next_wait a stamps now delay))
