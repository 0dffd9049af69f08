-- What a release makes of one arena's record and of its stamps. Document 01, "Releasing": "Clears used bits, held or not. If told, sets or clears
-- committed bits. If pending, stamps each chunk, sets its pending bit, arms clock + delay, wrapping." Assumes nothing.
use Rattle.std.specs.Prelude.{Bool, cond, List, ◌++◌, ℕ, ◌+◌, take, drop, replicate}
use Rattle.bitmap.specs.Rows.{set_run, clear_run}
use Rattle.clock.specs.Clock.{armed, due_at}
use Rattle.arena.specs.declared.Arena.{Arena}
use Rattle.arena.specs.declared.Commitment.{Commitment}
use Rattle.arena.specs.declared.Commitment.TheVariants.{Untold, Committed, Uncommitted}
use Rattle.arena.specs.Record.{with_committed, with_pending, with_deadline}
use Rattle.arena.specs.Claiming.{give_back_run}

-- a run of the map of committed chunks set, cleared or left
unfoldable pub told_row : List ℕ → ℕ → ℕ → Commitment → List ℕ
told_row ws s n Untold = ws
told_row ws s n Committed = set_run ws s n
told_row ws s n Uncommitted = clear_run ws s n

-- the run's committed bits set, cleared or left
unfoldable pub tell_run : Arena → ℕ → ℕ → Commitment → Arena
tell_run a s n Untold = a
tell_run a s n Committed = with_committed a (set_run a.committed s n)
tell_run a s n Uncommitted = with_committed a (clear_run a.committed s n)

-- the run's pending bits set, and the deadline armed
unfoldable pub pend_run : Arena → ℕ → ℕ → ℕ → ℕ → Arena
pend_run a s n now delay = with_deadline (with_pending a (set_run a.pending s n)) (armed a.deadline (due_at now delay))

unfoldable pub release_run : Arena → ℕ → ℕ → Commitment → Bool → ℕ → ℕ → Arena
release_run a s n told pending now delay =
    let b = tell_run (give_back_run a s n) s n told in
    cond pending (pend_run b s n now delay) b

-- n stamps from s on made `at`, and no other
unfoldable pub stamp_run : List ℕ → ℕ → ℕ → ℕ → List ℕ
stamp_run stamps s n at = take s stamps ++ (replicate n at ++ drop (s + n) stamps)
