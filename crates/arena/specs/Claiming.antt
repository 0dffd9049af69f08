-- What a claim finds in one arena and makes of its record. Document 01, "Claiming". Assumes nothing.
use Rattle.std.specs.Prelude.{Bool, cond, not, ℕ, Option}
use Rattle.bitmap.specs.Bits.{bit_at}
use Rattle.bitmap.specs.Rows.{set_run, clear_run}
use Rattle.bitmap.specs.Lowest.{all, lowest_run}
use Rattle.arena.specs.declared.Arena.{Arena}
use Rattle.arena.specs.Record.{with_used, with_dirty, with_committed}

-- chunk j is free: its used bit is clear
abbrev pub free : Arena → ℕ → Bool
free a j = not (bit_at a.used j)

-- "lowest run of n"
unfoldable pub find_run : Arena → ℕ → Option ℕ
find_run a n = lowest_run (free a) a.chunks n

-- "unless all chunks are committed"
unfoldable pub run_committed : Arena → ℕ → ℕ → Bool
run_committed a s n = all (bit_at a.committed) s n

-- "Fresh means no chunk was dirty before"
unfoldable pub run_fresh : Arena → ℕ → ℕ → Bool
run_fresh a s n = all (λ j. not (bit_at a.dirty j)) s n

-- the run's used bits set, and cleared again: beside registering, the only two writes of a used bit
unfoldable pub take_run : Arena → ℕ → ℕ → Arena
take_run a s n = with_used a (set_run a.used s n)

unfoldable pub give_back_run : Arena → ℕ → ℕ → Arena
give_back_run a s n = with_used a (clear_run a.used s n)

-- the run committed
unfoldable pub commit_run : Arena → ℕ → ℕ → Arena
commit_run a s n = with_committed a (set_run a.committed s n)

-- "then all are [dirty]"
unfoldable pub dirty_run : Arena → ℕ → ℕ → Arena
dirty_run a s n = with_dirty a (set_run a.dirty s n)

-- the end of a grant: committed where asked, then dirty. Whether the run was fresh is read before, by `run_fresh`.
unfoldable pub finish_grant : Arena → ℕ → ℕ → Bool → Arena
finish_grant a s n commit = dirty_run (cond commit (commit_run a s n) a) s n
