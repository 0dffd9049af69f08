-- The three claims, where no question is open. Document 01, "Claiming". k arenas stand; S is the size of a chunk. Assumes nothing.
use Rattle.std.specs.Prelude.{◌&&◌, ◌∷◌, ◌+◌, ◌*◌, is_some}
use Rattle.layer.specs.Prelude.{Bool, true, false, cond, not, List, [], ℕ, eqb, leb, ℤ, pos, negsuc, set, Zero, ArenasOff, NoRun, arena_allowed, Option, Some, None, least, Arena, is_on, find_run, run_committed, run_fresh, take_run, dirty_run, Settings, Committing, Claim, AskCommit, Asks, Claimed, Reply}
use Rattle.layer.specs.World.{Outcome, state_with, calm, world_of, reply, after, turn_down, refuse, first_of}
use Rattle.layer.specs.Table.{at}
use Rattle.layer.specs.Registering.{too_large, ask_memory}

-- "A negative arena id means every arena that is not exclusive; other ids mean that one arena."
unfoldable pub eligible : ℤ → ℕ → Arena → Bool
eligible (pos x) i a = eqb i x
eligible (negsuc x) i a = not (is_on a.exclusive)

-- arena i serves a claim of n at the id
unfoldable pub serves : ℤ → ℕ → List Arena → ℕ → Bool
serves id n l i = eligible id i (at l i) && is_some (find_run (at l i) n)

abbrev pub is_negative : ℤ → Bool
is_negative (pos x) = false
is_negative (negsuc x) = true

-- ---- a grant in one arena

-- "`chunk_alloc` and runs put a commit question unless all chunks are committed; `chunk_claim` puts no commit question and reports the bit."
unfoldable pub asks_commit : Arena → ℕ → ℕ → Bool → Bool
asks_commit a s n commits = commits && not (run_committed a s n)

-- "Fresh means no chunk was dirty before; then all are." Where the commit is asked for, dirty waits for the yes.
unfoldable pub grant_arena : Arena → ℕ → ℕ → Bool → Arena
grant_arena a s n commits = cond (asks_commit a s n commits) (take_run a s n) (dirty_run (take_run a s n) s n)

unfoldable pub grant_reply : ℕ → ℕ → Bool → ℕ → Arena → ℕ → ℕ → Bool → Reply
grant_reply S k mark i a s n commits =
    cond (asks_commit a s n commits) (reply (Asks (AskCommit (a.base + s * S) (n * S))) (state_with k mark (Committing i s n)))
    (reply (Claimed (a.base + s * S) (run_fresh a s n) (run_committed a s n)) (calm k mark))

-- ---- a miss

-- "A miss with a negative id and a reserve of at least S, unless the give-up mark is set, reserves [..]; a failed reserve sets the mark for good."
unfoldable pub miss_reply : ℕ → ℕ → Bool → ℤ → ℕ → Bool → Settings → Reply
miss_reply S k mark id n commits settings =
    cond (is_negative id && (leb S settings.reserve && not mark))
    (cond (too_large S settings.reserve) (turn_down NoRun (calm k true))
    (ask_memory S k mark settings.reserve settings.page false false false (Claim n commits)))
    (turn_down NoRun (calm k mark))

-- ---- the call

module _ (S : ℕ) (l : List Arena) (stamps : List ℕ) (k : ℕ) (mark : Bool) where
  abbrev pub grant_found : ℕ → ℕ → Bool → Option ℕ → Outcome
  grant_found i n commits (Some s) = after (grant_reply S k mark i (at l i) s n commits) (set l i (grant_arena (at l i) s n commits)) stamps
  grant_found i n commits None = after (turn_down NoRun (calm k mark)) l stamps

  -- "Lowest id, then lowest run of n"; a search in vain is answered by `missed`
  abbrev pub search_at : ℕ → Bool → Reply → Option ℕ → Outcome
  search_at n commits missed (Some i) = grant_found i n commits (find_run (at l i) n)
  search_at n commits missed None = after missed l stamps

  unfoldable pub search_of : ℤ → ℕ → Bool → Reply → Outcome
  search_of id n commits missed = search_at n commits missed (least (serves id n l) 0 k)

  -- "Claim: 4, 5, search."
  unfoldable pub claim_of : ℤ → ℕ → Bool → Settings → Outcome
  claim_of id n commits settings =
      let w = world_of l stamps (calm k mark) in
      first_of (refuse w Zero (eqb n 0) ∷ refuse w ArenasOff (not (arena_allowed settings.off id)) ∷ [])
      (search_of id n commits (miss_reply S k mark id n commits settings))
