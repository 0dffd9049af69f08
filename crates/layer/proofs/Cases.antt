-- The case principle of each call: to prove P of what comes out, prove it of each outcome, with what is known there. Assumes nothing.
use Rattle.std.specs.Prelude.{◌≡◌, ◌&&◌, ◌||◌, ◌∷◌, ◌+◌, ◌-◌, ◌*◌, ◌/◌, ◌%◌, ◌<◌}
use Rattle.layer.proofs.Prelude.{refl, Bool, true, false, cond, not, List, [], ℕ, arith, leb-false, eqb-true, eqb-false, eqb, leb, ℤ, set, Refusal, Zero, ArenasOff, Range, NotWhole, PastEnd, NoRun, ChunkCount, TableFull, NoWholeChunk, by_cond, Option, Some, None, least, First, first_says, and_both, arena_allowed, Arena, Commitment, reserved_arena, managed_arena, adopted_arena, find_run, run_committed, run_fresh, take_run, dirty_run, release_run, stamp_run, is_inside, Settings, Committing, Reserving, Waiting, Reserve, Claim, Unusable, Count, Misaligned, Full, AskCommit, Asks, Claimed, Released, Reply, Outcome, state_with, world_of, reply, after, turn_down, calm, refuse, first_of, at, is_some, bad_range, find_arena, too_large, ask_memory, bad_count, first_whole, past_whole, no_whole_chunk, grows, reserve_reply, reserve_of, manage_of, adopt_of, serves, is_negative, asks_commit, grant_arena, grant_reply, miss_reply, grant_found, search_at, search_of, claim_of, release_of, give_back_reply, resume, answer_memory}
use Rattle.refusals.specs.declared.Refusal.TheVariants.{NotInside, HostRefused}
use Rattle.std.specs.Prelude.{unwrap_or}
use Rattle.layer.specs.Registering.{registered, grown}
use Rattle.layer.proofs.Tools.{by-not}

-- rows 12 and 13, and else the new arena
abbrev pub register : List Arena → List ℕ → ℕ → Bool → ℕ → Arena → Outcome
register l stamps k mark chunks a =
    let w = world_of l stamps (calm k mark) in
    first_of (refuse w ChunkCount (bad_count chunks) ∷ refuse w TableFull (leb 32 k) ∷ []) (registered l stamps k mark a)

module _ (S : ℕ) (l : List Arena) (stamps : List ℕ) (k : ℕ) (mark : Bool) where
  -- rows 7 and 9 of the run of n at so many bytes from arena i's base on, and else it is released
  unfoldable pub release_in : ℕ → ℕ → ℕ → Commitment → Bool → ℕ → ℕ → Outcome
  release_in i offset n told pending now delay =
      let w = world_of l stamps (calm k mark) in
      first_of (refuse w NotWhole (not (eqb (offset % S) 0)) ∷ refuse w PastEnd (not (leb (offset / S + n) (at l i).chunks)) ∷ [])
      (after (reply Released (calm k mark)) (set l i (release_run (at l i) (offset / S) n told pending now delay))
      (cond pending (stamp_run stamps (1024 * i + offset / S) n now) stamps))

  -- turned down, and no question open
  abbrev pub down : Refusal → Outcome
  down why = after (turn_down why (calm k mark)) l stamps

  -- the run of m from s on of arena i, granted, and taken while its commit is asked for
  abbrev pub granting : ℕ → ℕ → ℕ → Outcome
  granting i m s =
      after (reply (Claimed ((at l i).base + s * S) (run_fresh (at l i) s m) (run_committed (at l i) s m)) (calm k mark)) (set l i (dirty_run (take_run (at l i) s m) s m)) stamps

  abbrev pub asking : ℕ → ℕ → ℕ → Outcome
  asking i m s = after (reply (Asks (AskCommit ((at l i).base + s * S) (m * S))) (state_with k mark (Committing i s m))) (set l i (take_run (at l i) s m)) stamps

module _ (S : ℕ) (l : List Arena) (stamps : List ℕ) (k : ℕ) (mark : Bool) (P : Outcome → Type 0) where
  -- ---- claims

  pub grant-cases : (i m : ℕ) (commits : Bool) → (find_run (at l i) m ≡ None → P (down S l stamps k mark NoRun))
      → ((s : ℕ) → find_run (at l i) m ≡ Some s → P (granting S l stamps k mark i m s)) → ((s : ℕ) → find_run (at l i) m ≡ Some s → P (asking S l stamps k mark i m s))
      → P (grant_found S l stamps k mark i m commits (find_run (at l i) m))
  unfolding grant_arena grant_reply
  grant-cases i m commits none grant ask = go (find_run (at l i) m) refl
    where
      go : (f : Option ℕ) → find_run (at l i) m ≡ f → P (grant_found S l stamps k mark i m commits f)
      go None e = none e
      go (Some s) e = run (asks_commit (at l i) s m commits) refl
        where
          run : (c : Bool) → asks_commit (at l i) s m commits ≡ c → P (grant_found S l stamps k mark i m commits (Some s))
          run true f = rw f (ask s e)
          run false f = rw f (grant s e)

  pub search-cases : (id : ℤ) (m : ℕ) (commits : Bool) (missed : Reply) → (((i : ℕ) → i < k → serves id m l i ≡ false) → P (after missed l stamps))
      → ((i : ℕ) → i < k → serves id m l i ≡ true → P (grant_found S l stamps k mark i m commits (find_run (at l i) m)))
      → P (search_of S l stamps k mark id m commits missed)
  unfolding search_of
  search-cases id m commits missed none found = go (least (serves id m l) 0 k) (first_says (serves id m l) 0 k)
    where
      go : (f : Option ℕ) → First (serves id m l) 0 k f → P (search_at S l stamps k mark m commits missed f)
      go (Some i) h = found i (omega (arith, h.1)) h.2
      go None h = none (λ i u. h i (omega arith) (omega arith))

  pub miss-cases : (id : ℤ) (m : ℕ) (commits : Bool) (settings : Settings) → P (down S l stamps k mark NoRun) → P (after (turn_down NoRun (calm k true)) l stamps)
      → P (after (ask_memory S k mark settings.reserve settings.page false false false (Claim m commits)) l stamps)
      → P (after (miss_reply S k mark id m commits settings) l stamps)
  unfolding miss_reply
  miss-cases id m commits settings none gave-up ask =
      by_cond (λ (r : Reply). P (after r l stamps)) (is_negative id && (leb S settings.reserve && not mark)) _ _
      (λ e. by_cond (λ (r : Reply). P (after r l stamps)) (too_large S settings.reserve) _ _ (λ f. gave-up) (λ f. ask)) (λ e. none)

  pub claim-cases : (id : ℤ) (m : ℕ) (commits : Bool) (settings : Settings) → (eqb m 0 ≡ true → P (down S l stamps k mark Zero))
      → (eqb m 0 ≡ false → arena_allowed settings.off id ≡ false → P (down S l stamps k mark ArenasOff))
      → (eqb m 0 ≡ false → arena_allowed settings.off id ≡ true → P (search_of S l stamps k mark id m commits (miss_reply S k mark id m commits settings)))
      → P (claim_of S l stamps k mark id m commits settings)
  unfolding claim_of
  claim-cases id m commits settings zero off go =
      by_cond P (eqb m 0) _ _ zero (λ e. by-not P (arena_allowed settings.off id) _ _ (λ f. go e f) (λ f. off e f))

  -- ---- releases

  module _ (m : ℕ) (told : Commitment) (pending : Bool) (now delay : ℕ) where
    -- the run of m at so many bytes from arena i's base on
    pub release-in-cases : (i offset : ℕ) → (eqb (offset % S) 0 ≡ false → P (down S l stamps k mark NotWhole))
        → (eqb (offset % S) 0 ≡ true → leb (offset / S + m) (at l i).chunks ≡ false → P (down S l stamps k mark PastEnd))
        → (eqb (offset % S) 0 ≡ true → leb (offset / S + m) (at l i).chunks ≡ true
        → P (after (reply Released (calm k mark)) (set l i (release_run (at l i) (offset / S) m told pending now delay))
        (cond pending (stamp_run stamps (1024 * i + offset / S) m now) stamps)))
        → P (release_in S l stamps k mark i offset m told pending now delay)
    unfolding release_in
    release-in-cases i offset part past whole =
        by-not P (eqb (offset % S) 0) _ _ (λ e. by-not P (leb (offset / S + m) (at l i).chunks) _ _ (λ f. whole e f) (λ f. past e f)) part

    pub release-cases : (x : ℕ) → (eqb m 0 ≡ true → P (down S l stamps k mark Zero)) → (eqb m 0 ≡ false → ((i : ℕ) → i < k → is_inside S (at l i) x ≡ false) → P (down S l stamps k mark NotInside))
        → ((i : ℕ) → eqb m 0 ≡ false → i < k → is_inside S (at l i) x ≡ true → P (release_in S l stamps k mark i (x - (at l i).base) m told pending now delay))
        → P (release_of S l stamps k mark x m told pending now delay)
    unfolding release_of release_in find_arena
    release-cases x zero nowhere inside =
        by_cond P (eqb m 0) _ _ zero (λ e. go e (least (λ i. is_inside S (at l i) x) 0 k) (first_says (λ i. is_inside S (at l i) x) 0 k))
      where
        go : eqb m 0 ≡ false → (f : Option ℕ) → First (λ i. is_inside S (at l i) x) 0 k f
            → P (cond (not (is_some f)) (down S l stamps k mark NotInside) (release_in S l stamps k mark (unwrap_or f 0) (x - (at l (unwrap_or f 0)).base) m told pending now delay))
        go e (Some i) h = inside i e (omega (arith, h.1)) h.2
        go e None h = nowhere e (λ i u. h i (omega arith) (omega arith))

  -- ---- registering

  pub reserve-cases : (size : ℕ) (commit large exclusive : Bool) (page : ℕ) → P (down S l stamps k mark ChunkCount)
      → P (after (ask_memory S k mark size page commit large exclusive Reserve) l stamps) → P (reserve_of S l stamps k mark size commit large exclusive page)
  unfolding reserve_of reserve_reply
  reserve-cases size commit large exclusive page many ask =
      by_cond (λ (r : Reply). P (after r l stamps)) (too_large S size) _ _ (λ e. many) (λ e. ask)

  pub register-cases : (chunks : ℕ) (a : Arena) → P (down S l stamps k mark ChunkCount) → P (down S l stamps k mark TableFull)
      → (bad_count chunks ≡ false → k < 32 → P (registered l stamps k mark a))
      → P (register l stamps k mark chunks a)
  register-cases chunks a many full new =
      by_cond P (bad_count chunks) _ _ (λ e. many) (λ e. by_cond P (leb 32 k) _ _ (λ f. full) (λ f. new e (leb-false 32 k f)))

  pub manage-cases : (start size : ℕ) (exclusive : Bool) (node : ℤ) (mapped reserved : Bool) → P (down S l stamps k mark NoWholeChunk) → P (down S l stamps k mark HostRefused) → P (down S l stamps k mark Range)
      → (bad_range S l k (first_whole S start) (past_whole S start size - first_whole S start) ≡ false
      → let chunks = (past_whole S start size - first_whole S start) / S in P (register l stamps k mark chunks (managed_arena (first_whole S start) chunks exclusive node)))
      → P (manage_of S l stamps k mark start size exclusive node mapped reserved)
  unfolding manage_of
  manage-cases start size exclusive node mapped reserved part host range add =
      by_cond P (no_whole_chunk S start size) _ _ (λ e. part)
      (λ e. by_cond P (mapped || not reserved) _ _ (λ f. host)
      (λ f. by_cond P (bad_range S l k (first_whole S start) (past_whole S start size - first_whole S start)) _ _ (λ g. range) add))

  -- the block is of whole chunks, and row 6 lets it pass
  abbrev pub Whole : ℕ → ℕ → Type 0
  Whole address size = (size ≡ 0 → ⊥) × (address % S ≡ 0) × (size % S ≡ 0) × (bad_range S l k address size ≡ false)

  pub adopt-cases : (address size : ℕ) → P (down S l stamps k mark Zero) → P (down S l stamps k mark NotWhole) → P (down S l stamps k mark Range)
      → ((i : ℕ) → Whole address size → i < k → grows S (at l i) address (size / S) ≡ true → P (grown S l stamps k mark i (size / S)))
      → (Whole address size → P (register l stamps k mark (size / S) (adopted_arena address (size / S))))
      → P (adopt_of S l stamps k mark address size)
  unfolding adopt_of
  adopt-cases address size zero part range grow add =
      by_cond P (eqb size 0) _ _ (λ e. zero)
      (λ e. by-not P (eqb (address % S) 0 && eqb (size % S) 0) _ _
      (λ f. by_cond P (bad_range S l k address size) _ _ (λ g. range)
      (λ g. let w = and_both (eqb (address % S) 0) _ f in
      go (eqb-false size 0 e, eqb-true (address % S) 0 w.0, eqb-true (size % S) 0 w.1, g)
      (least (λ i. grows S (at l i) address (size / S)) 0 k) (first_says (λ i. grows S (at l i) address (size / S)) 0 k)))
      (λ f. part))
    where
      go : Whole address size → (f : Option ℕ) → First (λ i. grows S (at l i) address (size / S)) 0 k f
          → P (cond (is_some f) (grown S l stamps k mark (unwrap_or f 0) (size / S)) (register l stamps k mark (size / S) (adopted_arena address (size / S))))
      go w (Some i) h = grow i w (omega (arith, h.1)) h.2
      go w None h = add w

  -- memory came
  pub memory-cases : (chunks bytes : ℕ) (commit exclusive : Bool) (waiting : Waiting) (base : ℕ)
      → P (after (turn_down Range (state_with k mark (Reserving chunks bytes commit exclusive waiting))) l stamps)
      → ((cause : Unusable) → P (after (give_back_reply k mark base bytes cause waiting) l stamps))
      → (bad_range S l k base (chunks * S) ≡ false → bad_count chunks ≡ false → base % S ≡ 0 → k < 32 → P (resume S l stamps k mark (reserved_arena base chunks commit exclusive) waiting))
      → P (answer_memory S l stamps k mark chunks bytes commit exclusive waiting true base)
  memory-cases chunks bytes commit exclusive waiting base range unusable go =
      by_cond P (bad_range S l k base (chunks * S)) _ _ (λ e. range)
      (λ e. by_cond P (bad_count chunks) _ _ (λ f. unusable Count)
      (λ f. by-not P (eqb (base % S) 0) _ _ (λ g. by_cond P (leb 32 k) _ _ (λ h. unusable Full) (λ h. go e f (eqb-true (base % S) 0 g) (leb-false 32 k h))) (λ g. unusable Misaligned)))
