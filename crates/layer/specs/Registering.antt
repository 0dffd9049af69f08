-- The calls that register arenas, where no question is open. Document 01, "Registering". k arenas stand; S is the size of a chunk. Assumes nothing.
use Rattle.std.specs.Prelude.{◌&&◌, ◌||◌, ◌∷◌, ◌+◌, ◌-◌, ◌*◌, ◌/◌, ◌%◌, ◌^◌, is_some, unwrap_or}
use Rattle.layer.specs.Prelude.{Bool, cond, not, List, [], ℕ, suc, eqb, leb, ltb, ℤ, set, Zero, Range, NotWhole, ChunkCount, TableFull, NoWholeChunk, HostRefused, Option, least, Arena, is_on, managed_arena, adopted_arena, grown_arena, stamp_run, end_of, Reserving, Waiting, Reserve, AskMemory, Asks, Registered, Reply}
use Rattle.layer.specs.World.{Outcome, state_with, calm, world_of, reply, after, turn_down, row, refuse, first_of}
use Rattle.layer.specs.Table.{at, bad_range}

-- ---- reserving

-- so many bytes in whole chunks, rounded up
unfoldable pub chunks_for : ℕ → ℕ → ℕ
chunks_for S size = (size + (S - 1)) / S

-- "if that product, or it plus S, passes 2^64 − 1, the answer is 12 unasked"
unfoldable pub too_large : ℕ → ℕ → Bool
too_large S size = leb (2 ^ 64) (chunks_for S size * S + S)

-- the bytes of the memory question: "rounds up to whole chunks"; "Size 0 asks for one page."
unfoldable pub bytes_asked : ℕ → ℕ → ℕ → ℕ
bytes_asked S size page = cond (eqb size 0) page (chunks_for S size * S)

-- memory is asked for, and somebody waits
unfoldable pub ask_memory : ℕ → ℕ → Bool → ℕ → ℕ → Bool → Bool → Bool → Waiting → Reply
ask_memory S k mark size page commit large exclusive waiting =
    reply (Asks (AskMemory (bytes_asked S size page) S commit large))
    (state_with k mark (Reserving (chunks_for S size) (bytes_asked S size page) commit exclusive waiting))

-- `reserve_os_memory_ex`: 12 unasked
unfoldable pub reserve_reply : ℕ → ℕ → Bool → ℕ → Bool → Bool → Bool → ℕ → Reply
reserve_reply S k mark size commit large exclusive page =
    first_of (row (turn_down ChunkCount (calm k mark)) (too_large S size) ∷ []) (ask_memory S k mark size page commit large exclusive Reserve)

-- ---- registering

-- row 12: "chunks 0 or above 1,024"
unfoldable pub bad_count : ℕ → Bool
bad_count chunks = eqb chunks 0 || ltb 1024 chunks

-- "Registering writes the whole record and its 1,024 stamps"
abbrev pub with_record : List Arena → ℕ → Arena → List Arena
with_record l k a = set l k a

abbrev pub with_stamps : List ℕ → ℕ → List ℕ
with_stamps stamps k = stamp_run stamps (1024 * k) 1024 0

abbrev pub registered : List Arena → List ℕ → ℕ → Bool → Arena → Outcome
registered l stamps k mark a = after (reply (Registered k) (calm (suc k) mark)) (with_record l k a) (with_stamps stamps k)

-- ---- managing: "keeps the whole chunks inside the range"

-- the first address of the first, and past the last
abbrev pub first_whole : ℕ → ℕ → ℕ
first_whole S start = chunks_for S start * S

abbrev pub past_whole : ℕ → ℕ → ℕ → ℕ
past_whole S start size = (start + size) / S * S

-- row 15: "start 0, a sum past 2^64 − 1, no whole chunk"
unfoldable pub no_whole_chunk : ℕ → ℕ → ℕ → Bool
no_whole_chunk S start size =
    eqb start 0
    || (leb (2 ^ 64) (start + size) || (leb (2 ^ 64) (start + (S - 1)) || leb (past_whole S start size) (first_whole S start)))

-- ---- adopting

-- "the owned, non-exclusive arena that ends at the block [..] if at most 1,024 result"
unfoldable pub grows : ℕ → Arena → ℕ → ℕ → Bool
grows S a address n = is_on a.owned && (not (is_on a.exclusive) && (eqb (end_of S a) address && leb (a.chunks + n) 1024))

-- the one of k arenas that grows by a block of n chunks at the address
abbrev pub growing : ℕ → List Arena → ℕ → ℕ → ℕ → Option ℕ
growing S l k address n = least (λ i. grows S (at l i) address n) 0 k

-- ---- the calls

module _ (S : ℕ) (l : List Arena) (stamps : List ℕ) (k : ℕ) (mark : Bool) where
  unfoldable pub reserve_of : ℕ → Bool → Bool → Bool → ℕ → Outcome
  reserve_of size commit large exclusive page = after (reserve_reply S k mark size commit large exclusive page) l stamps

  -- `manage_os_memory_ex`. "Manage: 15, 16, 6, 12, 13." The two facts are the host's: in the segment map already; reserved.
  unfoldable pub manage_of : ℕ → ℕ → Bool → ℤ → Bool → Bool → Outcome
  manage_of start size exclusive node mapped reserved =
      let w = world_of l stamps (calm k mark) in
      let base = first_whole S start in
      let bytes = past_whole S start size - first_whole S start in
      first_of
      (refuse w NoWholeChunk (no_whole_chunk S start size)
      ∷ refuse w HostRefused (mapped || not reserved)
      ∷ refuse w Range (bad_range S l k base bytes)
      ∷ refuse w ChunkCount (bad_count (bytes / S))
      ∷ refuse w TableFull (leb 32 k)
      ∷ [])
      (registered l stamps k mark (managed_arena base (bytes / S) exclusive node))

  -- "grows the [..] arena that ends at the block"
  abbrev pub grown : ℕ → ℕ → Outcome
  grown i n = after (reply (Registered i) (calm k mark)) (set l i (grown_arena (at l i) n)) stamps

  -- `adopt_os_block`. "Adopt: 4, 7, 6, growth, 12, 13."
  unfoldable pub adopt_of : ℕ → ℕ → Outcome
  adopt_of address size =
      let w = world_of l stamps (calm k mark) in
      let n = size / S in
      let found = growing S l k address n in
      first_of
      (refuse w Zero (eqb size 0)
      ∷ refuse w NotWhole (not (eqb (address % S) 0 && eqb (size % S) 0))
      ∷ refuse w Range (bad_range S l k address size)
      ∷ row (grown (unwrap_or found 0) n) (is_some found)
      ∷ refuse w ChunkCount (bad_count n)
      ∷ refuse w TableFull (leb 32 k)
      ∷ [])
      (registered l stamps k mark (adopted_arena address n))
