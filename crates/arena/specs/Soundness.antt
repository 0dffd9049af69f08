-- A sound record, by itself. Document 01, "Turned down": a broken table has "ranges that [..] are misaligned, start at 0 or end past 2^64 − 1, chunks
-- outside 1 .. 1,024, bits past the last chunk". S is the size of a chunk in bytes. Assumes nothing.
use Rattle.std.specs.Prelude.{Bool, not, ◌&&◌, List, ℕ, ◌+◌, ◌-◌, ◌*◌, ◌%◌, ◌^◌, eqb, leb, ltb}
use Rattle.bitmap.specs.Bits.{bit_at}
use Rattle.bitmap.specs.Lowest.{all}
use Rattle.arena.specs.declared.Arena.{Arena}

-- a range of so many chunks that an arena can have. The end is the first address past it, so a block that ends at 2^64 is not sound.
unfoldable pub sound_range : ℕ → ℕ → ℕ → Bool
sound_range S base chunks = not (eqb base 0) && (eqb (base % S) 0 && (leb 1 chunks && (leb chunks 1024 && ltb (base + chunks * S) (2 ^ 64))))

-- no bit of a map is set at or past the last chunk
unfoldable pub clear_past : ℕ → List ℕ → Bool
clear_past chunks ws = all (λ j. not (bit_at ws j)) chunks (1024 - chunks)

unfoldable pub clear_past_all : Arena → Bool
clear_past_all a =
    clear_past a.chunks a.used && (clear_past a.chunks a.dirty && (clear_past a.chunks a.committed && clear_past a.chunks a.pending))

unfoldable pub sound_arena : ℕ → Arena → Bool
sound_arena S a = sound_range S a.base a.chunks && clear_past_all a
