-- Document 01, "Worked by hand": the lines with ◆ as one table. `computed` is what the definitions give, `stated` what the document says; proofs/Worked
-- proves that they are equal by computing. Assumes nothing.
use Rattle.std.specs.Prelude.{true, false, cond, not, List, [], ◌∷◌, ℕ, pos, negsuc, replicate, Option, Some, None}
use Rattle.bitmap.specs.Bits.{low_ones, bit_at}
use Rattle.bitmap.specs.Lowest.{lowest_run}
use Rattle.sizes.specs.Sizes.{page_align_up}
use Rattle.clock.specs.Clock.{now_ms, delay_ms, armed, is_due}
use Rattle.slice_pool.specs.Pool.{alloc_run, alloc_address, free_range}
use Rattle.arena.specs.declared.Arena.{Arena}
use Rattle.layer.specs.World.{empty}
use Rattle.layer.specs.Table.{at}
use Rattle.layer.specs.Registering.{manage_of}

-- an answer as a number: the run's start, or 1,024 where there is none
abbrev pub start : Option ℕ → ℕ
start (Some s) = s
start None = 1024

-- where the lowest run of n chunks starts, the used bits given as words
abbrev pub run : List ℕ → ℕ → ℕ → ℕ
run used chunks n = start (lowest_run (λ j. not (bit_at used j)) chunks n)

-- 1 for due, 0 for not yet
abbrev pub due : ℕ → ℕ → ℕ
due at now = cond (is_due at now) 1 0

-- the address of a run of n slices in a pool whose only free slices are those of base .. base + size
abbrev pub freed_then_run : ℕ → ℕ → ℕ → ℕ
freed_then_run base size n = alloc_address (alloc_run (free_range (replicate 2048 0) base size).words n).answer

-- the first arena after an empty layer manages a range that the host has reserved; a chunk is 33,554,432 bytes
abbrev pub managed : ℕ → ℕ → Arena
managed start size = at (manage_of 33554432 empty.records empty.stamps 0 false start size false (negsuc 0) false true).world.records 0

unfoldable pub computed : List ℕ
computed =
    low_ones 0 ∷ low_ones 32
    -- chunks 0 and 2 used; chunks 0 .. 30 and 33 used
    ∷ run (5 ∷ []) 5 2 ∷ run (2147483647 ∷ 2 ∷ []) 40 2
    -- arm 50 over 100, 100 over 50, 0 over 0
    ∷ armed 100 50 ∷ armed 50 100 ∷ armed 0 0
    -- arm 1 over 2,147,483,648, and over 2,147,483,649
    ∷ armed 2147483648 1 ∷ armed 2147483649 1
    ∷ due 5 4294967290
    ∷ due 2147483646 0 ∷ due 2147483647 0
    ∷ now_ms 999999 ∷ now_ms 4294967296000000
    ∷ delay_ms (pos 1073741824)
    -- the first arena's base and chunks
    ∷ (managed 1 67108864).base ∷ (managed 1 67108864).chunks
    ∷ page_align_up 4096 0 ∷ page_align_up 4096 18446744073709551615
    ∷ freed_then_run 65536 131072 2
    ∷ []

unfoldable pub stated : List ℕ
stated =
    0 ∷ 4294967295
    ∷ 3 ∷ 31
    ∷ 50 ∷ 50 ∷ 1
    ∷ 1 ∷ 2147483649
    ∷ 0
    ∷ 0 ∷ 1
    ∷ 1 ∷ 1
    ∷ 1073741823
    ∷ 33554432 ∷ 1
    ∷ 4096 ∷ 18446744073709551615
    ∷ 65536
    ∷ []
