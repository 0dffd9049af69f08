-- What mimalloc.h documents of options 15 and 27, with the numbers of version 2.4; `layer_laws` has the other options, and holds the layer's
-- rules against all of them. The port's own reading of the delay stands in the crate clock; proofs/Differences.antt holds it against this one.
-- Assumes nothing.
use Rattle.std.specs.Prelude.{Bool, true, false, ◌||◌, ℕ, zero, suc, eqb, ℤ, pos, negsuc}

-- when freed memory is purged: never, after so many milliseconds (0: at once), or nothing is said
pub data Purging : Type 0 where
  never : Purging
  delayed : ℕ → Purging
  unsaid : Purging

-- option 15, mi_option_purge_delay: purging is delayed by this many milliseconds, and −1 means that nothing is purged. The document
-- speaks of −1 alone, and not of what lies below it.
unfoldable pub documented_delay : ℤ → Purging
documented_delay (pos n) = delayed n
documented_delay (negsuc zero) = never
documented_delay (negsuc (suc n)) = unsaid

-- option 27, mi_option_disallow_arena_alloc: off, arenas serve every claim; on, only one that names its arena, whose id is not negative
unfoldable pub arena_allowed : Bool → ℤ → Bool
arena_allowed false id = true
arena_allowed true (pos n) = true
arena_allowed true (negsuc n) = false

-- document 01, row 1 of "Turned down": a page size is sound if it is a "power of two in 4,096 .. 65,536"
unfoldable pub page_size_sound : ℕ → Bool
page_size_sound page = eqb page 4096 || (eqb page 8192 || (eqb page 16384 || (eqb page 32768 || eqb page 65536)))
