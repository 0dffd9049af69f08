-- The slice pool: what its two calls answer, and what they leave of the lent words. Document 01, "slice_pool.rs": "65,536 slices of 65,536 bytes over
-- 2,048 lent words, bit set = free." Of refusal 1 the calls know only the length of the words. Assumes nothing.
use Rattle.std.specs.Prelude.{cond, ◌&&◌, List, ℕ, ◌+◌, ◌*◌, ◌/◌, ◌%◌, eqb, ltb, length, Option, Some, None, Result, Ok, Err}
use Rattle.refusals.specs.declared.Refusal.{Refusal}
use Rattle.refusals.specs.declared.Refusal.TheVariants.{Broken, Zero, NotWhole, NotInside, PastEnd, NoRun}
use Rattle.bitmap.specs.Bits.{bit_at}
use Rattle.bitmap.specs.Rows.{set_run, clear_run}
use Rattle.bitmap.specs.Lowest.{lowest_run}

-- ---- alloc_run

pub record Alloc : Type 0 where
  pub answer : Result ℕ Refusal
  pub words : List ℕ

-- a refusal leaves every word
abbrev pub not_run : List ℕ → Refusal → Alloc
not_run ws why = record { answer = Err why; words = ws }

-- "`alloc_run` takes the lowest free run"; "10 answers too long a run as well"
abbrev pub alloc_found : List ℕ → ℕ → Option ℕ → Alloc
alloc_found ws n (Some s) = record { answer = Ok (s * 65536); words = clear_run ws s n }
alloc_found ws n None = not_run ws NoRun

-- in the order 1, 4, 10
unfoldable pub alloc_run : List ℕ → ℕ → Alloc
alloc_run ws n =
    cond (eqb (length ws) 2048) (cond (eqb n 0) (not_run ws Zero) (alloc_found ws n (lowest_run (bit_at ws) 65536 n))) (not_run ws Broken)

-- ---- free_range

pub record Free : Type 0 where
  pub answer : Result Unit Refusal
  pub words : List ℕ

abbrev pub not_done : List ℕ → Refusal → Free
not_done ws why = record { answer = Err why; words = ws }

-- "Slice free: 4, 7, 8, 9", after 1. "`free_range` accepts a second free of one slice, as the release build does."
unfoldable pub free_range : List ℕ → ℕ → ℕ → Free
free_range ws base size =
    cond (eqb (length ws) 2048)
    (cond (eqb size 0) (not_done ws Zero)
    (cond (eqb (base % 65536) 0 && eqb (size % 65536) 0)
    (cond (ltb base 65536) (not_done ws NotInside)
    (cond (ltb 65536 (base / 65536 + size / 65536)) (not_done ws PastEnd)
    (record { answer = (Ok tt); words = set_run ws (base / 65536) (size / 65536) })))
    (not_done ws NotWhole)))
    (not_done ws Broken)

-- ---- document 01's value for each case; the number is `refusals`' number_in

-- the run's address; 0 with a refusal
abbrev pub alloc_address : Result ℕ Refusal → ℕ
alloc_address (Ok address) = address
alloc_address (Err why) = 0
