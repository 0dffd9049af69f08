-- Our answer to a recorded call, as a number, and what it leaves of the slice pool. Assumes nothing.
use Rattle.std.specs.Prelude.{Bool, cond, List, ℕ, ◌%◌, eqb, leb, length, replicate, Result, Ok, Err}
use Rattle.refusals.specs.declared.Refusal.{Refusal}
use Rattle.sizes.specs.Sizes.{is_aligned_to, page_align_up}
use Rattle.clock.specs.Clock.{armed, is_due, now_ms, delay_ms}
use Rattle.slice_pool.specs.Pool.{alloc_run, free_range}
use Rattle.samples.specs.declared.lines.Line.{Line}
use Rattle.samples.specs.Hash.{with_words}
use Rattle.samples.specs.Signed.{signed_of}

-- kinds 1 to 6, on numbers alone
unfoldable pub of_numbers : ℕ → ℕ → ℕ → ℕ
of_numbers kind a b =
    cond (eqb kind 1) (cond (is_aligned_to a b) 1 0)
    (cond (eqb kind 2) (page_align_up a b)
    (cond (eqb kind 3) (armed (a % 4294967296) (b % 4294967296))
    (cond (eqb kind 4) (cond (is_due (a % 4294967296) (b % 4294967296)) 1 0)
    (cond (eqb kind 5) (now_ms a) (delay_ms (signed_of a))))))

-- the run's address; the largest number where there is none
abbrev pub address_of : Result ℕ Refusal → ℕ
address_of (Ok address) = address
address_of (Err why) = 18446744073709551615

-- 1 for done
abbrev pub done_of : Result Unit Refusal → ℕ
done_of (Ok tt) = 1
done_of (Err why) = 0

-- kinds 7 to 10, on the slice pool: a run, a free, the hash of the words held against a, and all of them cleared
unfoldable pub of_pool : ℕ → ℕ → ℕ → List ℕ → ℕ
of_pool kind a b words =
    cond (eqb kind 7) (address_of (alloc_run words a).answer)
    (cond (eqb kind 8) (done_of (free_range words a b).answer)
    (cond (eqb kind 9) (cond (eqb (with_words 2166136261 words 0 (length words)) a) 1 0) 1))

unfoldable pub left_pool : ℕ → ℕ → ℕ → List ℕ → List ℕ
left_pool kind a b words =
    cond (eqb kind 7) (alloc_run words a).words
    (cond (eqb kind 8) (free_range words a b).words
    (cond (eqb kind 9) words (replicate (length words) 0)))

-- whether our answer is the recorded one
unfoldable pub agrees_on : Line → List ℕ → Bool
agrees_on l words = cond (leb l.kind 6) (eqb (of_numbers l.kind l.a l.b) l.r) (eqb (of_pool l.kind l.a l.b words) l.r)

-- what the call leaves of the pool
unfoldable pub leaves : Line → List ℕ → List ℕ
leaves l words = cond (leb l.kind 6) words (left_pool l.kind l.a l.b words)
