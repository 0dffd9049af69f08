-- What each change of a record leaves: that its maps stay rows, and each bit of each map that it writes. What is not said is not written: the other
-- fields are equal by computing. Assumes nothing.
use Rattle.std.specs.Prelude.{◌≡◌, ◌+◌, ◌≤◌, ◌<◌}
use Rattle.arena.proofs.Prelude.{refl, sym, ap, ◌∙◌, subst, Bool, true, false, cond, not, List, ℕ, arith, ℤ, bit_at, within, set_run, clear_run, Option, Some, None, Arena, Commitment, Untold, Committed, Uncommitted, no_bits, each_bit, new_arena, grown_arena, take_run, give_back_run, commit_run, dirty_run, finish_grant, tell_run, pend_run, release_run, disarm, borrow_chunk, unpend_chunk, return_chunk, next_wait, rearm_at, rearm, IsRow, Rows}
use mathlib.Core.Bool.{true≢false}
use Rattle.bitmap.specs.Lowest.{Lowest}
use Rattle.bitmap.proofs.runs.LowestLaws.{lowest-says}
use Rattle.arena.specs.Record.{with_used}
use Rattle.arena.specs.Claiming.{free, find_run}
use Rattle.arena.proofs.RowLaws.{row_write, bit-write, write_same, write_again, no-bits-row}

-- ---- a grant is inside the arena, and was free

pub found_inside : (a : Arena) (n s : ℕ) → find_run a n ≡ Some s → s + n ≤ a.chunks
unfolding find_run
found_inside a n s e =
    let k : Lowest (free a) a.chunks n (Some s) = subst (Lowest (free a) a.chunks n) e (lowest-says (free a) a.chunks n) in
    k.0.room

pub found-free : (a : Arena) (n s : ℕ) → find_run a n ≡ Some s → (j : ℕ) → s ≤ j → j < s + n → bit_at a.used j ≡ false
unfolding find_run
found-free a n s e j l m =
    let k : Lowest (free a) a.chunks n (Some s) = subst (Lowest (free a) a.chunks n) e (lowest-says (free a) a.chunks n) in
    go (bit_at a.used j) (k.0.all-free j l m)
  where
    go : (b : Bool) → not b ≡ true → b ≡ false
    go true f = absurd (true≢false (sym f))
    go false f = refl

-- ---- the maps stay rows

module _ (a : Arena) (s n : ℕ) (r : Rows a) where
  pub take-rows : Rows (take_run a s n)
  unfolding take_run
  take-rows = record { used = row_write true a.used s n r.used; dirty = r.dirty; committed = r.committed; pending = r.pending }

  pub give-back-rows : Rows (give_back_run a s n)
  unfolding give_back_run
  give-back-rows = record { used = row_write false a.used s n r.used; dirty = r.dirty; committed = r.committed; pending = r.pending }

  pub commit-rows : Rows (commit_run a s n)
  unfolding commit_run
  commit-rows = record { used = r.used; dirty = r.dirty; committed = row_write true a.committed s n r.committed; pending = r.pending }

  pub dirty-rows : Rows (dirty_run a s n)
  unfolding dirty_run
  dirty-rows = record { used = r.used; dirty = row_write true a.dirty s n r.dirty; committed = r.committed; pending = r.pending }

  pub tell-rows : (told : Commitment) → Rows (tell_run a s n told)
  unfolding tell_run
  tell-rows Untold = r
  tell-rows Committed = record { used = r.used; dirty = r.dirty; committed = row_write true a.committed s n r.committed; pending = r.pending }
  tell-rows Uncommitted = record { used = r.used; dirty = r.dirty; committed = row_write false a.committed s n r.committed; pending = r.pending }

  pub pend-rows : (now delay : ℕ) → Rows (pend_run a s n now delay)
  unfolding pend_run
  pend-rows now delay = record { used = r.used; dirty = r.dirty; committed = r.committed; pending = row_write true a.pending s n r.pending }

pub finish-rows : (a : Arena) (s n : ℕ) (commit : Bool) → Rows a → Rows (finish_grant a s n commit)
unfolding finish_grant
finish-rows a s n true r = dirty-rows (commit_run a s n) s n (commit-rows a s n r)
finish-rows a s n false r = dirty-rows a s n r

pub release-rows : (a : Arena) (s n : ℕ) (told : Commitment) (pending : Bool) (now delay : ℕ) → Rows a → Rows (release_run a s n told pending now delay)
unfolding release_run
release-rows a s n told true now delay r = pend-rows (tell_run (give_back_run a s n) s n told) s n (tell-rows (give_back_run a s n) s n (give-back-rows a s n r) told) now delay
release-rows a s n told false now delay r = tell-rows (give_back_run a s n) s n (give-back-rows a s n r) told

pub disarm-rows : (a : Arena) → Rows a → Rows (disarm a)
unfolding disarm
disarm-rows a r = record { used = r.used; dirty = r.dirty; committed = r.committed; pending = r.pending }

pub borrow-rows : (a : Arena) (j : ℕ) → Rows a → Rows (borrow_chunk a j)
unfolding borrow_chunk
borrow-rows a j r = take-rows a j 1 r

pub unpend-rows : (a : Arena) (j : ℕ) → Rows a → Rows (unpend_chunk a j)
unfolding unpend_chunk
unpend-rows a j r = record { used = r.used; dirty = r.dirty; committed = r.committed; pending = row_write false a.pending j 1 r.pending }

pub return-rows : (a : Arena) (j : ℕ) (granted decommit : Bool) → Rows a → Rows (return_chunk a j granted decommit)
unfolding return_chunk
return-rows a j true true r = tell-rows (give_back_run (unpend_chunk a j) j 1) j 1 (give-back-rows (unpend_chunk a j) j 1 (unpend-rows a j r)) Uncommitted
return-rows a j true false r = give-back-rows (unpend_chunk a j) j 1 (unpend-rows a j r)
return-rows a j false decommit r = give-back-rows (unpend_chunk a j) j 1 (unpend-rows a j r)

pub rearm-at-rows : (a : Arena) (now : ℕ) (f : Option ℕ) → Rows a → Rows (rearm_at a now f)
rearm-at-rows a now (Some w) r = record { used = r.used; dirty = r.dirty; committed = r.committed; pending = r.pending }
rearm-at-rows a now None r = r

pub rearm-rows : (a : Arena) (stamps : List ℕ) (force : Bool) (now delay : ℕ) → Rows a → Rows (rearm a stamps force now delay)
unfolding rearm
rearm-rows a stamps true now delay r = r
rearm-rows a stamps false now delay r = rearm-at-rows a now (next_wait a stamps now delay) r

each-bit-row : (chunks : ℕ) (b : Bool) → IsRow (each_bit chunks b)
each-bit-row chunks true = row_write true no_bits 0 chunks no-bits-row
each-bit-row chunks false = no-bits-row

pub new-rows : (base chunks : ℕ) (exclusive owned : Bool) (node : ℤ) (dirty committed : Bool) → Rows (new_arena base chunks exclusive owned node dirty committed)
unfolding new_arena
new-rows base chunks exclusive owned node dirty committed =
    record { used = no-bits-row; dirty = each-bit-row chunks dirty; committed = each-bit-row chunks committed; pending = no-bits-row }

pub grown-rows : (a : Arena) (n : ℕ) → Rows a → Rows (grown_arena a n)
unfolding grown_arena
grown-rows a n r = record {
  used = r.used;
  dirty = row_write true a.dirty a.chunks n r.dirty;
  committed = row_write true a.committed a.chunks n r.committed;
  pending = r.pending;
}

-- ---- what a change leaves of each bit

module _ (a : Arena) (s n : ℕ) (r : Rows a) (h : s + n ≤ 1024) (j : ℕ) where
  pub take-used : bit_at (take_run a s n).used j ≡ cond (within s n j) true (bit_at a.used j)
  unfolding take_run
  take-used = bit-write true a.used s n r.used h j

  pub give-back-used : bit_at (give_back_run a s n).used j ≡ cond (within s n j) false (bit_at a.used j)
  unfolding give_back_run
  give-back-used = bit-write false a.used s n r.used h j

  pub dirty-dirty : bit_at (dirty_run a s n).dirty j ≡ cond (within s n j) true (bit_at a.dirty j)
  unfolding dirty_run
  dirty-dirty = bit-write true a.dirty s n r.dirty h j

  -- a grant's end writes dirty, whether it commits or not
  pub finish-dirty : (commit : Bool) → bit_at (finish_grant a s n commit).dirty j ≡ cond (within s n j) true (bit_at a.dirty j)
  unfolding finish_grant dirty_run commit_run
  finish-dirty true = bit-write true a.dirty s n r.dirty h j
  finish-dirty false = bit-write true a.dirty s n r.dirty h j

  -- a release clears exactly its run
  pub release-used : (told : Commitment) (pending : Bool) (now delay : ℕ)
      → bit_at (release_run a s n told pending now delay).used j ≡ cond (within s n j) false (bit_at a.used j)
  unfolding release_run pend_run tell_run give_back_run
  release-used Untold true now delay = bit-write false a.used s n r.used h j
  release-used Untold false now delay = bit-write false a.used s n r.used h j
  release-used Committed true now delay = bit-write false a.used s n r.used h j
  release-used Committed false now delay = bit-write false a.used s n r.used h j
  release-used Uncommitted true now delay = bit-write false a.used s n r.used h j
  release-used Uncommitted false now delay = bit-write false a.used s n r.used h j

  pub release-pending : (told : Commitment) (now delay : ℕ)
      → bit_at (release_run a s n told true now delay).pending j ≡ cond (within s n j) true (bit_at a.pending j)
  unfolding release_run pend_run tell_run give_back_run
  release-pending Untold now delay = bit-write true a.pending s n r.pending h j
  release-pending Committed now delay = bit-write true a.pending s n r.pending h j
  release-pending Uncommitted now delay = bit-write true a.pending s n r.pending h j

-- a release that is not pending leaves the pending bits and the deadline
pub release-not-pending : (a : Arena) (s n : ℕ) (told : Commitment) (now delay : ℕ)
    → ((release_run a s n told false now delay).pending ≡ a.pending) × ((release_run a s n told false now delay).deadline ≡ a.deadline)
unfolding release_run tell_run give_back_run
release-not-pending a s n Untold now delay = (refl, refl)
release-not-pending a s n Committed now delay = (refl, refl)
release-not-pending a s n Uncommitted now delay = (refl, refl)

-- no release touches a dirty bit
pub release-dirty : (a : Arena) (s n : ℕ) (told : Commitment) (pending : Bool) (now delay : ℕ) → (release_run a s n told pending now delay).dirty ≡ a.dirty
unfolding release_run pend_run tell_run give_back_run
release-dirty a s n Untold true now delay = refl
release-dirty a s n Untold false now delay = refl
release-dirty a s n Committed true now delay = refl
release-dirty a s n Committed false now delay = refl
release-dirty a s n Uncommitted true now delay = refl
release-dirty a s n Uncommitted false now delay = refl

-- ---- take, then give back: the record is as it was

pub take-give-back : (a : Arena) (s n : ℕ) → Rows a → s + n ≤ 1024 → ((j : ℕ) → s ≤ j → j < s + n → bit_at a.used j ≡ false)
    → give_back_run (take_run a s n) s n ≡ a
unfolding give_back_run take_run
take-give-back a s n r h e =
    ap (with_used a) (write_again false true a.used s n r.used h ∙ write_same false a.used s n r.used h e)

-- a grant that is given back leaves the record as it was
pub grant-give-back : (a : Arena) (n s : ℕ) → Rows a → a.chunks ≤ 1024 → find_run a n ≡ Some s → give_back_run (take_run a s n) s n ≡ a
grant-give-back a n s r c e = take-give-back a s n r (omega (arith, found_inside a n s e)) (found-free a n s e)

-- ---- the sweep's borrowed bit comes back, whatever the answer

back : (a : Arena) (j : ℕ) → Rows a → j < 1024 → bit_at a.used j ≡ false → clear_run (set_run a.used j 1) j 1 ≡ a.used
back a j r h e =
    write_again false true a.used j 1 r.used (omega arith)
    ∙ write_same false a.used j 1 r.used (omega arith) (λ i l m. ap (bit_at a.used) (let z : i ≡ j = omega arith in z) ∙ e)

pub borrow-return-used : (a : Arena) (j : ℕ) (granted decommit : Bool) → Rows a → j < 1024 → bit_at a.used j ≡ false
    → (return_chunk (borrow_chunk a j) j granted decommit).used ≡ a.used
unfolding return_chunk borrow_chunk unpend_chunk give_back_run take_run tell_run
borrow-return-used a j true true r h e = back a j r h e
borrow-return-used a j true false r h e = back a j r h e
borrow-return-used a j false decommit r h e = back a j r h e
