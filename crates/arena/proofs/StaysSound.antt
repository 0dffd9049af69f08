-- Sound in, sound out: each change of a sound record that stays inside its chunks leaves a sound record, whatever words its maps are of. Assumes nothing.
use Rattle.std.specs.Prelude.{◌≡◌, ◌+◌, ◌≤◌, ◌<◌}
use Rattle.arena.proofs.Prelude.{refl, ◌∙◌, Bool, true, false, List, ℕ, arith, ℤ, write_run, Option, Some, None, Arena, Commitment, Untold, Committed, Uncommitted, no_bits, each_bit, new_arena, grown_arena, take_run, give_back_run, commit_run, dirty_run, finish_grant, tell_run, pend_run, release_run, disarm, borrow_chunk, unpend_chunk, return_chunk, next_wait, rearm_at, rearm}
use Rattle.arena.proofs.SoundLaws.{SoundRange, Past, SoundArena}
use Rattle.bitmap.proofs.words.RowLaws.{within-after, write_run-elsewhere}
use Rattle.arena.proofs.RowLaws.{bit_at-no_bits}

-- a write that ends before the last chunk's end leaves the places past it
pub past-write : (b : Bool) (ws : List ℕ) (s n chunks : ℕ) → s + n ≤ chunks → Past chunks ws → Past chunks (write_run b ws s n)
past-write b ws s n chunks h p j l m = write_run-elsewhere b ws s n j (within-after s n j (omega arith)) ∙ p j l m

module _ (S : ℕ) (a : Arena) (s n : ℕ) (x : SoundArena S a) (h : s + n ≤ a.chunks) where
  pub take-sound : SoundArena S (take_run a s n)
  unfolding take_run
  take-sound = record {
    range = x.range;
    used = past-write true a.used s n a.chunks h x.used;
    dirty = x.dirty;
    committed = x.committed;
    pending = x.pending;
  }

  pub give-back-sound : SoundArena S (give_back_run a s n)
  unfolding give_back_run
  give-back-sound = record {
    range = x.range;
    used = past-write false a.used s n a.chunks h x.used;
    dirty = x.dirty;
    committed = x.committed;
    pending = x.pending;
  }

  pub commit-sound : SoundArena S (commit_run a s n)
  unfolding commit_run
  commit-sound = record {
    range = x.range;
    used = x.used;
    dirty = x.dirty;
    committed = past-write true a.committed s n a.chunks h x.committed;
    pending = x.pending;
  }

  pub dirty-sound : SoundArena S (dirty_run a s n)
  unfolding dirty_run
  dirty-sound = record {
    range = x.range;
    used = x.used;
    dirty = past-write true a.dirty s n a.chunks h x.dirty;
    committed = x.committed;
    pending = x.pending;
  }

  pub tell-sound : (told : Commitment) → SoundArena S (tell_run a s n told)
  unfolding tell_run
  tell-sound Untold = x
  tell-sound Committed = record {
    range = x.range;
    used = x.used;
    dirty = x.dirty;
    committed = past-write true a.committed s n a.chunks h x.committed;
    pending = x.pending;
  }
  tell-sound Uncommitted = record {
    range = x.range;
    used = x.used;
    dirty = x.dirty;
    committed = past-write false a.committed s n a.chunks h x.committed;
    pending = x.pending;
  }

  pub pend-sound : (now delay : ℕ) → SoundArena S (pend_run a s n now delay)
  unfolding pend_run
  pend-sound now delay = record {
    range = x.range;
    used = x.used;
    dirty = x.dirty;
    committed = x.committed;
    pending = past-write true a.pending s n a.chunks h x.pending;
  }

-- the number of chunks is no other after a change that does not grow
give-back-chunks : (a : Arena) (s n : ℕ) → (give_back_run a s n).chunks ≡ a.chunks
unfolding give_back_run
give-back-chunks a s n = refl

commit-chunks : (a : Arena) (s n : ℕ) → (commit_run a s n).chunks ≡ a.chunks
unfolding commit_run
commit-chunks a s n = refl

tell-chunks : (a : Arena) (s n : ℕ) (told : Commitment) → (tell_run a s n told).chunks ≡ a.chunks
unfolding tell_run
tell-chunks a s n Untold = refl
tell-chunks a s n Committed = refl
tell-chunks a s n Uncommitted = refl

unpend-chunks : (a : Arena) (j : ℕ) → (unpend_chunk a j).chunks ≡ a.chunks
unfolding unpend_chunk
unpend-chunks a j = refl

pub finish-sound : (S : ℕ) (a : Arena) (s n : ℕ) (commit : Bool) → SoundArena S a → s + n ≤ a.chunks → SoundArena S (finish_grant a s n commit)
unfolding finish_grant
finish-sound S a s n true x h =
    dirty-sound S (commit_run a s n) s n (commit-sound S a s n x h) (omega (arith, commit-chunks a s n))
finish-sound S a s n false x h = dirty-sound S a s n x h

pub release-sound : (S : ℕ) (a : Arena) (s n : ℕ) (told : Commitment) (pending : Bool) (now delay : ℕ) → SoundArena S a → s + n ≤ a.chunks
    → SoundArena S (release_run a s n told pending now delay)
unfolding release_run
release-sound S a s n told pending now delay x h = go pending
  where
    t : SoundArena S (tell_run (give_back_run a s n) s n told)
    t = tell-sound S (give_back_run a s n) s n (give-back-sound S a s n x h) (omega (arith, give-back-chunks a s n)) told

    go : (p : Bool) → SoundArena S (release_run a s n told p now delay)
    go true =
        pend-sound S (tell_run (give_back_run a s n) s n told) s n t
        (omega (arith, tell-chunks (give_back_run a s n) s n told, give-back-chunks a s n)) now delay
    go false = t

pub disarm-sound : (S : ℕ) (a : Arena) → SoundArena S a → SoundArena S (disarm a)
unfolding disarm
disarm-sound S a x = record { range = x.range; used = x.used; dirty = x.dirty; committed = x.committed; pending = x.pending }

pub borrow-sound : (S : ℕ) (a : Arena) (j : ℕ) → SoundArena S a → j < a.chunks → SoundArena S (borrow_chunk a j)
unfolding borrow_chunk
borrow-sound S a j x h = take-sound S a j 1 x (omega arith)

pub unpend-sound : (S : ℕ) (a : Arena) (j : ℕ) → SoundArena S a → j < a.chunks → SoundArena S (unpend_chunk a j)
unfolding unpend_chunk
unpend-sound S a j x h = record {
  range = x.range;
  used = x.used;
  dirty = x.dirty;
  committed = x.committed;
  pending = past-write false a.pending j 1 a.chunks (omega arith) x.pending;
}

pub return-sound : (S : ℕ) (a : Arena) (j : ℕ) (granted decommit : Bool) → SoundArena S a → j < a.chunks → SoundArena S (return_chunk a j granted decommit)
unfolding return_chunk
return-sound S a j granted decommit x h = go granted decommit
  where
    g : SoundArena S (give_back_run (unpend_chunk a j) j 1)
    g = give-back-sound S (unpend_chunk a j) j 1 (unpend-sound S a j x h) (omega (arith, unpend-chunks a j))

    go : (t d : Bool) → SoundArena S (return_chunk a j t d)
    go true true =
        tell-sound S (give_back_run (unpend_chunk a j) j 1) j 1 g
        (omega (arith, give-back-chunks (unpend_chunk a j) j 1, unpend-chunks a j)) Uncommitted
    go true false = g
    go false d = g

pub rearm-at-sound : (S : ℕ) (a : Arena) (now : ℕ) (f : Option ℕ) → SoundArena S a → SoundArena S (rearm_at a now f)
rearm-at-sound S a now (Some w) x = record { range = x.range; used = x.used; dirty = x.dirty; committed = x.committed; pending = x.pending }
rearm-at-sound S a now None x = x

pub rearm-sound : (S : ℕ) (a : Arena) (stamps : List ℕ) (force : Bool) (now delay : ℕ) → SoundArena S a → SoundArena S (rearm a stamps force now delay)
unfolding rearm
rearm-sound S a stamps true now delay x = x
rearm-sound S a stamps false now delay x = rearm-at-sound S a now (next_wait a stamps now delay) x

-- ---- registering

each-bit-past : (chunks : ℕ) (b : Bool) → Past chunks (each_bit chunks b)
each-bit-past chunks true = past-write true no_bits 0 chunks chunks (omega arith) (λ j l m. bit_at-no_bits j)
each-bit-past chunks false = λ j l m. bit_at-no_bits j

pub new-sound : (S base chunks : ℕ) (exclusive owned : Bool) (node : ℤ) (dirty committed : Bool) → SoundRange S base chunks
    → SoundArena S (new_arena base chunks exclusive owned node dirty committed)
unfolding new_arena
new-sound S base chunks exclusive owned node dirty committed x = record {
  range = x;
  used = λ j l m. bit_at-no_bits j;
  dirty = each-bit-past chunks dirty;
  committed = each-bit-past chunks committed;
  pending = λ j l m. bit_at-no_bits j;
}

-- an arena that grows, its new range being sound
pub grown-sound : (S : ℕ) (a : Arena) (n : ℕ) → SoundArena S a → SoundRange S a.base (a.chunks + n) → SoundArena S (grown_arena a n)
unfolding grown_arena
grown-sound S a n x y = record {
  range = y;
  used = λ j l m. x.used j (omega arith) m;
  dirty = past-write true a.dirty a.chunks n (a.chunks + n) (omega arith) (λ j l m. x.dirty j (omega arith) m);
  committed = past-write true a.committed a.chunks n (a.chunks + n) (omega arith) (λ j l m. x.committed j (omega arith) m);
  pending = λ j l m. x.pending j (omega arith) m;
}
