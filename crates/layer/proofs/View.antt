-- What each change of a record does to the share book that it shows, and what it leaves of the record's range. No id and no table. Assumes nothing.
use Rattle.std.specs.Prelude.{◌≡◌, ◌&&◌, ◌||◌, ◌∷◌, ◌+◌, ◌*◌, ◌≤◌, ◌<◌}
use Rattle.layer.proofs.Prelude.{refl, sym, ap, ◌∙◌, Bool, true, false, cond, not, List, [], ℕ, arith, eq-eqb, ne_eqb, ℤ, bit_at, within, clear_run, Stands, stands, before, inside, within-before, within-after, Option, Some, None, Arena, Commitment, Untold, Committed, Uncommitted, no_bits, each_bit, new_arena, reserved_arena, managed_arena, adopted_arena, grown_arena, run_fresh, take_run, give_back_run, commit_run, dirty_run, finish_grant, tell_run, pend_run, release_run, disarm, borrow_chunk, unpend_chunk, return_chunk, next_wait, rearm_at, rearm, Rows, no-bits-row, bit_at-no_bits, Sweep, Committing, Purging, Book, granted, opened, hold, unhold, claimed}
use Rattle.bitmap.proofs.words.RowLaws.{beyond, within-yes}
use Rattle.arena.proofs.RowLaws.{bit-write}
use Rattle.arena.proofs.SoundLaws.{Past}
use Rattle.arena.proofs.Changes.{take-used, give-back-used, dirty-dirty, finish-dirty, release-used, release-dirty}
use Rattle.layer.proofs.Kept.{take_range, release-range}
use Rattle.layer.proofs.Shown.{calm, committing, purging, view_of, owed_in, book_in, grow, Same}

-- ---- a written bit, in the book's words

set-or : (t b : Bool) → cond t true b ≡ t || b
set-or true b = refl
set-or false b = refl

clear-and : (t b : Bool) → cond t false b ≡ not t && b
clear-and true b = refl
clear-and false b = refl

-- two books that say the same
pub book-same : (x y : Book) → x.size ≡ y.size → x.base ≡ y.base → x.chunks ≡ y.chunks → ((j : ℕ) → x.held j ≡ y.held j) → ((j : ℕ) → x.touched j ≡ y.touched j) → x ≡ y
book-same x y z b c h t = λ i. record { size = z i; base = b i; chunks = c i; held = λ j. h j i; touched = λ j. t j i }

-- ---- what is open about an arena

module _ (id : ℕ) where
  pub view-commit : (s n : ℕ) → view_of id (Committing id s n) ≡ committing s n
  view-commit s n = ap (λ (b : Bool). cond b (committing s n) calm) (eq-eqb id id refl)

  pub view-purge : (j : ℕ) (w : Sweep) → view_of id (Purging id j w) ≡ purging j
  view-purge j w = ap (λ (b : Bool). cond b (purging j) calm) (eq-eqb id id refl)

  pub view-commit-other : (i s n : ℕ) → (i ≡ id → ⊥) → view_of id (Committing i s n) ≡ calm
  view-commit-other i s n h = ap (λ (b : Bool). cond b (committing s n) calm) (ne_eqb i id h)

  pub view-purge-other : (i j : ℕ) (w : Sweep) → (i ≡ id → ⊥) → view_of id (Purging i j w) ≡ calm
  view-purge-other i j w h = ap (λ (b : Bool). cond b (purging j) calm) (ne_eqb i id h)

-- ---- claims and their answers

module _ (a : Arena) (s n : ℕ) (r : Rows a) (h : s + n ≤ 1024) where
  used-set : (j : ℕ) → bit_at (take_run a s n).used j ≡ within s n j || bit_at a.used j
  used-set j = take-used a s n r h j ∙ set-or (within s n j) (bit_at a.used j)

  dirty-set : (j : ℕ) → bit_at (dirty_run a s n).dirty j ≡ within s n j || bit_at a.dirty j
  dirty-set j = dirty-dirty a s n r h j ∙ set-or (within s n j) (bit_at a.dirty j)

  -- a grant that puts no question
  pub book-granted : {S : ℕ} → book_in S calm (dirty_run (take_run a s n) s n) ≡ hold (book_in S calm a) s n
  unfolding dirty_run take_run
  book-granted = book-same _ _ refl refl refl used-set dirty-set

  -- one that waits for its yes
  pub book-taken : {S : ℕ} → book_in S (committing s n) (take_run a s n) ≡ hold (book_in S calm a) s n
  unfolding take_run
  book-taken = book-same _ _ refl refl refl used-set (λ j. refl)

  -- the yes
  pub book-committed : {S : ℕ} → (commit : Bool) → book_in S calm (finish_grant a s n commit) ≡ book_in S (committing s n) a
  unfolding finish_grant dirty_run commit_run
  book-committed true = book-same _ _ refl refl refl (λ j. refl) (λ j. finish-dirty a s n r h j true ∙ set-or (within s n j) (bit_at a.dirty j))
  book-committed false = book-same _ _ refl refl refl (λ j. refl) (λ j. finish-dirty a s n r h j false ∙ set-or (within s n j) (bit_at a.dirty j))

  -- a release, whatever is told and pending
  pub book-released : {S : ℕ} → (told : Commitment) (pending : Bool) (now delay : ℕ) → book_in S calm (release_run a s n told pending now delay) ≡ unhold (book_in S calm a) s n
  book-released told pending now delay =
      book-same _ _ refl (release-range a s n told pending now delay).0 (release-range a s n told pending now delay).1
      (λ j. release-used a s n r h j told pending now delay ∙ clear-and (within s n j) (bit_at a.used j))
      (λ j. ap (λ (ws : List ℕ). bit_at ws j) (release-dirty a s n told pending now delay))

  -- the no: what it frees, and the book before it
  pub freed-held : (j : ℕ) → bit_at (give_back_run a s n).used j ≡ not (within s n j) && bit_at a.used j
  freed-held j = give-back-used a s n r h j ∙ clear-and (within s n j) (bit_at a.used j)

  pub book-freed : {S : ℕ} → ((j : ℕ) → s ≤ j → j < s + n → bit_at a.used j ≡ true) → hold (book_in S calm (give_back_run a s n)) s n ≡ book_in S (committing s n) a
  unfolding give_back_run
  book-freed e = book-same _ _ refl refl refl (λ j. ap (λ (b : Bool). within s n j || b) (freed-held j) ∙ go j (stands s n j)) (λ j. refl)
    where
      go : (j : ℕ) → Stands s n j → within s n j || (not (within s n j) && bit_at a.used j) ≡ bit_at a.used j
      go j (before p) = ap (λ (t : Bool). t || (not t && bit_at a.used j)) (within-before s n j p)
      go j (beyond p) = ap (λ (t : Bool). t || (not t && bit_at a.used j)) (within-after s n j p)
      go j (inside p q) = ap (λ (t : Bool). t || (not t && bit_at a.used j)) (within-yes s n j p q) ∙ sym (e j p q)

-- what a claim is told: the book's fresh is the record's
pub say-fresh : (S : ℕ) (a : Arena) (s n : ℕ) → (claimed (book_in S calm a) n (Some s)).say ≡ granted (a.base + s * S) (run_fresh a s n)
unfolding run_fresh
say-fresh S a s n = refl

pub owed-taken : (S : ℕ) (a : Arena) (s n : ℕ) → owed_in S (committing s n) (take_run a s n) ≡ granted (a.base + s * S) (run_fresh a s n) ∷ []
unfolding take_run run_fresh
owed-taken S a s n = refl

-- ---- sweeps and their answers

pub book-disarmed : {S : ℕ} → (a : Arena) → book_in S calm (disarm a) ≡ book_in S calm a
unfolding disarm
book-disarmed a = refl

pub book-rearmed : {S : ℕ} → (a : Arena) (stamps : List ℕ) (force : Bool) (now delay : ℕ) → book_in S calm (rearm a stamps force now delay) ≡ book_in S calm a
unfolding rearm
book-rearmed {S = S} a stamps true now delay = refl
book-rearmed {S = S} a stamps false now delay = go (next_wait a stamps now delay)
  where
    go : (f : Option ℕ) → book_in S calm (rearm_at a now f) ≡ book_in S calm a
    go (Some w) = refl
    go None = refl

-- a sweep borrows the used bit of a chunk that is not held
pub book-borrowed : {S : ℕ} → (a : Arena) (c : ℕ) → Rows a → c < 1024 → bit_at a.used c ≡ false → book_in S (purging c) (borrow_chunk a c) ≡ book_in S calm a
unfolding borrow_chunk
book-borrowed a c r h e =
    book-same _ _ refl (take_range a c 1).0 (take_range a c 1).1
    (λ j. ap (λ (b : Bool). not (within c 1 j) && b) (used-set a c 1 r (omega arith) j) ∙ go j (stands c 1 j)) (λ j. taken-dirty j)
  where
    go : (j : ℕ) → Stands c 1 j → not (within c 1 j) && (within c 1 j || bit_at a.used j) ≡ bit_at a.used j
    go j (before p) = ap (λ (t : Bool). not t && (t || bit_at a.used j)) (within-before c 1 j p)
    go j (beyond p) = ap (λ (t : Bool). not t && (t || bit_at a.used j)) (within-after c 1 j p)
    go j (inside p q) =
        ap (λ (t : Bool). not t && (t || bit_at a.used j)) (within-yes c 1 j p q)
        ∙ sym (ap (bit_at a.used) (let z : j ≡ c = omega arith in z) ∙ e)

    taken-dirty : (j : ℕ) → bit_at (take_run a c 1).dirty j ≡ bit_at a.dirty j
    taken-dirty j = unfold take_run in refl

-- and gives it back, whatever the answer
pub book-returned : {S : ℕ} → (a : Arena) (c : ℕ) (agreed decommit : Bool) → Rows a → c < 1024 → book_in S calm (return_chunk a c agreed decommit) ≡ book_in S (purging c) a
unfolding return_chunk unpend_chunk give_back_run tell_run
book-returned {S = S} a c agreed decommit r h = go agreed decommit
  where
    cleared : (j : ℕ) → bit_at (clear_run a.used c 1) j ≡ not (within c 1 j) && bit_at a.used j
    cleared j = bit-write false a.used c 1 r.used (omega arith) j ∙ clear-and (within c 1 j) (bit_at a.used j)

    go : (agreed decommit : Bool) → book_in S calm (return_chunk a c agreed decommit) ≡ book_in S (purging c) a
    go true true = book-same _ _ refl refl refl cleared (λ j. refl)
    go true false = book-same _ _ refl refl refl cleared (λ j. refl)
    go false decommit = book-same _ _ refl refl refl cleared (λ j. refl)

-- ---- registering

-- a new record shows the book as it is opened: all touched if all are dirty, else none
pub book-new : {S : ℕ} → (base chunks : ℕ) (exclusive owned : Bool) (node : ℤ) (dirty committed : Bool) → chunks ≤ 1024
    → book_in S calm (new_arena base chunks exclusive owned node dirty committed) ≡ opened S base chunks dirty
unfolding new_arena
book-new base chunks exclusive owned node dirty committed h = book-same _ _ refl refl refl bit_at-no_bits (go dirty)
  where
    and-both-ways : (t : Bool) → (cond t true false ≡ t && true) × (false ≡ t && false)
    and-both-ways true = (refl, refl)
    and-both-ways false = (refl, refl)

    go : (d : Bool) (j : ℕ) → bit_at (each_bit chunks d) j ≡ within 0 chunks j && d
    go true j =
        bit-write true no_bits 0 chunks no-bits-row (omega arith) j ∙ ap (cond (within 0 chunks j) true) (bit_at-no_bits j) ∙ (and-both-ways (within 0 chunks j)).0
    go false j = bit_at-no_bits j ∙ (and-both-ways (within 0 chunks j)).1

pub book-reserved : {S : ℕ} → (base chunks : ℕ) (commit exclusive : Bool) → chunks ≤ 1024 → book_in S calm (reserved_arena base chunks commit exclusive) ≡ opened S base chunks false
unfolding reserved_arena
book-reserved base chunks commit exclusive h = book-new base chunks exclusive true _ false commit h

pub book-managed : {S : ℕ} → (base chunks : ℕ) (exclusive : Bool) (node : ℤ) → chunks ≤ 1024 → book_in S calm (managed_arena base chunks exclusive node) ≡ opened S base chunks true
unfolding managed_arena
book-managed base chunks exclusive node h = book-new base chunks exclusive false node true true h

pub book-adopted : {S : ℕ} → (base chunks : ℕ) → chunks ≤ 1024 → book_in S calm (adopted_arena base chunks) ≡ opened S base chunks true
unfolding adopted_arena
book-adopted base chunks h = book-new base chunks false true _ true true h

-- growth: no bit of a map is set past the last chunk
pub book-grown : {S : ℕ} → (a : Arena) (n : ℕ) → Rows a → a.chunks + n ≤ 1024 → Past a.chunks a.used → book_in S calm (grown_arena a n) ≡ grow (book_in S calm a) n
unfolding grown_arena
book-grown a n r h past =
    book-same _ _ refl refl refl (λ j. go j (stands a.chunks n j)) (λ j. bit-write true a.dirty a.chunks n r.dirty h j ∙ set-or (within a.chunks n j) (bit_at a.dirty j))
  where
    go : (j : ℕ) → Stands a.chunks n j → bit_at a.used j ≡ not (within a.chunks n j) && bit_at a.used j
    go j (before p) = sym (ap (λ (t : Bool). not t && bit_at a.used j) (within-before a.chunks n j p))
    go j (beyond p) = sym (ap (λ (t : Bool). not t && bit_at a.used j) (within-after a.chunks n j p))
    go j (inside p q) = past j p (omega arith) ∙ sym (ap (λ (t : Bool). not t && bit_at a.used j) (within-yes a.chunks n j p q))

-- ---- what a change leaves of an arena's range and flags

pub unchanged : (a : Arena) → Same a a.chunks a
unchanged a = record { base = refl; chunks = refl; exclusive = refl; owned = refl }

module _ (old : Arena) (m : ℕ) (a : Arena) (x : Same old m a) where
  pub take_same : (s n : ℕ) → Same old m (take_run a s n)
  unfolding take_run
  take_same s n = record { base = x.base; chunks = x.chunks; exclusive = x.exclusive; owned = x.owned }

  pub dirty-same : (s n : ℕ) → Same old m (dirty_run a s n)
  unfolding dirty_run
  dirty-same s n = record { base = x.base; chunks = x.chunks; exclusive = x.exclusive; owned = x.owned }

  pub finish-same : (s n : ℕ) (commit : Bool) → Same old m (finish_grant a s n commit)
  unfolding finish_grant dirty_run commit_run
  finish-same s n true = record { base = x.base; chunks = x.chunks; exclusive = x.exclusive; owned = x.owned }
  finish-same s n false = record { base = x.base; chunks = x.chunks; exclusive = x.exclusive; owned = x.owned }

  pub give-back-same : (s n : ℕ) → Same old m (give_back_run a s n)
  unfolding give_back_run
  give-back-same s n = record { base = x.base; chunks = x.chunks; exclusive = x.exclusive; owned = x.owned }

  pub release-same : (s n : ℕ) (told : Commitment) (pending : Bool) (now delay : ℕ) → Same old m (release_run a s n told pending now delay)
  unfolding release_run pend_run tell_run give_back_run
  release-same s n Untold true now delay = record { base = x.base; chunks = x.chunks; exclusive = x.exclusive; owned = x.owned }
  release-same s n Untold false now delay = record { base = x.base; chunks = x.chunks; exclusive = x.exclusive; owned = x.owned }
  release-same s n Committed true now delay = record { base = x.base; chunks = x.chunks; exclusive = x.exclusive; owned = x.owned }
  release-same s n Committed false now delay = record { base = x.base; chunks = x.chunks; exclusive = x.exclusive; owned = x.owned }
  release-same s n Uncommitted true now delay = record { base = x.base; chunks = x.chunks; exclusive = x.exclusive; owned = x.owned }
  release-same s n Uncommitted false now delay = record { base = x.base; chunks = x.chunks; exclusive = x.exclusive; owned = x.owned }

  pub disarm-same : Same old m (disarm a)
  unfolding disarm
  disarm-same = record { base = x.base; chunks = x.chunks; exclusive = x.exclusive; owned = x.owned }

  pub borrow-same : (c : ℕ) → Same old m (borrow_chunk a c)
  unfolding borrow_chunk
  borrow-same c = take_same c 1

  pub return-same : (c : ℕ) (agreed decommit : Bool) → Same old m (return_chunk a c agreed decommit)
  unfolding return_chunk unpend_chunk give_back_run tell_run
  return-same c true true = record { base = x.base; chunks = x.chunks; exclusive = x.exclusive; owned = x.owned }
  return-same c true false = record { base = x.base; chunks = x.chunks; exclusive = x.exclusive; owned = x.owned }
  return-same c false decommit = record { base = x.base; chunks = x.chunks; exclusive = x.exclusive; owned = x.owned }

  pub rearm-same : (stamps : List ℕ) (force : Bool) (now delay : ℕ) → Same old m (rearm a stamps force now delay)
  unfolding rearm
  rearm-same stamps true now delay = x
  rearm-same stamps false now delay = go (next_wait a stamps now delay)
    where
      go : (f : Option ℕ) → Same old m (rearm_at a now f)
      go (Some w) = record { base = x.base; chunks = x.chunks; exclusive = x.exclusive; owned = x.owned }
      go None = x

  pub grown-same : (n : ℕ) → Same old (m + n) (grown_arena a n)
  unfolding grown_arena
  grown-same n = record { base = x.base; chunks = ap (λ (z : ℕ). z + n) x.chunks; exclusive = x.exclusive; owned = x.owned }
