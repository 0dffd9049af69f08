-- Sound in, sound out: a call on a table that row 1 lets pass leaves one that row 1 lets pass. First what does not register. Assumes nothing.
use Rattle.std.specs.Prelude.{◌≡◌, ◌++◌, ◌+◌, ◌-◌, ◌*◌, ◌/◌, ◌<◌, ◌≤◌}
use Rattle.layer.proofs.Prelude.{refl, sym, ◌∙◌, subst, Bool, true, false, cond, List, ℕ, zero, suc, arith, leb-true, ℤ, length, set, take, drop, replicate, length-replicate, bit_at, by_cond, Option, Some, None, least, First, first_says, Arena, Commitment, Untold, Committed, Uncommitted, find_run, take_run, give_back_run, commit_run, dirty_run, finish_grant, tell_run, pend_run, release_run, stamp_run, sweep_due, to_ask, next_asked, disarm, borrow_chunk, unpend_chunk, return_chunk, next_wait, rearm_at, rearm, SoundArena, stamps_of, Rows, bit_in, found_inside, disarm-rows, rearm-rows, Sweep, Committing, Reply, World, Outcome, world_of, calm, at, search_of, release_of, purge_reply, swept_reply, visit_at, visit, sweep_from}
use lib.ListN.{length-append, length-take, length-drop}
use Rattle.arena.proofs.Changes.{take-rows, dirty-rows, release-rows, borrow-rows}
use Rattle.arena.proofs.StaysSound.{take-sound, dirty-sound, release-sound, disarm-sound, borrow-sound, rearm-sound}
use Rattle.layer.proofs.Tools.{at_same}
use Rattle.layer.proofs.Facts.{SoundTable, SoundQuestion, put-sound}
use Rattle.layer.proofs.Cases.{grant-cases, search-cases, release-in-cases, release-cases}

-- ---- a sound world

pub record SoundWorld (S : ℕ) (w : World) : Type 0 where
  pub table : SoundTable S w.records w.state.count
  pub stamps : length w.stamps ≡ 32768
  pub question : SoundQuestion w.records w.state.count w.state.question

-- what a call leaves is sound
abbrev pub Kept : ℕ → Outcome → Type 0
Kept S o = SoundWorld S o.world

-- ---- what a change leaves of a range

pub take_range : (a : Arena) (s n : ℕ) → ((take_run a s n).base ≡ a.base) × ((take_run a s n).chunks ≡ a.chunks)
unfolding take_run
take_range a s n = (refl, refl)

pub give-back-range : (a : Arena) (s n : ℕ) → ((give_back_run a s n).base ≡ a.base) × ((give_back_run a s n).chunks ≡ a.chunks)
unfolding give_back_run
give-back-range a s n = (refl, refl)

pub dirty-range : (a : Arena) (s n : ℕ) → ((dirty_run a s n).base ≡ a.base) × ((dirty_run a s n).chunks ≡ a.chunks)
unfolding dirty_run
dirty-range a s n = (refl, refl)

pub finish-range : (a : Arena) (s n : ℕ) (commit : Bool) → ((finish_grant a s n commit).base ≡ a.base) × ((finish_grant a s n commit).chunks ≡ a.chunks)
unfolding finish_grant dirty_run commit_run
finish-range a s n true = (refl, refl)
finish-range a s n false = (refl, refl)

pub release-range : (a : Arena) (s n : ℕ) (told : Commitment) (pending : Bool) (now delay : ℕ)
    → ((release_run a s n told pending now delay).base ≡ a.base) × ((release_run a s n told pending now delay).chunks ≡ a.chunks)
unfolding release_run pend_run tell_run give_back_run
release-range a s n Untold true now delay = (refl, refl)
release-range a s n Untold false now delay = (refl, refl)
release-range a s n Committed true now delay = (refl, refl)
release-range a s n Committed false now delay = (refl, refl)
release-range a s n Uncommitted true now delay = (refl, refl)
release-range a s n Uncommitted false now delay = (refl, refl)

pub disarm-range : (a : Arena) → ((disarm a).base ≡ a.base) × ((disarm a).chunks ≡ a.chunks)
unfolding disarm
disarm-range a = (refl, refl)

pub borrow-range : (a : Arena) (j : ℕ) → ((borrow_chunk a j).base ≡ a.base) × ((borrow_chunk a j).chunks ≡ a.chunks)
unfolding borrow_chunk
borrow-range a j = take_range a j 1

pub return-range : (a : Arena) (j : ℕ) (granted decommit : Bool) → ((return_chunk a j granted decommit).base ≡ a.base) × ((return_chunk a j granted decommit).chunks ≡ a.chunks)
unfolding return_chunk tell_run give_back_run unpend_chunk
return-range a j true true = (refl, refl)
return-range a j true false = (refl, refl)
return-range a j false decommit = (refl, refl)

rearm-at-range : (a : Arena) (now : ℕ) (f : Option ℕ) → ((rearm_at a now f).base ≡ a.base) × ((rearm_at a now f).chunks ≡ a.chunks)
rearm-at-range a now (Some w) = (refl, refl)
rearm-at-range a now None = (refl, refl)

pub rearm-range : (a : Arena) (stamps : List ℕ) (force : Bool) (now delay : ℕ) → ((rearm a stamps force now delay).base ≡ a.base) × ((rearm a stamps force now delay).chunks ≡ a.chunks)
unfolding rearm
rearm-range a stamps true now delay = (refl, refl)
rearm-range a stamps false now delay = rearm-at-range a now (next_wait a stamps now delay)

-- the borrowed bit is set
borrowed : (a : Arena) (j : ℕ) → Rows a → j < 1024 → bit_at (borrow_chunk a j).used j ≡ true
unfolding borrow_chunk take_run
borrowed a j r h = bit_in true a.used j 1 r.used (omega arith) j (omega arith) (omega arith)

-- as many stamps as before
pub stamp-length : (stamps : List ℕ) (s n x : ℕ) → s + n ≤ length stamps → length (stamp_run stamps s n x) ≡ length stamps
unfolding stamp_run
stamp-length stamps s n x h =
    length-append (take s stamps) (replicate n x ++ drop (s + n) stamps)
    ∙ (let a : length (take s stamps) ≡ s = simp length-take (omega arith) in
    let b : length (replicate n x ++ drop (s + n) stamps) ≡ n + (length stamps - (s + n)) = length-append (replicate n x) (drop (s + n) stamps) ∙ simp (length-drop, length-replicate) in
    omega arith)

-- ---- claims

module _ (S : ℕ) (l : List Arena) (stamps : List ℕ) (k : ℕ) (mark : Bool) (t : SoundTable S l k) (ls : length stamps ≡ 32768) where
  pub calm-kept : (m : Bool) → SoundWorld S (world_of l stamps (calm k m))
  calm-kept m = record { table = t; stamps = ls; question = tt }

  -- the run that was found in arena i, taken
  module _ (i s n : ℕ) (h : i < k) (found : find_run (at l i) n ≡ Some s) where
    room : s + n ≤ (at l i).chunks
    room = found_inside (at l i) n s found

    few : (at l i).chunks ≤ 1024
    few = (t.each i h).range.few

    there : i < length l
    there = omega (arith, t.long, t.few)

    taken-table : SoundTable S (set l i (take_run (at l i) s n)) k
    taken-table =
        put-sound S l k i (take_run (at l i) s n) t h (take-rows (at l i) s n (t.rows i h)) (take-sound S (at l i) s n (t.each i h) room)
        (take_range (at l i) s n).0 (take_range (at l i) s n).1

    asked : SoundQuestion (set l i (take_run (at l i) s n)) k (Committing i s n)
    unfolding take_run
    asked =
        subst (λ (b : Arena). (i < k) × (s + n ≤ b.chunks) × ((j : ℕ) → s ≤ j → j < s + n → bit_at b.used j ≡ true))
        (sym (at_same l i (take_run (at l i) s n) there))
        (h, room, λ j u v. bit_in true (at l i).used s n (t.rows i h).used (omega (arith, room, few)) j u v)

    dirtied-table : SoundTable S (set l i (dirty_run (take_run (at l i) s n) s n)) k
    dirtied-table =
        put-sound S l k i (dirty_run (take_run (at l i) s n) s n) t h (dirty-rows (take_run (at l i) s n) s n (take-rows (at l i) s n (t.rows i h)))
        (dirty-sound S (take_run (at l i) s n) s n (take-sound S (at l i) s n (t.each i h) room)
        (omega (arith, room, (take_range (at l i) s n).1)))
        ((dirty-range (take_run (at l i) s n) s n).0 ∙ (take_range (at l i) s n).0) ((dirty-range (take_run (at l i) s n) s n).1 ∙ (take_range (at l i) s n).1)

  -- a search, where what a miss leaves is sound
  pub search-kept : (id : ℤ) (n : ℕ) (commits : Bool) (missed : Reply) → SoundWorld S (world_of l stamps missed.state) → Kept S (search_of S l stamps k mark id n commits missed)
  search-kept id n commits missed m =
      search-cases S l stamps k mark (Kept S) id n commits missed (λ f. m)
      (λ i h f. grant-cases S l stamps k mark (Kept S) i n commits (λ e. calm-kept mark) (λ s e. record { table = dirtied-table i s n h e; stamps = ls; question = tt })
      (λ s e. record { table = taken-table i s n h e; stamps = ls; question = asked i s n h e }))

  -- ---- releases

  stamped : (s n at-ms : ℕ) → s + n ≤ 32768 → length (stamp_run stamps s n at-ms) ≡ 32768
  stamped s n at-ms h = stamp-length stamps s n at-ms (omega (arith, ls)) ∙ ls

  pub release-kept : (address n : ℕ) (told : Commitment) (pending : Bool) (now delay : ℕ) → Kept S (release_of S l stamps k mark address n told pending now delay)
  release-kept address n told pending now delay =
      release-cases S l stamps k mark (Kept S) n told pending now delay address (λ e. calm-kept mark) (λ e f. calm-kept mark)
      (λ i e h f. release-in-cases S l stamps k mark (Kept S) n told pending now delay i (address - (at l i).base) (λ g. calm-kept mark) (λ g r. calm-kept mark)
      (λ g r. granted i h ((address - (at l i).base) / S) (leb-true _ _ r)))
    where
      granted : (i : ℕ) → i < k → (s : ℕ) → s + n ≤ (at l i).chunks
          → SoundWorld S (world_of (set l i (release_run (at l i) s n told pending now delay)) (cond pending (stamp_run stamps (1024 * i + s) n now) stamps) (calm k mark))
      granted i h s room = record {
        table = put-sound S l k i (release_run (at l i) s n told pending now delay) t h (release-rows (at l i) s n told pending now delay (t.rows i h))
            (release-sound S (at l i) s n told pending now delay (t.each i h) room)
            (release-range (at l i) s n told pending now delay).0 (release-range (at l i) s n told pending now delay).1;
        stamps = by_cond (λ (z : List ℕ). length z ≡ 32768) pending _ _ (λ f. stamped (1024 * i + s) n now (omega (arith, room, (t.each i h).range.few, t.few))) (λ f. ls);
        question = tt;
      }

-- ---- sweeps

-- the arenas from i on are sound, and the count is not above the places passed
module _ (S : ℕ) (stamps : List ℕ) (k : ℕ) (mark : Bool) (w : Sweep) (ls : length stamps ≡ 32768) where
  -- arena i, whose record is a (with the range of the table's), from place `from` on
  pub visit-kept : (l : List Arena) (i from : ℕ) (a : Arena) (rest : List Arena → Outcome) → SoundTable S l k → i < k → Rows a → SoundArena S a
      → a.base ≡ (at l i).base → a.chunks ≡ (at l i).chunks → w.purged ≤ 1024 * i + from
      → ((m : List Arena) → SoundTable S m k → Kept S (rest m)) → Kept S (visit S stamps k mark w l i a from rest)
  unfolding visit next_asked purge_reply
  visit-kept l i from a rest t h r x p q b go_on =
      go (least (to_ask a (stamps_of stamps i) w.force w.now w.delay) from (a.chunks - from))
      (first_says (to_ask a (stamps_of stamps i) w.force w.now w.delay) from (a.chunks - from))
    where
      there : i < length l
      there = omega (arith, t.long, t.few)

      go : (f : Option ℕ) → First (to_ask a (stamps_of stamps i) w.force w.now w.delay) from (a.chunks - from) f → Kept S (visit_at S stamps k mark w l i a rest f)
      go (Some j) f =
          let inside : j < a.chunks = omega (arith, f.0, f.1) in
          let few : a.chunks ≤ 1024 = x.range.few in
          record {
            table = put-sound S l k i (borrow_chunk a j) t h (borrow-rows a j r) (borrow-sound S a j x inside) ((borrow-range a j).0 ∙ p) ((borrow-range a j).1 ∙ q);
            stamps = ls;
            question = subst (λ (z : Arena). (i < k) × (j < z.chunks) × (bit_at z.used j ≡ true) × (w.purged ≤ 1024 * i + j)) (sym (at_same l i (borrow_chunk a j) there))
                (h, omega (arith, inside, (borrow-range a j).1), borrowed a j r (omega (arith, inside, few)), omega (arith, f.0, b));
          }
      go None f =
          go_on (set l i (rearm a (stamps_of stamps i) w.force w.now w.delay))
          (put-sound S l k i (rearm a (stamps_of stamps i) w.force w.now w.delay) t h (rearm-rows a (stamps_of stamps i) w.force w.now w.delay r)
          (rearm-sound S a (stamps_of stamps i) w.force w.now w.delay x)
          ((rearm-range a (stamps_of stamps i) w.force w.now w.delay).0 ∙ p) ((rearm-range a (stamps_of stamps i) w.force w.now w.delay).1 ∙ q))

  pub sweep-kept : (f i : ℕ) (l : List Arena) → SoundTable S l k → i + f ≤ k → w.purged ≤ 1024 * i → Kept S (sweep_from S stamps k mark w f i l)
  unfolding sweep_from swept_reply
  sweep-kept zero i l t h b = record { table = t; stamps = ls; question = tt }
  sweep-kept (suc f) i l t h b =
      by_cond (Kept S) (sweep_due (at l i) w.force w.now) _ _
      (λ e. visit-kept l i 0 (disarm (at l i)) (sweep_from S stamps k mark w f (i + 1)) t (omega arith) (disarm-rows (at l i) (t.rows i (omega arith)))
      (disarm-sound S (at l i) (t.each i (omega arith))) (disarm-range (at l i)).0 (disarm-range (at l i)).1 (omega arith)
      (λ m u. sweep-kept f (i + 1) m u (omega arith) (omega arith)))
      (λ e. sweep-kept f (i + 1) l t (omega arith) (omega arith))
