-- Where a sweep goes from a place on: to a question about a pending chunk, or to its end. It leaves every pending bit. Assumes nothing.
use Rattle.std.specs.Prelude.{◌≡◌, ◌+◌, ◌-◌, ◌*◌, ◌<◌, ◌≤◌}
use Rattle.layer.proofs.Prelude.{refl, sym, ap, ap₂, ◌∙◌, subst, Bool, true, false, List, ℕ, zero, suc, arith, length, set, length-set, bit_at, by_cond, clear_run, Stands, before, inside, stands, within-before, within-after, Option, Some, None, least, First, first_says, and_both, Arena, take_run, give_back_run, tell_run, sweep_due, to_ask, next_asked, disarm, borrow_chunk, unpend_chunk, return_chunk, next_wait, rearm_at, rearm, stamps_of, Rows, bit_in, bit-out, Outcome, state_with, world_of, outcome, calm, at, purge_reply, swept_reply, visit_at, visit, sweep_from}
use Rattle.bitmap.proofs.words.RowLaws.{beyond}
use Rattle.layer.specs.declared.Sweep.{Sweep}
use Rattle.layer.specs.declared.Question.TheVariants.{Purging}
use Rattle.layer.specs.declared.Ask.TheVariants.{AskPurge}
use Rattle.layer.specs.declared.Answer.TheVariants.{Asks, Swept}
use Rattle.layer.proofs.Tools.{at_same}
use Rattle.layer.proofs.Kept.{disarm-range, borrow-range, return-range, rearm-range}
use Rattle.layer_laws.specs.sweep_runs.Run.{count, pending_in, pending_bits}
use Rattle.layer_laws.proofs.sweep_runs.Counts.{count_less, bits_put}

-- ---- the pending bits of a record after a change

in-as : (a b : Arena) → a.pending ≡ b.pending → a.chunks ≡ b.chunks → pending_in a ≡ pending_in b
unfolding pending_in
in-as a b p q = ap₂ (λ (ws : List ℕ) (n : ℕ). count (bit_at ws) 0 n) p q

disarm-pending : (a : Arena) → (disarm a).pending ≡ a.pending
unfolding disarm
disarm-pending a = refl

borrow-pending : (a : Arena) (j : ℕ) → (borrow_chunk a j).pending ≡ a.pending
unfolding borrow_chunk take_run
borrow-pending a j = refl

rearm-at-pending : (a : Arena) (now : ℕ) (f : Option ℕ) → (rearm_at a now f).pending ≡ a.pending
rearm-at-pending a now (Some w) = refl
rearm-at-pending a now None = refl

rearm-pending : (a : Arena) (stamps : List ℕ) (force : Bool) (now delay : ℕ) → (rearm a stamps force now delay).pending ≡ a.pending
unfolding rearm
rearm-pending a stamps true now delay = refl
rearm-pending a stamps false now delay = rearm-at-pending a now (next_wait a stamps now delay)

return-pending : (a : Arena) (j : ℕ) (granted decommit : Bool) → (return_chunk a j granted decommit).pending ≡ (unpend_chunk a j).pending
unfolding return_chunk give_back_run tell_run
return-pending a j true true = refl
return-pending a j true false = refl
return-pending a j false decommit = refl

-- an answer clears the pending bit of its chunk, and no other
unpend-less : (a : Arena) (j : ℕ) → Rows a → j < a.chunks → a.chunks ≤ 1024 → bit_at a.pending j ≡ true → suc (pending_in (unpend_chunk a j)) ≡ pending_in a
unfolding unpend_chunk pending_in
unpend-less a j r h few e =
    count_less (bit_at a.pending) (bit_at (clear_run a.pending j 1)) 0 a.chunks j (omega arith) (omega arith) e
    (bit_in false a.pending j 1 r.pending (omega arith) j (omega arith) (omega arith))
    (λ i n. sym (go i n (stands j 1 i)))
  where
    go : (i : ℕ) → (i ≡ j → ⊥) → Stands j 1 i → bit_at (clear_run a.pending j 1) i ≡ bit_at a.pending i
    go i n (before p) = bit-out false a.pending j 1 r.pending (omega arith) i (within-before j 1 i p)
    go i n (inside p q) = absurd (n (omega arith))
    go i n (beyond p) = bit-out false a.pending j 1 r.pending (omega arith) i (within-after j 1 i p)

unpend-chunks : (a : Arena) (j : ℕ) → (unpend_chunk a j).chunks ≡ a.chunks
unfolding unpend_chunk
unpend-chunks a j = refl

pub return-less : (a : Arena) (j : ℕ) (granted decommit : Bool) → Rows a → j < a.chunks → a.chunks ≤ 1024 → bit_at a.pending j ≡ true
    → suc (pending_in (return_chunk a j granted decommit)) ≡ pending_in a
return-less a j granted decommit r h few e =
    ap suc (in-as (return_chunk a j granted decommit) (unpend_chunk a j) (return-pending a j granted decommit) ((return-range a j granted decommit).1 ∙ sym (unpend-chunks a j)))
    ∙ unpend-less a j r h few e

-- ---- where it goes

module _ (S : ℕ) (stamps : List ℕ) (k : ℕ) (mark : Bool) (w : Sweep) where
  -- so many bits are pending then; a question is about a chunk that is pending
  pub data Goes (bits : ℕ) (o : Outcome) : Type 0 where
    asks : (l : List Arena) (i j address : ℕ) (decommit : Bool) → i < k → j < (at l i).chunks → bit_at (at l i).pending j ≡ true → pending_bits l k ≡ bits
        → o ≡ outcome (Asks (AskPurge address S decommit)) (world_of l stamps (state_with k mark (Purging i j w))) → Goes bits o
    ends : (l : List Arena) → o ≡ outcome (Swept w.purged) (world_of l stamps (calm k mark)) → Goes bits o

  -- arena i, whose record is a, from a place on: a's bits count in the place of those of the table's record
  pub visit-goes : (bits : ℕ) (l : List Arena) (i from : ℕ) (a : Arena) (rest : List Arena → Outcome) → i < k → k ≤ length l
      → bits + pending_in (at l i) ≡ pending_bits l k + pending_in a → ((m : List Arena) → k ≤ length m → pending_bits m k ≡ bits → Goes bits (rest m))
      → Goes bits (visit S stamps k mark w l i a from rest)
  unfolding visit next_asked purge_reply to_ask
  visit-goes bits l i from a rest h long p on =
      go (least (to_ask a (stamps_of stamps i) w.force w.now w.delay) from (a.chunks - from))
      (first_says (to_ask a (stamps_of stamps i) w.force w.now w.delay) from (a.chunks - from))
    where
      there : i < length l
      there = omega (arith, h, long)

      -- a record with a's bits in the table
      stored : (b : Arena) → b.pending ≡ a.pending → b.chunks ≡ a.chunks → pending_bits (set l i b) k ≡ bits
      stored b x y =
          let s : pending_bits (set l i b) k + pending_in (at l i) ≡ pending_bits l k + pending_in b = bits_put l i b k h there in
          let t : pending_in b ≡ pending_in a = in-as b a x y in
          omega (arith, s, t, p)

      go : (f : Option ℕ) → First (to_ask a (stamps_of stamps i) w.force w.now w.delay) from (a.chunks - from) f → Goes bits (visit_at S stamps k mark w l i a rest f)
      go (Some j) f =
          let same : at (set l i (borrow_chunk a j)) i ≡ borrow_chunk a j = at_same l i (borrow_chunk a j) there in
          asks (set l i (borrow_chunk a j)) i j (a.base + j * S) w.decommit h
          (subst (λ (b : Arena). j < b.chunks) (sym same) (omega (arith, f.0, f.1, (borrow-range a j).1)))
          (ap (λ (b : Arena). bit_at b.pending j) same ∙ ap (λ (ws : List ℕ). bit_at ws j) (borrow-pending a j) ∙ (and_both (bit_at a.pending j) _ f.2).0)
          (stored (borrow_chunk a j) (borrow-pending a j) (borrow-range a j).1) refl
      go None f =
          let b = rearm a (stamps_of stamps i) w.force w.now w.delay in
          on (set l i b) (omega (arith, long, length-set l i b))
          (stored b (rearm-pending a (stamps_of stamps i) w.force w.now w.delay) (rearm-range a (stamps_of stamps i) w.force w.now w.delay).1)

  -- the f arenas from i on
  pub sweep-goes : (bits f i : ℕ) (l : List Arena) → i + f ≤ k → k ≤ length l → pending_bits l k ≡ bits → Goes bits (sweep_from S stamps k mark w f i l)
  unfolding sweep_from swept_reply
  sweep-goes bits zero i l h long p = ends l refl
  sweep-goes bits (suc f) i l h long p =
      by_cond (Goes bits) (sweep_due (at l i) w.force w.now) _ _
      (λ e. visit-goes bits l i 0 (disarm (at l i)) (sweep_from S stamps k mark w f (i + 1)) (omega arith) long
      (let t : pending_in (disarm (at l i)) ≡ pending_in (at l i) = in-as (disarm (at l i)) (at l i) (disarm-pending (at l i)) (disarm-range (at l i)).1 in omega (arith, t, p))
      (λ m u q. sweep-goes bits f (i + 1) m (omega arith) u q))
      (λ e. sweep-goes bits f (i + 1) l (omega arith) long p)
