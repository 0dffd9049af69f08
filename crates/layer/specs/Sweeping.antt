-- `purge_due`: a sweep over the arenas, until it has a question or ends. Document 01, "Sweeping": "Arenas by id, chunks ascending." k arenas stand; S is
-- the size of a chunk. Assumes nothing.
use Rattle.std.specs.Prelude.{◌+◌, ◌*◌}
use Rattle.layer.specs.Prelude.{Bool, cond, List, ℕ, zero, suc, set, Option, Some, None, Arena, sweep_due, disarm, next_asked, borrow_chunk, rearm, stamps_of, Sweep, Purging, AskPurge, Asks, Swept, Reply}
use Rattle.layer.specs.World.{Outcome, state_with, calm, reply, after}
use Rattle.layer.specs.Table.{at}

-- the question about chunk j of arena i, whose record is a
unfoldable pub purge_reply : ℕ → ℕ → Bool → Sweep → ℕ → Arena → ℕ → Reply
purge_reply S k mark w i a j = reply (Asks (AskPurge (a.base + j * S) S w.decommit)) (state_with k mark (Purging i j w))

-- "The count is the number of yes answers."
unfoldable pub swept_reply : ℕ → Bool → Sweep → Reply
swept_reply k mark w = reply (Swept w.purged) (calm k mark)

module _ (S : ℕ) (stamps : List ℕ) (k : ℕ) (mark : Bool) (w : Sweep) where
  -- the next question about arena i, whose record is a, or its end: `rest` goes on with the arenas after it
  abbrev pub visit_at : List Arena → ℕ → Arena → (List Arena → Outcome) → Option ℕ → Outcome
  visit_at l i a rest (Some j) = after (purge_reply S k mark w i a j) (set l i (borrow_chunk a j)) stamps
  visit_at l i a rest None = rest (set l i (rearm a (stamps_of stamps i) w.force w.now w.delay))

  unfoldable pub visit : List Arena → ℕ → Arena → ℕ → (List Arena → Outcome) → Outcome
  visit l i a from rest = visit_at l i a rest (next_asked a (stamps_of stamps i) w.force w.now w.delay from)

  -- the f arenas from i on
  unfoldable pub sweep_from : ℕ → ℕ → List Arena → Outcome
  sweep_from zero i l = after (swept_reply k mark w) l stamps
  sweep_from (suc f) i l =
      cond (sweep_due (at l i) w.force w.now) (visit l i (disarm (at l i)) 0 (sweep_from f (i + 1))) (sweep_from f (i + 1) l)
