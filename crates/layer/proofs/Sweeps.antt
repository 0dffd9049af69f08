-- The case principle of a sweep: to prove P of what comes out, prove it of each question that it may put, and of its end. Assumes nothing.
use Rattle.std.specs.Prelude.{◌+◌, ◌-◌, ◌*◌, ◌≤◌, ℕ}
use Rattle.layer.proofs.Prelude.{ℕ, zero, suc, Bool, cond, List, arith, by_cond, Option, Some, None, least, First, first_says, Arena, sweep_due, disarm, to_ask, next_asked, stamps_of, Sweep, Purging, Asks, Swept, Outcome, state_with, reply, after, calm, at, purge_reply, swept_reply, visit_at, visit, sweep_from}
use Rattle.layer.specs.declared.Ask.TheVariants.{AskPurge}

-- it asks about a place from lo on, or ends
module _ (S : ℕ) (stamps : List ℕ) (k : ℕ) (mark : Bool) (w : Sweep) (P : Outcome → Type 0) (lo : ℕ)
    (asks : (l : List Arena) (i : ℕ) (a : Arena) (j : ℕ) → lo ≤ 1024 * i + j → P (after (reply (Asks (AskPurge (a.base + j * S) S w.decommit)) (state_with k mark (Purging i j w))) l stamps))
    (ends : (l : List Arena) → P (after (reply (Swept w.purged) (calm k mark)) l stamps)) where
  pub visit-cases : (l : List Arena) (i : ℕ) (a : Arena) (from : ℕ) (rest : List Arena → Outcome) → lo ≤ 1024 * i + from → ((m : List Arena) → P (rest m)) → P (visit S stamps k mark w l i a from rest)
  unfolding visit next_asked purge_reply
  visit-cases l i a from rest h go_on =
      go (least (to_ask a (stamps_of stamps i) w.force w.now w.delay) from (a.chunks - from)) (first_says (to_ask a (stamps_of stamps i) w.force w.now w.delay) from (a.chunks - from))
    where
      go : (f : Option ℕ) → First (to_ask a (stamps_of stamps i) w.force w.now w.delay) from (a.chunks - from) f → P (visit_at S stamps k mark w l i a rest f)
      go (Some j) g = asks _ i a j (omega (arith, h, g.0))
      go None g = go_on _

  pub sweep-cases : (f i : ℕ) (l : List Arena) → lo ≤ 1024 * i → P (sweep_from S stamps k mark w f i l)
  unfolding sweep_from swept_reply
  sweep-cases zero i l h = ends l
  sweep-cases (suc f) i l h =
      by_cond P (sweep_due (at l i) w.force w.now) _ _
      (λ e. visit-cases l i (disarm (at l i)) 0 (sweep_from S stamps k mark w f (i + 1)) (omega arith) (λ m. sweep-cases f (i + 1) m (omega arith)))
      (λ e. sweep-cases f (i + 1) l (omega arith))

-- a sweep's call goes over all arenas, or over none: what holds of a sweep over any number of them holds of it
pub all-or-none : (S : ℕ) (stamps : List ℕ) (k : ℕ) (mark : Bool) (w : Sweep) (P : Outcome → Type 0) (none : Bool) (l : List Arena)
    → ((f : ℕ) → f ≤ k → P (sweep_from S stamps k mark w f 0 l)) → P (cond none (after (swept_reply k mark w) l stamps) (sweep_from S stamps k mark w k 0 l))
unfolding sweep_from
all-or-none S stamps k mark w P none l each = by_cond P none _ _ (λ e. each 0 (omega arith)) (λ e. each k (omega arith))
