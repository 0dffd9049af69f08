-- What a sweep looks for in a record is what it looks for in its maps; and of a record whose chunk j came back. Assumes nothing.
use Rattle.std.specs.Prelude.{◌≡◌, ◌&&◌, ◌+◌, ◌-◌, ◌*◌, ◌<◌, ◌≤◌}
use Rattle.arena.proofs.Prelude.{refl, sym, ap, ap₂, ◌∙◌, subst, Bool, true, false, cond, not, List, ⊎_elim, ℕ, zero, suc, arith, length, bit_at, write_run, clear_run, lt-or-le, within-after, write_run-length, Option, Some, None, least, Arena, with_deadline, give_back_run, tell_run, young, next_wait, rearm_at, rearm, disarm, unpend_chunk, return_chunk, wait_in, armed_for, next_deadline}
use Rattle.bitmap.proofs.words.RowLaws.{pack-bit, past_the_end}
use Rattle.arena.specs.Sweeping.{to_ask, next_asked}

module _ (a : Arena) (stamps : List ℕ) (force : Bool) (now delay : ℕ) where
  -- a disarmed arena has the same chunks to ask about
  pub next-disarmed : (from : ℕ) → next_asked (disarm a) stamps force now delay from ≡ next_asked a stamps force now delay from
  unfolding next_asked to_ask disarm
  next-disarmed from = refl

  armed-at : (f : Option ℕ) → with_deadline a (armed_for a.deadline now f) ≡ rearm_at a now f
  armed-at (Some w) = refl
  armed-at None = refl

  waits : wait_in a.pending a.chunks stamps now delay ≡ next_wait a stamps now delay
  unfolding wait_in next_wait
  waits = refl

  pub rearmed : with_deadline a (next_deadline a.deadline a.pending a.chunks stamps force now delay) ≡ rearm a stamps force now delay
  unfolding next_deadline rearm
  rearmed = go force
    where
      go : (b : Bool) → with_deadline a (cond b a.deadline (armed_for a.deadline now (wait_in a.pending a.chunks stamps now delay)))
          ≡ cond b a (rearm_at a now (next_wait a stamps now delay))
      go true = refl
      go false = armed-at (wait_in a.pending a.chunks stamps now delay) ∙ ap (rearm_at a now) waits

-- a disarmed arena is armed anew from no deadline on
pub rearm-disarmed : (a : Arena) (stamps : List ℕ) (force : Bool) (now delay : ℕ)
    → with_deadline a (next_deadline 0 a.pending a.chunks stamps force now delay) ≡ rearm (disarm a) stamps force now delay
unfolding disarm
rearm-disarmed a stamps force now delay = rearmed (with_deadline a 0) stamps force now delay

-- ---- a chunk that comes back

-- a bit behind one that is cleared stays
clear-past : (ws : List ℕ) (j x : ℕ) → j < x → bit_at (clear_run ws j 1) x ≡ bit_at ws x
unfolding write_run
clear-past ws j x h =
    ⊎_elim
    (λ (l : x < 32 * length ws). pack-bit _ (length ws) x l ∙ ap (λ (b : Bool). cond b false (bit_at ws x)) (within-after j 1 x (omega arith)))
    (λ (l : 32 * length ws ≤ x). past_the_end (clear_run ws j 1) x (subst (λ (n : ℕ). 32 * n ≤ x) (sym (write_run-length false ws j 1)) l) ∙ sym (past_the_end ws x l))
    (lt-or-le x (32 * length ws))

least-same : (p q : ℕ → Bool) (s k : ℕ) → ((t : ℕ) → s ≤ t → p t ≡ q t) → least p s k ≡ least q s k
unfolding least
least-same p q s zero h = refl
least-same p q s (suc k) h =
    ap₂ (λ (b : Bool) (r : Option ℕ). cond b (Some s) r) (h s (omega arith)) (least-same p q (suc s) k (λ t l. h t (omega arith)))

module _ (a : Arena) (j : ℕ) (stamps : List ℕ) (force : Bool) (now delay : ℕ) where
  behind : least (λ t. bit_at (clear_run a.pending j 1) t && (not (young stamps force now delay t) && not (bit_at (clear_run a.used j 1) t))) (j + 1) (a.chunks - (j + 1))
      ≡ next_asked a stamps force now delay (j + 1)
  unfolding next_asked to_ask
  behind =
      least-same _ _ (j + 1) (a.chunks - (j + 1))
      (λ t l. ap₂ (λ (p u : Bool). p && (not (young stamps force now delay t) && not u)) (clear-past a.pending j t (omega arith)) (clear-past a.used j t (omega arith)))

  -- what is to be asked about behind it is what was
  pub next-returned : (granted decommit : Bool) → next_asked (return_chunk a j granted decommit) stamps force now delay (j + 1) ≡ next_asked a stamps force now delay (j + 1)
  unfolding return_chunk tell_run give_back_run unpend_chunk next_asked to_ask
  next-returned true true = behind
  next-returned true false = behind
  next-returned false decommit = behind

  -- its own wait is over
  pub rearm-returned : (granted decommit : Bool)
      → with_deadline (return_chunk a j granted decommit) (next_deadline a.deadline (clear_run a.pending j 1) a.chunks stamps force now delay)
      ≡ rearm (return_chunk a j granted decommit) stamps force now delay
  unfolding return_chunk tell_run give_back_run unpend_chunk
  rearm-returned true true = rearmed _ stamps force now delay
  rearm-returned true false = rearmed _ stamps force now delay
  rearm-returned false decommit = rearmed _ stamps force now delay
