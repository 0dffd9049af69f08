-- A bit of a row by a mask; and the next chunk to ask about, from one pending chunk to the next. Assumes nothing.
use Rattle.std.specs.Prelude.{◌≡◌, ◌&&◌, ◌+◌, ◌-◌, ◌/◌, ◌%◌, ◌^◌}
use Rattle.arena.proofs.Prelude.{refl, sym, ap, ◌∙◌, subst, Bool, true, false, cond, not, List, ℕ, bit_and, eqb, get_or, bit, bit_at, Option, Some, None, least, First, Arena, young}
use lib.Bits.{and_mask}
use Rattle.bitmap.proofs.runs.LowestLaws.{first_says}
use Rattle.arena.specs.Sweeping.{to_ask, next_asked}
use Rattle.arena.proofs.ScanLaws.{scan-found, scan-none}

-- ---- a bit of a row, by a shift and a mask

pub bit_by_mask : (ws : List ℕ) (j : ℕ) → eqb (bit_and (get_or ws (j / 32) 0 / 2 ^ (j % 32)) 1) 1 ≡ bit_at ws j
unfolding bit_at bit
bit_by_mask ws j = ap (λ (x : ℕ). eqb x 1) (and_mask (get_or ws (j / 32) 0 / 2 ^ (j % 32)) 1)

-- what it says that a place is the lowest
pub least-means : (p : ℕ → Bool) (s k : ℕ) (r : Option ℕ) → r ≡ least p s k → First p s k r
least-means p s k r e = subst (First p s k) (sym e) (first_says p s k)

-- ---- the next chunk to ask about

module _ (a : Arena) (stamps : List ℕ) (force : Bool) (now delay : ℕ) where
  -- what is asked of a pending chunk
  abbrev Asked : ℕ → Bool
  Asked j = not (young stamps force now delay j) && not (bit_at a.used j)

  asked-next : (at j : ℕ) → Some j ≡ least (bit_at a.pending) at (a.chunks - at)
      → next_asked a stamps force now delay at ≡ cond (Asked j) (Some j) (next_asked a stamps force now delay (j + 1))
  unfolding next_asked to_ask least
  asked-next at j e =
      scan-found (bit_at a.pending) Asked (λ s r. Some s) (least (to_ask a stamps force now delay)) (λ s. refl) (λ s k. refl) a.chunks at j e

  pub asked_here : (at j : ℕ) → Some j ≡ least (bit_at a.pending) at (a.chunks - at) → true ≡ (not (young stamps force now delay j) && not (bit_at a.used j))
      → next_asked a stamps force now delay at ≡ Some j
  asked_here at j e h = asked-next at j e ∙ ap (λ (b : Bool). cond b (Some j) (next_asked a stamps force now delay (j + 1))) (sym h)

  pub asked_past : (at j : ℕ) → Some j ≡ least (bit_at a.pending) at (a.chunks - at) → false ≡ (not (young stamps force now delay j) && not (bit_at a.used j))
      → next_asked a stamps force now delay at ≡ next_asked a stamps force now delay (j + 1)
  asked_past at j e h = asked-next at j e ∙ ap (λ (b : Bool). cond b (Some j) (next_asked a stamps force now delay (j + 1))) (sym h)

  pub asked_none : (at : ℕ) → None ≡ least (bit_at a.pending) at (a.chunks - at) → next_asked a stamps force now delay at ≡ None
  unfolding next_asked to_ask least
  asked_none at e =
      scan-none (bit_at a.pending) Asked (λ s r. Some s) (least (to_ask a stamps force now delay)) (λ s. refl) (λ s k. refl) a.chunks at e
