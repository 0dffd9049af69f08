-- The queries: behind row 1 the cores' answers are the layer's. Assumes nothing.
use Rattle.std.specs.Prelude.{◌≡◌, ◌*◌, ◌<◌, ◌^◌, Some, None, get_or}
use Rattle.state.proofs.Prelude.{refl, sym, ap, ◌∙◌, subst, Bool, true, false, cond, List, ℕ, arith, ltb, ltb-true, lt-ltb, ℤ, pos, negsuc, length, when, Broken, Arena, bytes_of, Area, Settings, State, size_of, world_of, reply_in, reply, turn_down, blank, at, sound_lent, Query, query, query_on, step}
use Rattle.std.proofs.lemmas.List.{get_or_default}
use Rattle.layer.specs.Step.{area_of}
use Rattle.state.specs.Ready.{Standing}
use Rattle.state.proofs.Entry.{goes, stands, standing, broken-row}
use Rattle.queries.specs.Registered.{registered}

-- row 1, as both queries test it
module _ (l : List Arena) (stamps : List ℕ) (state : State) (ns : ℕ) (settings : Settings) (S : ℕ) (passes : Bool) (size : S ≡ size_of state)
    (row : passes ≡ sound_lent S l (length stamps) state settings.page) where
  tested : sound_lent (size_of state) l (length stamps) state settings.page ≡ passes
  tested = sym (rw size at row)

  pub turned-down : passes ≡ false → (c : Query) → turn_down Broken state ≡ reply_in (step (world_of l stamps state) ns settings (query c))
  turned-down e c = (broken-row l stamps state ns settings (tested ∙ e) (query c)).0

  pub handed : passes ≡ true → Standing l state
  handed e = standing l stamps state ns settings (tested ∙ e)

  pub answered : passes ≡ true → (c : Query)
      → reply (query_on (size_of state) l stamps state.count state.mark state.question ns settings c) state ≡ reply_in (step (world_of l stamps state) ns settings (query c))
  answered e c = sym (ap reply_in (goes l stamps state ns settings (tested ∙ e) (query c)))

-- areas
registered-is : (k : ℕ) (id : ℤ) (i : ℕ) → registered k id ≡ Some i → (id ≡ pos i) × (i < k)
registered-is k (pos x) i e = go (ltb x k) refl e
  where
    go : (b : Bool) → ltb x k ≡ b → cond b (Some x) None ≡ Some i → (pos x ≡ pos i) × (i < k)
    go true t f = let same : x ≡ i = cc in (ap pos same, subst (λ (y : ℕ). y < k) same (ltb-true x k t))
    go false t f = cc
registered-is k (negsuc x) i e = cc

module _ (l : List Arena) (state : State) (ready : Standing l state) (id : ℤ) (i : ℕ) (is : registered state.count id ≡ Some i) (S : ℕ) (size : S ≡ size_of state)
    (d : Arena) where
  below : (id ≡ pos i) × (i < state.count)
  below = registered-is state.count id i is

  there : get_or l i d ≡ at l i
  there = get_or_default l i d blank (omega (arith, below.1, ready.lent, ready.few))

  pub bytes-fit : (get_or l i d).chunks * S < 2 ^ 64
  bytes-fit = rw (there, size) (omega (arith, (stands l state ready i below.1).range.ends))

  pub area-is : Area (get_or l i d).base ((get_or l i d).chunks * S) ≡ area_of (size_of state) l state.count id
  unfolding bytes_of
  area-is = rw (there, size, below.0) (sym (when _ _ _ (lt-ltb i state.count below.1)))
