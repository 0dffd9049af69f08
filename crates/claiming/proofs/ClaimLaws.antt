-- Which arenas a claim may use, by the sign of its id. Assumes nothing.
use Rattle.std.specs.Prelude.{◌≡◌}
use Rattle.state.proofs.Prelude.{refl, true, false, not, true≢false, ℕ, arith, ltb-true, eqb, ℤ, pos, negsuc, nat_abs, lt_z, Arena, is_on, eligible}

module _ (i : ℕ) (a : Arena) where
  -- "A negative arena id means every arena that is not exclusive"
  pub negative-id : (id : ℤ) → lt_z id (pos 0) ≡ true → not (is_on a.exclusive) ≡ eligible id i a
  unfolding eligible
  negative-id (pos x) e = absurd (omega (arith, ltb-true x 0 e))
  negative-id (negsuc x) e = refl

  -- "other ids mean that one arena"
  pub named-id : (id : ℤ) → lt_z id (pos 0) ≡ false → eqb i (nat_abs id) ≡ eligible id i a
  unfolding eligible
  named-id (pos x) e = refl
  named-id (negsuc x) e = absurd (true≢false e)
