-- What several theorems here use: a table that row 1 lets pass, a new arena's bits. Assumes nothing.
use Rattle.std.specs.Prelude.{◌≡◌, ◌<◌, ◌≤◌}
use Rattle.layer.proofs.Prelude.{refl, sym, subst, Bool, true, false, not, true≢false, List, ℕ, arith, eqb-true, eqb, length, bit_at, and_both, Arena, no_bits, each_bit, bit_in, no-bits-row, bit_at-no_bits, World, at, sound_lent, sound, with_record}
use Rattle.layer.specs.declared.Ask.{Ask}
use Rattle.layer.specs.declared.Answer.TheVariants.{Asks, Registered}
use Rattle.layer.proofs.Tools.{at_same}

-- ---- answers

pub asked-not-registered : {X : Type 0} (ask : Ask) (id : ℕ) → Asks ask ≡ Registered id → X
asked-not-registered ask id e = absurd (let z : ◌≡◌ {A = ℕ} 0 1 = cc in omega arith)

-- ---- tests

pub holds : (b : Bool) → not b ≡ false → b ≡ true
holds true e = refl
holds false e = absurd (true≢false e)

pub sound-long : (S : ℕ) (w : World) (page : ℕ) → sound S w page ≡ true → length w.records ≡ 32
unfolding sound_lent
sound-long S w page e = eqb-true (length w.records) 32 (and_both (eqb (length w.records) 32) _ e).0

-- ---- a new arena

-- what holds of the record that is registered holds of the one at the id that is answered
pub registered-at : (R : Arena → Type 0) (l : List Arena) (k id : ℕ) (a : Arena) → Registered k ≡ Registered id → k < length l → R a → R (at (with_record l k a) id)
registered-at R l k id a e h r = subst (λ (x : ℕ). R (at (with_record l k a) x)) (same k id e) (subst R (sym (at_same l k a h)) r)
  where
    same : (x y : ℕ) → Registered x ≡ Registered y → x ≡ y
    same x y f = cc

pub each-bit : (chunks : ℕ) (b : Bool) (j : ℕ) → chunks ≤ 1024 → j < chunks → bit_at (each_bit chunks b) j ≡ b
each-bit chunks true j few h = bit_in true no_bits 0 chunks no-bits-row (omega arith) j (omega arith) (omega arith)
each-bit chunks false j few h = bit_at-no_bits j
