-- A test and the way that it takes. Assumes nothing.
use Rattle.std.specs.Prelude.{◌≡◌}
use Rattle.walks.proofs.Prelude.{refl, ap, Bool, true, false, cond}

-- a test that came out, put in its place
pub when : {A : Type 0} (t : Bool) (x y : A) → t ≡ true → cond t x y ≡ x
when t x y e = ap (λ (b : Bool). cond b x y) e

pub unless : {A : Type 0} (t : Bool) (x y : A) → t ≡ false → cond t x y ≡ y
unless t x y e = ap (λ (b : Bool). cond b x y) e

-- what holds of both ways of a test holds of the test
pub by_cond : {A : Type 0} (P : A → Type 0) (b : Bool) (x y : A) → (b ≡ true → P x) → (b ≡ false → P y) → P (cond b x y)
by_cond P true x y f g = f refl
by_cond P false x y f g = g refl
