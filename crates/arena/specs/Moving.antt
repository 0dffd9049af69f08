-- Places of one list written over by those of another: what a join does with records and with stamps. Assumes nothing.
use Rattle.std.specs.Prelude.{List, ℕ}
use Rattle.std.proofs.Math.Seq.{paste}

-- l, with its n places from s on replaced by the first n of m: take s l ++ take n m ++ drop (s + n) l
unfoldable pub overwritten : {A : Type 0} → List A → ℕ → List A → ℕ → List A
overwritten l s m n = paste l s m n
