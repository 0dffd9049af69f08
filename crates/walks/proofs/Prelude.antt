-- What proofs cite of the kit, passed on by one name. Assumes nothing.
pub use Prim.Native.Nat.{◌%◌, ◌*◌, ◌+◌, ◌-◌, ◌/◌, ◌<◌, ◌^◌, ◌≤◌, max, min, suc, zero, zero-le, ℕ}
pub use borrow.Author.Count.{below_more}
pub use borrow.Author.Rules.{rules}
pub use borrow.Author.Tests.{eq-eqb, eqb-true, le-leb, le-ltb, leb-false, leb-true, lt-leb, lt-ltb, ltb-false, ltb-true, ne_eqb, not-false, not-true}
pub use lib.Bits.{and_step, bit_and, bit_or}
pub use lib.Count.{count_leading_zeros, under}
unfoldable pub use lib.Count.{count_trailing_zeros}
pub use lib.Dec.{T, eqb, leb, leb-zero as leb·zero, ltb}
pub use lib.IntN.{negsuc, pos, ℤ}
pub use lib.ListN.{get_or, length, length-set, set}
pub use lib.Pow.{ones_lt, pow_mono, pow_pos, shl_exact, shl_lt}
pub use lib.Seq.{ext_get_or, get_or-set_other, get_or-set_same}
pub use lib.Signed.{le_z}
pub use mathlib.Core.Bool.{Bool, ◌&&◌, ◌||◌, cond, false, not, true, true≢false}
pub use mathlib.Core.List.{List, [], ◌∷◌}
pub use mathlib.Core.Logic.{◌⊎◌, inl, inr, ⊎_elim}
pub use mathlib.Core.Path.{◌∙◌, ◌≡◌, ap, ap₂, refl, subst, sym}
pub use native.Mathlib.Nat.{add-zero, eq-or-lt_of_le, le_of_suc-le-suc, lt_of_lt_of_le, mod-lt, mul-one, not-suc-le-zero, pow-suc, suc-add, zero-lt-suc}
pub use native.Mathlib.Numerals.{add-one}
pub use native.Mathlib.Omega.{arith}
