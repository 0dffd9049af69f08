-- Whole chunks of any size S: bytes rounded up and down to them, and those inside a range; and that the size in a state is one. Assumes nothing.
use Rattle.std.specs.Prelude.{◌≡◌, ◌+◌, ◌-◌, ◌*◌, ◌/◌, ◌%◌, ◌<◌, ◌≤◌}
use Rattle.layer.proofs.Prelude.{sym, ap, ap₂, ◌∙◌, ℕ, zero, suc, add-mul, mul_comm, mul-sub, suc-mul, div-add-mod', mul-div_cancel, mul-le-mul_right, arith, lit<, chunks_for, first_whole, past_whole}
use lib.Dec.{lit≤}
use native.Mathlib.Nat.{mod-lt, le-div_iff_mul-le, div-lt_iff_lt-mul, div-mul-le_self, div-eq_of_lt-le}
use Rattle.arena.specs.ChunkSize.{IsChunkSize}
use Rattle.layer.specs.declared.State.{State}
use Rattle.layer.specs.World.{size_of}

-- S fits the arithmetic of the code
pub size_fits : (state : State) → IsChunkSize (size_of state)
size_fits state = (lit< tt, lit≤ tt)

-- ---- products

pub mul-pos : (m n : ℕ) → 1 ≤ m → 0 < n → 0 < m * n
mul-pos zero n h p = absurd (omega arith)
mul-pos (suc m) n h p = let z : suc m * n ≡ m * n + n = suc-mul m n in omega arith

-- the difference of two sizes in whole chunks
pub sub-mul : (m n k : ℕ) → (m - n) * k ≡ m * k - n * k
sub-mul m n k = mul_comm (m - n) k ∙ mul-sub k m n ∙ ap₂ ◌-◌ (mul_comm k m) (mul_comm k n)

module _ (S : ℕ) (some : 0 < S) where
  -- ---- bytes rounded up

  pub up-enough : (size : ℕ) → size ≤ chunks_for S size * S
  unfolding chunks_for
  up-enough size =
      let d : (size + (S - 1)) / S * S + (size + (S - 1)) % S ≡ size + (S - 1) = div-add-mod' (size + (S - 1)) S in
      let m : (size + (S - 1)) % S < S = mod-lt (size + (S - 1)) some in
      omega arith

  pub up-tight : (size : ℕ) → chunks_for S size * S < size + S
  unfolding chunks_for
  up-tight size = let d : (size + (S - 1)) / S * S ≤ size + (S - 1) = div-mul-le_self (size + (S - 1)) S in omega arith

  -- not above a chunk that begins there or later
  pub up_least : (size c : ℕ) → size ≤ c * S → chunks_for S size * S ≤ c * S
  unfolding chunks_for
  up_least size c h =
      let s : suc c * S ≡ c * S + S = suc-mul c S in
      let q : (size + (S - 1)) / S < suc c = (div-lt_iff_lt-mul some).1 (omega arith) in
      mul-le-mul_right S (omega arith)

  pub up_is : (size n : ℕ) → size ≤ n * S → n * S < size + S → chunks_for S size ≡ n
  unfolding chunks_for
  up_is size n lo hi = div-eq_of_lt-le S (omega arith) (omega (arith, suc-mul n S))

  -- ---- bytes rounded down

  -- not below a chunk that ends there or before
  pub down-most : (size c : ℕ) → c * S + S ≤ size → c * S + S ≤ size / S * S
  down-most size c h =
      let s : suc c * S ≡ c * S + S = suc-mul c S in
      let q : suc c ≤ size / S = (le-div_iff_mul-le some).1 (omega arith) in
      let r : suc c * S ≤ size / S * S = mul-le-mul_right S q in
      omega arith

  pub down_is : (size n : ℕ) → n * S ≤ size → size < n * S + S → size / S ≡ n
  down_is size n lo hi = div-eq_of_lt-le S (omega arith) (omega (arith, suc-mul n S))

  -- a whole number of chunks
  pub whole : (x : ℕ) → x % S ≡ 0 → x / S * S ≡ x
  whole x e = let z : x / S * S + x % S ≡ x = div-add-mod' x S in omega arith

  -- ---- the whole chunks of a managed range

  pub managed-whole : (start size : ℕ) → (past_whole S start size - first_whole S start) / S * S ≡ past_whole S start size - first_whole S start
  managed-whole start size =
      ap (λ (x : ℕ). x / S * S) difference ∙ ap (λ (x : ℕ). x * S) (mul-div_cancel ((start + size) / S - chunks_for S start) some) ∙ sym difference
    where
      difference : past_whole S start size - first_whole S start ≡ ((start + size) / S - chunks_for S start) * S
      difference = sym (sub-mul ((start + size) / S) (chunks_for S start) S)

  -- they lie in it
  pub managed-inside : (start size : ℕ) → let n = (past_whole S start size - first_whole S start) / S in
      1 ≤ n → (start ≤ first_whole S start) × (first_whole S start + n * S ≤ start + size)
  managed-inside start size one =
      let n = (past_whole S start size - first_whole S start) / S in
      let b : n * S ≡ past_whole S start size - first_whole S start = managed-whole start size in
      let p : 0 < n * S = mul-pos n S one some in
      let d : past_whole S start size ≤ start + size = div-mul-le_self (start + size) S in
      (up-enough start, omega arith)

  -- those that begin at b, n of them
  module _ (b : ℕ) (aligned : b % S ≡ 0) where
    pub first-is : (start : ℕ) → start ≤ b → b < start + S → first_whole S start ≡ b
    first-is start lo hi =
        let w : b / S * S ≡ b = whole b aligned in
        ap (λ (x : ℕ). x * S) (up_is start (b / S) (omega arith) (omega arith)) ∙ w

    pub past_is : (start size n : ℕ) → b + n * S ≤ start + size → start + size < b + n * S + S → past_whole S start size ≡ b + n * S
    past_is start size n lo hi =
        let w : (b / S + n) * S ≡ b + n * S = add-mul (b / S) n S ∙ ap (λ (x : ℕ). x + n * S) (whole b aligned) in
        ap (λ (x : ℕ). x * S) (down_is (start + size) (b / S + n) (omega arith) (omega arith)) ∙ w
