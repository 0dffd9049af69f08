-- What stands where after places of a list are written over. Assumes nothing.
use mathlib.Core.Path.{◌≡◌, sym, ap, ap₂, ◌∙◌}
use mathlib.Core.List.{List, ◌++◌, append-nil}
use Prim.Native.Nat.{ℕ, suc, ◌+◌, ◌-◌, ◌<◌, ◌≤◌}
use lib.ListN.{length, get_or, set, take, drop, drop_of_length-le, get_or-append}
use lib.Seq.{length-take-le, take_all, get_or-append-add, get_or-take, get_or-drop, paste-zero, paste-suc, length_paste_head, length-paste}
use native.Mathlib.Omega.{arith}
use Rattle.arena.specs.Moving.{overwritten}

module _ {A : Type 0} (l : List A) (s : ℕ) (m : List A) (n : ℕ) where
  pub overwritten-length : s + n ≤ length l → n ≤ length m → length (overwritten l s m n) ≡ length l
  unfolding overwritten
  overwritten-length h g = length-paste l s m n h g

  module _ (h : s + n ≤ length l) (g : n ≤ length m) (d : A) where
    head-length : length (take s l ++ take n m) ≡ s + n
    head-length = length_paste_head l s m n (omega (arith, h)) g

    pub before-written : (i : ℕ) → i < s → get_or (overwritten l s m n) i d ≡ get_or l i d
    unfolding overwritten
    before-written i u =
        get_or-append (take s l ++ take n m) (drop (s + n) l) d i (omega (arith, u, head-length))
        ∙ get_or-append (take s l) (take n m) d i (let z : length (take s l) ≡ s = length-take-le s l (omega (arith, h)) in omega (arith, u, z))
        ∙ get_or-take s l i d u

    pub where-written : (i : ℕ) → i < n → get_or (overwritten l s m n) (s + i) d ≡ get_or m i d
    unfolding overwritten
    where-written i u =
        get_or-append (take s l ++ take n m) (drop (s + n) l) d (s + i) (omega (arith, u, head-length))
        ∙ ap (λ (x : ℕ). get_or (take s l ++ take n m) (x + i) d) (sym (length-take-le s l (omega (arith, h))))
        ∙ get_or-append-add (take s l) (take n m) i d
        ∙ get_or-take n m i d u

    pub past-written : (i : ℕ) → s + n ≤ i → get_or (overwritten l s m n) i d ≡ get_or l i d
    unfolding overwritten
    past-written i u =
        ap (λ (x : ℕ). get_or ((take s l ++ take n m) ++ drop (s + n) l) x d) (let z : i ≡ length (take s l ++ take n m) + (i - (s + n)) = omega (arith, u, head-length) in z)
        ∙ get_or-append-add (take s l ++ take n m) (drop (s + n) l) (i - (s + n)) d
        ∙ get_or-drop (s + n) l (i - (s + n)) d
        ∙ ap (λ (x : ℕ). get_or l x d) (let z : s + n + (i - (s + n)) ≡ i = omega (arith, u) in z)

-- ---- a copy place by place

module _ {A : Type 0} (l : List A) (s : ℕ) (m : List A) where
  pub written_none : l ≡ overwritten l s m 0
  unfolding overwritten
  written_none = paste-zero l s m

  pub written-more : (j : ℕ) (d : A) → s + j < length l → j < length m → set (overwritten l s m j) (s + j) (get_or m j d) ≡ overwritten l s m (j + 1)
  unfolding overwritten
  written-more j d h g = paste-suc l s m j d h g ∙ ap (λ (x : ℕ). overwritten l s m x) (let z : suc j ≡ j + 1 = omega arith in z)

-- all of a list
pub written_all : {A : Type 0} (l m : List A) (n : ℕ) → length l ≡ n → length m ≡ n → overwritten l 0 m n ≡ m
unfolding overwritten
written_all l m n e f = ap₂ ◌++◌ (take_all n m (omega arith)) (drop_of_length-le l {i = 0 + n} (omega arith)) ∙ append-nil m
