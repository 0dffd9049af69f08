-- What the definitions of the options and of a sound page size mean. Assumes nothing.
use Rattle.std.specs.Prelude.{◌≡◌, ◌||◌, ◌⊎◌, ◌+◌, ◌-◌, ◌^◌, ◌≤◌}
use Rattle.walks.proofs.Prelude.{refl, sym, ap, ◌∙◌, Bool, true, false, not, inl, inr, ⊎_elim, ℕ, zero, suc, arith, eqb-true, eqb, leb·zero, ℤ, pos, negsuc, le_z}
use Rattle.options.specs.Options.{arena_allowed, page_size_sound}

-- true and false differ
clash : {X : Type 0} → false ≡ true → X
clash e = let z : ◌≡◌ {A = ℕ} 0 1 = cc in absurd (omega arith)

-- ---- arenas off

pub allowed-off : (off : Bool) (id : ℤ) → not off ≡ true → not off ≡ arena_allowed off id
unfolding arena_allowed
allowed-off true id e = clash e
allowed-off false id e = refl

pub allowed-on : (off : Bool) (id : ℤ) → not off ≡ false → le_z (pos 0) id ≡ arena_allowed off id
unfolding arena_allowed
allowed-on true (pos n) e = leb·zero n
allowed-on true (negsuc n) e = refl
allowed-on false id e = clash (sym e)

-- ---- the five page sizes

abbrev pub OneOfFive : ℕ → Type 0
OneOfFive page = (page ≡ 4096) ⊎ ((page ≡ 8192) ⊎ ((page ≡ 16384) ⊎ ((page ≡ 32768) ⊎ (page ≡ 65536))))

-- the test at a page that is written out
sound-at : (page known : ℕ) → page ≡ known → page_size_sound known ≡ true → page_size_sound page ≡ true
sound-at page known e t = ap page_size_sound e ∙ t

pub five-sound : (page : ℕ) → OneOfFive page → page_size_sound page ≡ true
unfolding page_size_sound
five-sound page (inl e) = sound-at page 4096 e refl
five-sound page (inr (inl e)) = sound-at page 8192 e refl
five-sound page (inr (inr (inl e))) = sound-at page 16384 e refl
five-sound page (inr (inr (inr (inl e)))) = sound-at page 32768 e refl
five-sound page (inr (inr (inr (inr e)))) = sound-at page 65536 e refl

either : (a b : Bool) → a || b ≡ true → (a ≡ true) ⊎ (b ≡ true)
either true b e = inl refl
either false b e = inr e

pub sound-five : (page : ℕ) → page_size_sound page ≡ true → OneOfFive page
unfolding page_size_sound
sound-five page e =
    first 4096 _ e (λ e₁. first 8192 _ e₁ (λ e₂. first 16384 _ e₂ (λ e₃. first 32768 _ e₃ (λ e₄. eqb-true page 65536 e₄))))
  where
    first : {R : Type 0} (known : ℕ) (rest : Bool) → eqb page known || rest ≡ true → (rest ≡ true → R) → (page ≡ known) ⊎ R
    first known rest t more = ⊎_elim (λ a. inl (eqb-true page known a)) (λ b. inr (more b)) (either (eqb page known) rest t)

pub not_five : (page : ℕ) → (OneOfFive page → ⊥) → page_size_sound page ≡ false
not_five page none = go (page_size_sound page) refl
  where
    go : (t : Bool) → page_size_sound page ≡ t → t ≡ false
    go true e = absurd (none (sound-five page e))
    go false e = refl

-- In words: a page size is sound exactly where it is 2 ^ k with k from 12 to 16.
pub sound-is-power : (page : ℕ) → page_size_sound page ≡ true → (k : ℕ) × (12 ≤ k) × (k ≤ 16) × (page ≡ 2 ^ k)
sound-is-power page e = go (sound-five page e)
  where
    go : OneOfFive page → (k : ℕ) × (12 ≤ k) × (k ≤ 16) × (page ≡ 2 ^ k)
    go (inl q) = (12, omega arith, omega arith, q)
    go (inr (inl q)) = (13, omega arith, omega arith, q)
    go (inr (inr (inl q))) = (14, omega arith, omega arith, q)
    go (inr (inr (inr (inl q)))) = (15, omega arith, omega arith, q)
    go (inr (inr (inr (inr q)))) = (16, omega arith, omega arith, q)

pub power-is-sound : (page k : ℕ) → 12 ≤ k → k ≤ 16 → page ≡ 2 ^ k → page_size_sound page ≡ true
unfolding page_size_sound
power-is-sound page k l h e = ap page_size_sound (e ∙ ap (λ (i : ℕ). 2 ^ i) (let q : k ≡ 12 + (k - 12) = omega arith in q)) ∙ go (k - 12) (omega arith)
  where
    go : (d : ℕ) → d ≤ 4 → page_size_sound (2 ^ (12 + d)) ≡ true
    go zero p = refl
    go (suc zero) p = refl
    go (suc (suc zero)) p = refl
    go (suc (suc (suc zero))) p = refl
    go (suc (suc (suc (suc zero)))) p = refl
    go (suc (suc (suc (suc (suc d))))) p = absurd (omega arith)
