-- Where an address lies to an arena, by facts and not by tests. Assumes nothing.
use Rattle.std.specs.Prelude.{◌≡◌, ◌&&◌, ◌+◌, ◌*◌, ◌≤◌, ◌<◌}
use Rattle.arena.proofs.Prelude.{ap₂, true, false, ℕ, lt-ltb, ltb-true, le-leb, leb-true, leb, and_both, Arena}
use Rattle.arena.specs.Place.{bytes_of, end_of, is_inside}
use Rattle.arena.proofs.SoundLaws.{never}

module _ (S : ℕ) (a : Arena) (address : ℕ) where
  -- the address lies in the arena
  pub record Within : Type 0 where
    pub from : a.base ≤ address
    pub before : address < a.base + a.chunks * S

  pub inside-facts : is_inside S a address ≡ true → Within
  unfolding is_inside end_of bytes_of
  inside-facts e =
      let p = and_both (leb a.base address) _ e in
      record { from = leb-true a.base address p.0; before = ltb-true address (a.base + a.chunks * S) p.1 }

  pub inside-test : Within → is_inside S a address ≡ true
  unfolding is_inside end_of bytes_of
  inside-test h = ap₂ ◌&&◌ (le-leb a.base address h.from) (lt-ltb address (a.base + a.chunks * S) h.before)

  pub outside-test : (Within → ⊥) → is_inside S a address ≡ false
  outside-test h = never (is_inside S a address) (λ e. h (inside-facts e))
