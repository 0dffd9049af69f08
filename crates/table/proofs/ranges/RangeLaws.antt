-- What it is for an arena to meet a range and to be continued by a block, by facts and not by tests. S is the size of a chunk. Assumes nothing.
use Rattle.std.specs.Prelude.{◌≡◌, ◌&&◌, ◌+◌, ◌*◌, ◌≤◌, ◌<◌}
use Rattle.state.proofs.Prelude.{sym, ap, ap₂, true, false, not, ℕ, lt-ltb, ltb-true, le-leb, leb-true, eqb-true, eq-eqb, not-true, eqb, ltb, and_both, Arena, is_on, bytes_of, end_of, never, meets, grows}
use mathlib.Core.Logic.{◌↔◌}

-- ---- a range that an arena meets

module _ (S : ℕ) (a : Arena) (base bytes : ℕ) where
  pub record Meeting : Type 0 where
    pub some : 0 < bytes
    pub before : base < a.base + a.chunks * S
    pub after : a.base < base + bytes

  pub meets-facts : meets S a base bytes ≡ true → Meeting
  unfolding meets end_of bytes_of
  meets-facts e =
      let p = and_both (ltb 0 bytes) _ e in
      let q = and_both (ltb base (a.base + a.chunks * S)) _ p.1 in
      record {
        some = ltb-true 0 bytes p.0;
        before = ltb-true base (a.base + a.chunks * S) q.0;
        after = ltb-true a.base (base + bytes) q.1;
      }

  pub meets-test : Meeting → meets S a base bytes ≡ true
  unfolding meets end_of bytes_of
  meets-test h =
      ap₂ ◌&&◌ (lt-ltb 0 bytes h.some) (ap₂ ◌&&◌ (lt-ltb base (a.base + a.chunks * S) h.before) (lt-ltb a.base (base + bytes) h.after))

  pub meets-iff : (meets S a base bytes ≡ true) ↔ Meeting
  meets-iff = (meets-facts, meets-test)

  pub no-meeting : (base < a.base + a.chunks * S → a.base < base + bytes → ⊥) → meets S a base bytes ≡ false
  no-meeting h = never (meets S a base bytes) (λ e. let m = meets-facts e in h m.before m.after)

-- ---- a block that continues an arena

module _ (S : ℕ) (a : Arena) (address n : ℕ) where
  pub record Growing : Type 0 where
    pub owned : is_on a.owned ≡ true
    pub shared : is_on a.exclusive ≡ false
    pub ends : a.base + a.chunks * S ≡ address
    pub few : a.chunks + n ≤ 1024

  pub grows-facts : grows S a address n ≡ true → Growing
  unfolding grows end_of bytes_of
  grows-facts e =
      let p = and_both (is_on a.owned) _ e in
      let q = and_both (not (is_on a.exclusive)) _ p.1 in
      let r = and_both (eqb (a.base + a.chunks * S) address) _ q.1 in
      record {
        owned = p.0;
        shared = not-true (is_on a.exclusive) q.0;
        ends = eqb-true (a.base + a.chunks * S) address r.0;
        few = leb-true (a.chunks + n) 1024 r.1;
      }

  pub grows-test : Growing → grows S a address n ≡ true
  unfolding grows end_of bytes_of
  grows-test h =
      ap₂ ◌&&◌ h.owned
      (ap₂ ◌&&◌ (ap not h.shared) (ap₂ ◌&&◌ (eq-eqb (a.base + a.chunks * S) address h.ends) (le-leb (a.chunks + n) 1024 h.few)))

  pub grows-iff : (grows S a address n ≡ true) ↔ Growing
  grows-iff = (grows-facts, grows-test)
