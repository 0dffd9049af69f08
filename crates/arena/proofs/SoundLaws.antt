-- What a sound record is, by facts and not by tests; and no bit of a map past the last chunk. Assumes nothing.
use Rattle.std.specs.Prelude.{◌≡◌, ◌&&◌, ◌↔◌, ◌+◌, ◌-◌, ◌*◌, ◌%◌, ◌^◌, ◌≤◌, ◌<◌}
use Rattle.arena.proofs.Prelude.{refl, sym, ap, ap₂, Bool, true, false, not, List, ℕ, arith, lt-ltb, ltb-true, le-leb, leb-true, eqb-true, eq-eqb, eqb, leb, bit_at, and_both, Arena, sound_range, clear_past}
use borrow.Author.Tests.{ne_eqb, eqb-false, not-true}
use Rattle.bitmap.proofs.runs.LowestLaws.{all-free-of, free_all}
use Rattle.arena.specs.Soundness.{clear_past_all, sound_arena}

-- a test that cannot be true
pub never : (a : Bool) → (a ≡ true → ⊥) → a ≡ false
never true h = absurd (h refl)
never false h = refl

-- ---- a sound range

pub record SoundRange (S base chunks : ℕ) : Type 0 where
  pub somewhere : base ≡ 0 → ⊥
  pub aligned : base % S ≡ 0
  pub some : 1 ≤ chunks
  pub few : chunks ≤ 1024
  pub ends : base + chunks * S < 2 ^ 64

module _ (S base chunks : ℕ) where
  pub range-facts : sound_range S base chunks ≡ true → SoundRange S base chunks
  unfolding sound_range
  range-facts e =
      let p = and_both (not (eqb base 0)) _ e in
      let q = and_both (eqb (base % S) 0) _ p.1 in
      let r = and_both (leb 1 chunks) _ q.1 in
      let s = and_both (leb chunks 1024) _ r.1 in
      record {
        somewhere = eqb-false base 0 (not-true (eqb base 0) p.0);
        aligned = eqb-true (base % S) 0 q.0;
        some = leb-true 1 chunks r.0;
        few = leb-true chunks 1024 s.0;
        ends = ltb-true (base + chunks * S) (2 ^ 64) s.1;
      }

  pub range-test : SoundRange S base chunks → sound_range S base chunks ≡ true
  unfolding sound_range
  range-test h =
      ap₂ ◌&&◌ (ap not (ne_eqb base 0 h.somewhere))
      (ap₂ ◌&&◌ (eq-eqb (base % S) 0 h.aligned)
      (ap₂ ◌&&◌ (le-leb 1 chunks h.some) (ap₂ ◌&&◌ (le-leb chunks 1024 h.few) (lt-ltb (base + chunks * S) (2 ^ 64) h.ends))))

  pub range-iff : (sound_range S base chunks ≡ true) ↔ SoundRange S base chunks
  range-iff = (range-facts, range-test)

  -- a fact that fails
  pub no-range : (SoundRange S base chunks → ⊥) → false ≡ sound_range S base chunks
  no-range h = sym (never (sound_range S base chunks) (λ e. h (range-facts e)))

-- ---- no bit past the last chunk

abbrev pub Past : ℕ → List ℕ → Type 0
Past chunks ws = (j : ℕ) → chunks ≤ j → j < 1024 → bit_at ws j ≡ false

pub past-facts : (chunks : ℕ) (ws : List ℕ) → clear_past chunks ws ≡ true → Past chunks ws
unfolding clear_past
past-facts chunks ws e j l h = not-true (bit_at ws j) (all-free-of (λ i. not (bit_at ws i)) chunks (1024 - chunks) e j l (omega arith))

pub past-test : (chunks : ℕ) (ws : List ℕ) → Past chunks ws → clear_past chunks ws ≡ true
unfolding clear_past
past-test chunks ws h = free_all (λ i. not (bit_at ws i)) chunks (1024 - chunks) (λ j l m. ap not (h j l (omega arith)))

pub past-iff : (chunks : ℕ) (ws : List ℕ) → (clear_past chunks ws ≡ true) ↔ Past chunks ws
past-iff chunks ws = (past-facts chunks ws, past-test chunks ws)

-- all 1,024 chunks: there is no bit past them
pub full-clear : (a : Arena) → a.chunks ≡ 1024 → clear_past_all a ≡ true
unfolding clear_past_all
full-clear a e = ap₂ ◌&&◌ (none a.used) (ap₂ ◌&&◌ (none a.dirty) (ap₂ ◌&&◌ (none a.committed) (none a.pending)))
  where
    none : (ws : List ℕ) → clear_past a.chunks ws ≡ true
    none ws = past-test a.chunks ws (λ j l m. absurd (omega arith))

-- ---- a sound record

module _ (S : ℕ) (a : Arena) where
  pub sound-range : sound_range S a.base a.chunks ≡ true → clear_past_all a ≡ sound_arena S a
  unfolding sound_arena
  sound-range e = sym (ap (λ (t : Bool). t && clear_past_all a) e)

-- a sound record, by facts
pub record SoundArena (S : ℕ) (a : Arena) : Type 0 where
  pub range : SoundRange S a.base a.chunks
  pub used : Past a.chunks a.used
  pub dirty : Past a.chunks a.dirty
  pub committed : Past a.chunks a.committed
  pub pending : Past a.chunks a.pending

pub arena-facts : (S : ℕ) (a : Arena) → sound_arena S a ≡ true → SoundArena S a
unfolding sound_arena clear_past_all
arena-facts S a e =
    let o = and_both (sound_range S a.base a.chunks) _ e in
    let p = and_both (clear_past a.chunks a.used) _ o.1 in
    let q = and_both (clear_past a.chunks a.dirty) _ p.1 in
    let r = and_both (clear_past a.chunks a.committed) _ q.1 in
    record {
      range = range-facts S a.base a.chunks o.0;
      used = past-facts a.chunks a.used p.0;
      dirty = past-facts a.chunks a.dirty q.0;
      committed = past-facts a.chunks a.committed r.0;
      pending = past-facts a.chunks a.pending r.1;
    }

pub arena-test : (S : ℕ) (a : Arena) → SoundArena S a → sound_arena S a ≡ true
unfolding sound_arena clear_past_all
arena-test S a h =
    ap₂ ◌&&◌ (range-test S a.base a.chunks h.range)
    (ap₂ ◌&&◌ (past-test a.chunks a.used h.used)
    (ap₂ ◌&&◌ (past-test a.chunks a.dirty h.dirty)
    (ap₂ ◌&&◌ (past-test a.chunks a.committed h.committed) (past-test a.chunks a.pending h.pending))))
