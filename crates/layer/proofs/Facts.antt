-- A sound table, by facts, and when a store leaves one. Assumes nothing.
use Rattle.std.specs.Prelude.{◌≡◌, ◌&&◌, ◌+◌, ◌*◌, ◌<◌, ◌≤◌}
use Rattle.layer.proofs.Prelude.{refl, sym, ap, ap₂, ◌∙◌, true, false, not, true≢false, List, ℕ, arith, ℕ_discrete, not-true, leb-true, ltb-true, le-leb, lt-ltb, leb, ltb, length, set, length-set, bit_at, Option, Some, None, least, all-free-of, free_all, First, first_says, and_both, Arena, bytes_of, end_of, SoundArena, Rows, Question, Idle, Committing, Purging, Reserving, GivingBack, at, is_some, meets, overlaps, apart, asked_id, sound_question}
use Rattle.bitmap.proofs.runs.LowestLaws.{least-none}
use Rattle.layer.proofs.Tools.{at_same, at_other, by-set}

-- ---- ranges

-- whether two arenas' ranges share an address depends on base and chunks alone
pub meets-as : (S : ℕ) (a b : Arena) (x y : ℕ) → a.base ≡ b.base → a.chunks ≡ b.chunks → meets S a x y ≡ meets S b x y
unfolding meets end_of bytes_of
meets-as S a b x y p q = ap₂ (λ (u v : ℕ). ltb 0 y && (ltb x (u + v * S) && ltb u (x + y))) p q

pub bytes-as : (S : ℕ) (a b : Arena) → a.chunks ≡ b.chunks → bytes_of S a ≡ bytes_of S b
unfolding bytes_of
bytes-as S a b q = ap (λ (v : ℕ). v * S) q

-- no arena below k meets a range
pub overlaps-none : (S : ℕ) (l : List Arena) (k x y : ℕ) → overlaps S l k x y ≡ false → (i : ℕ) → i < k → meets S (at l i) x y ≡ false
unfolding overlaps
overlaps-none S l k x y e = go (least (λ i. meets S (at l i) x y) 0 k) (first_says (λ i. meets S (at l i) x y) 0 k) e
  where
    go : (f : Option ℕ) → First (λ i. meets S (at l i) x y) 0 k f → is_some f ≡ false → (i : ℕ) → i < k → meets S (at l i) x y ≡ false
    go (Some z) h e = absurd (true≢false e)
    go None h e = λ i u. h i (omega arith) (omega arith)

pub none-overlaps : (S : ℕ) (l : List Arena) (k x y : ℕ) → ((i : ℕ) → i < k → meets S (at l i) x y ≡ false) → overlaps S l k x y ≡ false
unfolding overlaps
none-overlaps S l k x y h = ap is_some (least-none (λ i. meets S (at l i) x y) 0 k (λ i u v. h i (omega arith)))

-- ---- a table

pub record SoundTable (S : ℕ) (l : List Arena) (k : ℕ) : Type 0 where
  pub long : length l ≡ 32
  pub few : k ≤ 32
  pub rows : (i : ℕ) → i < k → Rows (at l i)
  pub each : (i : ℕ) → i < k → SoundArena S (at l i)
  pub apart : (i j : ℕ) → i < j → j < k → meets S (at l i) (at l j).base (bytes_of S (at l j)) ≡ false

-- the open question
abbrev pub SoundQuestion : List Arena → ℕ → Question → Type 0
SoundQuestion l k Idle = Unit {0}
SoundQuestion l k (Committing id s n) = (id < k) × (s + n ≤ (at l id).chunks) × ((j : ℕ) → s ≤ j → j < s + n → bit_at (at l id).used j ≡ true)
SoundQuestion l k (Purging id c w) = (id < k) × (c < (at l id).chunks) × (bit_at (at l id).used c ≡ true) × (w.purged ≤ 1024 * id + c)
SoundQuestion l k (Reserving chunks bytes commit exclusive waiting) = Unit {0}
SoundQuestion l k (GivingBack cause waiting) = Unit {0}

-- ---- the tests say the facts

module _ (S : ℕ) (l : List Arena) (k : ℕ) where
  pub apart-facts : apart S l k ≡ true → (i j : ℕ) → i < j → j < k → meets S (at l i) (at l j).base (bytes_of S (at l j)) ≡ false
  unfolding apart
  apart-facts e i j u v =
      overlaps-none S l j (at l j).base (bytes_of S (at l j))
      (not-true (overlaps S l j (at l j).base (bytes_of S (at l j))) (all-free-of (λ x. not (overlaps S l x (at l x).base (bytes_of S (at l x)))) 0 k e j (omega arith) (omega arith)))
      i u

  pub apart-test : ((i j : ℕ) → i < j → j < k → meets S (at l i) (at l j).base (bytes_of S (at l j)) ≡ false) → apart S l k ≡ true
  unfolding apart
  apart-test h =
      free_all (λ x. not (overlaps S l x (at l x).base (bytes_of S (at l x)))) 0 k
      (λ j u v. ap not (none-overlaps S l j (at l j).base (bytes_of S (at l j)) (λ i w. h i j w (omega arith))))

  pub question-facts : (q : Question) → sound_question (at l (asked_id q)) k q ≡ true → SoundQuestion l k q
  unfolding sound_question
  question-facts Idle e = tt
  question-facts (Committing id s n) e =
      let p = and_both (ltb id k) _ e in
      let r = and_both (leb (s + n) (at l id).chunks) _ p.1 in
      (ltb-true id k p.0, leb-true (s + n) (at l id).chunks r.0, all-free-of (bit_at (at l id).used) s n r.1)
  question-facts (Purging id c w) e =
      let p = and_both (ltb id k) _ e in
      let r = and_both (ltb c (at l id).chunks) _ p.1 in
      let t = and_both (bit_at (at l id).used c) _ r.1 in
      (ltb-true id k p.0, ltb-true c (at l id).chunks r.0, t.0, leb-true w.purged (1024 * id + c) t.1)
  question-facts (Reserving chunks bytes commit exclusive waiting) e = tt
  question-facts (GivingBack cause waiting) e = tt

  pub question-test : (q : Question) → SoundQuestion l k q → sound_question (at l (asked_id q)) k q ≡ true
  unfolding sound_question
  question-test Idle h = refl
  question-test (Committing id s n) h =
      ap₂ ◌&&◌ (lt-ltb id k h.0) (ap₂ ◌&&◌ (le-leb (s + n) (at l id).chunks h.1) (free_all (bit_at (at l id).used) s n h.2))
  question-test (Purging id c w) h =
      ap₂ ◌&&◌ (lt-ltb id k h.0)
      (ap₂ ◌&&◌ (lt-ltb c (at l id).chunks h.1) (ap₂ ◌&&◌ h.2 (le-leb w.purged (1024 * id + c) h.3)))
  question-test (Reserving chunks bytes commit exclusive waiting) h = refl
  question-test (GivingBack cause waiting) h = refl

-- ---- a store of a record with the same range

module _ (S : ℕ) (l : List Arena) (i : ℕ) (a : Arena) (inside : i < length l) (p : a.base ≡ (at l i).base) (q : a.chunks ≡ (at l i).chunks) where
  base_kept : (j : ℕ) → (at (set l i a) j).base ≡ (at l j).base
  base_kept j = go (ℕ_discrete j i)
    where
      go : Dec (j ≡ i) → (at (set l i a) j).base ≡ (at l j).base
      go (yes e) = ap (λ (z : ℕ). (at (set l i a) z).base) e ∙ ap (λ (b : Arena). b.base) (at_same l i a inside) ∙ p ∙ ap (λ (z : ℕ). (at l z).base) (sym e)
      go (no e) = ap (λ (b : Arena). b.base) (at_other l i j a e)

  chunks-kept : (j : ℕ) → (at (set l i a) j).chunks ≡ (at l j).chunks
  chunks-kept j = go (ℕ_discrete j i)
    where
      go : Dec (j ≡ i) → (at (set l i a) j).chunks ≡ (at l j).chunks
      go (yes e) = ap (λ (z : ℕ). (at (set l i a) z).chunks) e ∙ ap (λ (b : Arena). b.chunks) (at_same l i a inside) ∙ q ∙ ap (λ (z : ℕ). (at l z).chunks) (sym e)
      go (no e) = ap (λ (b : Arena). b.chunks) (at_other l i j a e)

  pub put_meets : (x y : ℕ) → meets S (at (set l i a) x) (at (set l i a) y).base (bytes_of S (at (set l i a) y)) ≡ meets S (at l x) (at l y).base (bytes_of S (at l y))
  put_meets x y =
      meets-as S (at (set l i a) x) (at l x) (at (set l i a) y).base (bytes_of S (at (set l i a) y)) (base_kept x) (chunks-kept x)
      ∙ ap₂ (meets S (at l x)) (base_kept y) (bytes-as S (at (set l i a) y) (at l y) (chunks-kept y))

module _ (S : ℕ) (l : List Arena) (k i : ℕ) (a : Arena) (t : SoundTable S l k) (h : i < k) where
  inside : i < length l
  inside = omega (arith, t.long, t.few)

  pub put-sound : Rows a → SoundArena S a → a.base ≡ (at l i).base → a.chunks ≡ (at l i).chunks → SoundTable S (set l i a) k
  put-sound r x p q = record {
    long = length-set l i a ∙ t.long;
    few = t.few;
    rows = λ j u. by-set Rows l i a inside r j (λ _. t.rows j u);
    each = λ j u. by-set (SoundArena S) l i a inside x j (λ _. t.each j u);
    apart = λ x y u v. put_meets S l i a inside p q x y ∙ t.apart x y u v;
  }
