-- The searches over the table and row 1, by what their loops know. S is the size of a chunk. Assumes nothing.
use Rattle.std.specs.Prelude.{◌≡◌, ◌&&◌, ◌||◌, ◌+◌, ◌*◌, ◌<◌, ◌≤◌}
use Rattle.state.proofs.Prelude.{refl, sym, ap, ap₂, subst, ◌∙◌, Bool, true, false, not, List, ℕ, arith, ltb-true, ltb-false, leb-true, eqb-true, eqb, leb, ltb, length, Option, all, all-free-of, least-none, and_both, page_size_sound, Arena, bytes_of, end_of, is_inside, sound_arena, range-facts, State, at, is_some, meets, grows, overlaps, asked_id, sound_question, sound_lent}
use Rattle.arena.specs.Soundness.{sound_range}
use Rattle.layer.specs.Table.{apart, sound_table}
use Rattle.state.specs.Ready.{SoundArenas}
use Rattle.table.specs.declared.ranges.Range.{Range}
use Rattle.table.specs.declared.spans.Span.{Span}
use Rattle.table.specs.Spans.{outside, CoversAll}
use Rattle.table.proofs.ranges.RangeLaws.{no-meeting}
use Rattle.table.proofs.TurnLaws.{Passed, all-passed, one-fails}

-- an id below the count is one of the lent records
pub is-lent : (l : List Arena) (k i : ℕ) → k ≤ length l → i < k → i < length l
is-lent l k i m h = omega (arith, m, h)

-- the range of a sound record
pub range-in : (S : ℕ) (a : Arena) → sound_arena S a ≡ true → sound_range S a.base a.chunks ≡ true
unfolding sound_arena
range-in S a e = (and_both (sound_range S a.base a.chunks) _ e).0

-- a range that is an arena's
abbrev pub IsOf : ℕ → Range → Arena → Type 0
IsOf S r a = (r.base ≡ a.base) × (r.bytes ≡ bytes_of S a)

module _ (S : ℕ) (l : List Arena) where
  abbrev pub sound : ℕ → Bool
  sound i = sound_arena S (at l i)

  one-sound : (k : ℕ) → SoundArenas S l k → (i : ℕ) → i < k → sound i ≡ true
  one-sound k arenas i h = all-free-of sound 0 k arenas.1 i (omega arith) (omega (arith, h))

  pub range_at : (k : ℕ) → SoundArenas S l k → (i : ℕ) → i < k → sound_range S (at l i).base (at l i).chunks ≡ true
  range_at k arenas i h = range-in S (at l i) (one-sound k arenas i h)

  pub range-there : (k : ℕ) → SoundArenas S l k → (i : ℕ) → i < k → (x : Arena) → x ≡ at l i → sound_range S x.base x.chunks ≡ true
  range-there k arenas i h x e = subst (λ (a : Arena). sound_range S a.base a.chunks ≡ true) (sym e) (range_at k arenas i h)

  -- what is said of a record that was read is said of the table's
  pub range-by-head : (i : ℕ) (a : Arena) → a ≡ at l i → sound i ≡ true → sound_range S a.base a.chunks ≡ true
  range-by-head i a same e = subst (λ (x : Arena). sound_range S x.base x.chunks ≡ true) (sym same) (range-in S (at l i) e)

  pub head-range : (k : ℕ) → SoundArenas S l k → (i : ℕ) → i < k → (a : Arena) → a ≡ at l i → sound_range S a.base a.chunks ≡ true
  head-range = range-there

  pub inside-by-head : (address i : ℕ) (a : Arena) (b : Bool) → a ≡ at l i → b ≡ is_inside S a address → is_inside S (at l i) address ≡ b
  inside-by-head address i a b same e = subst (λ (x : Arena). is_inside S x address ≡ b) same (sym e)

  pub met-by-head : (base bytes i : ℕ) (a : Arena) (b : Bool) → a ≡ at l i → b ≡ meets S a base bytes → meets S (at l i) base bytes ≡ b
  met-by-head base bytes i a b same e = subst (λ (x : Arena). meets S x base bytes ≡ b) same (sym e)

  pub continued-by-head : (address n i : ℕ) (a : Arena) (b : Bool) → a ≡ at l i → b ≡ grows S a address n → grows S (at l i) address n ≡ b
  continued-by-head address n i a b same e = subst (λ (x : Arena). grows S x address n ≡ b) same (sym e)

  pub few-at : (k : ℕ) → all sound 0 k ≡ true → (i : ℕ) → i < k → (at l i).chunks ≤ 1024
  few-at k e i h = (range-facts S (at l i).base (at l i).chunks (range-in S (at l i) (all-free-of sound 0 k e i (omega arith) (omega (arith, h))))).few

  -- ---- apart

  -- record j meets none before it
  abbrev pub alone : ℕ → Bool
  alone j = not (overlaps S l j (at l j).base ((at l j).chunks * S))

  pub alone-by-head : (j : ℕ) (a : Arena) (b : Bool) → a ≡ at l j → b ≡ not (overlaps S l j a.base (a.chunks * S)) → alone j ≡ b
  alone-by-head j a b same e = subst (λ (x : Arena). not (overlaps S l j x.base (x.chunks * S)) ≡ b) same (sym e)

  apart-is : (k : ℕ) → all alone 0 k ≡ apart S l k
  unfolding apart bytes_of
  apart-is k = refl

  -- the same of a range that is its own, where the record is read as a
  pub alone-by : (j : ℕ) (a : Arena) → a ≡ at l j → (r : Range) → IsOf S r a → alone j ≡ not (overlaps S l j r.base r.bytes)
  unfolding bytes_of
  alone-by j a same r own =
      let base_is : r.base ≡ (at l j).base = own.0 ∙ ap (λ (x : Arena). x.base) same in
      let bytes_are : r.bytes ≡ (at l j).chunks * S = own.1 ∙ ap (bytes_of S) same in
      sym (ap₂ (λ (x y : ℕ). not (overlaps S l j x y)) base_is bytes_are)

  -- one arena more, in a span that covers the others and it
  pub covers_more : (s r : Span) (j : ℕ) → CoversAll S s l j → (a : Arena) → a ≡ at l j → (range : Range) → IsOf S range a
      → (r.lo ≤ s.lo) × (s.hi ≤ r.hi) × (r.lo ≤ range.base) × (range.base + range.bytes ≤ r.hi) → CoversAll S r l (j + 1)
  unfolding end_of bytes_of
  covers_more s r j c a read range own e i h = go (ltb i j) refl
    where
      here : (r.lo ≤ (at l j).base) × ((at l j).base + (at l j).chunks * S ≤ r.hi)
      here =
          let base_is : range.base ≡ (at l j).base = own.0 ∙ ap (λ (x : Arena). x.base) read in
          let bytes_are : range.bytes ≡ (at l j).chunks * S = own.1 ∙ ap (bytes_of S) read in
          (omega (arith, e.2, base_is), omega (arith, e.3, base_is, bytes_are))

      go : (b : Bool) → ltb i j ≡ b → (r.lo ≤ (at l i).base) × ((at l i).base + (at l i).chunks * S ≤ r.hi)
      go true t = let d = c i (ltb-true i j t) in (omega (arith, d.0, e.0), omega (arith, d.1, e.1))
      go false t =
          let same : i ≡ j = omega (arith, h, ltb-false i j t) in
          subst (λ (m : ℕ). (r.lo ≤ (at l m).base) × ((at l m).base + (at l m).chunks * S ≤ r.hi)) (sym same) here

  -- a range outside the span meets none of them
  pub outside_alone : (s : Span) (r : Range) (j : ℕ) → CoversAll S s l j → outside s r ≡ true → true ≡ not (overlaps S l j r.base r.bytes)
  unfolding overlaps outside end_of bytes_of
  outside_alone s r j c e =
      sym (ap (λ (f : Option ℕ). not (is_some f)) (least-none (λ i. meets S (at l i) r.base r.bytes) 0 j
      (λ i _ k. no-meeting S (at l i) r.base r.bytes (λ m n. apart-there i (c i (omega (arith, k))) m n (leb s.hi r.base) refl))))
    where
      apart-there : (i : ℕ) → (s.lo ≤ (at l i).base) × ((at l i).base + (at l i).chunks * S ≤ s.hi) → r.base < (at l i).base + (at l i).chunks * S → (at l i).base < r.base + r.bytes
          → (b : Bool) → leb s.hi r.base ≡ b → ⊥
      apart-there i d m₁ m₂ true t = omega (arith, d.1, m₁, leb-true s.hi r.base t)
      apart-there i d m₁ m₂ false t =
          let below = leb-true (r.base + r.bytes) s.lo (sym (ap (λ (b : Bool). b || leb (r.base + r.bytes) s.lo) t) ∙ e) in
          omega (arith, d.0, m₂, below)

  -- ---- the arenas, one after the other

  module _ (k : ℕ) where
    -- those that were passed are sound
    pub passed-sound : (i : ℕ) → k ≤ length l → i < k → Passed true sound i → SoundArenas S l i
    passed-sound i m h p = (omega (arith, m, h), all-passed sound i p)

    pub one-unsound : (i : ℕ) → i < k → sound i ≡ false → false ≡ all sound 0 k && apart S l k
    one-unsound i h e = sym (ap (λ (b : Bool). b && apart S l k) (one-fails sound k i h e))

    pub one-overlaps : (i : ℕ) → i < k → alone i ≡ false → false ≡ all sound 0 k && apart S l k
    one-overlaps i h e = and-off (all sound 0 k) (apart S l k) (sym (apart-is k) ∙ one-fails alone k i h e)
      where
        and-off : (x y : Bool) → y ≡ false → false ≡ x && y
        and-off true y z = sym z
        and-off false y z = refl

    pub all_sound : Passed true sound k → Passed true alone k → true ≡ all sound 0 k && apart S l k
    all_sound p q = sym (ap₂ ◌&&◌ (all-passed sound k p) (sym (apart-is k) ∙ all-passed alone k q))

-- ---- row 1

module _ (S : ℕ) (l : List Arena) (stamps : ℕ) (state : State) (page : ℕ) where
  abbrev lengths : Bool
  lengths = eqb (length l) 32 && (eqb stamps 32768 && (page_size_sound page && leb state.count 32))

  abbrev arenas : Bool
  arenas = all (sound S l) 0 state.count && apart S l state.count

  abbrev question : Bool
  question = sound_question (at l (asked_id state.question)) state.count state.question

  row_is : lengths && (arenas && question) ≡ sound_lent S l stamps state page
  unfolding sound_lent sound_table
  row_is = inside (eqb (length l) 32) (eqb stamps 32768) (page_size_sound page) (leb state.count 32) (all (sound S l) 0 state.count) (apart S l state.count) question
    where
      inside : (a b c d s p q : Bool) → (a && (b && (c && d))) && ((s && p) && q) ≡ a && (b && (c && (d && (s && (p && q)))))
      inside true true true true true p q = refl
      inside true true true true false p q = refl
      inside true true true false s p q = refl
      inside true true false d s p q = refl
      inside true false c d s p q = refl
      inside false b c d s p q = refl

  pub lengths-wrong : lengths ≡ false → false ≡ sound_lent S l stamps state page
  lengths-wrong e = sym (ap (λ (b : Bool). b && (arenas && question)) e) ∙ row_is

  module _ (right : lengths ≡ true) where
    pub lent-32 : (length l ≡ 32) × (state.count ≤ 32)
    lent-32 =
        let a = and_both (eqb (length l) 32) _ right in
        let b = and_both (eqb stamps 32768) _ a.1 in
        let c = and_both (page_size_sound page) _ b.1 in
        (eqb-true (length l) 32 a.0, leb-true state.count 32 c.1)

    pub all-lent : state.count ≤ length l
    all-lent = let m : length l ≡ 32 = lent-32.0 in let c : state.count ≤ 32 = lent-32.1 in omega (arith, m, c)

    pub arenas-wrong : arenas ≡ false → false ≡ sound_lent S l stamps state page
    arenas-wrong e = sym (ap₂ (λ (a b : Bool). a && (b && question)) right e) ∙ row_is

    pub question-decides : arenas ≡ true → question ≡ sound_lent S l stamps state page
    question-decides e = sym (ap₂ (λ (a b : Bool). a && (b && question)) right e) ∙ row_is

    pub few-each : arenas ≡ true → (i : ℕ) → i < state.count → (at l i).chunks ≤ 1024
    few-each e = few-at S l state.count (and_both (all (sound S l) 0 state.count) _ e).0
