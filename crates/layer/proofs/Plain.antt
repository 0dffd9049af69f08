-- What rows 6 and 12 ask, by plain arithmetic: the tests of the rules let pass what `Registrable` says. Assumes nothing.
use Rattle.std.specs.Prelude.{◌≡◌, ◌&&◌, ◌||◌, ◌+◌, ◌*◌, ◌^◌, ◌<◌, ◌≤◌}
use Rattle.layer.proofs.Prelude.{ap, ap₂, ◌∙◌, true, false, ⊎_elim, ℕ, arith, ne_eqb, lt-leb, ltb-true, eqb, leb, ltb, length, lt-or-le, all, all-free-of, and_both, page_size_sound, bytes_of, end_of, sound_arena, never, SoundArena, arena-facts, Settings, Question, World, at, meets, bad_range, apart, asked_id, sound_question, sound_table, sound_lent, sound, bad_count, Call, step_on, step, Registrable}
use Rattle.layer.specs.World.{size_of}
use Rattle.layer.proofs.ChunkLaws.{size_fits, mul-pos}
use Rattle.layer.proofs.Facts.{none-overlaps}
use Rattle.layer.proofs.Calls.{past-1}

-- a call that row 1 lets pass, where q is open
pub passes : (w : World) (ns : ℕ) (settings : Settings) (c : Call) (q : Question) → sound (size_of w.state) w settings.page ≡ true → w.state.question ≡ q
    → step w ns settings c ≡ step_on (size_of w.state) w.records w.stamps w.state.count w.state.mark q ns settings c
passes w ns settings c q e f =
    past-1 (size_of w.state) w ns settings e c ∙ ap (λ (x : Question). step_on (size_of w.state) w.records w.stamps w.state.count w.state.mark x ns settings c) f

-- every arena of a table that row 1 lets pass has a chunk, and at most 1,024
range-of : (w : World) (page : ℕ) → sound (size_of w.state) w page ≡ true → (i : ℕ) → i < w.state.count → SoundArena (size_of w.state) (at w.records i)
unfolding sound_lent sound_table
range-of w page e i h =
    let a = and_both (eqb (length w.records) 32) _ e in
    let b = and_both (eqb (length w.stamps) 32768) _ a.1 in
    let c = and_both (page_size_sound page) _ b.1 in
    let d = and_both (leb w.state.count 32) _ c.1 in
    let f = and_both (all (λ j. sound_arena (size_of w.state) (at w.records j)) 0 w.state.count) (apart (size_of w.state) w.records w.state.count && sound_question (at w.records (asked_id w.state.question)) w.state.count w.state.question) d.1 in
    arena-facts (size_of w.state) (at w.records i) (all-free-of (λ j. sound_arena (size_of w.state) (at w.records j)) 0 w.state.count f.0 i (omega arith) (omega arith))

pub some-chunk : (w : World) (page : ℕ) → sound (size_of w.state) w page ≡ true → (i : ℕ) → i < w.state.count → 1 ≤ (at w.records i).chunks
some-chunk w page e i h = (range-of w page e i h).range.some

pub few-chunks : (w : World) (page : ℕ) → sound (size_of w.state) w page ≡ true → (i : ℕ) → i < w.state.count → (at w.records i).chunks ≤ 1024
few-chunks w page e i h = (range-of w page e i h).range.few

module _ (w : World) (b n : ℕ) (r : Registrable w b n) where
  pub not-12 : bad_count n ≡ false
  unfolding bad_count
  not-12 = ap₂ ◌||◌ (ne_eqb n 0 (λ e. omega (arith, r.some))) (never (ltb 1024 n) (λ e. omega (arith, ltb-true 1024 n e, r.few)))

module _ (w : World) (some-each : (i : ℕ) → i < w.state.count → 1 ≤ (at w.records i).chunks) (b n : ℕ) (r : Registrable w b n) where
  -- an address of both
  not-meets : (i : ℕ) → i < w.state.count → meets (size_of w.state) (at w.records i) b (n * size_of w.state) ≡ false
  unfolding meets end_of bytes_of
  not-meets i h = never _ (λ e.
      let a = at w.records i in
      let c = and_both (ltb 0 (n * size_of w.state)) _ e in
      let d = and_both (ltb b (a.base + a.chunks * size_of w.state)) _ c.1 in
      let u : b < a.base + a.chunks * size_of w.state = ltb-true _ _ d.0 in
      let v : a.base < b + n * size_of w.state = ltb-true _ _ d.1 in
      let size : 0 < size_of w.state = (size_fits w.state).0 in
      let some : 0 < a.chunks * size_of w.state = mul-pos a.chunks (size_of w.state) (some-each i h) size in
      let long : 0 < n * size_of w.state = mul-pos n (size_of w.state) r.some size in
      ⊎_elim (λ (x : a.base < b). r.apart i h b (omega arith, u) (omega arith) (omega arith))
      (λ (x : b ≤ a.base). r.apart i h a.base (omega arith, omega arith) x v)
      (lt-or-le a.base b))

  pub not-6 : bad_range (size_of w.state) w.records w.state.count b (n * size_of w.state) ≡ false
  unfolding bad_range
  not-6 = ap₂ ◌||◌ (ne_eqb b 0 (λ e. omega (arith, r.somewhere))) (ap₂ ◌||◌ (lt-leb (2 ^ 64) (b + n * size_of w.state) r.ends) (none-overlaps (size_of w.state) w.records w.state.count b (n * size_of w.state) not-meets))
