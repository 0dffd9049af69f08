-- The answer to a memory question: when its range is bad, what registering requires, and the table with the new arena. S is the size of a chunk. Assumes nothing.
use Rattle.std.specs.Prelude.{◌≡◌, ◌||◌, ◌+◌, ◌*◌, ◌/◌, ◌%◌, ◌^◌, ◌<◌, ◌≤◌}
use Rattle.state.proofs.Prelude.{refl, sym, ap, ◌∙◌, Bool, true, false, List, ℕ, div-lt_iff_lt-mul, arith, eqb-true, le-leb, eqb, leb, length, set, length-set, all-free-of, free_all, Arena, sound_arena, State, size_of, calm, at, overlaps, bad_range, bad_count}
use Rattle.arena.specs.Registering.{reserved_arena}
use Rattle.arena.proofs.SoundLaws.{arena-test}
use Rattle.layer.proofs.Tools.{by-set}
use Rattle.layer.proofs.Rules.{count-facts}
use Rattle.layer.proofs.Registered.{good-range, reserved-sound}
use Rattle.state.specs.Ready.{Standing}
use Rattle.answering.specs.declared.open_question.MemoryQuestion.{MemoryQuestion}

-- ---- the bytes

-- a range of more bytes than there are addresses is bad
pub wide-range : (S : ℕ) (l : List Arena) (k base chunks : ℕ) → 0 < S → 18446744073709551615 / S < chunks → true ≡ bad_range S l k base (chunks * S)
unfolding bad_range
wide-range S l k base chunks some h =
    let wide : 18446744073709551615 < chunks * S = (div-lt_iff_lt-mul some).0 h in
    let past : leb (2 ^ 64) (base + chunks * S) ≡ true = le-leb (2 ^ 64) (base + chunks * S) (omega (arith, wide)) in
    sym (ap (λ (b : Bool). eqb base 0 || (b || overlaps S l k base (chunks * S))) past ∙ either (eqb base 0))
  where
    either : (b : Bool) → b || true ≡ true
    either true = refl
    either false = refl

-- ---- what registering requires

pub few-chunks : (m : MemoryQuestion) → bad_count m.chunks ≡ false → m.chunks ≤ 1024
few-chunks m few = (count-facts m.chunks few).1

pub new-arena : (S : ℕ) (l : List Arena) (k base : ℕ) (m : MemoryQuestion)
    → bad_range S l k base (m.chunks * S) ≡ false → bad_count m.chunks ≡ false → eqb (base % S) 0 ≡ true
    → sound_arena S (reserved_arena base m.chunks m.commit m.exclusive) ≡ true
new-arena S l k base m good few whole =
    let g = good-range S l k base (m.chunks * S) good in
    let count = count-facts m.chunks few in
    arena-test S (reserved_arena base m.chunks m.commit m.exclusive) (reserved-sound S base m.chunks m.commit m.exclusive (record {
      somewhere = g.somewhere;
      aligned = eqb-true (base % S) 0 whole;
      some = count.0;
      few = count.1;
      ends = g.ends;
    }))

-- ---- who waits

-- the table with the new arena
pub one_more : (l : List Arena) (state : State) (a : Arena) → Standing l state → state.count < 32 → sound_arena (size_of state) a ≡ true
    → Standing (set l state.count a) (calm (state.count + 1) state.mark)
one_more l state a standing room sound =
    let m : length l ≡ 32 = standing.lent in
    let here : state.count < length l = omega (arith, m, room) in
    record {
      lent = length-set l state.count a ∙ m;
      few = omega (arith, room);
      each = free_all (λ i. sound_arena (size_of state) (at (set l state.count a) i)) 0 (state.count + 1)
          (λ i low high. by-set (λ (b : Arena). sound_arena (size_of state) b ≡ true) l state.count a here sound i
          (λ other. all-free-of (λ j. sound_arena (size_of state) (at l j)) 0 state.count standing.each i (omega arith) (below i high other)));
    }
  where
    below : (i : ℕ) → i < 0 + (state.count + 1) → (i ≡ state.count → ⊥) → i < 0 + state.count
    below i h f = omega (arith, h, f)
