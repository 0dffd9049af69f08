-- What row 1 says of an open question about an arena. Assumes nothing.
use Rattle.std.specs.Prelude.{◌≡◌, ◌+◌, ◌*◌, ◌<◌, ◌≤◌}
use Rattle.state.proofs.Prelude.{subst, true, List, ℕ, arith, leb-true, ltb-true, leb, ltb, length, bit_at, and_both, Arena, SoundArena, State, Question, Committing, Purging, size_of, at, asked_id, sound_question}
use Rattle.layer.specs.declared.Sweep.{Sweep}
use Rattle.state.specs.Ready.{Asked}
use Rattle.state.proofs.Entry.{stands}
use Rattle.claiming.specs.Search.{RunAt}
use Rattle.sweeping.specs.Visit.{Borrowed}

module _ (l : List Arena) (stamps : List ℕ) (state : State) (asked : Asked l stamps state) where
  -- of a question that is given
  sound-as : (q : Question) → state.question ≡ q → sound_question (at l (asked_id q)) state.count q ≡ true
  sound-as q e = subst (λ (x : Question). sound_question (at l (asked_id x)) state.count x ≡ true) e asked.question

  -- the run whose commit is asked for
  pub run-stands : (i s n : ℕ) → state.question ≡ Committing i s n → RunAt (size_of state) l i s n
  unfolding sound_question
  run-stands i s n e =
      let a = at l i in
      let r = and_both (ltb i state.count) _ (sound-as (Committing i s n) e) in
      let inside = (and_both (leb (s + n) a.chunks) _ r.1).0 in
      let in_count : i < state.count = ltb-true i state.count r.0 in
      let m : length l ≡ 32 = asked.standing.lent in
      let k : state.count ≤ 32 = asked.standing.few in
      let t : SoundArena (size_of state) a = stands l state asked.standing i in_count in
      (omega (arith, in_count, m, k), leb-true (s + n) a.chunks inside, t.range.few, t.range.ends)

  -- the chunk whose purge is asked for
  pub chunk-stands : (i j : ℕ) (w : Sweep) → state.question ≡ Purging i j w → Borrowed l stamps state i j w
  unfolding sound_question
  chunk-stands i j w e =
      let a = at l i in
      let r = and_both (ltb i state.count) _ (sound-as (Purging i j w) e) in
      let inside = and_both (ltb j a.chunks) _ r.1 in
      let used = and_both (bit_at a.used j) _ inside.1 in
      record {
        standing = asked.standing;
        stamped = asked.stamped;
        registered = ltb-true i state.count r.0;
        inside = ltb-true j a.chunks inside.0;
        few = leb-true w.purged (1024 * i + j) used.1;
      }
