-- The answer to a purge question: what it is handed, and its two ways. Assumes nothing.
use Rattle.std.specs.Prelude.{◌≡◌, ◌+◌, ◌-◌, ◌*◌, ◌^◌, ◌<◌, ◌≤◌}
use Rattle.state.proofs.Prelude.{sym, ap, ◌∙◌, subst, Bool, true, List, ℕ, arith, leb-true, ltb-true, ltb, length, set, length-set, bit_at, Option, Some, None, and_both, Arena, with_deadline, borrow_chunk, stamps_of, next_deadline, SoundArena, State, Sweep, Reply, Question, Purging, Outcome, size_of, after, Leaves, at, asked_id, sound_question, purge_reply, visit_at, visit, sweep_from, counted, answer_purge}
use Rattle.bitmap.specs.Rows.{clear_run}
use Rattle.arena.specs.Sweeping.{return_chunk}
use Rattle.arena.proofs.purge.MapLaws.{next-returned, rearm-returned}
use Rattle.layer.proofs.Tools.{at_same}
use Rattle.layer.proofs.Kept.{borrow-range, return-range}
use Rattle.state.specs.Ready.{Asked}
use Rattle.state.proofs.Entry.{stands, comes}
use Rattle.sweeping.specs.Visit.{Sweepable, Borrowed}
use Rattle.sweeping.proofs.VisitLaws.{next, next-inside, chunk-room}
use Rattle.sweeping.proofs.SweepLaws.{sweepable, ranged-put, purge-base}

-- what row 1 says of an open purge question is what its answer needs
pub borrowed : (l : List Arena) (stamps : List ℕ) (state : State) (id chunk : ℕ) (w : Sweep) → Asked l stamps state → state.question ≡ Purging id chunk w → Borrowed l stamps state id chunk w
unfolding sound_question
borrowed l stamps state id chunk w asked e =
    let q : sound_question (at l id) state.count (Purging id chunk w) ≡ true = subst (λ (p : Question). sound_question (at l (asked_id p)) state.count p ≡ true) e asked.question in
    let a = and_both (ltb id state.count) _ q in
    let b = and_both (ltb chunk (at l id).chunks) _ a.1 in
    let c = and_both (bit_at (at l id).used chunk) _ b.1 in
    record {
      standing = asked.standing;
      stamped = asked.stamped;
      registered = ltb-true id state.count a.0;
      inside = ltb-true chunk (at l id).chunks b.0;
      few = leb-true w.purged (1024 * id + chunk) c.1;
    }

module _ (l : List Arena) (stamps : List ℕ) (state : State) (id chunk : ℕ) (w : Sweep) (need : Borrowed l stamps state id chunk w) where
  -- ---- what it is handed

  abbrev a : Arena
  a = at l id

  abbrev own : List ℕ
  own = stamps_of stamps id

  arena : SoundArena (size_of state) a
  arena = stands l state need.standing id need.registered

  pub chunks-few : a.chunks ≤ 1024
  chunks-few = arena.range.few

  pub id-low : id < 32
  id-low = omega (arith, need.registered, need.standing.few)

  pub id-lent : id < length l
  id-lent = omega (arith, id-low, need.standing.lent)

  pub chunk-low : chunk < 1024
  chunk-low = omega (arith, need.inside, chunks-few)

  pub few-counted : w.purged ≤ 32768
  few-counted = omega (arith, need.few, id-low, chunk-low)

  module _ (granted : Bool) where
    -- the sweep with its answer counted, the record with the chunk come back, and the next chunk
    abbrev v : Sweep
    v = counted w granted

    abbrev back : Arena
    back = return_chunk a chunk granted w.decommit

    abbrev f : Option ℕ
    f = next v a own (chunk + 1)

    abbrev out : Outcome
    out = answer_purge (size_of state) l stamps state.count state.mark id chunk w granted

    goes : (x : Option ℕ) → f ≡ x → out ≡ visit_at (size_of state) stamps state.count state.mark v l id back (sweep_from (size_of state) stamps state.count state.mark v (state.count - (id + 1)) (id + 1)) x
    unfolding visit
    goes x e =
        ap (visit_at (size_of state) stamps state.count state.mark v l id back (sweep_from (size_of state) stamps state.count state.mark v (state.count - (id + 1)) (id + 1)))
        (next-returned a chunk own w.force w.now w.delay granted w.decommit ∙ e)

    -- ---- there is a next chunk

    module _ (j : ℕ) (e : f ≡ Some j) where
      abbrev b : Arena
      b = borrow_chunk back j

      base_stays : (at (set l id b) id).base ≡ a.base
      base_stays = ap (λ (x : Arena). x.base) (at_same l id b id-lent) ∙ (borrow-range back j).0 ∙ (return-range a chunk granted w.decommit).0

      pub next_low : (chunk < 1024) × (j < 1024)
      next_low = (chunk-low, omega (arith, next-inside v a own (chunk + 1) j e, chunks-few))

      pub next_fits : (id < length (set l id b)) × ((at (set l id b) id).base + j * size_of state < 2 ^ 64)
      next_fits = (
        subst (λ (n : ℕ). id < n) (sym (length-set l id b)) id-lent,
        subst (λ (x : ℕ). x + j * size_of state < 2 ^ 64) (sym base_stays) (chunk-room (size_of state) a j (next-inside v a own (chunk + 1) j e) arena.range.ends),
      )

      pub asks-next : Leaves out (purge_reply (size_of state) state.count state.mark v id (at (set l id b) id) j) (set l id b) stamps
      asks-next =
          comes out _ (set l id b) stamps
          (goes (Some j) e
          ∙ ap (λ (r : Reply). after r (set l id b) stamps) (purge-base (size_of state) state.count state.mark v id back (at (set l id b) id) j ((return-range a chunk granted w.decommit).0 ∙ sym base_stays)))

    -- ---- there is none

    module _ (e : f ≡ None) where
      abbrev c : Arena
      c = with_deadline back (next_deadline a.deadline (clear_run a.pending chunk 1) a.chunks own w.force w.now w.delay)

      pub rest-sweepable : Sweepable (set l id c) state
      rest-sweepable =
          let s = sweepable l state need.standing in (
            s.0,
            subst (λ (n : ℕ). state.count ≤ n) (sym (length-set l id c)) s.1,
            ranged-put (size_of state) l state.count id c s.2 need.registered s.1 (return-range a chunk granted w.decommit).0 (return-range a chunk granted w.decommit).1,
          )

      pub goes_on : (r : Reply) (m : List Arena) (ts : List ℕ) → Leaves (sweep_from (size_of state) stamps state.count state.mark v (state.count - (id + 1)) (id + 1) (set l id c)) r m ts → Leaves out r m ts
      goes_on r m ts =
          subst (λ (o : Outcome). Leaves o r m ts)
          (sym
          (goes None e
          ∙ ap (λ (x : Arena). sweep_from (size_of state) stamps state.count state.mark v (state.count - (id + 1)) (id + 1) (set l id x)) (sym (rearm-returned a chunk own w.force w.now w.delay granted w.decommit))))
