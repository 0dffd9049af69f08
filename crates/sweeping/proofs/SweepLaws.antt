-- A sweep over the arenas, turn by turn, and what its core is handed. S is the size of a chunk. Assumes nothing.
use Rattle.std.specs.Prelude.{◌≡◌, ◌+◌, ◌-◌, ◌*◌, ◌^◌, ◌<◌, ◌≤◌}
use Rattle.state.proofs.Prelude.{refl, sym, ap, ap₂, ◌∙◌, subst, Bool, true, false, true≢false, List, ℕ, suc, arith, length, set, length-set, set-get_or, by_cond, Option, Some, None, Arena, sweep_due, disarm, stamps_of, State, Sweep, AskPurge, Asks, Purging, Reply, Outcome, state_with, reply, after, Leaves, blank, at, is_some, purge_reply, swept_reply, visit_at, visit, sweep_from}
use Rattle.layer.proofs.Tools.{by-set, at_same}
use Rattle.layer.proofs.Kept.{disarm-range}
use Rattle.state.specs.Ready.{Standing}
use Rattle.state.proofs.Entry.{stands, comes}
use Rattle.sweeping.specs.Visit.{asked_at, left_by, visited, Ranged, Sweepable}
use Rattle.sweeping.proofs.VisitLaws.{next, next-inside, chunk-room, visited-range}

-- ---- ranges

-- what row 1 says of the arenas
pub sweepable : (l : List Arena) (state : State) → Standing l state → Sweepable l state
sweepable l state s =
    let m : length l ≡ 32 = s.lent in
    let k : state.count ≤ 32 = s.few in
    (k, omega (arith, m, k), λ i h. let r = (stands l state s i h).range in (r.few, r.ends))

-- a record with the range of the one in its place
pub ranged-put : (S : ℕ) (l : List Arena) (k i : ℕ) (a : Arena) → Ranged S l k → i < k → k ≤ length l → a.base ≡ (at l i).base → a.chunks ≡ (at l i).chunks → Ranged S (set l i a) k
ranged-put S l k i a h u v p q j m =
    by-set (λ (b : Arena). (b.chunks ≤ 1024) × (b.base + b.chunks * S < 2 ^ 64)) l i a (omega arith)
    (subst (λ (x : ℕ). x ≤ 1024) (sym q) (h i u).0, subst (λ (x : ℕ). x < 2 ^ 64) (sym (ap₂ (λ (x y : ℕ). x + y * S) p q)) (h i u).1) j (λ _. h j m)

-- ---- a turn

pub purge-base : (S k : ℕ) (mark : Bool) (w : Sweep) (i : ℕ) (a b : Arena) (j : ℕ) → a.base ≡ b.base → purge_reply S k mark w i a j ≡ purge_reply S k mark w i b j
unfolding purge_reply
purge-base S k mark w i a b j e = ap (λ (x : ℕ). reply (Asks (AskPurge (x + j * S) S w.decommit)) (state_with k mark (Purging i j w))) e

module _ (S : ℕ) (stamps : List ℕ) (k : ℕ) (mark : Bool) (w : Sweep) where
  -- no arena is left
  pub ended : (f i : ℕ) (l : List Arena) → f ≡ 0 → sweep_from S stamps k mark w f i l ≡ after (swept_reply k mark w) l stamps
  unfolding sweep_from
  ended f i l e = ap (λ (g : ℕ). sweep_from S stamps k mark w g i l) e

  module _ (l : List Arena) (i : ℕ) where
    abbrev a : Arena
    a = at l i

    abbrev own : List ℕ
    own = stamps_of stamps i

    -- the records after the visit to arena i
    abbrev pub on : List Arena
    on = set l i (visited w a own)

    abbrev asked : Option ℕ
    asked = asked_at w a own

    -- its question, or the arenas behind it
    abbrev ends : List Arena → (List Arena → Outcome) → Option ℕ → Outcome
    ends m rest (Some j) = after (purge_reply S k mark w i (disarm a) j) m stamps
    ends m rest None = rest m

    one_more : (f : ℕ) → sweep_from S stamps k mark w (suc f) i l ≡ ends on (sweep_from S stamps k mark w f (i + 1)) asked
    unfolding sweep_from visit asked_at visited
    one_more f = go (sweep_due a w.force w.now) refl
      where
        found : (x : Option ℕ) → visit_at S stamps k mark w l i (disarm a) (sweep_from S stamps k mark w f (i + 1)) x
            ≡ ends (set l i (left_by w (disarm a) own x)) (sweep_from S stamps k mark w f (i + 1)) x
        found (Some j) = refl
        found None = refl

        go : (t : Bool) → sweep_due a w.force w.now ≡ t → sweep_from S stamps k mark w (suc f) i l ≡ ends on (sweep_from S stamps k mark w f (i + 1)) asked
        go true e = rw e (found (next w (disarm a) own 0))
        go false e = rw e (ap (sweep_from S stamps k mark w f (i + 1)) (sym (set-get_or l i blank)))

    turn : (x : Option ℕ) → i < k → asked ≡ x → sweep_from S stamps k mark w (k - i) i l ≡ ends on (sweep_from S stamps k mark w (k - (i + 1)) (i + 1)) x
    turn x u e =
        let r : k - i ≡ suc (k - (i + 1)) = omega arith in
        ap (λ (f : ℕ). sweep_from S stamps k mark w f i l) r ∙ one_more (k - (i + 1)) ∙ ap (ends on (sweep_from S stamps k mark w (k - (i + 1)) (i + 1))) e

    -- none is put
    pub passed-turn : i < k → asked ≡ None → sweep_from S stamps k mark w (k - i) i l ≡ sweep_from S stamps k mark w (k - (i + 1)) (i + 1) on
    passed-turn u e = turn None u e

    module _ (j : ℕ) (e : asked ≡ Some j) where
      -- a question is put
      pub asked-turn : i < k → i < length l → sweep_from S stamps k mark w (k - i) i l ≡ after (purge_reply S k mark w i (at on i) j) on stamps
      asked-turn u v =
          let b : (disarm a).base ≡ (at on i).base = (disarm-range a).0 ∙ sym (visited-range w a own).0 ∙ ap (λ (x : Arena). x.base) (sym (at_same l i (visited w a own) v)) in
          turn (Some j) u e ∙ ap (λ (r : Reply). after r on stamps) (purge-base S k mark w i (disarm a) (at on i) j b)

      -- its chunk lies inside the arena, and its address inside the range
      inside : j < a.chunks
      unfolding asked_at
      inside =
          by_cond (λ (x : Option ℕ). x ≡ Some j → j < a.chunks) (sweep_due a w.force w.now) _ _
          (λ _ h. subst (λ (n : ℕ). j < n) (disarm-range a).1 (next-inside w (disarm a) own 0 j h)) (λ _ h. absurd (true≢false (sym (ap is_some h)))) e

      pub question-fits : Ranged S l k → i < k → i < length l → (i < length on) × ((at on i).base + j * S < 2 ^ 64)
      question-fits h u v = (
        subst (λ (n : ℕ). i < n) (sym (length-set l i (visited w a own))) v,
        subst (λ (b : Arena). b.base + j * S < 2 ^ 64) (sym (at_same l i (visited w a own) v))
            (subst (λ (b : ℕ). b + j * S < 2 ^ 64) (sym (visited-range w a own).0) (chunk-room S a j inside (h i u).1)),
      )

  -- ---- the loop: from arena `begin` on over the records l, it has come to arena i with the records m, and no question was put before

  module _ (begin : ℕ) (l : List Arena) where
    abbrev all : Outcome
    all = sweep_from S stamps k mark w (k - begin) begin l

    abbrev pub Going : ℕ → List Arena → Type 0
    Going i m = Ranged S m k × (sweep_from S stamps k mark w (k - i) i m ≡ all)

    module _ (i : ℕ) (m : List Arena) (going : Going i m) where
      pub goes_on : i < k → k ≤ length l → length m ≡ length l → asked m i ≡ None → Going (i + 1) (on m i)
      goes_on lt lent long e =
          let r = visited-range w (at m i) (stamps_of stamps i) in
          (ranged-put S m k i (visited w (at m i) (stamps_of stamps i)) going.0 lt (omega (arith, lent, long)) r.0 r.1, sym (passed-turn m i lt e) ∙ going.1)

      pub asks-there : (j : ℕ) → asked m i ≡ Some j → i < k → i < length m → Leaves all (purge_reply S k mark w i (at (on m i) i) j) (on m i) stamps
      asks-there j e lt here = comes all _ (on m i) stamps (sym going.1 ∙ asked-turn m i j e lt here)

      pub asks_none : k ≤ i → Leaves all (swept_reply k mark w) m stamps
      asks_none past = comes all _ m stamps (sym going.1 ∙ ended (k - i) i m (omega (arith, past)))
