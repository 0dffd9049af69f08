-- Refusal 10 comes exactly where no eligible arena has the run: of a claim, and of one that goes on once its memory came. Assumes nothing.
use Rattle.std.specs.Prelude.{◌≡◌, ◌&&◌, ◌↔◌, ◌%◌, ◌*◌}
use Rattle.layer.proofs.Prelude.{by_rules, refl, sym, ap, ap₂, ◌∙◌, subst, Bool, true, not, true≢false, List, ℕ, suc, arith, eq-eqb, ne_eqb, not-true, lt-leb, eqb, leb, ℤ, pos, negsuc, bit_at, unless, Option, Some, None, Starts, Lowest, lowest-says, arena_allowed, Arena, reserved_arena, free, find_run, NoRun, Settings, Idle, Reserving, Claim, ForMemory, Reply, Outcome, turn_down, calm, at, is_some, bad_range, ask_memory, bad_count, with_record, with_stamps, eligible, serves, miss_reply, search_of, claim_of, is_for, answer_memory, answer_of, claim, act, answer, Eligible, TenExactly}
use Rattle.layer.specs.World.{size_of}
use Rattle.layer.specs.Ten.{ClearFrom, NoneHas, IsMiss, TenAfterMemory}
use Rattle.layer.proofs.Rules.{served-eligible, served-found}
use Rattle.layer.proofs.Cases.{grant-cases, search-cases, miss-cases}
use Rattle.layer.proofs.Plain.{some-chunk, not-12, not-6, passes}

-- ---- an arena serves a claim exactly if it is eligible and has the run

eligible-test : (id : ℤ) (i : ℕ) (a : Arena) → Eligible id i a → eligible id i a ≡ true
unfolding eligible
eligible-test (pos x) i a e = eq-eqb i x e
eligible-test (negsuc x) i a e = ap not e

clear-starts : (a : Arena) (n s : ℕ) → ClearFrom a n s → Starts (free a) a.chunks n s
clear-starts a n s h = record { room = h.0; all-free = λ j lo hi. ap not (h.1 j lo hi) }

starts-clear : (a : Arena) (n s : ℕ) → Starts (free a) a.chunks n s → ClearFrom a n s
starts-clear a n s h = (h.room, λ j lo hi. not-true (bit_at a.used j) (h.all-free j lo hi))

module _ (id : ℤ) (n : ℕ) (l : List Arena) (i : ℕ) where
  serves-run : serves id n l i ≡ true → Eligible id i (at l i) × ((s : ℕ) × ClearFrom (at l i) n s)
  unfolding find_run
  serves-run e = (served-eligible id n l i e, go (find_run (at l i) n) (lowest-says (free (at l i)) (at l i).chunks n) (served-found id n l i e))
    where
      go : (f : Option ℕ) → Lowest (free (at l i)) (at l i).chunks n f → is_some f ≡ true → (s : ℕ) × ClearFrom (at l i) n s
      go (Some s) low e = (s, starts-clear (at l i) n s low.0)
      go None low e = absurd (true≢false (sym e))

  run-serves : Eligible id i (at l i) → (s : ℕ) → ClearFrom (at l i) n s → serves id n l i ≡ true
  unfolding serves find_run
  run-serves e s h = ap₂ ◌&&◌ (eligible-test id i (at l i) e) (go (find_run (at l i) n) (lowest-says (free (at l i)) (at l i).chunks n))
    where
      go : (f : Option ℕ) → Lowest (free (at l i)) (at l i).chunks n f → is_some f ≡ true
      go (Some s) low = refl
      go None low = absurd (low s (clear-starts (at l i) n s h))

-- ---- a search misses exactly if none has the run

module _ (S : ℕ) (l : List Arena) (stamps : List ℕ) (k : ℕ) (mark : Bool) (id : ℤ) (n : ℕ) (commits : Bool) (missed : Reply) (is-miss : IsMiss missed.answer) where
  abbrev Exactly : Outcome → Type 0
  Exactly o = IsMiss o.answer ↔ NoneHas id n l k

  search-exactly : Exactly (search_of S l stamps k mark id n commits missed)
  search-exactly =
      search-cases S l stamps k mark Exactly id n commits missed
      (λ none. ((λ _ i h e s c. true≢false (sym (run-serves id n l i e s c) ∙ none i h)), (λ _. is-miss)))
      (λ i h e. let r = serves-run id n l i e in
      let found : NoneHas id n l k → ⊥ = λ none. none i h r.0 r.1.0 r.1.1 in
      grant-cases S l stamps k mark Exactly i n commits (λ f. absurd (true≢false (sym (served-found id n l i e) ∙ ap is_some f)))
      (λ s f. ((λ m. absurd m), (λ none. absurd (found none)))) (λ s f. ((λ m. absurd m), (λ none. absurd (found none)))))

-- ---- the claim, and the answer that goes on with one

missed-is : (S : ℕ) (l : List Arena) (stamps : List ℕ) (k : ℕ) (mark : Bool) (id : ℤ) (n : ℕ) (commits : Bool) (settings : Settings) → IsMiss (miss_reply S k mark id n commits settings).answer
unfolding ask_memory
missed-is S l stamps k mark id n commits settings = miss-cases S l stamps k mark (λ (o : Outcome). IsMiss o.answer) id n commits settings refl refl tt

pub ten-exactly : TenExactly by_rules
ten-exactly w ns settings id n commits e idle some allowed =
    subst (λ (o : Outcome). IsMiss o.answer ↔ NoneHas id n w.records w.state.count)
    (sym (passes w ns settings (act (claim id n commits)) Idle e idle ∙ searches))
    (search-exactly S w.records w.stamps w.state.count w.state.mark id n commits (miss_reply S w.state.count w.state.mark id n commits settings)
    (missed-is S w.records w.stamps w.state.count w.state.mark id n commits settings))
  where
    S : ℕ
    S = size_of w.state

    searches : claim_of S w.records w.stamps w.state.count w.state.mark id n commits settings
        ≡ search_of S w.records w.stamps w.state.count w.state.mark id n commits (miss_reply S w.state.count w.state.mark id n commits settings)
    searches = unfold claim_of in unless (eqb n 0) _ _ (ne_eqb n 0 (λ z. omega (arith, some))) ∙ unless (not (arena_allowed settings.off id)) _ _ (ap not allowed)

pub ten-after-memory : TenAfterMemory by_rules
ten-after-memory w ns settings chunks bytes n base commit exclusive commits e open_is r =
    subst (λ (o : Outcome). IsMiss o.answer ↔ NoneHas (negsuc 0) n l (suc k))
    (sym (passes w ns settings (answer ForMemory true base) (Reserving chunks bytes commit exclusive (Claim n commits)) e open_is ∙ goes_on))
    (search-exactly S l (with_stamps w.stamps k) (suc k) w.state.mark (negsuc 0) n commits (turn_down NoRun (calm (suc k) w.state.mark)) refl)
  where
    S : ℕ
    S = size_of w.state

    k : ℕ
    k = w.state.count

    l : List Arena
    l = with_record w.records k (reserved_arena base chunks commit exclusive)

    is-memory : answer_of S w.records w.stamps k w.state.mark (Reserving chunks bytes commit exclusive (Claim n commits)) ForMemory true base
        ≡ answer_memory S w.records w.stamps k w.state.mark chunks bytes commit exclusive (Claim n commits) true base
    is-memory = unfold answer_of is_for in refl

    goes_on : answer_of S w.records w.stamps k w.state.mark (Reserving chunks bytes commit exclusive (Claim n commits)) ForMemory true base
        ≡ search_of S l (with_stamps w.stamps k) (suc k) w.state.mark (negsuc 0) n commits (turn_down NoRun (calm (suc k) w.state.mark))
    goes_on =
        is-memory ∙ unless (bad_range S w.records k base (chunks * S)) _ _ (not-6 w (some-chunk w settings.page e) base chunks r)
        ∙ unless (bad_count chunks) _ _ (not-12 w base chunks r)
        ∙ unless (not (eqb (base % S) 0)) _ _ (ap not (eq-eqb (base % S) 0 r.whole))
        ∙ unless (leb 32 k) _ _ (lt-leb 32 k r.room)
