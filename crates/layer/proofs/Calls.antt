-- A whole call by its rows: "Order: 1; then 2, or 3 for answers; then the call's own." Assumes nothing.
use Rattle.std.specs.Prelude.{◌≡◌, ◌*◌, ◌%◌, ◌<◌}
use Rattle.layer.proofs.Prelude.{refl, sym, ap, ◌∙◌, subst, Bool, true, false, not, true≢false, ℕ, Refusal, Range, unless, reserved_arena, Settings, Question, Idle, Committing, Purging, Reserving, GivingBack, Waiting, Unusable, Kind, ForMemory, Refused, World, Outcome, state_with, world_of, outcome, after, calm, bad_range, sound, bad_count, is_for, give_back_reply, resume, answer_to, answer_of, Act, Call, act, answer, act_on, step_on, rules}
use Rattle.layer.specs.Answering.{is_idle}
use Rattle.layer.proofs.Tools.{by-not}
use Rattle.layer.proofs.Cases.{memory-cases}

pub idle-is : (q : Question) → is_idle q ≡ true → q ≡ Idle
idle-is Idle e = refl
idle-is (Committing i s n) e = absurd (true≢false (sym e))
idle-is (Purging i j w) e = absurd (true≢false (sym e))
idle-is (Reserving chunks bytes commit exclusive waiting) e = absurd (true≢false (sym e))
idle-is (GivingBack cause waiting) e = absurd (true≢false (sym e))

-- a world with no question open
pub calm-world : (w : World) → w.state.question ≡ Idle → world_of w.records w.stamps (calm w.state.count w.state.mark) ≡ w
calm-world w e = ap (λ (q : Question). world_of w.records w.stamps (state_with w.state.count w.state.mark q)) (sym e)

module _ (S : ℕ) (w : World) (ns : ℕ) (settings : Settings) where
  -- past row 1
  pub past-1 : sound S w settings.page ≡ true → (c : Call)
      → rules S w ns settings c ≡ step_on S w.records w.stamps w.state.count w.state.mark w.state.question ns settings c
  unfolding rules
  past-1 e c = unless (not (sound S w settings.page)) _ _ (ap not e)

  -- past rows 1 and 2
  pub past-2 : sound S w settings.page ≡ true → w.state.question ≡ Idle → (a : Act)
      → rules S w ns settings (act a) ≡ act_on S w.records w.stamps w.state.count w.state.mark w.state.question ns settings a
  past-2 e idle a = past-1 e (act a) ∙ unless (not (is_idle w.state.question)) _ _ (ap (λ (q : Question). not (is_idle q)) idle)

  -- past rows 1 and 3
  pub past-3 : sound S w settings.page ≡ true → (kind : Kind) → is_for w.state.question kind ≡ true → (granted : Bool) (base : ℕ)
      → rules S w ns settings (answer kind granted base) ≡ answer_to S w.records w.stamps w.state.count w.state.mark w.state.question granted base
  unfolding answer_of
  past-3 e kind is granted base = past-1 e (answer kind granted base) ∙ unless (not (is_for w.state.question kind)) _ _ (ap not is)

  module _ (P : Outcome → Type 0) (down : (why : Refusal) → P (outcome (Refused why) w)) where
    pub act-cases : (a : Act)
        → (sound S w settings.page ≡ true → w.state.question ≡ Idle → P (act_on S w.records w.stamps w.state.count w.state.mark w.state.question ns settings a))
        → P (rules S w ns settings (act a))
    unfolding rules
    act-cases a go =
        by-not P (sound S w settings.page) _ _ (λ e. by-not P (is_idle w.state.question) _ _ (λ f. go e (idle-is w.state.question f)) (λ f. down _)) (λ e. down _)

    pub answer-cases : (kind : Kind) (granted : Bool) (base : ℕ)
        → (sound S w settings.page ≡ true → is_for w.state.question kind ≡ true → P (answer_to S w.records w.stamps w.state.count w.state.mark w.state.question granted base))
        → P (rules S w ns settings (answer kind granted base))
    unfolding rules answer_of
    answer-cases kind granted base go =
        by-not P (sound S w settings.page) _ _ (λ e. by-not P (is_for w.state.question kind) _ _ (λ f. go e f) (λ f. down _)) (λ e. down _)

    -- a yes to a memory question
    pub yes-cases : (chunks bytes : ℕ) (commit exclusive : Bool) (waiting : Waiting) (base : ℕ) → w.state.question ≡ Reserving chunks bytes commit exclusive waiting
        → ((cause : Unusable) → P (after (give_back_reply w.state.count w.state.mark base bytes cause waiting) w.records w.stamps))
        → (sound S w settings.page ≡ true → bad_range S w.records w.state.count base (chunks * S) ≡ false → bad_count chunks ≡ false → base % S ≡ 0 → w.state.count < 32
        → P (resume S w.records w.stamps w.state.count w.state.mark (reserved_arena base chunks commit exclusive) waiting))
        → P (rules S w ns settings (answer ForMemory true base))
    yes-cases chunks bytes commit exclusive waiting base is unusable go =
        answer-cases ForMemory true base
        (λ e f. subst (λ (q : Question). P (answer_to S w.records w.stamps w.state.count w.state.mark q true base)) (sym is)
        (memory-cases S w.records w.stamps w.state.count w.state.mark P chunks bytes commit exclusive waiting base
        (subst (λ (q : Question). P (outcome (Refused Range) (world_of w.records w.stamps (state_with w.state.count w.state.mark q)))) is (down _)) unusable (go e)))
