-- Wish 2 of the rules: a negative delay means never, and from 0 on document 01's rules stand. Assumes nothing.
use Rattle.std.specs.Prelude.{◌≡◌}
use Rattle.layer.proofs.Prelude.{refl, sym, ap, ◌∙◌, subst, true, false, cond, not, true≢false, List, ⊎_elim, ℕ, ℕ_discrete, pos, length, set, lt-or-le, Broken, never_purges, delay_ms, Arena, Commitment, Untold, Committed, Uncommitted, give_back_run, release_run, tell_run, World, Outcome, outcome, state_with, world_of, at, sound, claim_of, miss_reply, swept_reply, claim, reserve, manage, adopt, release, sweep, act, query, answer, rules, step}
use lib.Seq.{set_out}
use Rattle.refusals.specs.declared.Refusal.TheVariants.{QuestionOpen}
use Rattle.layer.specs.declared.Settings.{Settings}
use Rattle.layer.specs.declared.Question.{Question}
use Rattle.layer.specs.declared.Question.TheVariants.{Idle, Committing, Purging, Reserving, GivingBack}
use Rattle.layer.specs.declared.Answer.TheVariants.{Refused, Swept}
use Rattle.layer.specs.World.{size_of}
use Rattle.layer.specs.Answering.{is_idle}
use Rattle.layer.proofs.Tools.{at_same, at_other}
use Rattle.layer.proofs.Cases.{release-in-cases, release-cases}
use Rattle.layer.proofs.Calls.{act-cases}
use Rattle.layer_laws.specs.never.Delay.{with_delay, NothingPended, PendsNothing, ReleasesUnpended, UnforcedLeavesAll, ForcedAsBefore, ReleasesFromZero, SweepsFromZero, OthersReadNone, MeansNever}

-- ---- a record after a store that leaves one thing of it

pub stays_at : {A : Type 0} (f : Arena → A) (l : List Arena) (i : ℕ) (a : Arena) → f a ≡ f (at l i) → (j : ℕ) → f (at (set l i a) j) ≡ f (at l j)
stays_at {A} f l i a e j = go (ℕ_discrete j i)
  where
    here : f (at (set l i a) i) ≡ f (at l i)
    here = ⊎_elim (λ h. ap f (at_same l i a h) ∙ e) (λ h. ap (λ (m : List Arena). f (at m i)) (set_out l i a h)) (lt-or-le i (length l))

    go : Dec (j ≡ i) → f (at (set l i a) j) ≡ f (at l j)
    go (yes d) = subst (λ (x : ℕ). f (at (set l i a) x) ≡ f (at l x)) (sym d) here
    go (no d) = ap f (at_other l i j a d)

-- ---- releases

releases-unpended : ReleasesUnpended step
unfolding rules never_purges delay_ms
releases-unpended w ns settings m address n told true = refl
releases-unpended w ns settings m address n told false = refl

-- a run that is given back and told of is not marked, and its arena not armed
told-pending : (a : Arena) (s n : ℕ) (told : Commitment) → (tell_run (give_back_run a s n) s n told).pending ≡ a.pending
unfolding tell_run give_back_run
told-pending a s n Untold = refl
told-pending a s n Committed = refl
told-pending a s n Uncommitted = refl

pub told-deadline : (a : Arena) (s n : ℕ) (told : Commitment) → (tell_run (give_back_run a s n) s n told).deadline ≡ a.deadline
unfolding tell_run give_back_run
told-deadline a s n Untold = refl
told-deadline a s n Committed = refl
told-deadline a s n Uncommitted = refl

module _ (S : ℕ) (w : World) (ns : ℕ) (settings : Settings) (address n : ℕ) (told : Commitment) where
  abbrev l : List Arena
  l = w.records

  abbrev P : Outcome → Type 0
  P o = NothingPended w o.world

  same : (q : Question) → NothingPended w (world_of l w.stamps (state_with w.state.count w.state.mark q))
  same q = record { stamps = refl; marks = λ i. refl; deadlines = λ i. refl }

  unpended : P (rules S w ns settings (act (release address n told false)))
  unfolding release_run
  unpended =
      act-cases S w ns settings P (λ why. same _) (release address n told false)
      (λ e idle. release-cases S l w.stamps w.state.count w.state.mark P n told false _ _ address (λ f. same _) (λ f g. same _)
      (λ i f h g. release-in-cases S l w.stamps w.state.count w.state.mark P n told false _ _ i _ (λ x. same _) (λ x y. same _)
      (λ x y. record {
        stamps = refl;
        marks = stays_at (λ (a : Arena). a.pending) l i _ (told-pending (at l i) _ n told);
        deadlines = stays_at (λ (a : Arena). a.deadline) l i _ (told-deadline (at l i) _ n told);
      })))

pends-nothing : PendsNothing step
pends-nothing w ns settings m address n told pending =
    subst (λ (o : Outcome). NothingPended w o.world) (sym (releases-unpended w ns settings m address n told pending)) (unpended (size_of w.state) w ns (with_delay settings (pos 0)) address n told)

releases-from-zero : ReleasesFromZero step
unfolding rules never_purges delay_ms
releases-from-zero w ns settings d address n told true = refl
releases-from-zero w ns settings d address n told false = refl

-- ---- sweeps

-- past row 2 no question is open
past_two : (q : Question) (x : Outcome) (f : Question → Outcome) → cond (not (is_idle q)) x (f Idle) ≡ cond (not (is_idle q)) x (f q)
past_two Idle x f = refl
past_two (Committing i s n) x f = refl
past_two (Purging i j w) x f = refl
past_two (Reserving chunks bytes commit exclusive waiting) x f = refl
past_two (GivingBack cause waiting) x f = refl

unforced-leaves-all : UnforcedLeavesAll step
unfolding rules never_purges swept_reply
unforced-leaves-all w ns settings m =
    ap (λ (o : Outcome). cond (not (sound (size_of w.state) w settings.page)) (outcome (Refused Broken) w) o)
    (past_two w.state.question (outcome (Refused QuestionOpen) w) (λ q. outcome (Swept 0) (world_of w.records w.stamps (state_with w.state.count w.state.mark q))))

forced-as-before : ForcedAsBefore step
unfolding rules delay_ms
forced-as-before w ns settings m = refl

sweeps-from-zero : SweepsFromZero step
unfolding rules never_purges delay_ms
sweeps-from-zero w ns settings d true = refl
sweeps-from-zero w ns settings d false = refl

-- ---- the other calls

others-read-none : OthersReadNone step
unfolding rules claim_of miss_reply
others-read-none w ns settings d (act (reserve size commit large exclusive)) e = refl
others-read-none w ns settings d (act (manage start size exclusive node mapped reserved)) e = refl
others-read-none w ns settings d (act (adopt address size)) e = refl
others-read-none w ns settings d (act (claim id n commits)) e = refl
others-read-none w ns settings d (act (release address n told pending)) e = absurd (true≢false e)
others-read-none w ns settings d (act (sweep force)) e = absurd (true≢false e)
others-read-none w ns settings d (query c) e = refl
others-read-none w ns settings d (answer kind granted base) e = refl

pub means-never : MeansNever step
means-never = record {
  pends-nothing = pends-nothing;
  releases-unpended = releases-unpended;
  unforced-leaves-all = unforced-leaves-all;
  forced-as-before = forced-as-before;
  releases-from-zero = releases-from-zero;
  sweeps-from-zero = sweeps-from-zero;
  others-read-none = others-read-none;
}
