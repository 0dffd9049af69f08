-- The answer's entry point: row 3, and behind it the core. Assumes nothing.
use Rattle.std.specs.Prelude.{◌≡◌}
use Rattle.state.proofs.Prelude.{refl, sym, ap, ◌∙◌, subst, Bool, true, false, not, true≢false, List, ℕ, NoSuchQuestion, when, unless, Arena, Settings, State, Question, Idle, Committing, Purging, Reserving, GivingBack, Kind, ForCommit, ForPurge, ForMemory, ForGiveBack, Reply, Outcome, size_of, world_of, Leaves, turn_down, is_idle, is_for, answer_to, answer_of, answer, step}
use Rattle.layer.specs.declared.Kind.TheVariants.{ForNone}
use Rattle.state.proofs.Entry.{Passes, comes, goes}

-- no answer is for no question
pub is_open : (q : Question) (kind : Kind) → is_for q kind ≡ true → is_idle q ≡ false
unfolding is_for
is_open Idle ForCommit e = absurd (true≢false (sym e))
is_open Idle ForPurge e = absurd (true≢false (sym e))
is_open Idle ForMemory e = absurd (true≢false (sym e))
is_open Idle ForGiveBack e = absurd (true≢false (sym e))
is_open Idle ForNone e = absurd (true≢false (sym e))
is_open (Committing id start n) kind e = refl
is_open (Purging id chunk sweep) kind e = refl
is_open (Reserving chunks bytes commit exclusive waiting) kind e = refl
is_open (GivingBack cause waiting) kind e = refl

module _ (l : List Arena) (stamps : List ℕ) (state : State) (ns : ℕ) (settings : Settings) (kind : Kind) (granted : Bool) (base : ℕ) where
  abbrev out : Outcome
  out = step (world_of l stamps state) ns settings (answer kind granted base)

  module _ (passes : Passes l stamps state ns settings) where
    pub other_row : is_for state.question kind ≡ false → Leaves out (turn_down NoSuchQuestion state) l stamps
    unfolding answer_of
    other_row e = comes out _ l stamps (goes l stamps state ns settings passes (answer kind granted base) ∙ when _ _ _ (ap not e))

    pub answered : is_for state.question kind ≡ true → (r : Reply) (m : List Arena) (t : List ℕ)
        → Leaves (answer_to (size_of state) l stamps state.count state.mark state.question granted base) r m t → Leaves out r m t
    unfolding answer_of
    answered e r m t h = subst (λ (o : Outcome). Leaves o r m t) (sym (goes l stamps state ns settings passes (answer kind granted base) ∙ unless _ _ _ (ap not e))) h
