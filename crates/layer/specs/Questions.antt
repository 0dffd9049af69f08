-- What each call leaves of the open question, of any layer. Document 01: "a question is open from where the rules above put it until they close it"; "answering closes
-- the question (1, 3 and 6 keep it open)". Demand 3 reads what is open off the rules' own run; this says what that run does, call by call. Assumes nothing.
use Rattle.std.specs.Prelude.{◌≡◌, Bool, true, false, ◌⊎◌, ℕ, ◌+◌, ◌*◌, ◌^◌, ◌<◌, ◌≤◌}
use Rattle.refusals.specs.declared.Refusal.{Refusal}
use Rattle.refusals.specs.declared.Refusal.TheVariants.{QuestionOpen, NoSuchQuestion, Range}
use Rattle.layer.specs.declared.Settings.{Settings}
use Rattle.layer.specs.declared.Sweep.{Sweep}
use Rattle.layer.specs.declared.Question.{Question}
use Rattle.layer.specs.declared.Question.TheVariants.{Idle, Committing, Purging, Reserving, GivingBack}
use Rattle.layer.specs.declared.Waiting.{Waiting}
use Rattle.layer.specs.declared.Waiting.TheVariants.{Reserve, Claim}
use Rattle.layer.specs.declared.Unusable.{Unusable}
use Rattle.layer.specs.declared.Ask.{Ask}
use Rattle.layer.specs.declared.Ask.TheVariants.{AskMemory}
use Rattle.layer.specs.declared.Answer.{Answer}
use Rattle.layer.specs.declared.Answer.TheVariants.{Refused, Asks}
use Rattle.layer.specs.World.{World, Outcome, size_of}
use Rattle.layer.specs.Table.{sound}
use Rattle.layer.specs.Answering.{is_for}
use Rattle.layer.specs.Step.{reserve, Call, act, query, answer}
use Rattle.layer.specs.History.{Layer, Registrable}

-- "Each refusal leaves all state and lent memory untouched"
abbrev pub TurnedDown : Refusal → World → Outcome → Type 0
TurnedDown why w o = (o.answer ≡ Refused why) × (o.world ≡ w)

-- the claim that waited puts its commit question, if one waited
abbrev pub CommitOf : Waiting → Question → Type 0
CommitOf Reserve v = ⊥
CommitOf (Claim n commits) v = (i : ℕ) × (s : ℕ) × (v ≡ Committing i s n)

-- v is open after an answer r to q, of its kind
abbrev pub AfterAnswer : World → ℕ → Question → Answer → Question → Type 0
AfterAnswer w base Idle r v = ⊥
AfterAnswer w base (Committing i s n) r v = v ≡ Idle
-- a sweep goes on: the next chunk that it asks about stands behind the one that it asked about
AfterAnswer w base (Purging i j x) r v = (v ≡ Idle) ⊎ ((i' : ℕ) × (j' : ℕ) × (x' : Sweep) × (v ≡ Purging i' j' x') × (1024 * i + j < 1024 * i' + j'))
-- 6 keeps it open, and comes only if the range is not free; a block that cannot be registered is given back; a claim that waited may put its commit question
AfterAnswer w base (Reserving chunks bytes commit exclusive waiting) r v =
    ((r ≡ Refused Range) × (v ≡ Reserving chunks bytes commit exclusive waiting) × (Registrable w base chunks → ⊥))
    ⊎ ((r ≡ Refused Range → ⊥) × ((v ≡ Idle) ⊎ (((cause : Unusable) × (v ≡ GivingBack cause waiting)) ⊎ CommitOf waiting v)))
AfterAnswer w base (GivingBack cause waiting) r v = v ≡ Idle

-- where no question is open an act leaves none open but one that it puts; where one is, it is turned down
abbrev pub AfterAct : World → Question → Outcome → Type 0
AfterAct w Idle o = (o.world.state.question ≡ Idle) ⊎ ((ask : Ask) × (o.answer ≡ Asks ask))
AfterAct w (Committing i s n) o = TurnedDown QuestionOpen w o
AfterAct w (Purging i j x) o = TurnedDown QuestionOpen w o
AfterAct w (Reserving chunks bytes commit exclusive waiting) o = TurnedDown QuestionOpen w o
AfterAct w (GivingBack cause waiting) o = TurnedDown QuestionOpen w o

abbrev pub AfterCall : World → Call → Outcome → Type 0
AfterCall w (act a) o = AfterAct w w.state.question o
AfterCall w (query c) o = o.world ≡ w
AfterCall w (answer kind accepted base) o =
    (is_for w.state.question kind ≡ true → AfterAnswer w base w.state.question o.answer o.world.state.question)
    × (is_for w.state.question kind ≡ false → TurnedDown NoSuchQuestion w o)

-- of every call on every lent world that row 1 lets pass
abbrev pub QuestionsByRules : Layer → Type 0
QuestionsByRules L =
    (w : World) (ns : ℕ) (settings : Settings) (c : Call) → sound (size_of w.state) w settings.page ≡ true → AfterCall w c (L.does w ns settings c)

-- a reserve of 1 byte or more, rounded up to n whole chunks, asks for their bytes unless "that product, or it plus S, passes 2^64 − 1"
abbrev pub ReservesAsk : Layer → Type 0
ReservesAsk L =
    (w : World) (ns : ℕ) (settings : Settings) (size n : ℕ) (commit large exclusive : Bool) → sound (size_of w.state) w settings.page ≡ true → w.state.question ≡ Idle
    → 0 < size → size ≤ n * size_of w.state → n * size_of w.state < size + size_of w.state → n * size_of w.state + size_of w.state < 2 ^ 64
    → (L.does w ns settings (act (reserve size commit large exclusive))).answer ≡ Asks (AskMemory (n * size_of w.state) (size_of w.state) commit large)
