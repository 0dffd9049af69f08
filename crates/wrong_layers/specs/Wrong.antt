-- Wrong layers, each as what it does with a call, and the statement that each fails: demand 3, refusal 10's sentence, or, where demand 2 alone rules it out, to answer
-- and leave what the rules say. Most do as the rules do but for one kind of call. Assumes nothing.
use Rattle.std.specs.Prelude.{◌≡◌, Bool, true, false, cond, not, ◌&&◌, List, [], ◌∷◌, ℕ, zero, suc, ◌+◌, ◌-◌, ◌*◌, ◌^◌, eqb, ltb, pos, negsuc, set}
use Rattle.refusals.specs.declared.Refusal.{Refusal}
use Rattle.refusals.specs.declared.Refusal.TheVariants.{NoSuchQuestion, Range, NoRun, ChunkCount, TableFull}
use Rattle.arena.specs.declared.Arena.{Arena}
use Rattle.arena.specs.Flags.{is_on}
use Rattle.arena.specs.Registering.{no_bits}
use Rattle.arena.specs.Record.{with_pending}
use Rattle.arena.specs.Claiming.{dirty_run}
use Rattle.layer.specs.declared.Settings.{Settings}
use Rattle.layer.specs.declared.Question.{Question}
use Rattle.layer.specs.declared.Question.TheVariants.{Idle, Committing, Purging, Reserving, GivingBack}
use Rattle.layer.specs.declared.Waiting.TheVariants.{Reserve, Claim}
use Rattle.layer.specs.declared.Unusable.TheVariants.{Count}
use Rattle.layer.specs.declared.Answer.{Answer}
use Rattle.layer.specs.declared.Answer.TheVariants.{Refused, Asks, Registered, Claimed, Released, Swept, Owns, Area}
use Rattle.layer.specs.World.{World, Outcome, outcome, world_of, state_with, size_of}
use Rattle.layer.specs.Table.{at}
use Rattle.layer.specs.Answering.{kind_open}
use Rattle.layer.specs.Step.{reserve, manage, adopt, claim, release, sweep, Call, act, query, answer, step}
use Rattle.layer.specs.Listing.{release_list}
use Rattle.layer.specs.Joining.{join}
use Rattle.layer.specs.History.{Layer, is_answer}
use Rattle.layer.specs.Demand.{Demand3}
use Rattle.layer.specs.Ten.{TenExactly}

-- ---- which call it is

abbrev pub is_claim : Call → Bool
is_claim (act (claim id n commits)) = true
is_claim (act (reserve size commit large exclusive)) = false
is_claim (act (manage from size exclusive node mapped reserved)) = false
is_claim (act (adopt address size)) = false
is_claim (act (release address n tell pending)) = false
is_claim (act (sweep force)) = false
is_claim (query c) = false
is_claim (answer kind accepted base) = false

abbrev pub is_shared : Call → Bool
is_shared (act (claim (negsuc i) n commits)) = true
is_shared (act (claim (pos i) n commits)) = false
is_shared (act (reserve size commit large exclusive)) = false
is_shared (act (manage from size exclusive node mapped reserved)) = false
is_shared (act (adopt address size)) = false
is_shared (act (release address n tell pending)) = false
is_shared (act (sweep force)) = false
is_shared (query c) = false
is_shared (answer kind accepted base) = false

abbrev pub is_release : Call → Bool
is_release (act (release address n tell pending)) = true
is_release (act (claim id n commits)) = false
is_release (act (reserve size commit large exclusive)) = false
is_release (act (manage from size exclusive node mapped reserved)) = false
is_release (act (adopt address size)) = false
is_release (act (sweep force)) = false
is_release (query c) = false
is_release (answer kind accepted base) = false

abbrev pub is_query : Call → Bool
is_query (act a) = false
is_query (query c) = true
is_query (answer kind accepted base) = false

-- the size of a range that it manages, and its end; 0 if it manages none
abbrev pub managed_size : Call → ℕ
managed_size (act (manage from size exclusive node mapped reserved)) = size
managed_size (act (claim id n commits)) = 0
managed_size (act (reserve size commit large exclusive)) = 0
managed_size (act (adopt address size)) = 0
managed_size (act (release address n tell pending)) = 0
managed_size (act (sweep force)) = 0
managed_size (query c) = 0
managed_size (answer kind accepted base) = 0

abbrev pub managed_end : Call → ℕ
managed_end (act (manage from size exclusive node mapped reserved)) = from + size
managed_end (act (claim id n commits)) = 0
managed_end (act (reserve size commit large exclusive)) = 0
managed_end (act (adopt address size)) = 0
managed_end (act (release address n tell pending)) = 0
managed_end (act (sweep force)) = 0
managed_end (query c) = 0
managed_end (answer kind accepted base) = 0

-- ---- what it does instead

-- its lists and joins go by the rules
abbrev pub but_calls : (World → ℕ → Settings → Call → Outcome) → Layer
but_calls does = record { does = does; lists = release_list; joins = join }

-- the rules, but where the test holds
abbrev pub but_where : (World → Call → Bool) → (World → Outcome → Outcome) → Layer
but_where test wrong = but_calls (λ w ns settings c. cond (test w c) (wrong w (step w ns settings c)) (step w ns settings c))

abbrev pub refuses : Refusal → World → Outcome → Outcome
refuses why w o = outcome (Refused why) w

-- ---- claims and releases

-- "a claim that says 10 before looking, or always"
abbrev pub ten_always : Layer
ten_always = but_where (λ w c. is_claim c) (refuses NoRun)

abbrev pub ten_before_looking : Layer
ten_before_looking = but_where (λ w c. is_shared c) (refuses NoRun)

-- "one granting chunk 0 each time"
abbrev pub chunk_zero : Layer
chunk_zero = but_where (λ w c. is_claim c) (λ w o. outcome (Claimed (at w.records 0).base false true) o.world)

-- "A release that changes nothing"
abbrev pub releases_nothing : Layer
releases_nothing = but_where (λ w c. is_release c) (λ w o. outcome o.answer w)

-- ---- questions

abbrev pub shared_commit : World → Question → Bool
shared_commit w Idle = false
shared_commit w (Committing i s n) = not (is_on (at w.records i).exclusive)
shared_commit w (Purging i j v) = false
shared_commit w (Reserving chunks bytes commit exclusive waiting) = false
shared_commit w (GivingBack cause waiting) = false

-- an answer to a commit question about a shared arena gets 3, and the question stays open
abbrev pub three_for_yes : Layer
three_for_yes = but_where (λ w c. is_answer c && shared_commit w w.state.question) (refuses NoSuchQuestion)

-- a give-back question never closes
abbrev pub gives_back_for_ever : Layer
gives_back_for_ever = but_where (λ w c. is_answer c && eqb (kind_open w.state.question) 4) (λ w o. outcome o.answer w)

-- a query leaves a question open
abbrev pub nagging : Layer
nagging = but_where (λ w c. is_query c) (λ w o. outcome o.answer (world_of w.records w.stamps (state_with w.state.count w.state.mark (GivingBack Count Reserve))))

-- a claim that waited for memory is told where the last of its chunks is
abbrev pub waits_for : Question → ℕ
waits_for Idle = 0
waits_for (Committing i s n) = 0
waits_for (Purging i j v) = 0
waits_for (Reserving chunks bytes commit exclusive Reserve) = 0
waits_for (Reserving chunks bytes commit exclusive (Claim n commits)) = n
waits_for (GivingBack cause waiting) = 0

abbrev pub raised : ℕ → Answer → Answer
raised x (Claimed address fresh committed) = Claimed (address + x) fresh committed
raised x (Refused why) = Refused why
raised x (Asks ask) = Asks ask
raised x (Registered id) = Registered id
raised x Released = Released
raised x (Swept count) = Swept count
raised x (Owns whether) = Owns whether
raised x (Area base bytes) = Area base bytes

abbrev pub last_chunk : Layer
last_chunk = but_where (λ w c. is_answer c) (λ w o. outcome (raised ((waits_for w.state.question - 1) * size_of w.state) o.answer) o.world)

-- ---- registering

-- arenas of more than 512 chunks, or that end above 2^42, are turned down, or any where one stands
abbrev pub small_only : Layer
small_only = but_where (λ w c. ltb (512 * size_of w.state) (managed_size c)) (refuses ChunkCount)

abbrev pub low_only : Layer
low_only = but_where (λ w c. ltb (2 ^ 42) (managed_end c)) (refuses Range)

abbrev pub full_at_one : Layer
full_at_one = but_where (λ w c. ltb 0 w.state.count && ltb 0 (managed_size c)) (refuses TableFull)

-- memory that comes for an exclusive arena is turned down
abbrev pub exclusive_asked : Question → Bool
exclusive_asked Idle = false
exclusive_asked (Committing i s n) = false
exclusive_asked (Purging i j v) = false
exclusive_asked (Reserving chunks bytes commit exclusive waiting) = exclusive
exclusive_asked (GivingBack cause waiting) = false

abbrev pub none_reserved : Layer
none_reserved =
    but_where (λ w c. is_answer c && exclusive_asked w.state.question)
    (λ w o. outcome (Refused TableFull) (world_of w.records w.stamps (state_with w.state.count w.state.mark Idle)))

-- a query fills the table with arenas that nobody registered, so that 13 comes
abbrev pub dummy : ℕ → Arena
dummy i = record { base = i * 33554432; chunks = 1; exclusive = 0; owned = 0; node = negsuc 0; deadline = 0; used = no_bits; dirty = no_bits; committed = no_bits; pending = no_bits }

abbrev pub dummies : ℕ → ℕ → List Arena
dummies zero i = []
dummies (suc n) i = dummy i ∷ dummies n (suc i)

abbrev pub fills_the_table : Layer
fills_the_table = but_where (λ w c. is_query c) (λ w o. outcome o.answer (world_of (dummies 32 1) w.stamps (state_with 32 w.state.mark Idle)))

-- a query leaves a table that row 1 does not let pass, so that no program can bring a sound one
abbrev pub breaks_its_table : Layer
breaks_its_table = but_where (λ w c. is_query c) (λ w o. outcome o.answer (world_of w.records w.stamps (state_with 33 w.state.mark Idle)))

-- ---- sweeps and bits: what demand 2 alone rules out

-- "Marking chunks dirty before a commit is answered no"
abbrev pub dirtied : List Arena → Question → List Arena
dirtied l Idle = l
dirtied l (Committing i s n) = set l i (dirty_run (at l i) s n)
dirtied l (Purging i j v) = l
dirtied l (Reserving chunks bytes commit exclusive waiting) = l
dirtied l (GivingBack cause waiting) = l

abbrev pub dirty_before_yes : Layer
dirty_before_yes = but_where (λ w c. is_claim c) (λ w o. outcome o.answer (world_of (dirtied o.world.records o.world.state.question) o.world.stamps o.world.state))

-- "A sweep that asks its first question and then only counts, or invents the count"
abbrev pub one_more : Answer → Answer
one_more (Swept count) = Swept (suc count)
one_more (Refused why) = Refused why
one_more (Asks ask) = Asks ask
one_more (Registered id) = Registered id
one_more (Claimed address fresh committed) = Claimed address fresh committed
one_more Released = Released
one_more (Owns whether) = Owns whether
one_more (Area base bytes) = Area base bytes

abbrev pub invents_count : Layer
invents_count = but_where (λ w c. true) (λ w o. outcome (one_more o.answer) o.world)

abbrev pub asks_once : Layer
asks_once = but_where (λ w c. is_answer c && eqb (kind_open w.state.question) 2) (λ w o. outcome (Swept 2) (world_of o.world.records o.world.stamps (state_with w.state.count w.state.mark Idle)))

-- "Clearing the pending bit of a chunk in use"
abbrev pub clears_pending : Layer
clears_pending = but_where (λ w c. not (is_answer c)) (λ w o. outcome o.answer (world_of (set o.world.records 0 (with_pending (at o.world.records 0) no_bits)) o.world.stamps o.world.state))

-- ---- each fails

-- it answers and leaves what the rules say
abbrev pub IsRules : Layer → Type 0
IsRules L = (w : World) (ns : ℕ) (settings : Settings) (c : Call) → L.does w ns settings c ≡ step w ns settings c

pub record ClaimsFail : Type 0 where
  pub ten-always : Demand3 ten_always → ⊥
  pub chunk-zero : Demand3 chunk_zero → ⊥
  pub releases-nothing : Demand3 releases_nothing → ⊥
  pub ten-before-looking : TenExactly ten_before_looking → ⊥

pub record QuestionsFail : Type 0 where
  pub three-for-yes : Demand3 three_for_yes → ⊥
  pub gives-back-for-ever : Demand3 gives_back_for_ever → ⊥
  pub nagging-one : Demand3 nagging → ⊥
  pub last-chunk : Demand3 last_chunk → ⊥

pub record RegisteringFails : Type 0 where
  pub small-only : Demand3 small_only → ⊥
  pub low-only : Demand3 low_only → ⊥
  pub full-at-one : Demand3 full_at_one → ⊥
  pub fills-the-table : Demand3 fills_the_table → ⊥
  pub none-reserved : Demand3 none_reserved → ⊥
  pub breaks-its-table : Demand3 breaks_its_table → ⊥

pub record SweepsFail : Type 0 where
  pub dirty-before-yes : IsRules dirty_before_yes → ⊥
  pub invents-count : IsRules invents_count → ⊥
  pub asks-once : IsRules asks_once → ⊥
  pub clears-pending : IsRules clears_pending → ⊥
