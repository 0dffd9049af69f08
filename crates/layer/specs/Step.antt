-- One call: the rules of document 01, with what document 02 changes, put together. Assumes nothing.
use Rattle.std.specs.Prelude.{◌&&◌, ◌∷◌, is_some}
use Rattle.layer.specs.Prelude.{Bool, cond, not, List, [], ℕ, ltb, ℤ, pos, negsuc, Broken, QuestionOpen, now_ms, delay_ms, never_purges, Arena, Commitment, bytes_of, Settings, Sweep, Question, Kind, Answer, Owns, Area}
use Rattle.layer.specs.World.{World, Outcome, size_of, state_with, world_of, reply, after, refuse, first_of}
use Rattle.layer.specs.Table.{at, find_arena, sound}
use Rattle.layer.specs.Registering.{reserve_of, manage_of, adopt_of}
use Rattle.layer.specs.Claiming.{claim_of}
use Rattle.layer.specs.Releasing.{release_of}
use Rattle.layer.specs.Sweeping.{swept_reply, sweep_from}
use Rattle.layer.specs.Answering.{is_idle, answer_of}

-- what is done where no question is open; later requests add cases
pub data Act : Type 0 where
  reserve : ℕ → Bool → Bool → Bool → Act  -- size, commit, allow large, exclusive
  manage : ℕ → ℕ → Bool → ℤ → Bool → Bool → Act  -- start, size, exclusive, node; the host's facts: in the segment map, reserved
  adopt : ℕ → ℕ → Act  -- address, size
  -- arena id, chunks, whether a commit question is put: `chunk_alloc` (1, true), `chunk_claim` (1, false), `chunk_alloc_n` (n, true)
  claim : ℤ → ℕ → Bool → Act
  release : ℕ → ℕ → Commitment → Bool → Act  -- address, chunks, what is told of commitment, pending
  sweep : Bool → Act  -- force

-- "Queries (`owns`, `arena_area`) know 1 only."
pub data Query : Type 0 where
  owns : ℕ → Query  -- address
  area : ℤ → Query  -- arena id

-- the calls of the layer
pub data Call : Type 0 where
  act : Act → Call
  query : Query → Call
  answer : Kind → Bool → ℕ → Call  -- kind, yes, base

-- "A sweep keeps its first clock and settings until it ends."
abbrev pub sweep_of : Bool → ℕ → Settings → Sweep
sweep_of force ns settings =
    record { force = force; now = now_ms ns; delay = delay_ms settings.delay; decommit = settings.decommits; purged = 0 }

-- document 02, wish 2: with a negative delay "a pending release stamps nothing, marks nothing and arms nothing"; it is one that is not pending
abbrev pub stays_pending : Settings → Bool → Bool
stays_pending settings pending = pending && not (never_purges settings.delay)

-- document 02, wish 2: then "an unforced sweep puts no question and leaves deadlines; a forced sweep works as before"
abbrev pub sweeps_none : Settings → Bool → Bool
sweeps_none settings force = not force && never_purges settings.delay

-- "`arena_area` answers base and chunks × S, or 0 and 0."
abbrev pub area_of : ℕ → List Arena → ℕ → ℤ → Answer
area_of S l k (pos i) = cond (ltb i k) (Area (at l i).base (bytes_of S (at l i))) (Area 0 0)
area_of S l k (negsuc i) = Area 0 0

-- a call on a sound table
module _ (S : ℕ) (l : List Arena) (stamps : List ℕ) (k : ℕ) (mark : Bool) (q : Question) (ns : ℕ) (settings : Settings) where
  -- the rows of the call's own, and what it does
  abbrev pub act_on : Act → Outcome
  act_on (reserve size commit large exclusive) = reserve_of S l stamps k mark size commit large exclusive settings.page
  act_on (manage start size exclusive node mapped reserved) = manage_of S l stamps k mark start size exclusive node mapped reserved
  act_on (adopt address size) = adopt_of S l stamps k mark address size
  act_on (claim id n commits) = claim_of S l stamps k mark id n commits settings
  act_on (release address n told pending) = release_of S l stamps k mark address n told (stays_pending settings pending) (now_ms ns) (delay_ms settings.delay)
  act_on (sweep force) =
      cond (sweeps_none settings force) (after (swept_reply k mark (sweep_of force ns settings)) l stamps) (sweep_from S stamps k mark (sweep_of force ns settings) k 0 l)

  abbrev pub query_on : Query → Answer
  query_on (owns address) = Owns (is_some (find_arena S l k address))
  query_on (area id) = area_of S l k id

  -- "then 2, or 3 for answers; then the call's own"
  abbrev pub step_on : Call → Outcome
  step_on (act a) = first_of (refuse (world_of l stamps (state_with k mark q)) QuestionOpen (not (is_idle q)) ∷ []) (act_on a)
  step_on (query c) = after (reply (query_on c) (state_with k mark q)) l stamps
  step_on (answer kind granted base) = answer_of S l stamps k mark q kind granted base

-- THE RULES, of chunks of S bytes: any call on any lent table. "Order: 1; then 2, or 3 for answers; then the call's own."
unfoldable pub rules : ℕ → World → ℕ → Settings → Call → Outcome
rules S w ns settings c =
    first_of (refuse w Broken (not (sound S w settings.page)) ∷ [])
    (step_on S w.records w.stamps w.state.count w.state.mark w.state.question ns settings c)

-- a call of the layer, on a table of its own chunk size
abbrev pub step : World → ℕ → Settings → Call → Outcome
step w ns settings c = rules (size_of w.state) w ns settings c
