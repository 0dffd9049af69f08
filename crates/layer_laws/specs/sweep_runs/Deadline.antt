-- The next deadline of an arena. Document 01, "Sweeping": "Unforced, a pending chunk, used or not, younger than the delay (now − stamp, wrapping)
-- gives a next deadline of stamp + delay, wrapping, the earliest counted from now being rearmed after the arena". The definition that computes it,
-- `rearm`, counts the waits from now on; here it is said as the document says it. `stamps` are the arena's own. Assumes nothing.
use Rattle.std.specs.Prelude.{◌≡◌, Bool, true, false, List, ℕ, ◌^◌, ◌<◌, ◌≤◌, get_or}
use Rattle.bitmap.specs.Bits.{bit_at}
use Rattle.clock.specs.Clock.{or_one, now_ms, delay_ms, minus, plus}
use Rattle.arena.specs.declared.Arena.{Arena}
use Rattle.arena.specs.Sweeping.{sweep_due, rearm}
use Rattle.arena.specs.Stamps.{stamps_of}
use Rattle.layer.specs.declared.Settings.{Settings}
use Rattle.layer.specs.World.{World}
use Rattle.layer.specs.Table.{at}
use Rattle.layer.specs.Step.{sweeps_none}
use Rattle.layer_laws.specs.sweep_runs.Run.{Made, is_open, run_sweep}

module _ (a : Arena) (stamps : List ℕ) (now delay : ℕ) where
  -- chunk j gives a deadline: it is "a pending chunk, used or not, younger than the delay (now − stamp, wrapping)"
  pub record Gives (j : ℕ) : Type 0 where
    pub here : j < a.chunks
    pub pending : bit_at a.pending j ≡ true
    pub younger : minus now (get_or stamps j 0) < delay

  -- the deadline that it gives: "stamp + delay, wrapping"
  abbrev pub given : ℕ → ℕ
  given j = plus (get_or stamps j 0) delay

  -- the deadline that is armed: "the earliest counted from now", 0 becoming 1 as `arm` has it; none, which is 0, where no chunk gives one
  pub data Next : ℕ → Type 0 where
    earliest : (j : ℕ) → Gives j → ((i : ℕ) → Gives i → minus (given j) now ≤ minus (given i) now) → Next (or_one (given j))
    none : ((j : ℕ) → Gives j → ⊥) → Next 0

-- numbers of the clock: below 2^32
abbrev pub Clocked : List ℕ → ℕ → ℕ → Type 0
Clocked stamps now delay = (now < 2 ^ 32) × (delay < 2 ^ 32) × ((j : ℕ) → get_or stamps j 0 < 2 ^ 32)

-- so an arena that was disarmed is rearmed; after a forced sweep it stays disarmed
abbrev pub Rearmed : Type 0
Rearmed = (a : Arena) (stamps : List ℕ) (now delay : ℕ) → Clocked stamps now delay → a.deadline ≡ 0 → Next a stamps now delay (rearm a stamps false now delay).deadline

abbrev pub StaysDisarmed : Type 0
StaysDisarmed = (a : Arena) (stamps : List ℕ) (now delay : ℕ) → a.deadline ≡ 0 → (rearm a stamps true now delay).deadline ≡ 0

-- ---- over a whole sweep

-- the deadline of an arena that was due, when the sweep is past it; a forced sweep judges no age
abbrev pub After : Bool → Arena → List ℕ → ℕ → ℕ → ℕ → Type 0
After true a stamps now delay due = due ≡ 0
After false a stamps now delay due = Next a stamps now delay due

-- a is the arena's record at the sweep's start: "Deadline 0: skipped. Unforced, skipped if due differs from now and [..]. Otherwise disarmed."
abbrev pub DeadlineLeft : Bool → Arena → List ℕ → ℕ → ℕ → ℕ → Type 0
DeadlineLeft force a stamps now delay due = (sweep_due a force now ≡ true → After force a stamps now delay due) × (sweep_due a force now ≡ false → due ≡ a.deadline)

-- a sweep on the world w that goes over the arenas, and then any calls until it ends: what it has left of each arena's deadline. One that goes over none, by document 02's
-- wish 2, leaves every deadline (`never`)
abbrev pub DeadlinesLeft : ℕ → World → ℕ → Settings → Bool → List Made → Type 0
DeadlinesLeft S w ns settings force calls =
    let r = run_sweep S w ns settings force calls in
    sweeps_none settings force ≡ false → is_open r ≡ false → (i : ℕ) → i < w.state.count
    → DeadlineLeft force (at w.records i) (stamps_of w.stamps i) (now_ms ns) (delay_ms settings.delay) (at r.last.world.records i).deadline
