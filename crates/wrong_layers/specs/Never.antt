-- Wrong readings of wish 2, each as what it does with a call, and that each fails the wish's sentences. All but the first do as the rules do but for one thing. Assumes nothing.
use Rattle.std.specs.Prelude.{Bool, true, false, cond, not, ◌&&◌, zero, suc, eqb, ℤ, pos, negsuc, set}
use Rattle.clock.specs.Clock.{delay_ms, never_purges}
use Rattle.arena.specs.declared.Arena.{Arena}
use Rattle.arena.specs.declared.Commitment.TheVariants.{Untold}
use Rattle.arena.specs.Registering.{no_bits}
use Rattle.arena.specs.Record.{with_pending, with_deadline}
use Rattle.layer.specs.declared.Answer.TheVariants.{Swept}
use Rattle.layer.specs.World.{World, Outcome, outcome, world_of, calm}
use Rattle.layer.specs.Table.{at}
use Rattle.layer.specs.Step.{reserve, manage, adopt, claim, release, sweep, Call, act, query, answer, step}
use Rattle.layer.specs.History.{is_answer}
use Rattle.layer_laws.specs.never.Delay.{Handler, with_delay, MeansNever}
use Rattle.layer_laws.specs.documented.Options.{SaidNever, NothingPurged}
use Rattle.wrong_layers.specs.Wrong.{but_calls}

-- ---- with another delay

abbrev pub delayed_by : (ℤ → ℤ) → Handler
delayed_by other w ns settings c = step w ns (with_delay settings (other settings.delay)) c

-- the rules before the wish: the clamp alone, so that a negative delay is 0
abbrev pub clamp_only : Handler
clamp_only = delayed_by (λ d. pos (delay_ms d))

-- −1 alone means never
abbrev pub minus_one : ℤ → ℤ
minus_one (pos n) = pos n
minus_one (negsuc zero) = negsuc zero
minus_one (negsuc (suc m)) = pos 0

abbrev pub minus_one_only : Handler
minus_one_only = delayed_by minus_one

-- never is the longest delay
abbrev pub longest : ℤ → ℤ
longest (pos n) = pos n
longest (negsuc m) = pos 1073741823

abbrev pub longest_delay : Handler
longest_delay = delayed_by longest

-- the test is of the clamped delay: 0 means never too
abbrev pub clamped_zero : Handler
clamped_zero = delayed_by (λ d. cond (eqb (delay_ms d) 0) (negsuc 0) d)

-- ---- pending releases with a negative delay

abbrev pub is_pending : Call → Bool
is_pending (act (release address n told pending)) = pending
is_pending (act (reserve size commit large exclusive)) = false
is_pending (act (manage start size exclusive node mapped reserved)) = false
is_pending (act (adopt address size)) = false
is_pending (act (claim id n commits)) = false
is_pending (act (sweep force)) = false
is_pending (query c) = false
is_pending (answer kind granted base) = false

-- what comes of one, by what the rules make of it and by what the clamp alone makes of it
abbrev pub but_pending : (World → Outcome → Outcome → Outcome) → Handler
but_pending wrong w ns settings c =
    cond (never_purges settings.delay && is_pending c) (wrong w (step w ns settings c) (clamp_only w ns settings c)) (step w ns settings c)

-- the first record is changed
abbrev pub changed_first : (Arena → Arena) → Outcome → Outcome
changed_first change o = outcome o.answer (world_of (set o.world.records 0 (change (at o.world.records 0))) o.world.stamps o.world.state)

-- nothing at all is done: the used bits stay
abbrev pub keeps_used : Handler
keeps_used = but_pending (λ w right clamp. outcome right.answer w)

-- the marks are taken away
abbrev pub unmarks : Handler
unmarks = but_pending (λ w right clamp. changed_first (λ a. with_pending a no_bits) right)

-- it stamps, marks or arms still
abbrev pub stamps_still : Handler
stamps_still = but_pending (λ w right clamp. outcome right.answer (world_of right.world.records clamp.world.stamps right.world.state))

abbrev pub marks_still : Handler
marks_still = but_pending (λ w right clamp. changed_first (λ a. with_pending a (at clamp.world.records 0).pending) right)

abbrev pub arms_still : Handler
arms_still = but_pending (λ w right clamp. changed_first (λ a. with_deadline a (at clamp.world.records 0).deadline) right)

-- what is told is not obeyed
abbrev pub untold : Call → Call
untold (act (release address n told pending)) = act (release address n Untold pending)
untold (act (reserve size commit large exclusive)) = act (reserve size commit large exclusive)
untold (act (manage start size exclusive node mapped reserved)) = act (manage start size exclusive node mapped reserved)
untold (act (adopt address size)) = act (adopt address size)
untold (act (claim id n commits)) = act (claim id n commits)
untold (act (sweep force)) = act (sweep force)
untold (query c) = query c
untold (answer kind granted base) = answer kind granted base

abbrev pub tells_nothing : Handler
tells_nothing w ns settings c = cond (never_purges settings.delay && is_pending c) (step w ns settings (untold c)) (step w ns settings c)

-- ---- sweeps with a negative delay

abbrev pub is_sweep : Bool → Call → Bool
is_sweep forced (act (sweep force)) = cond forced force (not force)
is_sweep forced (act (release address n told pending)) = false
is_sweep forced (act (reserve size commit large exclusive)) = false
is_sweep forced (act (manage start size exclusive node mapped reserved)) = false
is_sweep forced (act (adopt address size)) = false
is_sweep forced (act (claim id n commits)) = false
is_sweep forced (query c) = false
is_sweep forced (answer kind granted base) = false

abbrev pub but_sweeps : Bool → (World → Outcome → Outcome) → Handler
but_sweeps forced wrong w ns settings c = cond (never_purges settings.delay && is_sweep forced c) (wrong w (step w ns settings c)) (step w ns settings c)

-- an unforced one disarms, or comes before rows 1 and 2
abbrev pub disarms : Handler
disarms = but_sweeps false (λ w right. changed_first (λ a. with_deadline a 0) right)

abbrev pub before_rows : Handler
before_rows = but_sweeps false (λ w right. outcome (Swept 0) w)

-- a forced one finds nothing
abbrev pub forced_finds_none : Handler
forced_finds_none = but_sweeps true (λ w right. outcome (Swept 0) w)

-- an answer ends the sweep that another delay began
abbrev pub answers_end : Handler
answers_end w ns settings c =
    cond (never_purges settings.delay && is_answer c) (outcome (Swept 0) (world_of w.records w.stamps (calm w.state.count w.state.mark))) (step w ns settings c)

-- ---- each fails

pub record NeverFails : Type 0 where
  pub clamp-only : MeansNever clamp_only → ⊥
  pub minus-one-only : MeansNever minus_one_only → ⊥
  pub longest-delay : MeansNever longest_delay → ⊥
  pub clamped-zero : MeansNever clamped_zero → ⊥
  pub keeps-used : MeansNever keeps_used → ⊥
  pub unmarks-runs : MeansNever unmarks → ⊥
  pub stamps-still : MeansNever stamps_still → ⊥
  pub marks-still : MeansNever marks_still → ⊥
  pub arms-still : MeansNever arms_still → ⊥
  pub tells-nothing : MeansNever tells_nothing → ⊥
  pub disarms-due : MeansNever disarms → ⊥
  pub before-rows : MeansNever before_rows → ⊥
  pub forced-finds-none : MeansNever forced_finds_none → ⊥
  pub answers-end : MeansNever answers_end → ⊥
  -- and the rules before the wish purge where mimalloc.h documents never
  pub clamp-purges : NothingPurged SaidNever (but_calls clamp_only) → ⊥
