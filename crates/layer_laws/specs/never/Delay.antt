-- What wish 2 of document 02, "minus one means never", says of a negative purge delay, of anything that answers calls; and that from 0 on document 01's rules stand. Rows 1 and 2 come
-- first. Assumes nothing.
use Rattle.std.specs.Prelude.{◌≡◌, Bool, true, false, not, List, [], ◌∷◌, ℕ, min, ℤ, pos, negsuc}
use Rattle.refusals.specs.declared.Refusal.TheVariants.{Broken, QuestionOpen}
use Rattle.clock.specs.Clock.{now_ms}
use Rattle.arena.specs.declared.Commitment.{Commitment}
use Rattle.layer.specs.declared.Settings.{Settings}
use Rattle.layer.specs.declared.Sweep.{Sweep}
use Rattle.layer.specs.declared.Answer.TheVariants.{Swept}
use Rattle.layer.specs.World.{World, Outcome, outcome, size_of, Row, refuse, first_of}
use Rattle.layer.specs.Table.{at, sound}
use Rattle.layer.specs.Answering.{is_idle}
use Rattle.layer.specs.Releasing.{release_of}
use Rattle.layer.specs.Sweeping.{sweep_from}
use Rattle.layer.specs.Step.{reserve, manage, adopt, claim, release, sweep, Call, act, query, answer, step}

-- what is done with a call
abbrev pub Handler : Type 0
Handler = World → ℕ → Settings → Call → Outcome

-- the settings with another purge delay; "A negative delay" is −1 − m, for any m
abbrev pub with_delay : Settings → ℤ → Settings
with_delay settings d = record { delay = d; decommits = settings.decommits; off = settings.off; reserve = settings.reserve; page = settings.page }

abbrev pub below : Settings → ℕ → Settings
below settings m = with_delay settings (negsuc m)

-- "Order: 1; then 2"
abbrev pub first_rows : World → Settings → List (Row Outcome)
first_rows w settings = refuse w Broken (not (sound (size_of w.state) w settings.page)) ∷ refuse w QuestionOpen (not (is_idle w.state.question)) ∷ []

-- ---- releases

-- v has the stamps, the pending bits and the deadlines of w
pub record NothingPended (w v : World) : Type 0 where
  pub stamps : v.stamps ≡ w.stamps
  pub marks : (i : ℕ) → (at v.records i).pending ≡ (at w.records i).pending
  pub deadlines : (i : ℕ) → (at v.records i).deadline ≡ (at w.records i).deadline

-- "a pending release stamps nothing, marks nothing and arms nothing", and takes no older mark away
abbrev pub PendsNothing : Handler → Type 0
PendsNothing D =
    (w : World) (ns : ℕ) (settings : Settings) (m address n : ℕ) (told : Commitment) (pending : Bool)
    → NothingPended w (D w ns (below settings m) (act (release address n told pending))).world

-- what it does besides is document 01's: a release that is not pending, which no delay moves
abbrev pub ReleasesUnpended : Handler → Type 0
ReleasesUnpended D =
    (w : World) (ns : ℕ) (settings : Settings) (m address n : ℕ) (told : Commitment) (pending : Bool)
    → D w ns (below settings m) (act (release address n told pending)) ≡ step w ns (with_delay settings (pos 0)) (act (release address n told false))

-- ---- sweeps

-- "an unforced sweep puts no question and leaves deadlines": it has swept none, and nothing moves
abbrev pub UnforcedLeavesAll : Handler → Type 0
UnforcedLeavesAll D =
    (w : World) (ns : ℕ) (settings : Settings) (m : ℕ) → D w ns (below settings m) (act (sweep false)) ≡ first_of (first_rows w settings) (outcome (Swept 0) w)

-- "a forced sweep works as before": as with a delay of 0
abbrev pub ForcedAsBefore : Handler → Type 0
ForcedAsBefore D =
    (w : World) (ns : ℕ) (settings : Settings) (m : ℕ) → D w ns (below settings m) (act (sweep true)) ≡ step w ns (with_delay settings (pos 0)) (act (sweep true))

-- ---- "Document 01's clamp then holds for delays from 0"

abbrev pub ReleasesFromZero : Handler → Type 0
ReleasesFromZero D =
    (w : World) (ns : ℕ) (settings : Settings) (d address n : ℕ) (told : Commitment) (pending : Bool)
    → D w ns (with_delay settings (pos d)) (act (release address n told pending))
    ≡ first_of (first_rows w settings)
    (release_of (size_of w.state) w.records w.stamps w.state.count w.state.mark address n told pending (now_ms ns) (min d 1073741823))

abbrev pub clamped : Bool → ℕ → Settings → ℕ → Sweep
clamped force ns settings d = record { force = force; now = now_ms ns; delay = min d 1073741823; decommit = settings.decommits; purged = 0 }

abbrev pub SweepsFromZero : Handler → Type 0
SweepsFromZero D =
    (w : World) (ns : ℕ) (settings : Settings) (d : ℕ) (force : Bool)
    → D w ns (with_delay settings (pos d)) (act (sweep force))
    ≡ first_of (first_rows w settings)
    (sweep_from (size_of w.state) w.stamps w.state.count w.state.mark (clamped force ns settings d) w.state.count 0 w.records)

-- ---- the other calls

abbrev pub reads_delay : Call → Bool
reads_delay (act (release address n told pending)) = true
reads_delay (act (sweep force)) = true
reads_delay (act (reserve size commit large exclusive)) = false
reads_delay (act (manage start size exclusive node mapped reserved)) = false
reads_delay (act (adopt address size)) = false
reads_delay (act (claim id n commits)) = false
reads_delay (query c) = false
reads_delay (answer kind granted base) = false

-- no other call is moved by the delay: an answer to a sweep's question goes on by the settings of the call that began it
abbrev pub OthersReadNone : Handler → Type 0
OthersReadNone D =
    (w : World) (ns : ℕ) (settings : Settings) (d : ℤ) (c : Call) → reads_delay c ≡ false → D w ns (with_delay settings d) c ≡ step w ns settings c

-- WISH 2, of what answers calls
pub record MeansNever (D : Handler) : Type 0 where
  pub pends-nothing : PendsNothing D
  pub releases-unpended : ReleasesUnpended D
  pub unforced-leaves-all : UnforcedLeavesAll D
  pub forced-as-before : ForcedAsBefore D
  pub releases-from-zero : ReleasesFromZero D
  pub sweeps-from-zero : SweepsFromZero D
  pub others-read-none : OthersReadNone D
