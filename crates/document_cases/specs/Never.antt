-- Wish 2 of document 02, worked by hand: the smallest tables that tell its readings apart, over the rules. Each case is an equation of the answer and of all that is left. Assumes nothing.
use Rattle.std.specs.Prelude.{◌≡◌, Bool, true, false, List, ◌∷◌, ℕ, ◌*◌, ◌+◌, ℤ, pos, negsuc, replicate}
use Rattle.refusals.specs.declared.Refusal.{Refusal}
use Rattle.refusals.specs.declared.Refusal.TheVariants.{Broken, QuestionOpen, Zero, NotWhole, NotInside, PastEnd}
use Rattle.arena.specs.declared.Commitment.{Commitment}
use Rattle.arena.specs.declared.Commitment.TheVariants.{Untold, Committed, Uncommitted}
use Rattle.layer.specs.declared.Settings.{Settings}
use Rattle.layer.specs.declared.Question.{Question}
use Rattle.layer.specs.declared.Question.TheVariants.{Idle, Purging}
use Rattle.layer.specs.declared.Kind.TheVariants.{ForPurge}
use Rattle.layer.specs.declared.Ask.TheVariants.{AskPurge}
use Rattle.layer.specs.declared.Answer.{Answer}
use Rattle.layer.specs.declared.Answer.TheVariants.{Refused, Asks, Released, Swept}
use Rattle.layer.specs.World.{World, outcome}
use Rattle.layer.specs.Step.{release, sweep, Call, act, answer, step}
use Rattle.document_cases.specs.Refused.{S, short}
use Rattle.document_cases.specs.Joined.{row, one, stamp_in0}

-- ---- the table: an arena of 4 chunks at 32 S. Chunk 1 was released at 10 ms, and the deadline is 20 ms

abbrev pub base : ℕ
base = 32 * S

-- the first words of the used, the committed and the pending map, and the deadline
abbrev pub table_of : ℕ → ℕ → ℕ → ℕ → List ℕ → Question → World
table_of used committed pending deadline stamps q =
    one (record {
      base = base;
      chunks = 4;
      exclusive = 1;
      owned = 1;
      node = negsuc 0;
      deadline = deadline;
      used = row used;
      dirty = row 7;
      committed = row committed;
      pending = row pending;
    }) stamps false q

-- chunks 0 and 2 are held
abbrev pub older : World
older = table_of 5 7 2 20 stamp_in0 Idle

-- no chunk is pending, and no deadline is set
abbrev pub calmer : World
calmer = table_of 5 7 0 0 stamp_in0 Idle

-- the questions of a sweep at 50 ms, and its yes answers so far
abbrev pub purge_at : Bool → ℕ → ℕ → Question
purge_at force chunk purged = Purging 0 chunk (record { force = force; now = 50; delay = 0; decommit = false; purged = purged })

-- ---- the calls, at 50 ms

abbrev pub at_delay : ℤ → Settings
at_delay d = record { delay = d; decommits = false; off = false; reserve = 0; page = 4096 }

abbrev pub Says : ℤ → World → Call → Answer → World → Type 0
Says d w c answers v = step w 50000000 (at_delay d) c ≡ outcome answers v

-- with a delay of −1, of −2, and with the least of 64 bits
abbrev pub SaysBelow : World → Call → Answer → World → Type 0
SaysBelow w c answers v = Says (negsuc 0) w c answers v × Says (negsuc 1) w c answers v × Says (negsuc 9223372036854775807) w c answers v

-- a refusal leaves everything
abbrev pub RefusesBelow : World → Call → Refusal → Type 0
RefusesBelow w c why = SaysBelow w c (Refused why) w

-- a release of one chunk, pending
abbrev pub freed : ℕ → Commitment → Call
freed chunk told = act (release (base + chunk * S) 1 told true)

-- ---- what holds

pub record NeverCases : Type 0 where
  -- "a pending release stamps nothing, marks nothing and arms nothing": the used bit is clear, and the older mark, stamp and deadline stand
  pub marks-nothing : SaysBelow older (freed 0 Untold) Released (table_of 4 7 2 20 stamp_in0 Idle)
  pub arms-nothing : SaysBelow calmer (freed 0 Untold) Released (table_of 4 7 0 0 stamp_in0 Idle)
  -- over a chunk that is pending still: it stays so
  pub unmarks-nothing : SaysBelow older (freed 1 Untold) Released older
  -- what is told of commitment is obeyed
  pub told-committed : SaysBelow older (freed 3 Committed) Released (table_of 5 15 2 20 stamp_in0 Idle)
  pub told-uncommitted : SaysBelow older (freed 0 Uncommitted) Released (table_of 4 6 2 20 stamp_in0 Idle)
  -- 0 is not below 0: it stamps, marks and arms
  pub zero-marks : Says (pos 0) older (freed 0 Untold) Released (table_of 4 7 3 20 (50 ∷ 10 ∷ replicate 32766 0) Idle)
  pub zero-arms : Says (pos 0) calmer (freed 0 Untold) Released (table_of 4 7 1 50 (50 ∷ 10 ∷ replicate 32766 0) Idle)
  -- "an unforced sweep puts no question and leaves deadlines", due ones too
  pub leaves-due : SaysBelow older (act (sweep false)) (Swept 0) older
  pub zero-asks : Says (pos 0) older (act (sweep false)) (Asks (AskPurge (33 * S) S false)) (table_of 7 7 2 0 stamp_in0 (purge_at false 1 0))
  -- "a forced sweep works as before", and finds nothing where nothing was marked
  pub forced-asks : SaysBelow older (act (sweep true)) (Asks (AskPurge (33 * S) S false)) (table_of 7 7 2 0 stamp_in0 (purge_at true 1 0))
  pub forced-finds-none : SaysBelow calmer (act (sweep true)) (Swept 0) calmer
  -- an answer reads no delay: a sweep that a delay of 0 began goes on to chunk 3
  pub goes_on : SaysBelow (table_of 7 7 10 0 stamp_in0 (purge_at false 1 0)) (answer ForPurge true 0) (Asks (AskPurge (35 * S) S false)) (table_of 13 7 8 0 stamp_in0 (purge_at false 3 1))
  -- rows 1 and 2 come first, then the release's own
  pub broken-release : RefusesBelow short (freed 0 Untold) Broken
  pub broken-sweep : RefusesBelow short (act (sweep false)) Broken
  pub open-release : RefusesBelow (table_of 7 7 2 0 stamp_in0 (purge_at true 1 0)) (freed 0 Untold) QuestionOpen
  pub open-sweep : RefusesBelow (table_of 7 7 2 0 stamp_in0 (purge_at true 1 0)) (act (sweep false)) QuestionOpen
  pub none-released : RefusesBelow older (act (release base 0 Untold true)) Zero
  pub outside : RefusesBelow older (act (release (36 * S) 1 Untold true)) NotInside
  pub part : RefusesBelow older (act (release (base + 1) 1 Untold true)) NotWhole
  pub past_the_end : RefusesBelow older (act (release base 5 Untold true)) PastEnd
