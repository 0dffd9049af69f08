-- What a question is about: a run of an arena's chunks, or none. Assumes nothing.
use Rattle.std.specs.Prelude.{Bool, true, ◌+◌, ◌*◌, leb, Option, Some, None}
use Rattle.layer.specs.declared.Question.{Question}
use Rattle.layer.specs.declared.Question.TheVariants.{Idle, Committing, Purging, Reserving, GivingBack}
use Rattle.table.specs.declared.open_question.AskedRun.{AskedRun}

abbrev pub asked_run : Question → Option AskedRun
asked_run Idle = None
asked_run (Committing id start n) = Some (record { id = id; start = start; n = n })
asked_run (Purging id chunk sweep) = Some (record { id = id; start = chunk; n = 1 })
asked_run (Reserving chunks bytes commit exclusive waiting) = None
asked_run (GivingBack cause waiting) = None

-- broken is "an open sweep whose count is above 1,024 × the asked arena's id + the asked chunk"
abbrev pub sound_count : Question → AskedRun → Bool
sound_count Idle run = true
sound_count (Committing id start n) run = true
sound_count (Purging id chunk sweep) run = leb sweep.purged (1024 * run.id + run.start)
sound_count (Reserving chunks bytes commit exclusive waiting) run = true
sound_count (GivingBack cause waiting) run = true
