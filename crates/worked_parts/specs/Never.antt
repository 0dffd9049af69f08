-- One lent table: a chunk is released as pending, then the table is swept and the sweep is answered. Assumes nothing.
use Rattle.std.specs.Prelude.{Bool, true, ℕ, get_or}
use Rattle.arena.specs.declared.Arena.{Arena}
use Rattle.arena.specs.declared.Commitment.{Commitment}
use Rattle.layer.specs.declared.Settings.{Settings}
use Rattle.layer.specs.declared.Reply.{Reply}
use Rattle.layer.specs.declared.Kind.TheVariants.{ForPurge}
use Rattle.layer.specs.World.{World, Outcome, reply_in}
use Rattle.layer.specs.Table.{at}
use Rattle.layer.specs.Step.{release, sweep, act, answer, step}
use Rattle.worked_parts.specs.declared.never.Left.{Left}

-- the chunk at an address is released as pending
abbrev pub released_in : World → ℕ → Settings → ℕ → Commitment → Outcome
released_in w ns settings address told = step w ns settings (act (release address 1 told true))

-- then the table is swept
abbrev pub swept_after : Outcome → ℕ → Settings → Bool → Outcome
swept_after o ns settings force = step o.world ns settings (act (sweep force))

abbrev pub left_with : Reply → Arena → ℕ → Reply → Arena → Reply → Left
left_with released arena stamp swept kept answered = record { released = released; arena = arena; stamp = stamp; swept = swept; kept = kept; answered = answered }

-- what a sweep p after a release o leaves, where its question is answered yes
abbrev pub left_by : Outcome → Outcome → ℕ → Settings → ℕ → Left
left_by o p ns settings chunk =
    left_with (reply_in o) (at o.world.records 0) (get_or o.world.stamps chunk 0) (reply_in p) (at p.world.records 0) (reply_in (step p.world ns settings (answer ForPurge true 0)))

-- after a release: arena 0 and the stamp of one of its chunks, a sweep, arena 0 again, and a yes to the sweep's question
abbrev pub left_after : Outcome → ℕ → Settings → ℕ → Bool → Left
left_after o ns settings chunk force = left_by o (swept_after o ns settings force) ns settings chunk
