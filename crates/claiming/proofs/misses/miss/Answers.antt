-- A miss: which test decides. The machine holds the id's bits, and reads back the id that came in.
use Rattle.state.proofs.Prelude.{◌∙◌}
use Rattle.std.proofs.Math.Facts.{to_z-of_z}
use Rattle.claiming.proofs.MissLaws.{miss-plain, miss-gives-up, miss-asks}
use Rattle.claiming.proofs.misses.miss.Goals as goal

pub returns-then-not-may_reserve : goal.returns-then-not-may_reserve
returns-then-not-may_reserve c =
    let a = c.args in
    c.no_such_run.ensures ∙ miss-plain a.chunk_size.bytes a.state.count a.state.mark a.id a.n a.commits a.settings (cc (to_z-of_z c.ranges.id))

pub returns-then-too_large : goal.returns-then-too_large
returns-then-too_large c =
    let a = c.args in
    c.no_such_run-then-too_large.ensures ∙ miss-gives-up a.chunk_size.bytes a.state.count a.state.mark a.id a.n a.commits a.settings (cc (to_z-of_z c.ranges.id)) (cc)

pub returns : goal.returns
returns c =
    let a = c.args in
    c.ask_memory.ensures ∙ miss-asks a.chunk_size.bytes a.state.count a.state.mark a.id a.n a.commits a.settings (cc (to_z-of_z c.ranges.id)) (cc)
