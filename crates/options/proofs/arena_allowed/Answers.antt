-- The machine holds the id's bits, and reads back the id that came in.
use Rattle.std.proofs.Common.{not, ap, ◌∙◌, pos, to_z-of_z}
use Rattle.walks.proofs.Prelude.{le_z}
use Rattle.options.proofs.OptionLaws.{allowed-off, allowed-on}
use Rattle.options.proofs.arena_allowed.Goals as goal

pub returns-then-not-arenas_off : goal.returns-then-not-arenas_off
returns-then-not-arenas_off c = allowed-off c.args.arenas_off c.args.id (ap not c.if-not-arenas_off.true)

pub returns-else-not-arenas_off : goal.returns-else-not-arenas_off
returns-else-not-arenas_off c =
    ap (le_z (pos 0)) (to_z-of_z c.ranges.id) ∙ allowed-on c.args.arenas_off c.args.id (ap not c.if-not-arenas_off.false)
