-- The records and the stamps move, then the second's table is emptied.
use Rattle.std.proofs.Common.{◌∙◌}
use Rattle.joining.proofs.JoinLaws.{stamps-empty}
use Rattle.joining.proofs.unite.Goals as goal

pub returns : goal.returns
returns c = (c.move_records.ensures, c.move_stamps.ensures, c.empty_records.ensures, c.empty_stamps.ensures ∙ stamps-empty)
