-- A clone of a record is that record.
use Rattle.std.proofs.Common.{ℕ, replicate, ap₂, ◌∙◌}
use Rattle.arena.specs.declared.Arena.{Arena}
use Rattle.joining.proofs.JoinLaws.{records-empty}
use Rattle.joining.proofs.empty_records.Goals as goal

pub returns : goal.returns
returns c = c.fill.ensures.after (λ y e. e) ∙ ap₂ (λ (n : ℕ) (a : Arena). replicate n a) c.requires c.blank_arena.ensures ∙ records-empty
