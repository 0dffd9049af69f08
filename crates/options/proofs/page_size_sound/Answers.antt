-- The five page sizes of the match, and no other.
use Rattle.std.proofs.Common.{sym, arith}
use Rattle.walks.proofs.Prelude.{⊎_elim}
use Rattle.options.proofs.OptionLaws.{five-sound, not_five}
use Rattle.options.proofs.page_size_sound.Goals as goal

pub returns-in-4096 : goal.returns-in-4096
returns-in-4096 c = sym (five-sound c.args.page c.in-4096.is)

pub returns-in_default : goal.returns-in_default
returns-in_default c = sym (not_five c.args.page (λ five. ⊎_elim (λ e. omega arith) (⊎_elim (λ e. omega arith) (⊎_elim (λ e. omega arith) (⊎_elim (λ e. omega arith) (λ e. omega arith)))) five))
