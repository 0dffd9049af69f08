-- Rows 1 and 2, then an adopt.
use Rattle.state.proofs.Prelude.{sym, ◌∙◌}
use Rattle.layer.specs.Step.{adopt}
use Rattle.state.proofs.Entry.{turned-down, handed, let-act}
use Rattle.registering.proofs.adopt_os_block.Goals as goal

pub returns-in-Err : goal.returns-in-Err
returns-in-Err c =
    let a = c.args in
    rw c.refuse.ensures
    (turned-down a.records.now a.stamps.now a.state a.ns a.settings c.in-Err.why (sym c.rows_one_and_two.ensures ∙ c.in-Err.is) (adopt a.address a.size))

pub adopt-requires : goal.adopt-requires
adopt-requires c =
    let a = c.args in
    handed a.records.now a.stamps.now a.state a.ns a.settings _ (sym c.rows_one_and_two.ensures ∙ c.in_default.is)

pub returns : goal.returns
returns c =
    let a = c.args in
    let-act a.records.now a.stamps.now a.state a.ns a.settings _ (sym c.rows_one_and_two.ensures ∙ c.in_default.is)
    (adopt a.address a.size) _ _ _ c.adopt.ensures
