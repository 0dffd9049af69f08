-- Rows 1 and 2, then a manage.
use Rattle.state.proofs.Prelude.{sym, ◌∙◌}
use Rattle.std.proofs.Math.Facts.{to_z-of_z}
use Rattle.layer.specs.Step.{manage}
use Rattle.state.proofs.Entry.{turned-down, handed, let-act}
use Rattle.registering.proofs.manage_os_memory_ex.Goals as goal

pub returns-in-Err : goal.returns-in-Err
returns-in-Err c =
    let a = c.args in
    rw c.refuse.ensures
    (turned-down a.records.now a.stamps.now a.state a.ns a.settings c.in-Err.why (sym c.rows_one_and_two.ensures ∙ c.in-Err.is)
    (manage a.start a.size a.exclusive a.node a.mapped a.reserved))

pub manage-requires : goal.manage-requires
manage-requires c =
    let a = c.args in
    handed a.records.now a.stamps.now a.state a.ns a.settings _ (sym c.rows_one_and_two.ensures ∙ c.in_default.is)

pub returns : goal.returns
returns c =
    let a = c.args in
    let-act a.records.now a.stamps.now a.state a.ns a.settings _ (sym c.rows_one_and_two.ensures ∙ c.in_default.is)
    (manage a.start a.size a.exclusive a.node a.mapped a.reserved) _ _ _ (rw (to_z-of_z c.ranges.node) at c.manage.ensures)
