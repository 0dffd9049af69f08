-- Rows 1 and 2, then a reserve, which writes nothing.
use Rattle.state.proofs.Prelude.{refl, sym, ◌∙◌}
use Rattle.layer.specs.Registering.{reserve_of}
use Rattle.layer.specs.Step.{reserve}
use Rattle.state.proofs.Entry.{turned-down, let-act}
use Rattle.registering.proofs.reserve_os_memory_ex.Goals as goal

pub returns-in-Err : goal.returns-in-Err
returns-in-Err c =
    let a = c.args in
    rw c.refuse.ensures
    (turned-down a.records.now a.stamps.now a.state a.ns a.settings c.in-Err.why (sym c.rows_one_and_two.ensures ∙ c.in-Err.is)
    (reserve a.size a.commit a.allow_large a.exclusive))

pub returns : goal.returns
unfolding reserve_of
returns c =
    let a = c.args in
    let-act a.records.now a.stamps.now a.state a.ns a.settings _ (sym c.rows_one_and_two.ensures ∙ c.in_default.is)
    (reserve a.size a.commit a.allow_large a.exclusive) _ _ _ (c.reserve.ensures, refl, refl)
