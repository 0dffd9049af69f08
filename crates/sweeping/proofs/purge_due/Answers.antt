-- Rows 1 and 2, then the core.
use Rattle.std.proofs.Common.{◌∙◌, sym}
use Rattle.layer.specs.Step.{sweep}
use Rattle.state.proofs.Entry.{turned-down, handed, let-act}
use Rattle.sweeping.proofs.purge_due.Goals as goal

pub returns-in-Err : goal.returns-in-Err
returns-in-Err c =
    let a = c.args in
    let w = turned-down a.records.now a.stamps.now a.state a.ns a.settings c.in-Err.why (sym c.rows_one_and_two.ensures ∙ c.in-Err.is) (sweep a.force) in
    (c.refuse.ensures ∙ w.0, w.1, w.2)

pub sweep-requires : goal.sweep-requires
sweep-requires c = let a = c.args in handed a.records.now a.stamps.now a.state a.ns a.settings c.in_default.field-0 (sym c.rows_one_and_two.ensures ∙ c.in_default.is)

pub returns : goal.returns
returns c =
    let a = c.args in
    let-act a.records.now a.stamps.now a.state a.ns a.settings c.in_default.field-0 (sym c.rows_one_and_two.ensures ∙ c.in_default.is)
    (sweep a.force) c.sweep.result c.sweep.new.records a.stamps.now c.sweep.ensures
