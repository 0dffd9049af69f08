-- Rows 1 and 2, then the core.
use Rattle.std.proofs.Common.{◌∙◌, sym}
use Rattle.layer.specs.Step.{release}
use Rattle.state.proofs.Entry.{turned-down, handed, let-act}
use Rattle.releasing.proofs.chunk_release.Goals as goal

pub returns-in-Err : goal.returns-in-Err
returns-in-Err c =
    let a = c.args in
    let w = turned-down a.records.now a.stamps.now a.state a.ns a.settings c.in-Err.why (sym c.rows_one_and_two.ensures ∙ c.in-Err.is) (release a.address a.n a.told a.pending) in
    (c.refuse.ensures ∙ w.0, w.1, w.2)

pub release-requires : goal.release-requires
release-requires c = let a = c.args in handed a.records.now a.stamps.now a.state a.ns a.settings c.in_default.field-0 (sym c.rows_one_and_two.ensures ∙ c.in_default.is)

pub returns : goal.returns
returns c =
    let a = c.args in
    let-act a.records.now a.stamps.now a.state a.ns a.settings c.in_default.field-0 (sym c.rows_one_and_two.ensures ∙ c.in_default.is)
    (release a.address a.n a.told a.pending) c.release.result c.release.new.records c.release.new.stamps c.release.ensures
