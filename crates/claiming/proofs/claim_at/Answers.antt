-- Rows 1 and 2, then a claim. The machine holds the id's bits, and reads back the id that came in.
use Rattle.state.proofs.Prelude.{sym, ◌∙◌}
use Rattle.std.proofs.Math.Facts.{to_z-of_z}
use Rattle.layer.specs.Step.{claim}
use Rattle.state.proofs.Entry.{turned-down, handed, let-act}
use Rattle.claiming.proofs.claim_at.Goals as goal

pub returns-in-Err : goal.returns-in-Err
returns-in-Err c =
    let a = c.args in
    λ ns. rw c.refuse.ensures
    (turned-down a.records.now a.stamps.now a.state ns a.settings c.in-Err.why (sym c.rows_one_and_two.ensures ∙ c.in-Err.is) (claim a.id a.n a.commits))

pub claim-requires : goal.claim-requires
claim-requires c =
    let a = c.args in
    (handed a.records.now a.stamps.now a.state 0 a.settings _ (sym c.rows_one_and_two.ensures ∙ c.in_default.is)).0

pub returns : goal.returns
returns c =
    let a = c.args in
    λ ns. let-act a.records.now a.stamps.now a.state ns a.settings _ (sym c.rows_one_and_two.ensures ∙ c.in_default.is)
    (claim a.id a.n a.commits) _ _ _ (rw (to_z-of_z c.ranges.id) at (c.claim.ensures a.stamps.now))
