-- Rows 1, 2 and 19, then the items.
use Rattle.std.proofs.Common.{◌∙◌, sym}
use Rattle.release_lists.proofs.ListLaws.{turned-down, length-row, items-ready, released-row}
use Rattle.release_lists.proofs.chunk_release_list.Goals as goal

pub returns-in-Err : goal.returns-in-Err
returns-in-Err c =
    let a = c.args in
    let w = turned-down a.records.now a.stamps.now a.addresses.now a.counts.now a.answers.now a.state a.ns a.settings a.pending c.in-Err.why (sym c.rows_one_and_two.ensures ∙ c.in-Err.is) in
    ((c.refuse.ensures ∙ w.0.0, w.0.1, w.0.2), w.1)

pub returns-then-not-fits : goal.returns-then-not-fits
returns-then-not-fits c =
    let a = c.args in
    let w = length-row a.records.now a.stamps.now a.addresses.now a.counts.now a.answers.now a.state a.ns a.settings a.pending c.in_default.field-0 (sym c.rows_one_and_two.ensures ∙ c.in_default.is) cc in
    ((c.refuse-then-not-fits.ensures ∙ w.0.0, w.0.1, w.0.2), w.1)

pub release_each-requires : goal.release_each-requires
release_each-requires c =
    let a = c.args in
    items-ready a.records.now a.stamps.now a.addresses.now a.counts.now a.answers.now a.state a.ns a.settings a.pending c.in_default.field-0 (sym c.rows_one_and_two.ensures ∙ c.in_default.is) cc

pub returns : goal.returns
returns c =
    let a = c.args in
    let w = released-row a.records.now a.stamps.now a.addresses.now a.counts.now a.answers.now a.state a.ns a.settings a.pending c.in_default.field-0 (sym c.rows_one_and_two.ensures ∙ c.in_default.is) cc in
    ((c.released.ensures ∙ w.0.0, c.release_each.ensures.0 ∙ w.0.1, c.release_each.ensures.1 ∙ w.0.2), c.release_each.ensures.2 ∙ w.1)
