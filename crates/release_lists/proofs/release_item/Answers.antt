-- The core, not told.
use Rattle.std.proofs.Common.{◌∙◌}
use Rattle.release_lists.proofs.ListLaws.{core-ready, item-left}
use Rattle.release_lists.proofs.release_item.Goals as goal

pub release-r-requires : goal.release-r-requires
release-r-requires c = let a = c.args in core-ready a.records.now a.stamps.now a.state a.ns a.settings c.requires

pub returns : goal.returns
returns c =
    let a = c.args in
    let w = item-left a.records.now a.stamps.now a.state a.ns a.settings a.address a.count a.pending c.requires c.release-r.result c.release-r.new.records c.release-r.new.stamps c.release-r.ensures in
    (c.number_of.ensures ∙ w.0, w.1, w.2)
