-- Item after item.
use Rattle.std.proofs.Common.{◌∙◌}
use Rattle.release_lists.proofs.ListLaws.{turns}
use Rattle.release_lists.proofs.release_each.Goals as goal

pub loop-j-preserved : goal.loop-j-preserved
loop-j-preserved c =
    let a = c.args in
    let l = c.loop-j in
    turns a.records.now a.stamps.now a.addresses.now a.counts.now a.answers.now a.state a.ns a.settings a.pending l.j l.records l.stamps l.answers l.invariant c.loop-j-test.true c.requires.1 (l.auto.answers ∙ c.requires.2)
    c.release_item.result c.release_item.new.records c.release_item.new.stamps c.release_item.ensures
