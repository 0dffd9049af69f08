-- Block after block, as the definition has it.
use Rattle.layer.specs.World.{world_of}
use Rattle.worked_parts.proofs.JoinsLaws.{none-adopted, block_more}
use Rattle.worked_parts.proofs.joins.adopt_blocks.Goals as goal

pub loop-i-init : goal.loop-i-init
loop-i-init c =
    let a = c.args in
    none-adopted (world_of a.records.now a.stamps.now a.side.state) a.side

pub loop-i-preserved : goal.loop-i-preserved
loop-i-preserved c =
    let a = c.args in
    let l = c.loop-i in
    let r = c.adopt_os_block-r in
    let says = rw c.no_options.ensures at (rw c.block_at-address.ensures at r.ensures) in
    block_more (world_of a.records.now a.stamps.now a.side.state) a.side l.i l.records l.stamps l.state l.invariant r.result r.new.records r.new.stamps says
