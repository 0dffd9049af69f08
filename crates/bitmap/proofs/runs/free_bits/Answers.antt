-- The mask keeps the first `left` places.
use Rattle.bitmap.specs.Bits.{bit}
use Rattle.bitmap.specs.Lowest.{sense}
use Rattle.bitmap.proofs.runs.SearchLaws.{first-places}
use Rattle.bitmap.proofs.runs.free_bits.Goals as goal

pub returns-then-left-lt32 : goal.returns-then-left-lt32
returns-then-left-lt32 c i l =
    first-places c.in_sense-f.result c.low_ones.result c.args.left i (sense c.args.used (bit c.args.w i)) c.low_ones.ensures (c.in_sense-f.ensures i l)
