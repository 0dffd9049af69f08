-- The lowest set bit is found by trailing zeros.
use Rattle.bitmap.proofs.words.WordLaws.{lowest_set}
use Rattle.bitmap.proofs.words.lowest_set.Goals as goal

pub returns : goal.returns
returns c = lowest_set c.args.w
