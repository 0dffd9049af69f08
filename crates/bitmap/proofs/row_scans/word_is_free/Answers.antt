-- The bits under a mask are all set where the word keeps the mask.
use Rattle.bitmap.proofs.runs.WalkLaws.{mask-test}
use Rattle.bitmap.proofs.row_scans.word_is_free.Goals as goal

pub returns : goal.returns
returns c = mask-test c.args.w c.args.lo c.args.m c.low_ones.result c.requires.1 c.low_ones.ensures
