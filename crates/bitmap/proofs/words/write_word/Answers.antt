-- `or` with a run of ones, or `and` with its complement.
use Rattle.bitmap.proofs.words.WordLaws.{set-law, clear-law}
use Rattle.bitmap.proofs.words.write_word.Goals as goal

pub returns-then-on : goal.returns-then-on
returns-then-on c i = let h = set-law c.args.lo c.args.n c.requires.1 c.args.w c.low_ones.result i c.low_ones.ensures in cc

pub returns-else-on : goal.returns-else-on
returns-else-on c i = let h = clear-law c.args.lo c.args.n c.requires.1 c.args.w c.low_ones.result i c.ranges.w.fits c.low_ones.ensures in cc
