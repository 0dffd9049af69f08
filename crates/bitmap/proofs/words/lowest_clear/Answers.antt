-- The lowest clear bit is the lowest set one of the complement.
use Rattle.bitmap.proofs.words.WordLaws.{lowest-clear}
use Rattle.bitmap.proofs.words.lowest_clear.Goals as goal

pub returns : goal.returns
returns c = lowest-clear c.args.w c.ranges.w.fits
