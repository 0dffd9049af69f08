-- Where a set bit is a place in use, the complement has a set bit for a free one.
use Rattle.bitmap.proofs.runs.SearchLaws.{sense-used}
use Rattle.bitmap.proofs.runs.in_sense.Goals as goal

pub returns-then-used : goal.returns-then-used
returns-then-used c i l = sense-used c.args.w i c.args.used c.if-used.true c.ranges.w.fits l
