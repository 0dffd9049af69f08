-- Past 32 bits no run lies in a word.
use Rattle.std.proofs.Common.{arith}
use Rattle.bitmap.proofs.runs.SearchLaws.{too_long}
use Rattle.bitmap.proofs.runs.first_start.Goals as goal

pub returns : goal.returns
returns c = (omega arith, λ i l. too_long c.args.w i c.args.n c.ranges.w.fits (omega arith), λ l. absurd (omega arith))
