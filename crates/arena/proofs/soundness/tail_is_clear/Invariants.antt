-- The words ored so far.
use Rattle.std.proofs.Common.{◌≡◌, take, fold, bit_or}
use Rattle.arena.proofs.soundness.TailLaws.{last_word}
use Rattle.arena.proofs.soundness.tail_is_clear.Given as goal

abbrev pub invariant-loop-w : goal.invariant-loop-w
invariant-loop-w l = l.tail ≡ fold bit_or (last_word l.row l.chunks) (take l.w-index l.w-items)
