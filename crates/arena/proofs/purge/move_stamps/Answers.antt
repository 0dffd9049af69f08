-- The part that is written over is as long as what is copied.
use Rattle.std.proofs.Common.{◌*◌, ◌++◌, List, ℕ, take, drop, length-take, ap, ◌+◌, ◌∙◌, arith}
use Rattle.std.proofs.Math.Seq.{take-take}
use Rattle.std.proofs.lemmas.Slice.{put_mid-paste}
use Rattle.arena.specs.Moving.{overwritten}
use Rattle.arena.proofs.purge.move_stamps.Goals as goal

pub returns : goal.returns
unfolding overwritten
returns c =
    let a = c.args in
    let s : ℕ = 1024 * a.k in
    let n : ℕ = 1024 * a.c in
    put_mid-paste s _ a.stamps.now _ (take n a.second.now) n c.copy_from_slice.ensures.after (omega arith) (simp length-take (omega arith))
    ∙ ap (λ (ys : List ℕ). (take s a.stamps.now ++ ys) ++ drop (s + n) a.stamps.now) (take-take n n a.second.now (omega arith))
