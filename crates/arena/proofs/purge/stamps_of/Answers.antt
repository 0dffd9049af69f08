-- The part is 1,024 long.
use Rattle.std.proofs.Common.{◌≡◌, ◌+◌, ◌-◌, ◌*◌, ℕ, take, drop, length-take, length-drop, ap, arith}
use Rattle.arena.specs.Stamps.{stamps_of}
use Rattle.arena.proofs.purge.stamps_of.Goals as goal

pub returns : goal.returns
unfolding stamps_of
returns c =
    let a = c.args in (
      ap (λ (k : ℕ). take k (drop (1024 * a.id) a.stamps.now)) (let z : 1024 * (a.id + 1) - 1024 * a.id ≡ 1024 = omega arith in z),
      simp (length-take, length-drop) (omega arith),
    )
