-- `chunk_release`, where no question is open. Document 01, "Releasing". k arenas stand; S is the size of a chunk. Assumes nothing.
use Rattle.std.specs.Prelude.{◌∷◌, ◌+◌, ◌-◌, ◌*◌, ◌/◌, ◌%◌, is_some, unwrap_or}
use Rattle.layer.specs.Prelude.{Bool, cond, not, List, [], ℕ, eqb, leb, set, Zero, NotInside, NotWhole, PastEnd, Arena, Commitment, release_run, stamp_run, Released}
use Rattle.layer.specs.World.{Outcome, calm, world_of, reply, after, refuse, first_of}
use Rattle.layer.specs.Table.{at, find_arena}

module _ (S : ℕ) (l : List Arena) (stamps : List ℕ) (k : ℕ) (mark : Bool) where
  -- "Release: 4, 8, 7, 9.", of the run of n in the arena that the address lies in
  unfoldable pub release_of : ℕ → ℕ → Commitment → Bool → ℕ → ℕ → Outcome
  release_of address n told pending now delay =
      let w = world_of l stamps (calm k mark) in
      let found = find_arena S l k address in
      let i = unwrap_or found 0 in
      let offset = address - (at l i).base in
      first_of
      (refuse w Zero (eqb n 0)
      ∷ refuse w NotInside (not (is_some found))
      ∷ refuse w NotWhole (not (eqb (offset % S) 0))
      ∷ refuse w PastEnd (not (leb (offset / S + n) (at l i).chunks))
      ∷ [])
      (after (reply Released (calm k mark)) (set l i (release_run (at l i) (offset / S) n told pending now delay))
      (cond pending (stamp_run stamps (1024 * i + offset / S) n now) stamps))
