-- Blocks adopted one by one. Assumes nothing.
use Rattle.std.specs.Prelude.{◌≡◌, ◌+◌}
use Rattle.state.proofs.Prelude.{refl, ap, ap₂, ◌∙◌, List, ℕ, suc, arith, Arena, State, World, world_of}
use Rattle.layer.specs.declared.Reply.{Reply}
use Rattle.layer.specs.World.{Outcome, Leaves}
use Rattle.layer.specs.Step.{adopt, act, step}
use Rattle.worked_parts.specs.declared.joins.Side.{Side}
use Rattle.worked_parts.specs.Joins.{no_options, block_at, adopted}

suc-is : (i : ℕ) → suc i ≡ i + 1
suc-is i = omega arith

pub none-adopted : (w : World) (side : Side) → w ≡ adopted w side 0
unfolding adopted
none-adopted w side = refl

-- the world that a call leaves, by what stands in the slices and the reply
world-left : (o : Outcome) (r : Reply) (l : List Arena) (t : List ℕ) → Leaves o r l t → world_of l t r.state ≡ o.world
world-left o r l t says = ap₂ (λ (x : List Arena) (y : List ℕ). world_of x y r.state) says.1 says.2 ∙ ap (λ (x : Reply). world_of o.world.records o.world.stamps x.state) says.0

pub block_more : (w : World) (side : Side) (i : ℕ) (l : List Arena) (t : List ℕ) (state : State) → world_of l t state ≡ adopted w side i
    → (r : Reply) (l' : List Arena) (t' : List ℕ) → Leaves (step (world_of l t state) 0 no_options (act (adopt (block_at side i) 33554432))) r l' t'
    → world_of l' t' r.state ≡ adopted w side (i + 1)
unfolding adopted
block_more w side i l t state inv r l' t' says =
    world-left (step (world_of l t state) 0 no_options (act (adopt (block_at side i) 33554432))) r l' t' says
    ∙ ap (λ (x : World). (step x 0 no_options (act (adopt (block_at side i) 33554432))).world) inv
    ∙ ap (adopted w side) (suc-is i)

pub all-adopted : (v : World) (l : List Arena) (t : List ℕ) (state : State) → world_of l t state ≡ v → (state ≡ v.state) × (l ≡ v.records) × (t ≡ v.stamps)
all-adopted v l t state e = (ap (λ (x : World). x.state) e, ap (λ (x : World). x.records) e, ap (λ (x : World). x.stamps) e)
