-- The chunks of a new arena beside k that stand, where rows 12 and 13 let them pass. Assumes nothing.
use Rattle.std.specs.Prelude.{cond, ℕ, leb, Result, Ok, Err}
use Rattle.refusals.specs.declared.Refusal.{Refusal}
use Rattle.refusals.specs.declared.Refusal.TheVariants.{ChunkCount, TableFull}
use Rattle.layer.specs.Registering.{bad_count}

abbrev pub new_chunks : ℕ → ℕ → Result ℕ Refusal
new_chunks k chunks = cond (bad_count chunks) (Err ChunkCount) (cond (leb 32 k) (Err TableFull) (Ok chunks))
