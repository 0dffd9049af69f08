-- The bounds on S, the bytes of a chunk, that the arithmetic of the code needs; `chunk_size::ChunkSize` is a number within them. Assumes nothing.
use Rattle.std.specs.Prelude.{ℕ, ◌<◌, ◌≤◌}

abbrev pub IsChunkSize : ℕ → Type 0
IsChunkSize S = (0 < S) × (S ≤ 4294967296)
