-- A span of addresses beside a range, and beside arenas. S is the size of a chunk. Assumes nothing.
use Rattle.std.specs.Prelude.{Bool, ◌||◌, List, ℕ, ◌+◌, ◌<◌, ◌≤◌, leb}
use Rattle.arena.specs.declared.Arena.{Arena}
use Rattle.arena.specs.Place.{end_of}
use Rattle.layer.specs.Table.{at}
use Rattle.table.specs.declared.ranges.Range.{Range}
use Rattle.table.specs.declared.spans.Span.{Span}

-- the range lies wholly at or above the span, or wholly below it
unfoldable pub outside : Span → Range → Bool
outside s r = leb s.hi r.base || leb (r.base + r.bytes) s.lo

-- the first k arenas lie in the span
abbrev pub CoversAll : ℕ → Span → List Arena → ℕ → Type 0
CoversAll S s l k = (i : ℕ) → i < k → (s.lo ≤ (at l i).base) × (end_of S (at l i) ≤ s.hi)
