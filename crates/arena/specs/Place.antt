-- Where an arena lies, and whether an address lies in it. S is the size of a chunk in bytes. Assumes nothing.
use Rattle.std.specs.Prelude.{Bool, ◌&&◌, ℕ, ◌+◌, ◌*◌, leb, ltb}
use Rattle.arena.specs.declared.Arena.{Arena}

-- the bytes of the arena's chunks
unfoldable pub bytes_of : ℕ → Arena → ℕ
bytes_of S a = a.chunks * S

-- the first address past the arena
unfoldable pub end_of : ℕ → Arena → ℕ
end_of S a = a.base + bytes_of S a

-- whether an address lies in the arena: from its base on, before its end
unfoldable pub is_inside : ℕ → Arena → ℕ → Bool
is_inside S a address = leb a.base address && ltb address (end_of S a)
