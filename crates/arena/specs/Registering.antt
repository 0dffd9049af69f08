-- The record of an arena when it is registered, and when it grows. Document 01, "Registering": "Registering writes the whole record and its 1,024
-- stamps: bits, deadline and stamps are 0 unless said here, the node is −1 unless managed." Assumes nothing.
use Rattle.std.specs.Prelude.{Bool, true, false, cond, List, ℕ, ◌+◌, ℤ, negsuc, replicate}
use Rattle.bitmap.specs.Rows.{set_run}
use Rattle.arena.specs.declared.Arena.{Arena}
use Rattle.arena.specs.Flags.{as_flag}
use Rattle.arena.specs.Record.{with_chunks, with_dirty, with_committed}

-- a bitmap with no bit set
abbrev pub no_bits : List ℕ
no_bits = replicate 32 0

-- the bitmap of an arena of so many chunks in which each chunk's bit is b
abbrev pub each_bit : ℕ → Bool → List ℕ
each_bit chunks b = cond b (set_run no_bits 0 chunks) no_bits

unfoldable pub new_arena : ℕ → ℕ → Bool → Bool → ℤ → Bool → Bool → Arena
new_arena base chunks exclusive owned node dirty committed =
    record {
      base = base;
      chunks = chunks;
      exclusive = as_flag exclusive;
      owned = as_flag owned;
      node = node;
      deadline = 0;
      used = no_bits;
      dirty = each_bit chunks dirty;
      committed = each_bit chunks committed;
      pending = no_bits;
    }

-- "A reserved arena is owned, exclusive if asked, not dirty, and all committed if commit was asked; a default reserve is without commit, large and
-- exclusive."
unfoldable pub reserved_arena : ℕ → ℕ → Bool → Bool → Arena
reserved_arena base chunks commit exclusive = new_arena base chunks exclusive true (negsuc 0) false commit

-- "A managed arena is not owned, exclusive if asked"; its chunks are "all dirty and committed"
unfoldable pub managed_arena : ℕ → ℕ → Bool → ℤ → Arena
managed_arena base chunks exclusive node = new_arena base chunks exclusive false node true true

-- "An adopted one is owned, not exclusive, all dirty and committed."
unfoldable pub adopted_arena : ℕ → ℕ → Arena
adopted_arena base chunks = new_arena base chunks false true (negsuc 0) true true

-- "`adopt_os_block` [..] grows the [..] arena [..] (new chunks free, dirty, committed)": n chunks more
unfoldable pub grown_arena : Arena → ℕ → Arena
grown_arena a n =
    with_chunks (with_committed (with_dirty a (set_run a.dirty a.chunks n)) (set_run a.committed a.chunks n)) (a.chunks + n)
