-- The record of one arena, with one part of it replaced. Document 01, "Forms that stand in the way": "An `Arena` carries its four bitmaps, used, dirty,
-- committed and pending, as arrays of 32 words of 32 bits." Assumes nothing.
use Rattle.std.specs.Prelude.{List, ℕ}
use Rattle.arena.specs.declared.Arena.{Arena}

abbrev pub with_used : Arena → List ℕ → Arena
with_used a ws =
    record {
      base = a.base;
      chunks = a.chunks;
      exclusive = a.exclusive;
      owned = a.owned;
      node = a.node;
      deadline = a.deadline;
      used = ws;
      dirty = a.dirty;
      committed = a.committed;
      pending = a.pending;
    }

abbrev pub with_dirty : Arena → List ℕ → Arena
with_dirty a ws =
    record {
      base = a.base;
      chunks = a.chunks;
      exclusive = a.exclusive;
      owned = a.owned;
      node = a.node;
      deadline = a.deadline;
      used = a.used;
      dirty = ws;
      committed = a.committed;
      pending = a.pending;
    }

abbrev pub with_committed : Arena → List ℕ → Arena
with_committed a ws =
    record {
      base = a.base;
      chunks = a.chunks;
      exclusive = a.exclusive;
      owned = a.owned;
      node = a.node;
      deadline = a.deadline;
      used = a.used;
      dirty = a.dirty;
      committed = ws;
      pending = a.pending;
    }

abbrev pub with_pending : Arena → List ℕ → Arena
with_pending a ws =
    record {
      base = a.base;
      chunks = a.chunks;
      exclusive = a.exclusive;
      owned = a.owned;
      node = a.node;
      deadline = a.deadline;
      used = a.used;
      dirty = a.dirty;
      committed = a.committed;
      pending = ws;
    }

abbrev pub with_deadline : Arena → ℕ → Arena
with_deadline a due =
    record {
      base = a.base;
      chunks = a.chunks;
      exclusive = a.exclusive;
      owned = a.owned;
      node = a.node;
      deadline = due;
      used = a.used;
      dirty = a.dirty;
      committed = a.committed;
      pending = a.pending;
    }

abbrev pub with_chunks : Arena → ℕ → Arena
with_chunks a n =
    record {
      base = a.base;
      chunks = n;
      exclusive = a.exclusive;
      owned = a.owned;
      node = a.node;
      deadline = a.deadline;
      used = a.used;
      dirty = a.dirty;
      committed = a.committed;
      pending = a.pending;
    }
