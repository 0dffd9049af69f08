-- The hash of the layer's state. Assumes nothing.
use Rattle.std.specs.Prelude.{Bool, cond, List, ℕ, zero, suc, ◌*◌, ◌-◌, ◌/◌, ◌%◌, ltb, ℤ, pos, negsuc, length, get_or}
use Rattle.arena.specs.declared.Arena.{Arena}
use Rattle.arena.specs.Flags.{is_on}
use Rattle.layer.specs.declared.State.{State}
use Rattle.layer.specs.World.{blank}
use Rattle.samples.specs.Hash.{with_word, with_words}
use Rattle.surface.specs.Numbers.{numbers_of}

-- exclusive 1, owned 2
abbrev pub owner : Bool → Bool → ℕ
owner exclusive owned = cond exclusive (cond owned 3 1) (cond owned 2 0)

-- two's complement: `negsuc n` is -(n + 1)
abbrev pub node_word : ℤ → ℕ
node_word (pos n) = n
node_word (negsuc n) = 4294967295 - n

-- base, chunks, owner, node and deadline
unfoldable pub with_numbers : ℕ → ℕ → ℕ → ℕ → ℕ → ℕ → ℕ
with_numbers h base chunks own node deadline =
    with_word (with_word (with_word (with_word (with_word (with_word h (base % 4294967296)) (base / 4294967296)) (chunks % 4294967296)) own) node) deadline

unfoldable pub with_head : ℕ → Arena → ℕ
with_head h a = with_numbers h a.base a.chunks (owner (is_on a.exclusive) (is_on a.owned)) (node_word a.node) a.deadline

-- the words of the four maps
unfoldable pub with_maps : ℕ → Arena → ℕ
with_maps h a = with_words (with_words (with_words (with_words h a.used 0 32) a.dirty 0 32) a.committed 0 32) a.pending 0 32

abbrev pub with_arena : ℕ → Arena → ℕ
with_arena h a = with_maps (with_head h a) a

unfoldable pub with_stamps : ℕ → List ℕ → ℕ → ℕ
with_stamps h stamps id = cond (ltb id (length stamps / 1024)) (with_words h stamps (id * 1024) 1024) h

-- the number of arenas, the mark, and the kind of the question
unfoldable pub of_state : State → ℕ
of_state s = with_word (with_word (with_word 2166136261 ((numbers_of s).count % 4294967296)) (numbers_of s).mark) (numbers_of s).question

-- with the first k arenas
unfoldable pub with_arenas : ℕ → List Arena → List ℕ → ℕ → ℕ
with_arenas h records stamps zero = h
with_arenas h records stamps (suc k) = with_stamps (with_arena (with_arenas h records stamps k) (get_or records k blank)) stamps k

abbrev pub hash_of : List Arena → List ℕ → State → ℕ
hash_of records stamps s = with_arenas (of_state s) records stamps s.count
