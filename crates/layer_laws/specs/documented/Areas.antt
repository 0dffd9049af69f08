-- What mimalloc.h documents of memory areas (version 2.4), in its words and not read off the layer's rules. Its arena unit is a chunk of S bytes
-- here. proofs/ holds the layer's `step` against it. Assumes nothing.
use Rattle.std.specs.Prelude.{◌≡◌, Bool, true, false, ℕ, ◌+◌, ◌*◌, ◌%◌, ◌<◌, ◌≤◌, ℤ, pos, Option, Some, None}
use Rattle.bitmap.specs.Bits.{bit_at}
use Rattle.arena.specs.declared.Arena.{Arena}
use Rattle.arena.specs.Flags.{is_on}
use Rattle.layer.specs.declared.Question.TheVariants.{Reserving}
use Rattle.layer.specs.declared.Waiting.{Waiting}
use Rattle.layer.specs.declared.Kind.{Kind}
use Rattle.layer.specs.declared.Ask.{Ask}
use Rattle.layer.specs.declared.Ask.TheVariants.{AskCommit, AskPurge, AskMemory, AskGiveBack}
use Rattle.layer.specs.declared.Answer.{Answer}
use Rattle.layer.specs.declared.Answer.TheVariants.{Refused, Asks, Registered, Claimed, Released, Swept, Owns, Area}
use Rattle.layer.specs.World.{World}
use Rattle.layer.specs.Table.{at}
use Rattle.layer.specs.Step.{Call, answer}

-- ---- an area

-- the addresses of so many bytes from a start on
abbrev pub In : ℕ → ℕ → ℕ → Type 0
In start size x = (start ≤ x) × (x < start + size)

-- the bytes of an arena's memory area, which starts at its base
abbrev pub bytes : ℕ → Arena → ℕ
bytes S a = a.chunks * S

abbrev pub is_exclusive : Arena → Bool
is_exclusive a = is_on a.exclusive

abbrev pub is_owned : Arena → Bool
is_owned a = is_on a.owned

-- arena i stands in a table
abbrev pub Stands : World → ℕ → Type 0
Stands w i = i < w.state.count

-- n chunks from an address on have no address in an arena
abbrev pub Apart : ℕ → Arena → ℕ → ℕ → Type 0
Apart S a address n = (x : ℕ) → In address (n * S) x → In a.base (bytes S a) x → ⊥

-- ---- reserve_os_memory (size, commit, allow_large), and _ex with exclusive

-- the memory that is asked for: the size at least, at the alignment of a chunk; "allow_large: large OS pages may back it"
pub record AsksFor (S size : ℕ) (commit large : Bool) (ask : Ask) : Type 0 where
  pub many : ℕ
  pub is : ask ≡ AskMemory many S commit large
  pub enough : size ≤ many

-- the arena that is registered of the memory at a base: "commit: commit it all now"; "exclusive: only heaps that name this arena allocate from it"
pub record Reserved (S size : ℕ) (commit exclusive : Bool) (base : ℕ) (a : Arena) : Type 0 where
  pub starts : a.base ≡ base
  pub aligned : base % S ≡ 0
  pub enough : size ≤ bytes S a
  pub all-committed : (j : ℕ) → j < a.chunks → bit_at a.committed j ≡ commit
  pub alone : is_exclusive a ≡ exclusive

-- ---- manage_os_memory (start, size, is_committed, is_large, is_zero, numa_node), and _ex with exclusive

-- chunk c of all memory lies whole in a range
abbrev pub Whole : ℕ → ℕ → ℕ → ℕ → Type 0
Whole S start size c = (start ≤ c * S) × (c * S + S ≤ start + size)

-- "The area must be at least as large as the allocator's arena unit, and is aligned inward": each chunk that lies whole in the range is in the area,
-- and nothing that lies outside of the range
pub record AlignedInward (S start size : ℕ) (a : Arena) : Type 0 where
  pub aligned : a.base % S ≡ 0
  pub inside : (x : ℕ) → In a.base (bytes S a) x → In start size x
  pub whole : (c : ℕ) → Whole S start size c → Whole S a.base (bytes S a) c
  pub unit : S ≤ bytes S a

-- the arena that is registered: "hands an area that the caller already has to the allocator, which never frees it"; "numa_node: the associated node, or −1"
pub record Managed (S start size : ℕ) (exclusive : Bool) (node : ℤ) (a : Arena) : Type 0 where
  pub area : AlignedInward S start size a
  pub alone : is_exclusive a ≡ exclusive
  pub stored : a.node ≡ node
  pub not-owned : is_owned a ≡ false

-- "which never frees it": memory is given back by the answer that brings it alone, before it is an arena's, and the chunks that were asked for have no
-- address of an arena that stands. Of the page that a reserve of size 0 asks for nothing is said.
pub record BroughtNow (S : ℕ) (w : World) (c : Call) (address many : ℕ) : Type 0 where
  pub chunks : ℕ
  pub commit : Bool
  pub exclusive : Bool
  pub waiting : Waiting
  pub kind : Kind
  pub asked : w.state.question ≡ Reserving chunks many commit exclusive waiting
  pub brought : c ≡ answer kind true address
  pub elsewhere : (i : ℕ) → Stands w i → Apart S (at w.records i) address chunks

-- The recorded difference: is_committed, is_large and is_zero go unused, so that the call has no place for them. Every chunk counts as committed, and
-- as one that does not hold zeros.
abbrev pub TakenAsUsed : Arena → Type 0
TakenAsUsed a = (j : ℕ) → j < a.chunks → (bit_at a.committed j ≡ true) × (bit_at a.dirty j ≡ true)

-- ---- "exclusive arenas serve only those that name them"

-- where the chunks lie that an answer grants, or asks to commit before they are granted
abbrev pub given_at : Answer → Option ℕ
given_at (Refused why) = None
given_at (Asks (AskCommit address many)) = Some address
given_at (Asks (AskPurge address many decommit)) = None
given_at (Asks (AskMemory many align commit large)) = None
given_at (Asks (AskGiveBack address many)) = None
given_at (Registered id) = None
given_at (Claimed address fresh committed) = Some address
given_at Released = None
given_at (Swept count) = None
given_at (Owns whether) = None
given_at (Area base many) = None

-- what a claim at an id is given lies in no exclusive arena, but in one that it names
abbrev pub OnlyNamed : ℕ → World → ℤ → ℕ → ℕ → Type 0
OnlyNamed S w id n address = (j : ℕ) → Stands w j → is_exclusive (at w.records j) ≡ true → (id ≡ pos j → ⊥) → Apart S (at w.records j) address n

-- what a claim that names an arena is given lies there
abbrev pub InNamed : ℕ → World → ℤ → ℕ → ℕ → Type 0
InNamed S w id n address = (i : ℕ) → id ≡ pos i → Stands w i × ((x : ℕ) → In address (n * S) x → In (at w.records i).base (bytes S (at w.records i)) x)

-- ---- arena_area (id, size out)

-- "the start of the arena's memory area and its size in bytes; null and 0 where there is none"
pub record IsArea (S : ℕ) (w : World) (id : ℤ) (start size : ℕ) : Type 0 where
  pub there : (i : ℕ) → id ≡ pos i → Stands w i → (start ≡ (at w.records i).base) × (size ≡ bytes S (at w.records i))
  pub none : ((i : ℕ) → id ≡ pos i → Stands w i → ⊥) → (start ≡ 0) × (size ≡ 0)
