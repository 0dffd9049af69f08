-- What mimalloc.h documents of the options that the arena layer reads, with the numbers of version 2.4, and not read off the layer's rules. What option 15, purge_delay,
-- means stands in crate `options` (`documented_delay`), with where the port differs. Assumes nothing.
use Rattle.std.specs.Prelude.{◌≡◌, Bool, true, false, ℕ, ◌+◌, ◌*◌, ◌%◌, ◌<◌, ◌≤◌, ℤ, pos, negsuc}
use Rattle.options.specs.Options.{never, documented_delay}
use Rattle.bitmap.specs.Bits.{bit_at}
use Rattle.arena.specs.declared.Arena.{Arena}
use Rattle.layer.specs.declared.Ask.{Ask}
use Rattle.layer.specs.declared.Ask.TheVariants.{AskMemory}
use Rattle.layer.specs.World.{World}
use Rattle.layer.specs.Table.{at}
use Rattle.layer.specs.History.{Marked, History, begin, next, listing, joining, Layer, outcome_by, Lent}
use Rattle.layer_laws.specs.sweep_runs.Run.{asks_purge}
use Rattle.layer_laws.specs.documented.Areas.{is_exclusive, Stands}

-- ---- 5, purge_decommits: "whether a purge decommits; at 0 a purge resets the memory instead"

pub data Purge : Type 0 where
  decommit : Purge
  reset : Purge

unfoldable pub documented_purge : Bool → Purge
documented_purge true = decommit
documented_purge false = reset

-- whether memory is committed after a purge, where it was or was not before
abbrev pub committed_after : Purge → Bool → Bool
committed_after decommit before = false
committed_after reset before = before

-- the answer to a purge question: a yes is a purge, and a no is none
abbrev pub answered : Bool → Purge → Bool → Bool
answered true purge before = committed_after purge before
answered false purge before = before

-- ---- 15, purge_delay: "−1 means that nothing is purged"

-- every call and every list of a history is made with such a delay; a join reads none
abbrev pub EachDelay : (ℤ → Type 0) → History → Type 0
EachDelay P begin = Unit {0}
EachDelay P (next h m) = EachDelay P h × P m.settings.delay
EachDelay P (listing h m) = EachDelay P h × P m.settings.delay
EachDelay P (joining side h g m) = EachDelay P h × EachDelay P g

-- where P is what is said of each delay, no call is answered by a purge question, a forced sweep neither
abbrev pub NothingPurged : (ℤ → Type 0) → Layer → Type 0
NothingPurged P L = (h : History) (m : Marked) → Lent L (next h m) → EachDelay P (next h m) → asks_purge (outcome_by L m).answer ≡ 0

-- what is documented as never, and every negative delay, of which only −1 is documented
abbrev pub SaidNever : ℤ → Type 0
SaidNever d = documented_delay d ≡ never

abbrev pub Negative : ℤ → Type 0
Negative d = (m : ℕ) × (d ≡ negsuc m)

-- ---- 23, arena_reserve: "the size of an arena that is reserved when none has room; kept inside in KiB and read as a size in bytes"

unfoldable pub documented_reserve : ℕ → ℕ
documented_reserve kib = kib * 1024

-- an arena has n neighbouring chunks that are not in use
abbrev pub HasRoom : ℕ → Arena → Type 0
HasRoom n a = (s : ℕ) × (s + n ≤ a.chunks) × ((j : ℕ) → s ≤ j → j < s + n → bit_at a.used j ≡ false)

-- "none has room": no arena that serves a claim which names none
abbrev pub NoneHasRoom : World → ℕ → Type 0
NoneHasRoom w n = (i : ℕ) → Stands w i → is_exclusive (at w.records i) ≡ false → HasRoom n (at w.records i) → ⊥

-- the size in whole chunks of S bytes
pub record InChunks (S size many : ℕ) : Type 0 where
  pub whole : many % S ≡ 0
  pub enough : size ≤ many
  pub tight : many < size + S

-- the memory that is asked for then
pub record AsksDefault (S size : ℕ) (ask : Ask) : Type 0 where
  pub many : ℕ
  pub in-chunks : InChunks S size many
  pub is : ask ≡ AskMemory many S false false

-- ---- 27, disallow_arena_alloc: "at 1, arenas are not used for allocation, except where a specific arena id is named"

abbrev pub Disallowed : Bool → ℤ → Type 0
Disallowed off id = (off ≡ true) × ((i : ℕ) → id ≡ pos i → ⊥)
