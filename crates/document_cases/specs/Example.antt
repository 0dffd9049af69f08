-- A history from the empty layer. Program 9 reserves an exclusive arena of 3 chunks; then program 7 claims and releases there, while 9 manages
-- a shared arena, claims in it, sweeps and brings a broken table. Each call is lent a table that is written out. Assumes nothing.
use Rattle.std.specs.Prelude.{◌≡◌, true, false, List, [], ◌∷◌, ◌++◌, ℕ, ◌+◌, ◌*◌, pos, negsuc, replicate}
use Rattle.arena.specs.declared.Arena.{Arena}
use Rattle.arena.specs.declared.Commitment.TheVariants.{Untold}
use Rattle.layer.specs.declared.Settings.{Settings}
use Rattle.layer.specs.declared.Question.{Question}
use Rattle.layer.specs.declared.Question.TheVariants.{Idle, Committing, Purging, Reserving}
use Rattle.layer.specs.declared.Waiting.TheVariants.{Reserve}
use Rattle.layer.specs.declared.Kind.TheVariants.{ForCommit, ForPurge, ForMemory}
use Rattle.layer.specs.World.{World, blank, state_with, world_of, empty}
use Rattle.layer.specs.Step.{reserve, manage, claim, release, sweep, Call, act, answer}
use Rattle.layer.specs.Book.{lowest, Fed, claims, releases, Say, refused, granted, released, say_all}
use Rattle.layer.specs.History.{Marked, History, begin, next, by_rules, Lent, ruled, Place, waits, Where, place, fed, told, Keeps}
use Rattle.layer.specs.Demand.{book_of}

-- a chunk: 33,554,432 bytes
abbrev pub S : ℕ
S = 33554432

-- the exclusive arena's base, and the shared one's
abbrev pub base : ℕ
base = 1073741824

abbrev pub elsewhere : ℕ
elsewhere = 2147483648

abbrev pub plain : Settings
plain = record { delay = pos 0; decommits = false; off = false; reserve = 0; page = 4096 }

-- the records, by the first word of each map and the deadline
abbrev pub row : ℕ → List ℕ
row w = w ∷ replicate 31 0

abbrev pub own : ℕ → ℕ → ℕ → ℕ → ℕ → Arena
own used dirty committed pending deadline =
    record {
      base = base;
      chunks = 3;
      exclusive = 1;
      owned = 1;
      node = negsuc 0;
      deadline = deadline;
      used = row used;
      dirty = row dirty;
      committed = row committed;
      pending = row pending;
    }

abbrev pub shared : ℕ → Arena
shared used =
    record {
      base = elsewhere;
      chunks = 2;
      exclusive = 0;
      owned = 0;
      node = negsuc 0;
      deadline = 0;
      used = row used;
      dirty = row 3;
      committed = row 3;
      pending = row 0;
    }

-- a table of one arena, and of two; the stamp of chunk 0 of arena 0
abbrev pub one : Arena → ℕ → Question → World
one a stamp q = world_of (a ∷ replicate 31 blank) (stamp ∷ replicate 32767 0) (state_with 1 false q)

abbrev pub two : Arena → Arena → Question → World
two a b q = world_of (a ∷ b ∷ replicate 30 blank) (5 ∷ replicate 32767 0) (state_with 2 false q)

-- a table of a stamp too few
abbrev pub short : World
short = world_of (replicate 32 blank) (replicate 32767 0) (state_with 0 false Idle)

-- the open questions
abbrev pub awaited : Question
awaited = Reserving 3 100663296 false true Reserve

abbrev pub purge : Question
purge = Purging 0 0 (record { force = true; now = 9; delay = 0; decommit = false; purged = 0 })

abbrev pub by : ℕ → World → ℕ → Call → Marked
by who lent ns call = record { who = who; lent = lent; ns = ns; settings = plain; call = call }

-- ---- what the calls leave, one after the other

abbrev pub w₀ : World
w₀ = world_of (replicate 32 blank) (replicate 32768 0) (state_with 0 false awaited)

abbrev pub w₁ : World
w₁ = one (own 0 0 0 0 0) 0 Idle

abbrev pub w₂ : World
w₂ = one (own 1 1 0 0 0) 0 Idle

abbrev pub w₃ : World
w₃ = one (own 3 1 0 0 0) 0 (Committing 0 1 1)

abbrev pub w₄ : World
w₄ = one (own 3 3 2 0 0) 0 Idle

abbrev pub w₅ : World
w₅ = one (own 2 3 2 1 5) 5 Idle

abbrev pub w₆ : World
w₆ = two (own 2 3 2 1 5) (shared 0) Idle

abbrev pub w₇ : World
w₇ = two (own 2 3 2 1 5) (shared 1) Idle

abbrev pub w₈ : World
w₈ = two (own 3 3 2 1 0) (shared 1) purge

abbrev pub w₉ : World
w₉ = two (own 2 3 2 0 0) (shared 1) Idle

abbrev pub w₁₀ : World
w₁₀ = two (own 3 3 2 0 0) (shared 1) Idle

abbrev pub w₁₁ : World
w₁₁ = two (own 7 3 2 0 0) (shared 1) (Committing 0 2 1)

-- ---- the calls

abbrev pub c₀ : Marked
c₀ = by 9 empty 0 (act (reserve 100663296 false false true))

-- the yes to the memory question registers the arena
abbrev pub c₁ : Marked
c₁ = by 9 w₀ 0 (answer ForMemory true base)

-- a claim that puts no question
abbrev pub c₂ : Marked
c₂ = by 7 w₁ 0 (act (claim (pos 0) 1 false))

-- one that asks for a commit, and the yes
abbrev pub c₃ : Marked
c₃ = by 7 w₂ 0 (act (claim (pos 0) 1 true))

abbrev pub c₄ : Marked
c₄ = by 7 w₃ 0 (answer ForCommit true 0)

-- chunk 0 is released, pending, at 5 ms
abbrev pub c₅ : Marked
c₅ = by 7 w₄ 5000000 (act (release base 1 Untold true))

-- the other's arena, and its claim, which may be served by any shared arena
abbrev pub c₆ : Marked
c₆ = by 9 w₅ 6000000 (act (manage elsewhere 67108864 false (negsuc 0) false true))

abbrev pub c₇ : Marked
c₇ = by 9 w₆ 7000000 (act (claim (negsuc 0) 1 true))

-- its sweep asks about chunk 0; its claim at the arena, lent a broken table, is refused with 1; the purge is answered
abbrev pub c₈ : Marked
c₈ = by 9 w₇ 9000000 (act (sweep true))

abbrev pub c₉ : Marked
c₉ = by 9 short 9000000 (act (claim (pos 0) 1 true))

abbrev pub c₁₀ : Marked
c₁₀ = by 9 w₈ 9000000 (answer ForPurge true 0)

-- two neighbours are not there; one is; and the last waits for its yes
abbrev pub c₁₁ : Marked
c₁₁ = by 7 w₉ 10000000 (act (claim (pos 0) 2 true))

abbrev pub c₁₂ : Marked
c₁₂ = by 7 w₉ 10000000 (act (claim (pos 0) 1 false))

abbrev pub c₁₃ : Marked
c₁₃ = by 7 w₁₀ 10000000 (act (claim (pos 0) 1 true))

abbrev pub calls : List Marked
calls = c₀ ∷ c₁ ∷ c₂ ∷ c₃ ∷ c₄ ∷ c₅ ∷ c₆ ∷ c₇ ∷ c₈ ∷ c₉ ∷ c₁₀ ∷ c₁₁ ∷ c₁₂ ∷ c₁₃ ∷ []

-- one after the other
abbrev pub go_on : History → List Marked → History
go_on h [] = h
go_on h (m ∷ ms) = go_on (next h m) ms

abbrev pub history : History
history = go_on begin calls

-- ---- what is said

-- the arena
abbrev pub arena : Place
arena = record { id = 0; size = S; base = base; chunks = 3; managed = false }

-- what the book is fed
abbrev pub feeding : List Fed
feeding = claims lowest 1 ∷ claims lowest 1 ∷ releases base 1 ∷ claims lowest 2 ∷ claims lowest 1 ∷ claims lowest 1 ∷ []

-- what program 7 is told, and what it is to be told with the yes
abbrev pub telling : List Say
telling = granted base true ∷ granted (base + S) true ∷ released ∷ refused 10 ∷ granted base false ∷ []

abbrev pub owing : List Say
owing = granted (base + 2 * S) true ∷ []

-- ---- what holds of it

pub record Example : Type 0 where
  -- the arena's book opens, and every premise of demand 3 is met for program 7
  pub opens : Where history
  pub place_is : place history opens ≡ arena
  pub lent : Lent by_rules history
  pub keeps : Keeps 7 history opens
  pub fed-is : fed history opens ≡ feeding
  pub told_is : told by_rules history opens ≡ telling
  pub waits-is : waits arena (ruled history) ≡ claims lowest 1 ∷ []
  pub book-says : say_all (book_of arena) feeding ≡ telling ++ owing
