-- The table of arenas: what row 1 of document 01's "Turned down" lets pass, and what is asked of it. S is the size of a chunk. Assumes nothing.
use Rattle.std.specs.Prelude.{◌&&◌, ◌||◌, ◌+◌, ◌*◌, ◌^◌, is_some}
use Rattle.layer.specs.Prelude.{Bool, true, false, not, List, ℕ, eqb, leb, ltb, length, get_or, bit_at, Option, Some, None, all, least, page_size_sound, Arena, bytes_of, end_of, is_inside, sound_arena, State, Question, Idle, Committing, Purging, Reserving, GivingBack}
use Rattle.layer.specs.World.{World, blank}

-- the record at an id
abbrev pub at : List Arena → ℕ → Arena
at l i = get_or l i blank

-- ---- ranges

-- an arena shares an address with the range of so many bytes from base on; an empty range shares none
unfoldable pub meets : ℕ → Arena → ℕ → ℕ → Bool
meets S a base bytes = ltb 0 bytes && (ltb base (end_of S a) && ltb a.base (base + bytes))

-- the range overlaps one of the first k arenas
unfoldable pub overlaps : ℕ → List Arena → ℕ → ℕ → ℕ → Bool
overlaps S l k base bytes = is_some (least (λ i. meets S (at l i) base bytes) 0 k)

-- row 6: "range starts at 0, ends past 2^64 − 1 or overlaps an arena". The end is the first address past the range.
unfoldable pub bad_range : ℕ → List Arena → ℕ → ℕ → ℕ → Bool
bad_range S l k base bytes = eqb base 0 || (leb (2 ^ 64) (base + bytes) || overlaps S l k base bytes)

-- the arena that an address lies in
unfoldable pub find_arena : ℕ → List Arena → ℕ → ℕ → Option ℕ
find_arena S l k address = least (λ i. is_inside S (at l i) address) 0 k

-- ---- row 1

-- "ranges that overlap"
unfoldable pub apart : ℕ → List Arena → ℕ → Bool
apart S l k = all (λ j. not (overlaps S l j (at l j).base (bytes_of S (at l j)))) 0 k

-- the arena that an open question is about; a question about none counts as one about 0
abbrev pub asked_id : Question → ℕ
asked_id Idle = 0
asked_id (Committing id start n) = id
asked_id (Purging id chunk sweep) = id
asked_id (Reserving chunks bytes commit exclusive waiting) = 0
asked_id (GivingBack cause waiting) = 0

-- a is the asked arena. Broken is "an open commit or purge question about an arena not registered, chunks past its end, or a chunk whose used bit is
-- clear, or an open sweep whose count is above 1,024 × the asked arena's id + the asked chunk".
unfoldable pub sound_question : Arena → ℕ → Question → Bool
sound_question a k Idle = true
sound_question a k (Committing id start n) = ltb id k && (leb (start + n) a.chunks && all (bit_at a.used) start n)
sound_question a k (Purging id chunk sweep) =
    ltb id k && (ltb chunk a.chunks && (bit_at a.used chunk && leb sweep.purged (1024 * id + chunk)))
sound_question a k (Reserving chunks bytes commit exclusive waiting) = true
sound_question a k (GivingBack cause waiting) = true

-- a table that is not broken: only the records below the count are looked at
unfoldable pub sound_table : ℕ → List Arena → State → Bool
sound_table S l state =
    leb state.count 32
    && (all (λ i. sound_arena S (at l i)) 0 state.count
    && (apart S l state.count && sound_question (at l (asked_id state.question)) state.count state.question))

-- what row 1 lets pass, of so many stamps: "slice of a wrong length; page size no power of two in 4,096 .. 65,536; table broken"
unfoldable pub sound_lent : ℕ → List Arena → ℕ → State → ℕ → Bool
sound_lent S l stamps state page = eqb (length l) 32 && (eqb stamps 32768 && (page_size_sound page && sound_table S l state))

abbrev pub sound : ℕ → World → ℕ → Bool
sound S w page = sound_lent S w.records (length w.stamps) w.state page
