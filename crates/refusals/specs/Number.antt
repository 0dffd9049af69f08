-- The number of each refusal: the column "No." of document 01's table "Turned down", and those of document 02. The one place that says it.
use Rattle.std.specs.Prelude.{ℕ, Result, Ok, Err}
use Rattle.refusals.specs.declared.Refusal.{Refusal}
use Rattle.refusals.specs.declared.Refusal.TheVariants.{Broken, QuestionOpen, NoSuchQuestion, Zero, ArenasOff, Range, NotWhole, NotInside, PastEnd, NoRun, CommitRefused, ChunkCount, TableFull, MemoryRefused, NoWholeChunk, HostRefused, TablesOverlap, TooManyArenas, ListLength}

abbrev pub number : Refusal → ℕ
number Broken = 1
number QuestionOpen = 2
number NoSuchQuestion = 3
number Zero = 4
number ArenasOff = 5
number Range = 6
number NotWhole = 7
number NotInside = 8
number PastEnd = 9
number NoRun = 10
number CommitRefused = 11
number ChunkCount = 12
number TableFull = 13
number MemoryRefused = 14
number NoWholeChunk = 15
number HostRefused = 16
-- "17 when a range of one overlaps a range of the other, 18 when more than 32 arenas result"
number TablesOverlap = 17
number TooManyArenas = 18
-- "19 when the three lengths differ or pass 32,768"
number ListLength = 19

-- the number that an answer hands out: that of the refusal, and 0 for a grant
abbrev pub number_in : {T : Type 0} → Result T Refusal → ℕ
number_in (Ok x) = 0
number_in (Err why) = number why
