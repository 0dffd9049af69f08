-- The examples of document 01's table "Turned down", and the lines of "Worked by hand" that register arenas, over the layer's definitions: `computed` is
-- what they give, `stated` what the document says. Assumes nothing.
use Rattle.std.specs.Prelude.{true, false, List, [], ◌∷◌, ℕ, zero, suc, ◌+◌, ◌*◌, pos, negsuc, replicate, set}
use Rattle.refusals.specs.Number.{number}
use Rattle.arena.specs.declared.Arena.{Arena}
use Rattle.arena.specs.declared.Commitment.TheVariants.{Untold}
use Rattle.arena.specs.Registering.{reserved_arena}
use Rattle.layer.specs.declared.Settings.{Settings}
use Rattle.layer.specs.declared.Question.TheVariants.{Purging}
use Rattle.layer.specs.declared.Kind.TheVariants.{ForCommit, ForMemory}
use Rattle.layer.specs.declared.Answer.{Answer}
use Rattle.layer.specs.declared.Answer.TheVariants.{Refused, Asks, Registered, Claimed, Released, Swept, Owns, Area}
use Rattle.layer.specs.World.{World, blank, state_with, world_of, calm}
use Rattle.layer.specs.Table.{at}
use Rattle.layer.specs.Step.{Call, reserve, manage, adopt, claim, release, answer, act, rules}

-- the document's number for each case of an answer: 0 for what is granted, 255 for a question, else the refusal's
abbrev pub answer_number : Answer → ℕ
answer_number (Refused why) = number why
answer_number (Asks ask) = 255
answer_number (Registered id) = 0
answer_number (Claimed address fresh committed) = 0
answer_number Released = 0
answer_number (Swept count) = 0
answer_number (Owns whether) = 0
answer_number (Area base bytes) = 0

-- a chunk: 33,554,432 bytes
abbrev pub S : ℕ
S = 33554432

-- "no reserve"
abbrev pub plain : Settings
plain = record { delay = pos 0; decommits = false; off = false; reserve = 0; page = 4096 }

abbrev pub arenas_off : Settings
arenas_off = record { delay = pos 0; decommits = false; off = true; reserve = 0; page = 4096 }

-- "arena 0, owned, not exclusive, base 1,073,741,824, 4 chunks, all free, uncommitted; no reserve"
abbrev pub example : World
example = world_of (set (replicate 32 blank) 0 (reserved_arena 1073741824 4 false false)) (replicate 32768 0) (calm 1 false)

-- the example with a stamp too few
abbrev pub short : World
short = world_of example.records (replicate 32767 0) (calm 1 false)

-- the example in the middle of a sweep: its first chunk is asked about
abbrev pub sweeping : World
sweeping =
    world_of
    (set (replicate 32 blank) 0 (record { base = 1073741824; chunks = 4; exclusive = 0; owned = 1; node = negsuc 0; deadline = 0; used = 1 ∷ replicate 31 0; dirty = replicate 32 0; committed = replicate 32 0; pending = 1 ∷ replicate 31 0 }))
    (replicate 32768 0)
    (state_with 1 false (Purging 0 0 (record { force = true; now = 1; delay = 0; decommit = false; purged = 0 })))

-- so many arenas of 1,024 chunks from id i on, each behind the last with nothing between
unfoldable pub blocks : ℕ → ℕ → List Arena
blocks i zero = []
blocks i (suc n) = reserved_arena ((i + 1) * (1024 * S)) 1024 false false ∷ blocks (i + 1) n

-- a table in which 32 arenas stand
abbrev pub full : World
full = world_of (blocks 0 32) (replicate 32768 0) (calm 32 false)

-- the layer after a call, and the number that it answers
abbrev pub then : World → Call → World
then w c = (rules S w 0 plain c).world

abbrev pub says : World → Call → ℕ
says w c = answer_number (rules S w 0 plain c).answer

unfoldable pub computed : List ℕ
computed =
    says short (act (claim (pos 0) 1 true))
    ∷ says sweeping (act (claim (pos 0) 1 true))
    ∷ says example (answer ForCommit true 0)
    ∷ says example (act (claim (pos 0) 0 true))
    ∷ answer_number (rules S example 0 arenas_off (act (claim (negsuc 0) 1 true))).answer
    ∷ says example (act (adopt 1073741824 S))
    ∷ says example (act (release 1073741825 1 Untold false))
    ∷ says example (act (release 1207959552 1 Untold false))
    ∷ says example (act (release 1073741824 5 Untold false))
    ∷ says example (act (claim (pos 0) 5 true))
    ∷ says (then example (act (claim (pos 0) 1 true))) (answer ForCommit false 0)
    ∷ says example (act (adopt 68719476736 34393292800))
    -- a block with a chunk between it and the last arena
    ∷ says full (act (adopt (33 * (1024 * S) + S) S))
    ∷ says (then example (act (reserve S false false false))) (answer ForMemory false 0)
    ∷ says example (act (manage 1 S false (negsuc 0) false true))
    ∷ says example (act (manage S (2 * S) false (negsuc 0) false false))
    -- "Manage 1, size 67,108,864: one chunk at S."
    ∷ (at (then example (act (manage 1 67108864 false (negsuc 0) false true))).records 1).base
    ∷ (at (then example (act (manage 1 67108864 false (negsuc 0) false true))).records 1).chunks
    -- "Adopt S at 1,207,959,552 in the example: arena 0 has 5 chunks."
    ∷ (at (then example (act (adopt 1207959552 S))).records 0).chunks
    ∷ []

unfoldable pub stated : List ℕ
stated = 1 ∷ 2 ∷ 3 ∷ 4 ∷ 5 ∷ 6 ∷ 7 ∷ 8 ∷ 9 ∷ 10 ∷ 11 ∷ 12 ∷ 13 ∷ 14 ∷ 15 ∷ 16 ∷ S ∷ 1 ∷ 5 ∷ []
