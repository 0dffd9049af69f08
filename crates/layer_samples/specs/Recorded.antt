-- The call that a line of a recorded sample is of. Assumes nothing.
use Rattle.std.specs.Prelude.{cond, ℕ, ◌/◌, ◌%◌, eqb, ltb}
use Rattle.bitmap.specs.Bits.{bit}
use Rattle.surface.specs.Told.{commitment_of, kind_of}
use Rattle.samples.specs.declared.lines.Line.{Line}
use Rattle.samples.specs.Signed.{narrow_of}
use Rattle.calls.specs.declared.kinds.MemoryCall.{MemoryCall}
use Rattle.calls.specs.declared.kinds.MemoryCall.TheVariants.{Reserve, Manage, Adopt}
use Rattle.calls.specs.declared.kinds.ClaimCall.{ClaimCall}
use Rattle.calls.specs.declared.kinds.ClaimCall.TheVariants.{ChunkAlloc, ChunkClaim, ChunkAllocN}
use Rattle.calls.specs.declared.kinds.FreeCall.{FreeCall}
use Rattle.calls.specs.declared.kinds.FreeCall.TheVariants.{ChunkRelease, PurgeDue}
use Rattle.calls.specs.declared.kinds.ActCall.TheVariants.{Memory, Claim, Free}
use Rattle.calls.specs.declared.kinds.QueryCall.{QueryCall}
use Rattle.calls.specs.declared.kinds.QueryCall.TheVariants.{Owns, ArenaArea}
use Rattle.calls.specs.declared.kinds.Call.{Call}
use Rattle.calls.specs.declared.kinds.Call.TheVariants.{Act, Query, Answer}

abbrev pub reserve_of : Line → MemoryCall
reserve_of l = Reserve l.a (bit l.b 0) (bit l.b 1) (bit l.b 2)

abbrev pub manage_of : Line → ℕ → ℕ → MemoryCall
manage_of l x y = Manage l.a l.b (bit y 0) (bit y 1) (bit y 2) (narrow_of x) (bit y 3) (bit y 4) (bit y 5)

-- kinds 4, 5 and 6
abbrev pub memory_of : Line → ℕ → ℕ → MemoryCall
memory_of l x y = cond (eqb l.kind 4) (reserve_of l) (cond (eqb l.kind 5) (manage_of l x y) (Adopt l.a l.b))

-- kinds 7, 8 and 9
abbrev pub claim_of : Line → ClaimCall
claim_of l =
    cond (eqb l.kind 7) (ChunkAlloc (narrow_of l.a)) (cond (eqb l.kind 8) (ChunkClaim (narrow_of l.a)) (ChunkAllocN (narrow_of l.a) l.b))

abbrev pub release_of : Line → ℕ → ℕ → FreeCall
release_of l x y = ChunkRelease l.a l.b (commitment_of (narrow_of x)) (bit y 0)

-- kinds 10 and 11
abbrev pub free_of : Line → ℕ → ℕ → FreeCall
free_of l x y = cond (eqb l.kind 10) (release_of l x y) (PurgeDue (bit l.a 0))

-- kind 12
abbrev pub answer_of : Line → Call
answer_of l = Answer (kind_of (l.a % 256)) (bit (l.a / 256) 0) l.b

-- kind 13
abbrev pub query_of : Line → QueryCall
query_of l = cond (eqb l.a 0) (Owns l.b) (ArenaArea (narrow_of l.b))

unfoldable pub recorded_of : Line → ℕ → ℕ → Call
recorded_of l x y =
    cond (ltb l.kind 7) (Act (Memory (memory_of l x y)))
    (cond (ltb l.kind 10) (Act (Claim (claim_of l)))
    (cond (ltb l.kind 12) (Act (Free (free_of l x y)))
    (cond (eqb l.kind 12) (answer_of l) (Query (query_of l)))))
