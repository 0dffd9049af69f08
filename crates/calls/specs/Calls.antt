-- The layer's call that a value of this crate's types is. Assumes nothing.
use Rattle.std.specs.Prelude.{true, false}
use Rattle.layer.specs.Step as S
use Rattle.calls.specs.declared.kinds.MemoryCall.{MemoryCall}
use Rattle.calls.specs.declared.kinds.MemoryCall.TheVariants.{Reserve, Manage, Adopt}
use Rattle.calls.specs.declared.kinds.ClaimCall.{ClaimCall}
use Rattle.calls.specs.declared.kinds.ClaimCall.TheVariants.{ChunkAlloc, ChunkClaim, ChunkAllocN}
use Rattle.calls.specs.declared.kinds.FreeCall.{FreeCall}
use Rattle.calls.specs.declared.kinds.FreeCall.TheVariants.{ChunkRelease, PurgeDue}
use Rattle.calls.specs.declared.kinds.ActCall.{ActCall}
use Rattle.calls.specs.declared.kinds.ActCall.TheVariants.{Memory, Claim, Free}
use Rattle.calls.specs.declared.kinds.QueryCall.{QueryCall}
use Rattle.calls.specs.declared.kinds.QueryCall.TheVariants.{Owns, ArenaArea}
use Rattle.calls.specs.declared.kinds.Call.{Call}
use Rattle.calls.specs.declared.kinds.Call.TheVariants.{Act, Query, Answer}

-- ---- the calls of the layer

abbrev pub memory_of : MemoryCall → S.Act
memory_of (Reserve size commit allow-large exclusive) = S.reserve size commit allow-large exclusive
memory_of (Manage start size is-committed is-large is_zero node exclusive mapped reserved) = S.manage start size exclusive node mapped reserved
memory_of (Adopt address size) = S.adopt address size

abbrev pub claim_of : ClaimCall → S.Act
claim_of (ChunkAlloc id) = S.claim id 1 true
claim_of (ChunkClaim id) = S.claim id 1 false
claim_of (ChunkAllocN id n) = S.claim id n true

abbrev pub free_of : FreeCall → S.Act
free_of (ChunkRelease address n told pending) = S.release address n told pending
free_of (PurgeDue force) = S.sweep force

abbrev pub act_of : ActCall → S.Act
act_of (Memory a) = memory_of a
act_of (Claim a) = claim_of a
act_of (Free a) = free_of a

abbrev pub query_of : QueryCall → S.Query
query_of (Owns address) = S.owns address
query_of (ArenaArea id) = S.area id

abbrev pub call_of : Call → S.Call
call_of (Act a) = S.act (act_of a)
call_of (Query a) = S.query (query_of a)
call_of (Answer kind accepted base) = S.answer kind accepted base
