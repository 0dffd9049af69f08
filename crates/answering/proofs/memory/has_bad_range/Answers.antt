-- More bytes than there are addresses are a bad range.
use Rattle.std.proofs.Common.{◌≡◌, ℕ, ◌*◌, ◌<◌, true, subst}
use Rattle.layer.specs.Table.{bad_range}
use Rattle.answering.proofs.MemoryLaws.{wide-range}
use Rattle.answering.proofs.memory.has_bad_range.Goals as goal

pub returns-then-chunks_in-chunks : goal.returns-then-chunks_in-chunks
returns-then-chunks_in-chunks c =
    let a = c.args in
    let S = c.chunk_size-chunk_size.result in
    let wide = subst (λ (most : ℕ). most < a.chunks) c.chunks_in.ensures c.if-chunks_in-chunks.true in
    subst (λ (size : ℕ). true ≡ bad_range size a.records.now a.state.count a.base (a.chunks * size)) c.chunk_size-chunk_size.ensures
    (wide-range S.bytes a.records.now a.state.count a.base a.chunks S.in_bounds.0 wide)
