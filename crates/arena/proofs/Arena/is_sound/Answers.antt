-- A sound range has 1,024 chunks at most, and with 1,024 no bit is past them.
use Rattle.std.proofs.Common.{ℕ, nat_eq, sym, ap, ◌∙◌, arith}
use Rattle.arena.proofs.SoundLaws.{range-facts, full-clear, sound-range}
use Rattle.arena.proofs.Arena.is_sound.Goals as goal

pub tails_are_clear-requires : goal.tails_are_clear-requires
tails_are_clear-requires c =
    let a = c.args.self.now in
    omega (arith, (range-facts c.args.chunk_size.bytes a.base a.chunks (sym c.range_is_sound.ensures ∙ c.if-range_is_sound.true)).few)

pub returns-then-self-eq-MOST_CHUNKS : goal.returns-then-self-eq-MOST_CHUNKS
returns-then-self-eq-MOST_CHUNKS c =
    let a = c.args.self.now in
    let full = c.if-self-eq-MOST_CHUNKS.true in
    ap (λ (x : ℕ). nat_eq x 1024) full ∙ sym (full-clear a full) ∙ sound-range c.args.chunk_size.bytes a (sym c.range_is_sound.ensures ∙ c.if-range_is_sound.true)
