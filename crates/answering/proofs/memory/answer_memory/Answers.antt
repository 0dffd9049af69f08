-- What registering requires, by the tests that the answer passed.
use Rattle.std.proofs.Common.{◌≡◌, ℕ, true, ◌%◌, eqb, sym, subst, ◌∙◌}
use borrow.Author.Tests.{leb-false}
use Rattle.layer.specs.World.{size_of}
use Rattle.answering.proofs.MemoryLaws.{few-chunks, new-arena}
use Rattle.answering.proofs.memory.answer_memory.Goals as goal

pub register-requires : goal.register-requires
register-requires c =
    let a = c.args in
    let good = sym c.has_bad_range.ensures ∙ c.if-has_bad_range.false in
    let few = sym c.has_bad_count.ensures ∙ c.if-has_bad_count.false in
    let whole = subst (λ (size : ℕ). eqb (a.base % size) 0 ≡ true) c.chunk_size.ensures (sym c.divides.ensures ∙ c.if-not-divides.false) in
    let room = leb-false 32 a.state.count (sym c.is_full.ensures ∙ c.if-is_full.false) in
    (c.requires.0, c.requires.1, room, few-chunks a.memory few, new-arena (size_of a.state) a.records.now a.state.count a.base a.memory good few whole)
