-- Each arena of the second, until one overlaps an arena of the first.
use Rattle.std.proofs.Common.{false, sym, ◌∙◌, arith}
use lib.Seq.{length-take-le}
use Rattle.table.proofs.TurnLaws.{passed-more}
use Rattle.joining.proofs.JoinLaws.{at-turn, range-turn, crossed, crossed-is, one-crossed, none-crossed}
use Rattle.joining.proofs.tables_overlap.Goals as goal

pub of-range-requires : goal.of-range-requires
of-range-requires c = range-turn c.args.chunk_size.bytes c.args.second_records.now c.args.c c.loop-a.a-index _ c.requires.1 c.loop-a-test.true

pub returns-then-overlaps_one : goal.returns-then-overlaps_one
returns-then-overlaps_one c =
    let a = c.args in
    let S = a.chunk_size.bytes in
    let here = at-turn a.second_records.now a.c c.loop-a.a-index _ c.requires.1.0 c.loop-a-test.true in
    let meets = sym (crossed-is S a.records.now a.second_records.now a.k _ c.loop-a.a-index _ _ here.1 c.of-range.ensures) ∙ sym c.overlaps_one.ensures ∙ c.if-overlaps_one.true in
    one-crossed S a.records.now a.second_records.now a.k a.c c.loop-a.a-index here.0 c.loop-a.invariant meets

pub loop-a-preserved : goal.loop-a-preserved
loop-a-preserved c =
    let a = c.args in
    let S = a.chunk_size.bytes in
    let here = at-turn a.second_records.now a.c c.loop-a.a-index _ c.requires.1.0 c.loop-a-test.true in
    let apart = sym (crossed-is S a.records.now a.second_records.now a.k _ c.loop-a.a-index _ _ here.1 c.of-range.ensures) ∙ sym c.overlaps_one.ensures ∙ c.if-overlaps_one.false in
    passed-more false (crossed S a.records.now a.second_records.now a.k) c.loop-a.a-index c.loop-a.invariant apart

pub returns : goal.returns
returns c =
    let a = c.args in
    let all = length-take-le a.c a.second_records.now c.requires.1.0 in
    none-crossed a.chunk_size.bytes a.records.now a.second_records.now a.k a.c (λ j h. c.loop-a.invariant j (omega arith))
