-- Each record is judged where it lies, with the span of those before it.
use Rattle.std.proofs.Common.{◌<◌, true, arith, ap, sym, ◌∙◌}
use Rattle.arena.specs.Soundness.{sound_arena}
use Rattle.table.proofs.TurnLaws.{passed-more}
use Rattle.table.proofs.SearchLaws.{length-front, front_at}
use Rattle.table.proofs.TableLaws.{sound, alone, range-in, alone-by, covers_more, passed-sound, one-unsound, one-overlaps, all_sound}
use Rattle.table.proofs.arenas_sound.Goals as goal

pub returns-then-not-is_sound : goal.returns-then-not-is_sound
returns-then-not-is_sound c =
    let a = c.args in
    let i = c.loop-i.i in
    let few : i < a.k = omega (arith, c.loop-i-test.true, length-front a.records.now a.k c.requires) in
    one-unsound a.chunk_size.bytes a.records.now a.k i few
    (ap (sound_arena a.chunk_size.bytes) (sym (front_at a.records.now a.k c.requires i _ few)) ∙ sym c.is_sound.ensures ∙ c.if-not-is_sound.true)

pub of-range-requires : goal.of-range-requires
of-range-requires c = range-in _ _ (sym c.is_sound.ensures ∙ c.if-not-is_sound.false)

pub meets_none-requires : goal.meets_none-requires
meets_none-requires c =
    let a = c.args in
    let i = c.loop-i.i in
    let few : i < a.k = omega (arith, c.loop-i-test.true, length-front a.records.now a.k c.requires) in
    (passed-sound a.chunk_size.bytes a.records.now a.k i c.requires few c.loop-i.invariant.sound, c.loop-i.invariant.covered)

pub returns-then-not-meets_none : goal.returns-then-not-meets_none
returns-then-not-meets_none c =
    let a = c.args in
    let i = c.loop-i.i in
    let few : i < a.k = omega (arith, c.loop-i-test.true, length-front a.records.now a.k c.requires) in
    one-overlaps a.chunk_size.bytes a.records.now a.k i few
    (alone-by a.chunk_size.bytes a.records.now i _ (front_at a.records.now a.k c.requires i _ few) c.of-range.result c.of-range.ensures ∙ sym c.meets_none.ensures ∙ c.if-not-meets_none.true)

pub loop-i-preserved : goal.loop-i-preserved
loop-i-preserved c =
    let a = c.args in
    let i = c.loop-i in
    let few : i.i < a.k = omega (arith, c.loop-i-test.true, length-front a.records.now a.k c.requires) in
    let here = front_at a.records.now a.k c.requires i.i _ few in
    record {
      sound = passed-more true (sound a.chunk_size.bytes a.records.now) i.i i.invariant.sound (ap (sound_arena a.chunk_size.bytes) (sym here) ∙ sym c.is_sound.ensures ∙ c.if-not-is_sound.false);
      alone =
          passed-more true (alone a.chunk_size.bytes a.records.now) i.i i.invariant.alone
          (alone-by a.chunk_size.bytes a.records.now i.i _ here c.of-range.result c.of-range.ensures ∙ sym c.meets_none.ensures ∙ c.if-not-meets_none.false);
      covered = covers_more a.chunk_size.bytes a.records.now i.span c.with-span.result i.i i.invariant.covered _ here c.of-range.result c.of-range.ensures c.with-span.ensures;
    }

pub returns : goal.returns
returns c =
    let a = c.args in
    let end = length-front a.records.now a.k c.requires in
    let inv = c.loop-i.invariant in
    all_sound a.chunk_size.bytes a.records.now a.k (λ j h. inv.sound j (omega arith)) (λ j h. inv.alone j (omega arith))
