-- Lengths, page and count; the arenas; the open question.
use Rattle.std.proofs.Common.{sym, ◌∙◌}
use Rattle.table.proofs.TableLaws.{lengths-wrong, lent-32, all-lent, arenas-wrong, question-decides, few-each}
use Rattle.table.proofs.row_one.Goals as goal

pub returns-then-not-lent_sound : goal.returns-then-not-lent_sound
returns-then-not-lent_sound c =
    let a = c.args in lengths-wrong a.chunk_size.bytes a.records.now a.stamps a.state a.page (sym c.lent_sound.ensures ∙ c.if-not-lent_sound.true)

pub question_sound-requires : goal.question_sound-requires
question_sound-requires c =
    let a = c.args in
    let S = a.chunk_size.bytes in
    let right = sym c.lent_sound.ensures ∙ c.if-not-lent_sound.false in (
      (lent-32 S a.records.now a.stamps a.state a.page right).1,
      all-lent S a.records.now a.stamps a.state a.page right,
      few-each S a.records.now a.stamps a.state a.page right (sym c.arenas_sound.ensures ∙ c.if-arenas_sound.true),
    )

pub returns-then-arenas_sound : goal.returns-then-arenas_sound
returns-then-arenas_sound c =
    let a = c.args in
    let right = sym c.lent_sound.ensures ∙ c.if-not-lent_sound.false in
    c.question_sound.ensures
    ∙ question-decides a.chunk_size.bytes a.records.now a.stamps a.state a.page right (sym c.arenas_sound.ensures ∙ c.if-arenas_sound.true)

pub returns-else-arenas_sound : goal.returns-else-arenas_sound
returns-else-arenas_sound c =
    let a = c.args in
    let right = sym c.lent_sound.ensures ∙ c.if-not-lent_sound.false in
    c.if-arenas_sound.false
    ∙ arenas-wrong a.chunk_size.bytes a.records.now a.stamps a.state a.page right (sym c.arenas_sound.ensures ∙ c.if-arenas_sound.false)
