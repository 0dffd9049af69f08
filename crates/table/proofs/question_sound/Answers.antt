-- The question's parts, one after the other: the first that fails decides, or the last.
use Rattle.std.specs.Prelude.{Bool, ◌&&◌}
use Rattle.std.proofs.Common.{ap, sym, ◌∙◌}
use Rattle.layer.specs.Table.{at, asked_id}
use Rattle.table.specs.Questions.{sound_count}
use Rattle.table.proofs.open_question.QuestionLaws.{none-sound, absent-fails, use-decides}
use Rattle.table.proofs.question_sound.Goals as goal

pub returns-in_default : goal.returns-in_default
returns-in_default c =
    let a = c.args in none-sound (at a.records.now (asked_id a.question)) a.count a.question (sym c.in_default.is ∙ c.asked_run.ensures)

pub returns-then-run-count : goal.returns-then-run-count
returns-then-run-count c =
    let a = c.args in absent-fails a.records.now a.count a.question c.in-Some.run' (sym c.in-Some.is ∙ c.asked_run.ensures) c.if-run-count.true

pub returns-then-is_in_use : goal.returns-then-is_in_use
returns-then-is_in_use c =
    let a = c.args in
    c.count_is_sound.ensures ∙ ap (λ (b : Bool). b && sound_count a.question c.in-Some.run') (sym c.if-is_in_use.true)
    ∙ use-decides a.records.now a.count a.question c.in-Some.run' (sym c.in-Some.is ∙ c.asked_run.ensures) c.if-run-count.false c.requires.1 _ c.is_in_use.result c.is_in_use.ensures

pub returns-else-is_in_use : goal.returns-else-is_in_use
returns-else-is_in_use c =
    let a = c.args in
    c.if-is_in_use.false ∙ ap (λ (b : Bool). b && sound_count a.question c.in-Some.run') (sym c.if-is_in_use.false)
    ∙ use-decides a.records.now a.count a.question c.in-Some.run' (sym c.in-Some.is ∙ c.asked_run.ensures) c.if-run-count.false c.requires.1 _ c.is_in_use.result c.is_in_use.ensures
