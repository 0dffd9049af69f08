-- Rows 1 and 3, then the core.
use Rattle.std.proofs.Common.{◌≡◌, true, false, length}
use Rattle.layer.specs.World.{size_of}
use Rattle.layer.specs.Table.{sound_lent}
use Rattle.layer.specs.Step.{answer}
use Rattle.layer.specs.Answering.{is_for}
use Rattle.state.proofs.Entry.{Passes, asked, broken-row}
use Rattle.answering.proofs.EntryLaws.{is_open, other_row, answered}
use Rattle.answering.proofs.answer.Goals as goal

pub returns-then-not-row_one : goal.returns-then-not-row_one
returns-then-not-row_one c =
    let a = c.args in
    let broken : sound_lent (size_of a.state) a.records.now (length a.stamps.now) a.state a.settings.page ≡ false = cc in
    rw c.refuse.ensures (broken-row a.records.now a.stamps.now a.state a.ns a.settings broken (answer a.kind a.granted a.base))

pub returns-then-not-is_for : goal.returns-then-not-is_for
returns-then-not-is_for c =
    let a = c.args in
    let passes : Passes a.records.now a.stamps.now a.state a.ns a.settings = cc in
    let other : is_for a.state.question a.kind ≡ false = cc in
    rw c.refuse-then-not-is_for.ensures (other_row a.records.now a.stamps.now a.state a.ns a.settings a.kind a.granted a.base passes other)

pub answer_open-requires : goal.answer_open-requires
answer_open-requires c =
    let a = c.args in
    let passes : Passes a.records.now a.stamps.now a.state a.ns a.settings = cc in
    let same : is_for a.state.question a.kind ≡ true = cc in
    (asked a.records.now a.stamps.now a.state a.ns a.settings passes, is_open a.state.question a.kind same)

pub returns : goal.returns
returns c =
    let a = c.args in
    let passes : Passes a.records.now a.stamps.now a.state a.ns a.settings = cc in
    let same : is_for a.state.question a.kind ≡ true = cc in
    answered a.records.now a.stamps.now a.state a.ns a.settings a.kind a.granted a.base passes same _ _ _ c.answer_open.ensures
