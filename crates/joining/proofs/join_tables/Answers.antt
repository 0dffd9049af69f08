-- Row 1 on both tables, row 2 on both, then the core.
use Rattle.std.proofs.Common.{◌≡◌, true, false, ◌&&◌, length}
use Rattle.layer.specs.World.{size_of}
use Rattle.layer.specs.Table.{sound_lent}
use Rattle.layer.specs.Answering.{is_idle}
use Rattle.joining.proofs.JoinLaws.{broken-row, open_row, joins, both-ready}
use Rattle.joining.proofs.join_tables.Goals as goal

pub returns-then-not-both_sound : goal.returns-then-not-both_sound
returns-then-not-both_sound c =
    let a = c.args in
    let S = size_of a.state in
    let broken : sound_lent S a.records.now (length a.stamps.now) a.state a.settings.page && sound_lent S a.second_records.now (length a.second_stamps.now) a.second a.settings.page ≡ false = cc in
    rw c.refuse.ensures (broken-row a.records.now a.stamps.now a.second_records.now a.second_stamps.now a.state a.second a.ns a.settings broken)

pub returns-then-not-both_idle : goal.returns-then-not-both_idle
returns-then-not-both_idle c =
    let a = c.args in
    let S = size_of a.state in
    let passes : sound_lent S a.records.now (length a.stamps.now) a.state a.settings.page && sound_lent S a.second_records.now (length a.second_stamps.now) a.second a.settings.page ≡ true = cc in
    let one_open : is_idle a.state.question && is_idle a.second.question ≡ false = cc in
    rw c.refuse-then-not-both_idle.ensures (open_row a.records.now a.stamps.now a.second_records.now a.second_stamps.now a.state a.second a.ns a.settings passes one_open)

pub join-requires : goal.join-requires
join-requires c =
    let a = c.args in
    let S = size_of a.state in
    let passes : sound_lent S a.records.now (length a.stamps.now) a.state a.settings.page && sound_lent S a.second_records.now (length a.second_stamps.now) a.second a.settings.page ≡ true = cc in
    let idle : is_idle a.state.question && is_idle a.second.question ≡ true = cc in
    both-ready a.records.now a.stamps.now a.second_records.now a.second_stamps.now a.state a.second a.ns a.settings passes idle

pub returns : goal.returns
returns c =
    let a = c.args in
    let S = size_of a.state in
    let passes : sound_lent S a.records.now (length a.stamps.now) a.state a.settings.page && sound_lent S a.second_records.now (length a.second_stamps.now) a.second a.settings.page ≡ true = cc in
    joins a.records.now a.stamps.now a.second_records.now a.second_stamps.now a.state a.second a.ns a.settings passes _ _ _ _ _ c.join.ensures
