-- What the open question says of the table.
use Rattle.answering.proofs.OpenLaws.{run-stands, chunk-stands}
use Rattle.answering.proofs.answer_open.Goals as goal

pub answer_commit-requires : goal.answer_commit-requires
answer_commit-requires c = run-stands c.args.records.now c.args.stamps.now c.args.state c.requires.0 _ _ _ c.in-Committing.is

pub answer_purge-requires : goal.answer_purge-requires
answer_purge-requires c = chunk-stands c.args.records.now c.args.stamps.now c.args.state c.requires.0 _ _ _ c.in-Purging.is

pub returns-in-Committing : goal.returns-in-Committing
returns-in-Committing c = rw c.in-Committing.is (c.answer_commit.ensures c.args.stamps.now)
