-- The table with the new arena stands.
use Rattle.answering.proofs.MemoryLaws.{one_more}
use Rattle.answering.proofs.waiting.register.Goals as goal

pub search_again-requires : goal.search_again-requires
search_again-requires c = rw (c.write_new.ensures.0, c.reserved-a.ensures) (one_more c.args.records.now c.args.state _ c.requires.0 c.requires.2 c.requires.4)
