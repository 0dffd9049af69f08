-- By whether there is a next chunk to ask about.
use Rattle.std.proofs.Common.{◌≡◌, ◌+◌, set, arith}
use Rattle.arena.specs.Sweeping.{borrow_chunk, return_chunk}
use Rattle.layer.specs.Answering.{counted}
use Rattle.layer.specs.Table.{at}
use Rattle.sweeping.proofs.VisitLaws.{next-found}
use Rattle.sweeping.proofs.AnswerLaws.{chunks-few, chunk-low, few-counted, next_low, next_fits, asks-next, rest-sweepable, goes_on}
use Rattle.sweeping.proofs.answer_purge.Goals as goal

pub counted-v-requires : goal.counted-v-requires
counted-v-requires c = let a = c.args in few-counted a.records.now a.stamps.now a.state a.id a.chunk a.w c.requires

pub next_asked-requires : goal.next_asked-requires
next_asked-requires c =
    let a = c.args in
    rw c.load-a.ensures (chunks-few a.records.now a.stamps.now a.state a.id a.chunk a.w c.requires, c.stamps_of-own.ensures.1)

pub next_borrowed-requires : goal.next_borrowed-requires
next_borrowed-requires c =
    let a = c.args in
    let f = next-found (counted a.w a.granted) (a.chunk + 1) c.counted-v.ensures c.load-a.ensures c.stamps_of-own.ensures.0 c.timing_of-timing.ensures c.next_asked.ensures c.in-Some.is in
    next_low a.records.now a.stamps.now a.state a.id a.chunk a.w c.requires a.granted c.in-Some.j f

pub purge_question-requires : goal.purge_question-requires
purge_question-requires c =
    let a = c.args in
    let f = next-found (counted a.w a.granted) (a.chunk + 1) c.counted-v.ensures c.load-a.ensures c.stamps_of-own.ensures.0 c.timing_of-timing.ensures c.next_asked.ensures c.in-Some.is in
    let m : c.store.new.records ≡ set a.records.now a.id (borrow_chunk (return_chunk (at a.records.now a.id) a.chunk a.granted a.w.decommit) c.in-Some.j) = cc in
    rw m (next_fits a.records.now a.stamps.now a.state a.id a.chunk a.w c.requires a.granted c.in-Some.j f)

pub returns-in-Some : goal.returns-in-Some
returns-in-Some c =
    let a = c.args in
    let f = next-found (counted a.w a.granted) (a.chunk + 1) c.counted-v.ensures c.load-a.ensures c.stamps_of-own.ensures.0 c.timing_of-timing.ensures c.next_asked.ensures c.in-Some.is in
    let g = asks-next a.records.now a.stamps.now a.state a.id a.chunk a.w c.requires a.granted c.in-Some.j f in
    (cc, cc, g.2)

pub row_cleared-settled-requires : goal.row_cleared-settled-requires
row_cleared-settled-requires c = let a = c.args in omega (arith, chunk-low a.records.now a.stamps.now a.state a.id a.chunk a.w c.requires)

pub next_deadline-due-requires : goal.next_deadline-due-requires
next_deadline-due-requires c =
    let a = c.args in
    rw c.load-a.ensures (chunks-few a.records.now a.stamps.now a.state a.id a.chunk a.w c.requires, c.stamps_of-own.ensures.1)

pub last_returned-requires : goal.last_returned-requires
last_returned-requires c = let a = c.args in chunk-low a.records.now a.stamps.now a.state a.id a.chunk a.w c.requires

pub sweep_on-requires : goal.sweep_on-requires
sweep_on-requires c =
    let a = c.args in
    let f = next-found (counted a.w a.granted) (a.chunk + 1) c.counted-v.ensures c.load-a.ensures c.stamps_of-own.ensures.0 c.timing_of-timing.ensures c.next_asked.ensures c.in_default.is in
    let s = rest-sweepable a.records.now a.stamps.now a.state a.id a.chunk a.w c.requires a.granted f in (
      rw (c.store-2.ensures, c.last_returned.ensures, c.next_deadline-due.ensures, c.row_cleared-settled.ensures, c.stamps_of-own.ensures.0, c.load-a.ensures, c.timing_of-timing.ensures.0, c.timing_of-timing.ensures.1, c.timing_of-timing.ensures.2, c.counted-v.ensures) s,
      c.requires.stamped,
    )

pub returns : goal.returns
returns c =
    let a = c.args in
    let f = next-found (counted a.w a.granted) (a.chunk + 1) c.counted-v.ensures c.load-a.ensures c.stamps_of-own.ensures.0 c.timing_of-timing.ensures c.next_asked.ensures c.in_default.is in
    let says = rw (c.store-2.ensures, c.last_returned.ensures, c.next_deadline-due.ensures, c.row_cleared-settled.ensures, c.stamps_of-own.ensures.0, c.load-a.ensures, c.timing_of-timing.ensures.0, c.timing_of-timing.ensures.1, c.timing_of-timing.ensures.2, c.counted-v.ensures) at c.sweep_on.ensures in
    goes_on a.records.now a.stamps.now a.state a.id a.chunk a.w c.requires a.granted f c.sweep_on.result c.sweep_on.new.records a.stamps.now says
