-- By whether the arena is due, and by what is found in it.
use Rattle.std.proofs.Common.{arith, refl}
use Rattle.arena.specs.Stamps.{stamps_of}
use Rattle.std.proofs.lemmas.List.{get_or_default}
use Rattle.layer.specs.World.{blank}
use Rattle.layer.specs.Table.{at}
use Rattle.sweeping.proofs.VisitLaws.{next-found, next-inside, passed-by, borrowed, armed}
use Rattle.sweeping.proofs.visit.Goals as goal

pub returns-then-not-is_due : goal.returns-then-not-is_due
returns-then-not-is_due c =
    let a = c.args in
    let e = rw (get_or_default a.records.now a.i _ blank c.requires.0) at c.is_due.ensures in
    passed-by a.records.now a.stamps.now a.i a.w cc

pub first_borrowed-requires : goal.first_borrowed-requires
first_borrowed-requires c =
    let a = c.args in
    let f = next-found a.w 0 refl (get_or_default a.records.now a.i _ blank c.requires.0) c.stamps_of-own.ensures.0 c.timing_of-timing.ensures c.next_asked.ensures c.in-Some.is in
    omega (arith, next-inside a.w (at a.records.now a.i) (stamps_of a.stamps.now a.i) 0 c.in-Some.j f, c.requires.2)

pub returns-in_default : goal.returns-in_default
returns-in_default c =
    let a = c.args in
    let e = rw (get_or_default a.records.now a.i _ blank c.requires.0) at c.is_due.ensures in
    let f = next-found a.w 0 refl (get_or_default a.records.now a.i _ blank c.requires.0) c.stamps_of-own.ensures.0 c.timing_of-timing.ensures c.next_asked.ensures c.in_default.is in
    let p = armed a.records.now a.stamps.now a.i a.w (cc) f in
    (p.0, cc)

pub returns : goal.returns
returns c =
    let a = c.args in
    let e = rw (get_or_default a.records.now a.i _ blank c.requires.0) at c.is_due.ensures in
    let f = next-found a.w 0 refl (get_or_default a.records.now a.i _ blank c.requires.0) c.stamps_of-own.ensures.0 c.timing_of-timing.ensures c.next_asked.ensures c.in-Some.is in
    let p = borrowed a.records.now a.stamps.now a.i a.w (cc) c.in-Some.j f in
    (p.0, cc)
