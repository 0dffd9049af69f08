-- Rows 4, 8, 7 and 9, then the release in the record that the address lies in.
use Rattle.std.proofs.Common.{◌≡◌, true, false, ◌-◌, ◌/◌, ◌%◌, eqb, rules, ◌∙◌}
use Rattle.layer.specs.World.{size_of}
use Rattle.layer.specs.Table.{at}
use Rattle.releasing.proofs.RowLaws.{is-lent, is-read, from-base, starts-in, ends_in, ends-past, releasable, zero_row, outside-row, part-row, end_row, released}
use Rattle.releasing.proofs.release.Goals as goal

pub returns-then-n-eq0 : goal.returns-then-n-eq0
returns-then-n-eq0 c =
    let a = c.args in
    let w = zero_row a.records.now a.stamps.now a.state a.ns a.settings a.address a.n a.told a.pending c.requires.0 c.if-n-eq0.true in
    (c.refuse.ensures ∙ w.0, w.1, w.2)

pub returns-in_default : goal.returns-in_default
returns-in_default c =
    let a = c.args in
    let w = outside-row a.records.now a.stamps.now a.state a.ns a.settings a.address a.n a.told a.pending c.requires.0 c.if-n-eq0.false cc in
    (c.refuse-in_default.ensures ∙ w.0, w.1, w.2)

pub bounds-records-i : goal.bounds-records-i
bounds-records-i c = let a = c.args in is-lent a.records.now a.state c.requires.0.0 a.address c.in-Some.i cc

pub offset_bounds-records-i : goal.offset_bounds-records-i
offset_bounds-records-i c =
    let a = c.args in
    let lent = is-lent a.records.now a.state c.requires.0.0 a.address c.in-Some.i cc in
    let few = c.requires.0.0.lent in
    search rules

pub overflow_sub-offset : goal.overflow_sub-offset
overflow_sub-offset c = let a = c.args in from-base a.records.now a.state c.requires.0.0 a.address c.in-Some.i cc

pub returns-then-not-divides : goal.returns-then-not-divides
returns-then-not-divides c =
    let a = c.args in
    let h = is-read a.records.now a.state c.requires.0.0 a.address c.in-Some.i cc in
    let e : eqb ((a.address - (at a.records.now c.in-Some.i).base) % size_of a.state) 0 ≡ false = cc in
    let w = part-row a.records.now a.stamps.now a.state a.ns a.settings a.address a.n a.told a.pending c.requires.0 c.if-n-eq0.false c.in-Some.i (cc) e in
    (c.refuse-then-not-divides.ensures ∙ w.0, w.1, w.2)

pub overflow_sub-a : goal.overflow_sub-a
overflow_sub-a c =
    let a = c.args in
    rw (c.chunks_in-s.ensures, c.chunk_size-chunk_size.ensures) (starts-in a.records.now a.state c.requires.0.0 a.address c.in-Some.i cc)

pub returns-then-a-s : goal.returns-then-a-s
returns-then-a-s c =
    let a = c.args in
    let h = is-read a.records.now a.state c.requires.0.0 a.address c.in-Some.i cc in
    let e : eqb ((a.address - (at a.records.now c.in-Some.i).base) % size_of a.state) 0 ≡ true = cc in
    let f = ends-past a.records.now a.state c.requires.0.0 a.address c.in-Some.i (cc) c.chunks_in-s.result a.n (cc) c.if-a-s.true in
    let w = end_row a.records.now a.stamps.now a.state a.ns a.settings a.address a.n a.told a.pending c.requires.0 c.if-n-eq0.false c.in-Some.i (cc) e f in
    (c.refuse-then-a-s.ensures ∙ w.0, w.1, w.2)

pub release_in-requires : goal.release_in-requires
release_in-requires c =
    let a = c.args in
    let h = is-read a.records.now a.state c.requires.0.0 a.address c.in-Some.i cc in
    let s : c.chunks_in-s.result ≡ (a.address - (at a.records.now c.in-Some.i).base) / size_of a.state = cc in
    let f = ends_in a.records.now a.state c.requires.0.0 a.address c.in-Some.i (cc) c.chunks_in-s.result a.n s c.if-a-s.false in
    let g = releasable a.records.now a.state c.requires.0.0 a.address c.in-Some.i (cc) a.n f in
    (g.0, g.1, rw s g.2, c.requires.1)

pub returns : goal.returns
returns c =
    let a = c.args in
    let h = is-read a.records.now a.state c.requires.0.0 a.address c.in-Some.i cc in
    let e : eqb ((a.address - (at a.records.now c.in-Some.i).base) % size_of a.state) 0 ≡ true = cc in
    let s : c.chunks_in-s.result ≡ (a.address - (at a.records.now c.in-Some.i).base) / size_of a.state = cc in
    let f = ends_in a.records.now a.state c.requires.0.0 a.address c.in-Some.i (cc) c.chunks_in-s.result a.n s c.if-a-s.false in
    let w = released a.records.now a.stamps.now a.state a.ns a.settings a.address a.n a.told a.pending c.requires.0 c.if-n-eq0.false c.in-Some.i (cc) e f in
    (c.release_in.ensures.0 ∙ w.0, rw s at c.release_in.ensures.1 ∙ w.1, rw s at c.release_in.ensures.2 ∙ w.2)
