-- A claim: rows 4 and 5, then by what the search says. The machine holds the id's bits, and reads back the id that came in.
use Rattle.std.specs.Prelude.{◌≡◌, ◌<◌, Some, None}
use Rattle.state.proofs.Prelude.{eq-eqb, ne_eqb, arith}
use Rattle.std.proofs.Math.Facts.{to_z-of_z}
use Rattle.claiming.specs.Search.{search_from}
use Rattle.claiming.proofs.RowLaws.{searchable, grantable, zero_row, off-row, granted, missed}
use Rattle.claiming.proofs.claim.Goals as goal

pub returns-then-n-eq0 : goal.returns-then-n-eq0
returns-then-n-eq0 c =
    let a = c.args in
    λ stamps. rw c.refuse.ensures (zero_row a.records.now stamps a.state a.settings a.id a.n a.commits c.requires (eq-eqb a.n 0 c.if-n-eq0.true))

pub returns-then-not-arena_allowed : goal.returns-then-not-arena_allowed
returns-then-not-arena_allowed c =
    let a = c.args in
    λ stamps. rw c.refuse-then-not-arena_allowed.ensures
    (off-row a.records.now stamps a.state a.settings a.id a.n a.commits c.requires (ne_eqb a.n 0 c.if-n-eq0.false) (cc (to_z-of_z c.ranges.id)))

pub search-requires : goal.search-requires
search-requires c = let some : 0 < c.args.n = omega arith in (searchable c.args.records.now c.args.state c.requires.0, some)

pub grant-requires : goal.grant-requires
grant-requires c =
    let a = c.args in
    let found : search_from a.records.now a.id a.n 0 a.state.count ≡ Some c.in-Some.place = cc (to_z-of_z c.ranges.id) in
    grantable a.records.now a.state c.requires.0 a.id a.n c.in-Some.place found

pub returns-in-Some : goal.returns-in-Some
returns-in-Some c =
    let a = c.args in
    let found : search_from a.records.now a.id a.n 0 a.state.count ≡ Some c.in-Some.place = cc (to_z-of_z c.ranges.id) in
    λ stamps. rw (c.grant.ensures.0, c.grant.ensures.1)
    (granted a.records.now stamps a.state a.settings a.id a.n a.commits c.requires (ne_eqb a.n 0 c.if-n-eq0.false) (cc (to_z-of_z c.ranges.id)) c.in-Some.place found)

pub returns-in-None : goal.returns-in-None
returns-in-None c =
    let a = c.args in
    let vain : search_from a.records.now a.id a.n 0 a.state.count ≡ None = cc (to_z-of_z c.ranges.id) in
    λ stamps. rw (c.miss.ensures, c.chunk_size.ensures, to_z-of_z c.ranges.id)
    (missed a.records.now stamps a.state a.settings a.id a.n a.commits c.requires (ne_eqb a.n 0 c.if-n-eq0.false) (cc (to_z-of_z c.ranges.id)) vain)
