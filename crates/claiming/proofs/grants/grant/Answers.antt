-- A grant in an arena: what the definition reads of the record is read before it is stored.
use Rattle.std.specs.Prelude.{◌≡◌, ◌+◌, ◌*◌}
use Rattle.state.proofs.Prelude.{sym, ap, ap₂, ◌∙◌, ℕ, Arena, size_of, at, blank, run_committed, run_fresh}
use Rattle.std.proofs.lemmas.List.{get_or_default}
use Rattle.claiming.proofs.GrantLaws.{asks, grants}
use Rattle.claiming.proofs.grants.grant.Goals as goal

pub returns-then-not-committed : goal.returns-then-not-committed
returns-then-not-committed c =
    let a = c.args in
    let l = a.records.now in
    let i = a.place.id in
    let s = a.place.start in
    let committed : c.run_committed-committed.result ≡ run_committed (at l i) s a.n =
    c.run_committed-committed.ensures ∙ ap (λ (r : Arena). run_committed r s a.n) (get_or_default l i _ blank c.requires.0) in
    let address : c.address_of-address.result ≡ (at l i).base + s * size_of a.state =
    c.address_of-address.ensures ∙ ap₂ (λ (r : Arena) (x : ℕ). r.base + s * x) (get_or_default l i _ blank c.requires.0) c.chunk_size.ensures in
    let p = asks (size_of a.state) a.state i (at l i) s a.n a.commits l c.if-commits.true (sym committed ∙ c.if-not-committed.true) in
    (rw (c.commit_question.ensures, address) p.0, rw (c.store.ensures, c.take_run.ensures, c.load-a.ensures) p.1)

pub returns : goal.returns
returns c =
    let a = c.args in
    let l = a.records.now in
    let i = a.place.id in
    let s = a.place.start in
    let committed : c.run_committed-committed.result ≡ run_committed (at l i) s a.n =
    c.run_committed-committed.ensures ∙ ap (λ (r : Arena). run_committed r s a.n) (get_or_default l i _ blank c.requires.0) in
    let fresh : c.run_fresh-fresh.result ≡ run_fresh (at l i) s a.n =
    c.run_fresh-fresh.ensures ∙ ap (λ (r : Arena). run_fresh r s a.n) (get_or_default l i _ blank c.requires.0) in
    let address : c.address_of-address.result ≡ (at l i).base + s * size_of a.state =
    c.address_of-address.ensures ∙ ap₂ (λ (r : Arena) (x : ℕ). r.base + s * x) (get_or_default l i _ blank c.requires.0) c.chunk_size.ensures in
    let p = grants (size_of a.state) a.state i (at l i) s a.n a.commits l (rw committed at c.else-commits.either) in
    (rw (c.granted.ensures, address, fresh, committed) p.0, rw (c.store-2.ensures, c.grant_run.ensures, c.load-a.ensures) p.1)
