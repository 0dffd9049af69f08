-- By what the search says of the arenas, the new one among them.
use Rattle.std.proofs.Common.{◌≡◌, sym, ◌∙◌, Some, None, negsuc}
use Rattle.layer.specs.World.{size_of}
use Rattle.state.proofs.Entry.{comes}
use Rattle.claiming.specs.Search.{search_from}
use Rattle.claiming.proofs.RowLaws.{searchable, grantable}
use Rattle.claiming.proofs.SearchLaws.{in-a-run, in-vain}
use Rattle.answering.proofs.waiting.search_again.Goals as goal

pub find_again-requires : goal.find_again-requires
find_again-requires c = searchable c.args.records.now c.args.state c.requires

pub grant-requires : goal.grant-requires
grant-requires c = grantable c.args.records.now c.args.state c.requires (negsuc 0) c.args.n c.in-Some.place (sym c.find_again.ensures ∙ c.in-Some.is)

pub returns-in-Some : goal.returns-in-Some
returns-in-Some c =
    let a = c.args in
    let found : search_from a.records.now (negsuc 0) a.n 0 a.state.count ≡ Some c.in-Some.place = sym c.find_again.ensures ∙ c.in-Some.is in
    λ stamps. rw (c.grant.ensures.0, c.grant.ensures.1)
    (comes _ _ _ stamps (in-a-run a.records.now (negsuc 0) a.n (size_of a.state) stamps a.state.count a.state.mark a.commits _ c.in-Some.place found))

pub returns-in-None : goal.returns-in-None
returns-in-None c =
    let a = c.args in
    let vain : search_from a.records.now (negsuc 0) a.n 0 a.state.count ≡ None = sym c.find_again.ensures ∙ c.in-None.is in
    λ stamps. rw c.no_such_run.ensures (comes _ _ _ stamps (in-vain a.records.now (negsuc 0) a.n (size_of a.state) stamps a.state.count a.state.mark a.commits _ vain))
