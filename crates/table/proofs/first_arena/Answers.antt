-- The test is asked of each record in turn, and the search stops at the first that passes.
use Rattle.std.proofs.Common.{true, false, rules, take}
use Rattle.std.proofs.lemmas.Iterator.{YieldsList-from_slice, IsFirst-from_position}
use Rattle.std.proofs.lemmas.Iterator.Adapters.{serves_from_places}
use Rattle.std.specs.Fn.{FnReturnsAt}
use Rattle.table.proofs.SearchLaws.{at-front, first-in-front}
use Rattle.table.proofs.first_arena.Goals as goal

pub position-requires-clause-callable : goal.position-requires-clause-callable
position-requires-clause-callable g c =
    let a = c.args in
    serves_from_places (YieldsList-from_slice (take a.k a.records.now) c.iter.ensures.rest) (λ x q e. search rules)
    (λ x i h e. let front = at-front a.records.now a.k c.requires.0 i x.now h e in c.requires.1 i front.0 x front.1)

pub returns : goal.returns
returns g c =
    let a = c.args in
    first-in-front a.records.now a.k g.F.Fn a.test c.requires.0 _
    (IsFirst-from_position _ _ _ (λ x. FnReturnsAt g.F.Fn a.test x true) (λ x. FnReturnsAt g.F.Fn a.test x false) c.position.ensures.ran
    (YieldsList-from_slice (take a.k a.records.now) c.iter.ensures.rest) (λ x q e. search rules) (λ x q e. search rules))
