-- Each arena, until a chunk of one is asked about.
use Rattle.std.proofs.Common.{◌∙◌, sym, arith}
use Rattle.layer.specs.World.{size_of}
use Rattle.sweeping.proofs.SweepLaws.{question-fits, goes_on, asks-there, asks_none}
use Rattle.sweeping.proofs.sweep_on.Goals as goal

pub purge_question-requires : goal.purge_question-requires
purge_question-requires c =
    let a = c.args in
    let l = c.loop-i in
    rw c.visit.ensures.1
    (question-fits (size_of a.state) a.stamps.now a.state.count a.state.mark a.w l.records l.i c.in-Some.j (sym c.visit.ensures.0 ∙ c.in-Some.is) l.invariant.0 c.loop-i-test.true (omega (arith, c.requires.0.1, l.auto.records, c.loop-i-test.true)))

pub returns-in-Some : goal.returns-in-Some
returns-in-Some c =
    let a = c.args in
    let l = c.loop-i in
    let g = asks-there (size_of a.state) a.stamps.now a.state.count a.state.mark a.w a.from a.records.now l.i l.records l.invariant c.in-Some.j (sym c.visit.ensures.0 ∙ c.in-Some.is) c.loop-i-test.true (omega (arith, c.requires.0.1, l.auto.records, c.loop-i-test.true)) in
    (cc, cc, g.2)

pub loop-i-preserved : goal.loop-i-preserved
loop-i-preserved c =
    let a = c.args in
    let l = c.loop-i in
    rw c.visit.ensures.1
    (goes_on (size_of a.state) a.stamps.now a.state.count a.state.mark a.w a.from a.records.now l.i l.records l.invariant c.loop-i-test.true c.requires.0.1 l.auto.records (sym c.visit.ensures.0 ∙ c.in_default.is))

pub returns : goal.returns
returns c =
    let a = c.args in
    let l = c.loop-i in
    let g = asks_none (size_of a.state) a.stamps.now a.state.count a.state.mark a.w a.from a.records.now l.i l.records l.invariant c.loop-i-test.false in
    (c.swept.ensures ∙ g.0, g.1, g.2)
