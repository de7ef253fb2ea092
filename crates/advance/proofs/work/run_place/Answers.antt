-- `advance::work::run_place` meets its contract. Assumes nothing.
use mathlib.Core.Path.{refl}
use borrow.Author.Tests.{le-ltb}
use Rattle.advance.proofs.Steps.{turn, stopped}
use Rattle.advance.proofs.work.run_place.Goals as goal

pub loop-r-smaller : goal.loop-r-smaller
loop-r-smaller c =
    let l = c.loop-r in
    (turn _ _ _ _ _ _ _ _ c.requires.fact_1 c.requires.fact_2.place c.requires.fact_2.pieces l.floats
    l.r.finished l.r.done l.r.budget l.invariant c.loop-r-test.true c.if-r-gt0.true _ c.run_piece-r.ensures).1

pub loop-r-preserved : goal.loop-r-preserved
loop-r-preserved c =
    let l = c.loop-r in
    (turn _ _ _ _ _ _ _ _ c.requires.fact_1 c.requires.fact_2.place c.requires.fact_2.pieces l.floats
    l.r.finished l.r.done l.r.budget l.invariant c.loop-r-test.true c.if-r-gt0.true _ c.run_piece-r.ensures).0

pub returns-after-loop-r-clause-fact_1 : goal.returns-after-loop-r-clause-fact_1
returns-after-loop-r-clause-fact_1 c =
    let l = c.loop-r in
    stopped _ _ _ _ _ _ _ _ l.floats l.r.finished l.r.done l.r.budget l.invariant
    (rw (le-ltb l.r.finished c.args.count c.loop-r-test.false) refl)
