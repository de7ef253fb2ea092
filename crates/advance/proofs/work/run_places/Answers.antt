-- `advance::work::run_places` meets its contract. Assumes nothing.
use Rattle.advance.proofs.Places.{start, sweep}
use Rattle.advance.proofs.work.run_places.Goals as goal

pub loop-i-init : goal.loop-i-init
loop-i-init c = start _ _ _ _ _ c.requires.fact_2

pub loop-i-preserved : goal.loop-i-preserved
loop-i-preserved c =
    let l = c.loop-i in
    let s = c.spend-rest in
    sweep _ _ _ _ _ l.floats s.new.floats l.words s.new.words l.rest s.result l.i l.invariant c.loop-i-test.true
    s.auto.floats s.ensures
