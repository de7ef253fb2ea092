-- `root::confirm` meets its contract: the number that it answers is the root, rounded, by `Confirms.antt`. Assumes
-- nothing.
use Rattle.root.proofs.Confirms.{at_g, at_next, at_third}
use Rattle.root.proofs.confirm.Goals as goal

pub returns-then-u-step : goal.returns-then-u-step
returns-then-u-step c =
    at_g _ _ _ _ _ c.requires.1 c.in_ok-a.ensures c.in_ok-b.ensures c.in_ok-u.ensures c.if-u-step.true

pub returns-then-v-step : goal.returns-then-v-step
returns-then-v-step c =
    at_next _ _ _ _ _ c.requires.1 c.in_ok-a.ensures c.in_ok-b.ensures c.in_ok-u.ensures c.if-u-step.false c.if-v-step.true

pub returns-then-v-step-2 : goal.returns-then-v-step-2
returns-then-v-step-2 c =
    at_third _ _ _ _ _ c.requires.1 c.in_ok-a.ensures c.in_ok-b.ensures c.in_ok-u.ensures c.if-u-step.false c.if-v-step.false
    c.if-v-step-2.true
