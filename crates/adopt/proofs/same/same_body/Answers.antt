-- `adopt::same::same_body` meets its contract. Assumes nothing.
use mathlib.Core.Path.{refl, sym, ◌∙◌}
use mathlib.Core.Bool.{true, false}
use native.Mathlib.Omega.{arith}
use Rattle.adopt.proofs.Bodies.{the_rest_same}
use Rattle.adopt.proofs.same.same_body.Goals as goal

pub returns-then-not-all_same : goal.returns-then-not-all_same
returns-then-not-all_same c =
    the_rest_same _ _ _ _ false _ c.same.ensures c.if-not-same.false (omega arith) (omega arith)
    (sym (c.if-not-all_same.true) ∙ c.all_same.ensures) refl

pub returns : goal.returns
returns c =
    the_rest_same _ _ _ _ true _ c.same.ensures c.if-not-same.false (omega arith) (omega arith)
    (sym (c.if-not-all_same.false) ∙ c.all_same.ensures) c.all_same-2.ensures
