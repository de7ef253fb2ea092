-- `closed::sweep::sweep` meets its contract: below `low` every number is there once, with its partner. Assumes nothing.
use mathlib.Core.Path.{refl, sym, ◌∙◌}
use mathlib.Core.Bool.{true≢false}
use native.Mathlib.Omega.{arith}
use borrow.Author.Rules.{rules}
use Rattle.closed.specs.HeldLaws.{gathered_none, matched_none, matched_more, matched_less, unmatched_odd}
use Rattle.closed.specs.HeldLaws.{unmatched_stuck}
use Rattle.closed.proofs.sweep.sweep.Goals as goal

pub gather_by_spans-batch-requires : goal.gather_by_spans-batch-requires
gather_by_spans-batch-requires c =
    let n = c.next.ensures in
    rw c.new-faces.ensures (gathered_none refl c.loop-low.invariant.1 (omega (arith, n.1)) n.0)

pub order-requires : goal.order-requires
order-requires c =
    let g = c.gather_by_spans-batch.ensures.1.sound in
    record {
      fact_1 = omega (arith, g.long, g.room);
      fact_2 = g.within;
    }

pub paired-requires : goal.paired-requires
paired-requires c =
    let g = c.gather_by_spans-batch.ensures.1.sound in
    let o = c.order.ensures in record { fact_1 = omega (arith, g.long, g.room, o.moved.long); fact_2 = o.rising }

pub returns-then-paired-n : goal.returns-then-paired-n
returns-then-paired-n c =
    let g = rw c.new-faces.ensures at c.gather_by_spans-batch.ensures.1 in
    let p = c.paired.ensures in (
      λ e. absurd (true≢false (sym e)),
      λ e. unmatched_odd g c.order.ensures c.paired.result (omega arith)
          (p.2 (omega arith)),
    )

pub returns-then-end-low : goal.returns-then-end-low
returns-then-end-low c = (
  λ e. absurd (true≢false (sym e)),
  λ e.
      unmatched_stuck (rw c.new-faces.ensures at c.gather_by_spans-batch.ensures.1)
      (omega arith),
)

pub loop-low-preserved : goal.loop-low-preserved
loop-low-preserved c =
    let g = c.gather_by_spans-batch.ensures in
    let o = c.order.ensures in
    let p = c.paired.ensures in (
      omega (arith, g.0),
      o.moved.long ∙ g.1.sound.long,
      matched_more (rw c.new-faces.ensures at g.1) o c.loop-low.invariant.2 (p.1 (omega (arith, p.0))),
    )

pub loop-low-init : goal.loop-low-init
loop-low-init c = (omega arith, search rules, matched_none)

pub returns : goal.returns
returns c = (λ e. matched_less c.loop-low.invariant.2 (omega arith), λ e. absurd (true≢false e))
