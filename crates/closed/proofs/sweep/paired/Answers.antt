-- `closed::sweep::paired` meets its contract: the first 2k words are whole pairs; a word without its partner is found
-- where it stands. Assumes nothing.
use Rattle.std.proofs.Common.{◌≡◌, ◌+◌, ◌*◌, ◌/◌, arith}
use Rattle.closed.specs.HeldLaws.{pairs_none, pairs_one, pairs_all, unpaired_late, unpaired_next, unpaired_end}
use Rattle.closed.proofs.sweep.paired.Goals as goal

pub loop-k-init : goal.loop-k-init
loop-k-init c = pairs_none _

pub returns-then-x-ne0 : goal.returns-then-x-ne0
returns-then-x-ne0 c = (
  omega arith,
  λ e. absurd (omega arith),
  λ e. unpaired_late c.requires.fact_2 c.loop-k.invariant e (omega arith),
)

pub overflow_add-x : goal.overflow_add-x
overflow_add-x c = omega (arith, c.type_inv.words (2 * c.loop-k.k))

pub returns-then-y-x : goal.returns-then-y-x
returns-then-y-x c = (
  omega arith,
  λ e. absurd (omega arith),
  λ e. unpaired_next c.requires.fact_2 c.loop-k.invariant (omega arith) (omega arith) (λ w. omega arith),
)

pub loop-k-preserved : goal.loop-k-preserved
loop-k-preserved c =
    let e : 2 * (c.loop-k.k + 1) ≡ 2 * c.loop-k.k + 2 = omega arith in
    rw e (pairs_one c.requires.fact_2 c.loop-k.invariant (omega arith) (omega arith) (omega arith))

pub returns : goal.returns
returns c =
    let l = c.loop-k in
    let h : c.args.n / 2 ≡ l.k = omega arith in rw h (
      omega arith,
      λ e. pairs_all l.invariant e,
      λ e. unpaired_end c.requires.fact_2 l.invariant e (omega arith),
    )
