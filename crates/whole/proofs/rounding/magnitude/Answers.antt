-- `whole::rounding::magnitude` meets its contract. Assumes nothing.
use borrow.Author.Rules.{rules}
use mathlib.Core.Path.{sym, subst, ◌∙◌}
use mathlib.Core.Path.{◌≡◌}
use lib.Dec.{T}
use lib.Ieee.{Float}
use Rattle.whole.specs.Whole.{printable}
use native.Mathlib.Omega.{arith}
use Rattle.base.specs.Floats.{abs}
use Rattle.whole.specs.WholeLaws.{Sized, sized}
use Rattle.whole.proofs.Magnitudes.{a_number, below_inf, most-is, zero_is, low_exponent, by_shift, below_half}
use Rattle.whole.proofs.rounding.magnitude.Goals as goal

size_of : {x y : Float} → T (printable x) → y ≡ abs x → Sized x y
size_of {x = x} h e = subst (Sized x) (sym e) (sized x h)

pub float_to_bits-b : goal.float_to_bits-b
float_to_bits-b c = a_number _ _ (size_of c.requires c.abs-b.ensures) (search rules)

pub returns-then-b-eq0 : goal.returns-then-b-eq0
returns-then-b-eq0 c = (
  sym (zero_is _ _ (size_of c.requires c.abs-b.ensures) (search rules) c.if-b-eq0.true),
  omega arith,
)

pub split-p-requires : goal.split-p-requires
split-p-requires c = (omega arith, below_inf _ _ (size_of c.requires c.abs-b.ensures) (search rules))

pub returns-then-ex-lt1073 : goal.returns-then-ex-lt1073
returns-then-ex-lt1073 c = (
  sym (below_half _ _ (size_of c.requires c.abs-b.ensures) (search rules) _ _ c.split-p.ensures c.if-ex-lt1073.true),
  omega arith,
)

pub overflow_sub-ex : goal.overflow_sub-ex
overflow_sub-ex c =
    omega (arith, low_exponent _ _ (size_of c.requires c.abs-b.ensures) (search rules) _ _ c.split-p.ensures)

pub returns : goal.returns
returns c =
    let e = c.nearest.ensures
    ∙ sym (by_shift _ _ (size_of c.requires c.abs-b.ensures) (search rules) _ _ c.split-p.ensures) in
    (e, rw e (most-is _ _ (size_of c.requires c.abs-b.ensures) (search rules)))
