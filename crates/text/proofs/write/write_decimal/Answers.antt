-- A decimal number written: its digits, as many as it takes. Assumes nothing.
use mathlib.Core.Path.{subst}
use Prim.Native.Nat.{ℕ}
use native.Mathlib.Omega.{arith}
use Rattle.text.specs.Print.{Wrote, digits, decimal_text}
use Rattle.text.proofs.write.write_decimal.Goals as goal

pub returns : goal.returns
unfolding decimal_text
returns c =
    let a = c.args in
    let w = c.write_digits in
    let e = c.decimal_length.ensures.0 in record { value = omega (arith, e, w.ensures.value); wrote = subst (λ (k : ℕ). Wrote a.out.now a.at (digits 10 k a.n) w.result w.new.out) e w.ensures.wrote }
