-- `volume::faces::is_minus_zero` meets its contract: of what equals zero the sign tells. Assumes nothing.
use mathlib.Core.Path.{◌≡◌, refl, sym, ◌∙◌}
use mathlib.Core.Bool.{Bool, true, false, true≢false, false≢true}
use Prim.Native.Nat.{ℕ, zero, suc, ◌*◌, ◌<◌}
use native.Mathlib.Nat.{zero-mul, zero-lt-suc, mul-pos}
use native.Mathlib.Omega.{arith}
use borrow.Author.Tests.{ne_eqb}
use lib.Dec.{lit<}
use lib.IntN.{ℤ}
use lib.Ieee.{Float, nan, inf, fin, up, down, eq, of_bits}
use lib.Ieee.Fits.{up_pos}
use Rattle.base.specs.Floats.{+0, sign}
use Rattle.base.specs.ZeroLaws.{minus_zero}
use Rattle.volume.proofs.faces.is_minus_zero.Goals as goal

level-zero : (s : Bool) (e : ℤ) → eq (fin s 0 e) +0 ≡ true
unfolding eq of_bits
level-zero true e = rw (zero-mul (up e), zero-mul (down e)) refl
level-zero false e = rw (zero-mul (up e), zero-mul (down e)) refl

level-more : (s : Bool) (m : ℕ) (e : ℤ) → eq (fin s (suc m) e) +0 ≡ false
unfolding eq of_bits
level-more s m e =
    let p : 0 < suc m * up e * 1 = mul-pos (mul-pos (zero-lt-suc m) (up_pos e)) (lit< tt) in
    rw (zero-mul (down e), ne_eqb (suc m * up e * 1) 0 (λ z. omega (arith, z))) refl

equal : (x : Float) → eq x +0 ≡ true → sign x ≡ minus_zero x
unfolding eq of_bits
equal nan h = refl
equal (inf s) h = absurd (false≢true h)
equal (fin s zero e) h = refl
equal (fin s (suc m) e) h = absurd (false≢true (sym (level-more s m e) ∙ h))

unequal : (x : Float) → eq x +0 ≡ false → false ≡ minus_zero x
unequal nan h = refl
unequal (inf s) h = refl
unequal (fin s zero e) h = absurd (true≢false (sym (level-zero s e) ∙ h))
unequal (fin s (suc m) e) h = refl

pub returns-then-sum : goal.returns-then-sum
returns-then-sum c = c.is_negative.ensures ∙ equal c.args.sum c.if-sum.true

pub returns-else-sum : goal.returns-else-sum
returns-else-sum c = unequal c.args.sum c.if-sum.false
