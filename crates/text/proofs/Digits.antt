-- The value of a digit, without a table. Assumes nothing.
use mathlib.Core.Path.{◌≡◌, refl}
use mathlib.Core.Bool.{Bool, true, false, cond}
use Prim.Native.Nat.{ℕ, ◌+◌, ◌-◌, ◌*◌, ◌/◌, ◌%◌, ◌<◌}
use native.Mathlib.Omega.{arith}
use lib.Dec.{ltb}
use borrow.Author.Tests.{ltb-true, ltb-false}
use Rattle.text.specs.Text.{digit}

-- the value is in the low four bits, after 9 is added for a letter
pub digit-is : (b : ℕ) → digit b < 16 → b % 16 + 9 * (b / 64) ≡ digit b
digit-is b h = go (ltb b 48) (ltb b 58) (ltb b 65) (ltb b 71) refl refl refl refl h
  where
    go : (p q r t : Bool) → ltb b 48 ≡ p → ltb b 58 ≡ q → ltb b 65 ≡ r → ltb b 71 ≡ t
        → cond p 16 (cond q (b - 48) (cond r 16 (cond t (b - 55) 16))) < 16
        → b % 16 + 9 * (b / 64) ≡ cond p 16 (cond q (b - 48) (cond r 16 (cond t (b - 55) 16)))
    go true q r t ep eq er et l = absurd (omega arith)
    go false true r t ep eq er et l = let k = ltb-false b 48 ep in let m = ltb-true b 58 eq in omega arith
    go false false true t ep eq er et l = absurd (omega arith)
    go false false false true ep eq er et l = let k = ltb-false b 65 er in let m = ltb-true b 71 et in omega arith
    go false false false false ep eq er et l = absurd (omega arith)
