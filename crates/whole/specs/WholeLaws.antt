-- A value that can be printed: what it is, and how great it is rounded. Assumes nothing.
use Rattle.std.specs.Prelude.{◌≡◌, refl, Bool, true, false, ◌||◌, ◌&&◌, ℕ, zero, suc, ◌*◌, ◌≤◌, ◌<◌, T, ltb, eqb, ℤ, nat_abs, Float}
use Rattle.std.proofs.Common.{subst, le_of_lt, le_of_eq, mul-one, ltb→lt, eqb→eq}
use Rattle.std.specs.Float.{nan, inf, fin}
use Rattle.std.specs.Float.Ieee.{up, down, lt, le, eq, of_bits}
use Rattle.std.specs.Float.Ieee.Fits.{down_pos}
use Rattle.base.specs.Floats.{sign, abs}
use Rattle.whole.specs.Whole.{nearest, magnitude, signed_whole, rounded, printable}
use Rattle.whole.specs.NearestLaws.{nearest-most}

or-le : (a b : ℕ) (p q : Bool) → (T p → a < b) → (T q → a ≡ b) → T (p || (q && true)) → a ≤ b
or-le a b true q f g h = le_of_lt (f tt)
or-le a b false true f g h = le_of_eq (g tt)
or-le a b false false f g h = absurd h

-- y, the absolute value of x, is m·2^e, at most 10^15
pub record Sized (x y : Float) : Type 0 where
  pub m : ℕ
  pub e : ℤ
  pub is : y ≡ fin false m e
  pub most : m * up e ≤ 1000000000000000 * down e
  pub rounds : magnitude x ≡ nearest (m * up e) (down e)

pub sized : (x : Float) → T (printable x) → Sized x (abs x)
unfolding printable abs lt le eq of_bits magnitude
sized nan p = absurd p
sized (inf s) p = absurd p
sized (fin s m e) p =
    let N = m * up e in
    record {
      m = m;
      e = e;
      is = refl;
      most = subst (λ (z : ℕ). z ≤ 1000000000000000 * down e) (mul-one N)
          (or-le (N * 1) (1000000000000000 * down e) (ltb (N * 1) (1000000000000000 * down e))
          (eqb (N * 1) (1000000000000000 * down e)) (ltb→lt (N * 1) (1000000000000000 * down e))
          (eqb→eq (N * 1) (1000000000000000 * down e)) p);
      rounds = refl;
    }

pub magnitude-most : (x : Float) → T (printable x) → magnitude x ≤ 1000000000000000
magnitude-most x p =
    let s = sized x p in
    rw s.rounds (nearest-most (s.m * up s.e) (down s.e) 1000000000000000 (down_pos s.e) s.most)

pub size_of : (b : Bool) (n : ℕ) → nat_abs (signed_whole b n) ≡ n
size_of false n = refl
size_of true zero = refl
size_of true (suc n) = refl

pub rounded-most : (x : Float) → T (printable x) → nat_abs (rounded x) ≤ 1000000000000000
unfolding rounded
rounded-most x p = rw (size_of (sign x) (magnitude x)) (magnitude-most x p)
