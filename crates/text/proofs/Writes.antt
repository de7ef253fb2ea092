-- Stores in a row, and the digits of a number. Assumes nothing.
use mathlib.Core.Path.{◌≡◌, refl, sym, ap, ◌∙◌}
use mathlib.Core.List.{List, [], ◌∷◌}
use Prim.Native.Nat.{ℕ, zero, suc, ◌+◌, ◌-◌, ◌/◌, ◌%◌, ◌<◌, ◌≤◌}
use native.Mathlib.Numerals.{add-one}
use native.Mathlib.Omega.{arith}
use lib.ListN.{length, set, drop, get_or}
use lib.Seq.{sets, set_comm, drop-cons}
use borrow.Author.Tests.{lt-ltb}
use Rattle.text.specs.Print.{glyph, digits}
use Rattle.text.specs.WriteLaws.{sets_append, length_digits}

pub set-sets : (u l : List ℕ) (i j g : ℕ) → i + length u ≤ j → sets (set l j g) i u ≡ set (sets l i u) j g
set-sets [] l i j g h = refl
set-sets (a ∷ u) l i j g h =
    ap (λ (x : List ℕ). sets x (suc i) u) (set_comm l j i g a (λ e. omega arith))
    ∙ set-sets u (set l i a) (suc i) j g (omega arith)

-- the last digit is stored first, and then those before it
pub digits_step : (o : List ℕ) (at b i m : ℕ) → 0 < i
    → sets (set o (at + (i - 1)) (glyph (m % b))) at (digits b (i - 1) (m / b)) ≡ sets o at (digits b i m)
unfolding digits
digits_step o at b zero m h = absurd (omega arith)
digits_step o at b (suc j) m h =
    let e : suc j - 1 ≡ j = omega arith in
    let d = digits b j (m / b) in
    let g = glyph (m % b) in
    let k : length d ≡ j = length_digits b j (m / b) in
    rw e
    (set-sets d o at (at + j) g (omega arith)
    ∙ ap (λ (x : ℕ). set (sets o at d) (at + x) g) (sym k)
    ∙ sym (sets_append d (g ∷ []) o at))

pub bytes_step : (o p : List ℕ) (at i : ℕ) → i < length p
    → sets (set o (at + i) (get_or p i 0)) (at + (i + 1)) (drop (i + 1) p) ≡ sets o (at + i) (drop i p)
bytes_step o p at i h =
    let e : at + (i + 1) ≡ suc (at + i) = omega arith in
    rw (e, add-one i, drop-cons p i 0 h)

-- a decimal digit's byte
pub glyph-ten : (d : ℕ) → d < 10 → 48 + d ≡ glyph d
glyph-ten d h = rw (lt-ltb d 10 h) refl

pub no_digits : (o : List ℕ) (at b i m : ℕ) → i ≡ 0 → o ≡ sets o at (digits b i m)
unfolding digits
no_digits o at b i m e = rw e refl
