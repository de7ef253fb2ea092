-- Laws of the tests of `Same`: each says `≡`, a float's is that of its bits, and that of two runs grows by one. Assumes
-- nothing.
use Rattle.std.specs.Prelude.{◌≡◌, Bool, true, false, ◌&&◌, ℕ, ◌+◌, ◌≤◌, ◌<◌, T, eqb, ℤ, pos, negsuc, length, get_or}
use Rattle.std.specs.Prelude.{take, Float}
use Rattle.std.proofs.Math.Path.{refl}
use Rattle.std.proofs.Common.{sym, ap, ◌∙◌, add-one, arith, eqb-true, eq-eqb, ne_eqb, take-suc, take_all}
use Rattle.std.proofs.Common.{length-take-le}
use Rattle.std.specs.Bool.{beq}
use Rattle.std.proofs.Math.Bool.{and-true, and_assoc}
use Rattle.std.proofs.lemmas.Bool.{false≢true}
use mathlib.Core.List.{List, [], ◌∷◌, ◌++◌}
use Rattle.std.specs.Float.{nan, inf, fin, binary64}
use Rattle.std.specs.Float.Ieee.{of_bits, to_bits, fits}
use Rattle.std.specs.Float.Ieee.Bits.{of_bits-to_bits}
use Rattle.layout.specs.SoundLaws.{both}
use Rattle.adopt.specs.Same.{same_int, same_float, same_by, same_floats, same_words}

-- ---- signs and whole numbers
sign-is : (s t : Bool) → beq s t ≡ true → s ≡ t
sign-is true true h = refl
sign-is true false h = absurd (false≢true h)
sign-is false true h = absurd (false≢true h)
sign-is false false h = refl

sign_self : (s : Bool) → beq s s ≡ true
sign_self true = refl
sign_self false = refl

int_is : (d e : ℤ) → same_int d e ≡ true → d ≡ e
int_is (pos m) (pos n) h = ap pos (eqb-true m n h)
int_is (negsuc m) (negsuc n) h = ap negsuc (eqb-true m n h)
int_is (pos m) (negsuc n) h = absurd (false≢true h)
int_is (negsuc m) (pos n) h = absurd (false≢true h)

int_self : (d : ℤ) → same_int d d ≡ true
int_self (pos m) = eq-eqb m m refl
int_self (negsuc m) = eq-eqb m m refl

-- ---- floats
pub same-float-is : (x y : Float) → same_float x y ≡ true → x ≡ y
unfolding same_float
same-float-is nan nan h = refl
same-float-is (inf s) (inf t) h = ap inf (sign-is s t h)
same-float-is (fin s m d) (fin t n e) h =
    let a = both (beq s t) (eqb m n && same_int d e) h in
    let b = both (eqb m n) (same_int d e) a.1 in
    rw (sign-is s t a.0, eqb-true m n b.0, int_is d e b.1) refl
same-float-is nan (inf t) h = absurd (false≢true h)
same-float-is nan (fin t n e) h = absurd (false≢true h)
same-float-is (inf s) nan h = absurd (false≢true h)
same-float-is (inf s) (fin t n e) h = absurd (false≢true h)
same-float-is (fin s m d) nan h = absurd (false≢true h)
same-float-is (fin s m d) (inf t) h = absurd (false≢true h)

pub same-float_self : (x : Float) → same_float x x ≡ true
unfolding same_float
same-float_self nan = refl
same-float_self (inf s) = sign_self s
same-float_self (fin s m e) = rw (sign_self s, eq-eqb m m refl, int_self e) refl

-- the bits decide
pub same_bits : (x y : Float) → T (fits binary64 x) → T (fits binary64 y)
    → eqb (to_bits binary64 x) (to_bits binary64 y) ≡ same_float x y
same_bits x y f g = go (same_float x y) refl
  where
    one : to_bits binary64 x ≡ to_bits binary64 y → x ≡ y
    one e = sym (of_bits-to_bits binary64 x f) ∙ (ap (of_bits binary64) e ∙ of_bits-to_bits binary64 y g)

    go : (b : Bool) → same_float x y ≡ b → eqb (to_bits binary64 x) (to_bits binary64 y) ≡ b
    go true h = eq-eqb _ _ (ap (to_bits binary64) (same-float-is x y h))
    go false h = ne_eqb _ _ (λ e. false≢true (sym h ∙ (ap (same_float x) (sym (one e)) ∙ same-float_self x)))

-- ---- two runs
module _ {A : Type 0} (test : A → A → Bool) where
  same-is : ((x y : A) → test x y ≡ true → x ≡ y) → (xs ys : List A) → same_by test xs ys ≡ true → xs ≡ ys
  unfolding same_by
  same-is is [] [] h = refl
  same-is is (x ∷ xs) (y ∷ ys) h =
      let p = both (test x y) (same_by test xs ys) h in
      rw (is x y p.0, same-is is xs ys p.1) refl
  same-is is [] (y ∷ ys) h = absurd (false≢true h)
  same-is is (x ∷ xs) [] h = absurd (false≢true h)

  same_self : ((x : A) → test x x ≡ true) → (xs : List A) → same_by test xs xs ≡ true
  unfolding same_by
  same_self self [] = refl
  same_self self (x ∷ xs) = rw (self x, same_self self xs) refl

  -- one more, behind
  same-snoc : (xs ys : List A) (x y : A) → length xs ≡ length ys
      → same_by test (xs ++ (x ∷ [])) (ys ++ (y ∷ [])) ≡ (same_by test xs ys && test x y)
  unfolding same_by
  same-snoc [] [] x y e = and-true (test x y)
  same-snoc (a ∷ xs) (b ∷ ys) x y e =
      rw (same-snoc xs ys x y (omega arith)) (sym (and_assoc (test a b) (same_by test xs ys) (test x y)))
  same-snoc [] (b ∷ ys) x y e = absurd (omega arith)
  same-snoc (a ∷ xs) [] x y e = absurd (omega arith)

  pub same_more : (xs ys : List A) (x y : A) (i : ℕ) → length xs ≡ length ys → i < length xs → x ≡ get_or xs i x
      → y ≡ get_or ys i y
      → same_by test (take (i + 1) xs) (take (i + 1) ys) ≡ (same_by test (take i xs) (take i ys) && test x y)
  same_more xs ys x y i e h p q =
      rw (add-one, take-suc xs i x h, take-suc ys i y (omega arith), ← p, ← q)
      (same-snoc (take i xs) (take i ys) x y
      (length-take-le i xs (omega arith) ∙ sym (length-take-le i ys (omega arith))))

  -- all of them
  pub same_all : (xs ys : List A) (i : ℕ) → length xs ≡ length ys → length xs ≤ i
      → same_by test (take i xs) (take i ys) ≡ same_by test xs ys
  same_all xs ys i e h = rw (take_all i xs h, take_all i ys (omega arith)) refl

pub same_floats_is : (xs ys : List Float) → same_floats xs ys ≡ true → xs ≡ ys
same_floats_is = same-is same_float same-float-is

pub same_floats_self : (xs : List Float) → same_floats xs xs ≡ true
same_floats_self = same_self same_float same-float_self

pub same_words_is : (xs ys : List ℕ) → same_words xs ys ≡ true → xs ≡ ys
same_words_is = same-is eqb eqb-true

pub same_words_self : (xs : List ℕ) → same_words xs xs ≡ true
same_words_self = same_self eqb (λ n. eq-eqb n n refl)
