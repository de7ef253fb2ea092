-- Whether two floats, two runs of floats and two runs of words are the same. Definitions only.
use Rattle.std.specs.Prelude.{Bool, true, false, ◌&&◌, List, [], ◌∷◌, ℕ, eqb, ℤ, pos, negsuc, Float}
use Rattle.std.specs.Bool.{beq}
use Rattle.std.specs.Float.{nan, inf, fin}

-- whole numbers
abbrev pub same_int : ℤ → ℤ → Bool
same_int (pos m) (pos n) = eqb m n
same_int (negsuc m) (negsuc n) = eqb m n
same_int (pos m) (negsuc n) = false
same_int (negsuc m) (pos n) = false

-- "NaN as one": any NaN is the same as any other, and else the bits decide, so +0 and -0 are two. It is `≡` as a test
unfoldable pub same_float : Float → Float → Bool
same_float nan nan = true
same_float (inf s) (inf t) = beq s t
same_float (fin s m d) (fin t n e) = beq s t && (eqb m n && same_int d e)
same_float nan (inf t) = false
same_float nan (fin t n e) = false
same_float (inf s) nan = false
same_float (inf s) (fin t n e) = false
same_float (fin s m d) nan = false
same_float (fin s m d) (inf t) = false

-- two runs: as many, and each the same by a test
unfoldable pub same_by : {A : Type 0} → (A → A → Bool) → List A → List A → Bool
same_by test [] [] = true
same_by test (x ∷ xs) (y ∷ ys) = test x y && same_by test xs ys
same_by test [] (y ∷ ys) = false
same_by test (x ∷ xs) [] = false

abbrev pub same_floats : List Float → List Float → Bool
same_floats = same_by same_float

abbrev pub same_words : List ℕ → List ℕ → Bool
same_words = same_by eqb
