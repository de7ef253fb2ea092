-- 01, "Remainder", program `bench`, and 02, L8 and L10: numbers as text, and what a run holds after a text was written
-- to it. Definitions only.
use Rattle.std.specs.Prelude.{ℕ, zero, suc, ◌+◌, ◌/◌, ◌%◌, ◌≡◌, List, [], ◌∷◌, ◌++◌, cond, length, ltb, Float}
use Rattle.std.proofs.lemmas.List.Edits.{sets}
use Rattle.std.specs.Float.{binary64}
use Rattle.std.specs.Float.Ieee.{to_bits}

-- the text was written to the run o at position at: r is the position after it, o' the run afterwards
pub record Wrote (o : List ℕ) (at : ℕ) (text : List ℕ) (r : ℕ) (o' : List ℕ) : Type 0 where
  pub next : r ≡ at + length text
  pub run : o' ≡ sets o at text

-- the digit d below 16, upper-case
abbrev pub glyph : ℕ → ℕ
glyph d = cond (ltb d 10) (48 + d) (55 + d)

-- the last k digits of n in base b, the most significant first
unfoldable pub digits : ℕ → ℕ → ℕ → List ℕ
digits b zero n = []
digits b (suc k) n = digits b k (n / b) ++ (glyph (n % b) ∷ [])

-- how many decimal digits n takes, for an n below 10 ^ (f + 1)
unfoldable pub length_from_lem : ℕ → ℕ → ℕ
length_from_lem zero n = 1
length_from_lem (suc f) n = cond (ltb n 10) 1 (suc (length_from_lem f (n / 10)))

-- of a number of 64 bits
unfoldable pub decimal_length : ℕ → ℕ
decimal_length n = length_from_lem 19 n

-- a decimal number of 64 bits, without leading zeros
unfoldable pub decimal_text : ℕ → List ℕ
decimal_text n = digits 10 (decimal_length n) n

-- 16 upper-case hexadecimal digits
unfoldable pub pattern_text : ℕ → List ℕ
pattern_text n = digits 16 16 n

-- "of a float's bits; a NaN is printed as 7FF8000000000000": `to_bits` has that pattern for it, as `nan-written` shows
-- (crates/script/specs/Rows.antt)
abbrev pub float_text : Float → List ℕ
float_text x = pattern_text (to_bits binary64 x)
