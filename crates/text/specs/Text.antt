-- 01, "Remainder", program `bench`, and 02, L10 and L11: the tokens of a line of text, each read where the text before
-- it ended. Definitions only. A token that does not fit leaves `lost`, and every token of `lost` is `lost`.
use Rattle.std.specs.Prelude.{ℕ, zero, suc, ◌-◌, ◌+◌, ◌*◌, List, [], ◌∷◌, Bool, true, false, cond, length, drop, ltb, leb, eqb, Float}
use Prim.Native.String.{String}
use Prim.Native.Char.{code}
use Rattle.base.specs.Floats.{bits}

pub data Text : Type 0 where
  lost : Text
  left : List ℕ → Text

-- what a token says, and the text after it
pub record Got (A : Type 0) : Type 0 where
  pub val : A
  pub text : Text

-- the text of s from position n on; past its end there is none
unfoldable pub rest : List ℕ → ℕ → Text
rest s n = cond (leb n (length s)) (left (drop n s)) lost

-- what was read from s, up to position n
abbrev pub got : {A : Type 0} → List ℕ → A → ℕ → Got A
got s v n = record { val = v; text = rest s n }

-- a quoted text's bytes
abbrev pub bytes : String → List ℕ
bytes String.[] = []
bytes (String.◌∷◌ c s) = code c ∷ bytes s

-- t if it is to be kept
abbrev pub keep_if : Bool → Text → Text
keep_if true t = t
keep_if false t = lost

abbrev pub strip : List ℕ → List ℕ → Text
strip [] l = left l
strip (a ∷ p) [] = lost
strip (a ∷ p) (b ∷ l) = keep_if (eqb b a) (strip p l)

-- the bytes p themselves
abbrev pub literal : List ℕ → Text → Text
literal p lost = lost
literal p (left l) = strip p l

-- the value of a digit, of which those from 10 on are upper-case letters, and 16 for any other byte
abbrev pub digit : ℕ → ℕ
digit b = cond (ltb b 48) 16 (cond (ltb b 58) (b - 48) (cond (ltb b 65) 16 (cond (ltb b 71) (b - 55) 16)))

abbrev pub missing : Got ℕ
missing = record { val = 0; text = lost }

-- k more hexadecimal digits after those that make v
unfoldable pub pattern_from : ℕ → ℕ → Text → Got ℕ
pattern_from zero v t = record { val = v; text = t }
pattern_from (suc k) v lost = missing
pattern_from (suc k) v (left []) = missing
pattern_from (suc k) v (left (b ∷ l)) = cond (ltb (digit b) 16) (pattern_from k (v * 16 + digit b) (left l)) missing

-- "16 upper-case hexadecimal digits"
abbrev pub pattern : Text → Got ℕ
pattern t = pattern_from 16 0 t

-- "of a float's bits; a NaN is [..] read from any of its patterns"
unfoldable pub float : Text → Got Float
float t =
    let p = pattern t in
    record { val = bits p.val; text = p.text }

-- the decimal digits after those that make v, up to the first byte that is none; lost where the number passes most
abbrev pub decimal_from : ℕ → ℕ → List ℕ → Got ℕ
decimal_from most v [] = record { val = v; text = left [] }
decimal_from most v (b ∷ l) =
    cond (ltb (digit b) 10)
    (cond (leb (v * 10 + digit b) most) (decimal_from most (v * 10 + digit b) l) missing)
    (record { val = v; text = left (b ∷ l) })

-- "Other numbers are decimal, without leading zeros", up to most: after 0 a digit is left, and no form goes on with one
unfoldable pub decimal : ℕ → Text → Got ℕ
decimal most lost = missing
decimal most (left []) = missing
decimal most (left (b ∷ l)) =
    cond (ltb (digit b) 10)
    (cond (eqb (digit b) 0) (record { val = 0; text = left l }) (decimal_from most (digit b) l))
    missing
