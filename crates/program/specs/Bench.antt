-- 01, "Remainder", program `bench`: what it prints for its whole input, by lines. Definitions only; `prints`
-- (proofs/Prints.antt) says that the bytes, fed one by one, give this.
use Rattle.std.specs.Prelude.{ℕ, cond, ◌≡◌, List, [], ◌∷◌, ◌++◌, eqb, replicate}
use Rattle.base.specs.Floats.{+0}
use Rattle.forms.specs.Forms.{parse_line}
use Rattle.session.specs.Session.{Session, session, idle, respond}
use Rattle.program.specs.Bytes.{line_room, Held, held_with, feed_byte}

-- a line ends with a newline or with the input, where it has a byte
abbrev pub last_line : List ℕ → List (List ℕ)
last_line [] = []
last_line (b ∷ l) = (b ∷ l) ∷ []

-- the lines of an input, of which the bytes l of the first were read before
abbrev pub lines_from : List ℕ → List ℕ → List (List ℕ)
lines_from l [] = last_line l
lines_from l (b ∷ bs) = cond (eqb b 10) (l ∷ lines_from [] bs) (lines_from (l ++ (b ∷ [])) bs)

abbrev pub lines_of : List ℕ → List (List ℕ)
lines_of bs = lines_from [] bs

-- the texts of their answers in order
abbrev pub answers_to : Session → List (List ℕ) → List ℕ
answers_to s [] = []
answers_to s (l ∷ ls) = (respond s (parse_line l)).text ++ answers_to (respond s (parse_line l)).next ls

-- "Before an opening the store is all zeros, which is sound" (proofs/Zeros.antt)
abbrev pub at_first : Session
at_first = session idle (replicate 3261 +0) (replicate 3130 0) (replicate 1500 +0) (replicate 3000 0)

-- what is held before the first byte
abbrev pub held_at_first : Held
held_at_first = held_with at_first (replicate line_room 0) 0

-- what is held once these bytes more were fed
unfoldable pub fed_all : Held → List ℕ → Held
fed_all h [] = h
fed_all h (b ∷ bs) = fed_all (feed_byte h b).next bs

-- some bytes leave this of the store of zeros
pub record Reached (h : Held) : Type 0 where
  pub bytes : List ℕ
  pub same : h ≡ fed_all held_at_first bytes

-- what the program prints
abbrev pub bench : List ℕ → List ℕ
bench input = answers_to at_first (lines_of input)
