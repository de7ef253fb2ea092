-- 01, "Remainder", program `bench`: what the code does with a byte of its input. Definitions only; Bench.antt says what
-- comes of them.
use Rattle.std.specs.Prelude.{ℕ, ◌+◌, ◌≡◌, cond, List, [], ◌∷◌, ◌++◌, leb, ltb, eqb, take, set, get_or, Option, None}
use Rattle.base.specs.Loops.{times}
use Rattle.text.specs.Print.{Wrote}
use Rattle.forms.specs.declared.line.Line.{Line}
use Rattle.forms.specs.Forms.{parse_line}
use Rattle.session.specs.Session.{Session, respond}

-- the bytes of a line that are kept; no good line has more
abbrev pub line_room : ℕ
line_room = 256

-- what is held between two bytes: the session, the run of a line's bytes, and how many there are so far, line_room + 1
-- where they are too many
pub record Held : Type 0 where
  pub session : Session
  pub line : List ℕ
  pub count : ℕ

abbrev pub held_with : Session → List ℕ → ℕ → Held
held_with s line n = record { session = s; line = line; count = n }

-- and what is printed
pub record Fed : Type 0 where
  pub next : Held
  pub text : List ℕ

-- what a function does that holds a session s and n bytes of a line: it is f's, so that s' and n' bytes are held
-- afterwards, and f's text is written from the start of out, up to k
abbrev pub Feeds : (Held → Fed) → Session → List ℕ → ℕ → Session → List ℕ → ℕ → List ℕ → ℕ → List ℕ → Type 0
Feeds f s line n s' line' n' out k out' =
    let r = f (held_with s line n) in
    (held_with s' line' n' ≡ r.next) × Wrote out 0 r.text k out'

-- what the line that is held means
unfoldable pub line_in : List ℕ → ℕ → Option Line
line_in line n = cond (leb n line_room) (parse_line (take n line)) None

-- at its end
unfoldable pub end_line : Held → Fed
end_line h =
    let s = respond h.session (line_in h.line h.count) in
    record { next = held_with s.next h.line 0; text = s.text }

-- a byte more of it
unfoldable pub line_with : List ℕ → ℕ → ℕ → List ℕ
line_with line n b = cond (ltb n line_room) (set line n b) line

unfoldable pub count_with : ℕ → ℕ
count_with n = cond (ltb n line_room) (n + 1) (line_room + 1)

abbrev pub keep : Held → ℕ → Held
keep h b = held_with h.session (line_with h.line h.count b) (count_with h.count)

-- a byte of the input
unfoldable pub feed_byte : Held → ℕ → Fed
feed_byte h b = cond (eqb b 10) (end_line h) (record { next = keep h b; text = [] })

-- the input's end: "a last line without a newline is a line if it has a byte" (docs/DECISIONS.md)
unfoldable pub feed_end : Held → Fed
feed_end h = cond (eqb h.count 0) (record { next = h; text = [] }) (end_line h)

-- what is held after the first n of these bytes
abbrev pub feed_at : List ℕ → ℕ → Held → Held
feed_at bytes i h = (feed_byte h (get_or bytes i 0)).next

abbrev pub held_after : List ℕ → ℕ → Held → Held
held_after bytes n h = times (feed_at bytes) n 0 h

-- all that is printed for an input
abbrev pub printed : Held → List ℕ → List ℕ
printed h [] = (feed_end h).text
printed h (b ∷ bs) = (feed_byte h b).text ++ printed (feed_byte h b).next bs
