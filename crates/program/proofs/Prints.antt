-- Fed the bytes of an input one by one, the program prints the answers of its lines in order. Assumes nothing.
use mathlib.Core.Path.{◌≡◌, refl, sym, ap, ◌∙◌}
use mathlib.Core.List.{List, [], ◌∷◌, ◌++◌, append-nil}
use mathlib.Core.Bool.{Bool, true, false, cond}
use Prim.Native.Nat.{ℕ, ◌+◌, ◌≤◌, ◌<◌}
use native.Mathlib.Numerals.{add-one}
use native.Mathlib.Omega.{arith}
use lib.Dec.{eqb, ltb}
use lib.ListN.{length, take, set, length-append, length-set}
use lib.Seq.{take-suc-set}
use borrow.Author.Tests.{le-leb, lt-leb, le-ltb, ltb-true, ltb-false, eq-eqb, ne_eqb}
use Rattle.std.specs.Prelude.{Option}
use Rattle.forms.specs.declared.line.Line.{Line}
use Rattle.forms.specs.Forms.{parse_line}
use Rattle.session.specs.Session.{Session, respond}
use Rattle.program.specs.Bytes.{line_room, held_with, Fed, line_in, end_line, line_with, count_with, keep, feed_byte, feed_end, printed}
use Rattle.program.specs.Bench.{last_line, lines_from, answers_to, at_first, bench}
use Rattle.program.proofs.Long.{long_bad}

-- l are the bytes of a line so far: the run begins with them, or there are too many
data Holds (l line : List ℕ) (n : ℕ) : Type 0 where
  all : n ≡ length l → n ≤ line_room → take n line ≡ l → Holds l line n
  over : n ≡ line_room + 1 → line_room < length l → Holds l line n

module _ (l line : List ℕ) (n b : ℕ) where
  room-more : length (line_with line n b) ≡ length line
  unfolding line_with
  room-more = go (ltb n line_room)
    where
      go : (t : Bool) → length (cond t (set line n b) line) ≡ length line
      go true = length-set line n b
      go false = refl

  -- a byte more
  holds_more : length line ≡ line_room → Holds l line n → Holds (l ++ (b ∷ [])) (line_with line n b) (count_with n)
  unfolding line_with count_with
  holds_more r (all e m k) = go (ltb n line_room) refl
    where
      go : (t : Bool) → ltb n line_room ≡ t
          → Holds (l ++ (b ∷ [])) (cond t (set line n b) line) (cond t (n + 1) (line_room + 1))
      go true t =
          let h : n < length line = omega (arith, ltb-true n line_room t) in
          all (omega (arith, length-append l (b ∷ []))) (omega (arith, ltb-true n line_room t))
          (rw (add-one n) (take-suc-set line n b h ∙ ap (λ (x : List ℕ). x ++ (b ∷ [])) k))
      go false t = over refl (omega (arith, length-append l (b ∷ []), ltb-false n line_room t))
  holds_more r (over e m) = rw (le-ltb n line_room (omega arith)) (over refl (omega (arith, length-append l (b ∷ []))))

  not_none : Holds (b ∷ l) line n → n ≡ 0 → ⊥
  not_none (all e m k) z = omega arith
  not_none (over e m) z = omega arith

module _ (line : List ℕ) (n : ℕ) where
  none : Holds [] line n → n ≡ 0
  none (all e m k) = e
  none (over e m) = absurd (omega arith)

  -- what is held is the line
  holds-line : (l : List ℕ) → Holds l line n → line_in line n ≡ parse_line l
  unfolding line_in
  holds-line l (all e m k) = rw (le-leb n line_room m) (ap parse_line k)
  holds-line l (over e m) = rw (lt-leb n line_room (omega arith)) (sym (long_bad l m))

  at_end : (s : Session) (l : List ℕ) → Holds l line n → (feed_end (held_with s line n)).text ≡ answers_to s (last_line l)
  unfolding feed_end end_line
  at_end s [] h = rw (eq-eqb n 0 (none h))
  at_end s (b ∷ l) h =
      rw (ne_eqb n 0 (not_none l line n b h))
      (ap (λ (x : Option Line). (respond s x).text) (holds-line (b ∷ l) h)
      ∙ sym (append-nil (respond s (parse_line (b ∷ l))).text))

-- the input that is left, from within a line
from : (s : Session) (l line : List ℕ) (n : ℕ) (input : List ℕ) → length line ≡ line_room → Holds l line n
    → printed (held_with s line n) input ≡ answers_to s (lines_from l input)
unfolding feed_byte end_line
from s l line n [] r h = at_end line n s l h
from s l line n (b ∷ input) r h =
    go (eqb b 10)
    (from (respond s (line_in line n)).next [] line 0 input r (all refl (omega arith) refl))
    (from s (l ++ (b ∷ [])) (line_with line n b) (count_with n) input (room-more l line n b ∙ r)
    (holds_more l line n b r h))
  where
    fed : Bool → Fed
    fed t = cond t (end_line (held_with s line n)) (record { next = keep (held_with s line n) b; text = [] })

    go : (t : Bool)
        → printed (held_with (respond s (line_in line n)).next line 0) input
        ≡ answers_to (respond s (line_in line n)).next (lines_from [] input)
        → printed (held_with s (line_with line n b) (count_with n)) input ≡ answers_to s (lines_from (l ++ (b ∷ [])) input)
        → (fed t).text ++ printed (fed t).next input
        ≡ answers_to s (cond t (l ∷ lines_from [] input) (lines_from (l ++ (b ∷ [])) input))
    go true p q =
        ap (λ (t : List ℕ). (respond s (line_in line n)).text ++ t) p
        ∙ ap (λ (x : Option Line). (respond s x).text ++ answers_to (respond s x).next (lines_from [] input))
        (holds-line line n l h)
    go false p q = q

-- ---- the theorem: whatever stood in the run of a line's bytes
pub prints : (line input : List ℕ) → length line ≡ line_room → printed (held_with at_first line 0) input ≡ bench input
prints line input r = from at_first [] line 0 input r (all refl (omega arith) refl)
