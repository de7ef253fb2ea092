-- A line by its first word: of the nine forms the one that the word names says what the line means. Assumes nothing.
use Rattle.std.specs.Prelude.{ℕ, ◌≡◌, refl, cond, List, T, Option}
use Rattle.std.proofs.Common.{◌∙◌}
use Rattle.text.specs.Text.{Text, lost, left, Got, strip, bytes}
use Rattle.text.specs.Form.{Form, end, either, Vals, map, choose, or_at, or, read, other, clear}
use Rattle.text.specs.FormLaws.{choose-is, stands, begins, Leads, no_word, other_word}
use Rattle.forms.specs.declared.line.Line.{Line}
use Rattle.forms.specs.Forms.{open_form, to_open, vert_form, to_vert, face_form, to_face, put_form, to_put, clear_form, to_clear}
use Rattle.forms.specs.Forms.{reweigh_form, to_reweigh, advance_form, to_advance, density_form, to_density, report_form, to_report}
use Rattle.forms.specs.Forms.{vert_on, to_vert_on, face_on, to_face_on, put_on, to_put_on, clear_on, to_clear_on, reweigh_on, to_reweigh_on}
use Rattle.forms.specs.Forms.{advance_on, to_advance_on, density_on, to_density_on, if_ended, parse_line}

abbrev ended : Got Line → Option Line
ended g = if_ended g.text g.val

-- a text that is of this form alone, and else nothing
abbrev pub read_as_lem : (f : Form) → (Vals f → Line) → List ℕ → Option Line
read_as_lem f to s = ended (map to (read f (left s)))

-- the same of a line that begins with no word of a mesh
unfoldable pub call_by_word : List ℕ → Option Line
call_by_word s =
    cond (begins (bytes "(put ") s) (read_as_lem put_form to_put s)
    (cond (begins (bytes "(clear ") s) (read_as_lem clear_form to_clear s)
    (cond (begins (bytes "(reweigh ") s) (read_as_lem reweigh_form to_reweigh s)
    (cond (begins (bytes "(advance ") s) (read_as_lem advance_form to_advance s)
    (cond (begins (bytes "(density ") s) (read_as_lem density_form to_density s) (read_as_lem report_form to_report s)))))

-- the form that the first word names; a line that begins with none of these words but the last is of no form
abbrev pub by_word : List ℕ → Option Line
by_word s =
    cond (begins (bytes "(open (radius ") s) (read_as_lem open_form to_open s)
    (cond (begins (bytes "(vert ") s) (read_as_lem vert_form to_vert s)
    (cond (begins (bytes "(face ") s) (read_as_lem face_form to_face s)
    (cond (begins (bytes "(put ") s) (read_as_lem put_form to_put s)
    (cond (begins (bytes "(clear ") s) (read_as_lem clear_form to_clear s)
    (cond (begins (bytes "(reweigh ") s) (read_as_lem reweigh_form to_reweigh s)
    (cond (begins (bytes "(advance ") s) (read_as_lem advance_form to_advance s)
    (cond (begins (bytes "(density ") s) (read_as_lem density_form to_density s)
    (read_as_lem report_form to_report s))))))))

-- ---- of two forms, the one that the word names

-- where the second finds nothing, the first says it
first_says : (g h : Got Line) → h.text ≡ lost → ended (or g h) ≡ ended g
first_says g h e = go g.val g.text
  where
    go : (v : Line) (t : Text) → let f : Got Line = record { val = v; text = t } in ended (or f h) ≡ ended f
    go v lost = λ i. if_ended (e i) h.val
    go v (left l) = refl

named : (p : List ℕ) (a b : Form) (to : Vals a → Line) (on : Vals b → Line) (s : List ℕ) {y : Option Line}
    → Leads p a → T (other p b) → T (clear b) → read_as_lem b on s ≡ y
    → read_as_lem (either a b end) (choose to on) s ≡ cond (begins p s) (read_as_lem a to s) y
named p a b to on s l o c u =
    (λ i. ended (choose-is a b to on (left s) i))
    ∙ go (strip p s) refl
    ∙ (λ i. cond (begins p s) (read_as_lem a to s) (u i))
  where
    g : Got Line
    g = map to (read a (left s))

    h : Got Line
    h = map on (read b (left s))

    go : (t : Text) → strip p s ≡ t → ended (or g h) ≡ cond (stands t) (ended g) (ended h)
    go lost e = λ i. ended (or_at (no_word p a s l e i) g h)
    go (left m) e = first_says g h (other_word p b s m o c e)

-- ---- what a line means
pub by_word_lem : (s : List ℕ) → parse_line s ≡ by_word s
unfolding parse_line
by_word_lem s =
    named (bytes "(open (radius ") open_form vert_on to_open to_vert_on s refl tt tt
    (named (bytes "(vert ") vert_form face_on to_vert to_face_on s refl tt tt
    (named (bytes "(face ") face_form put_on to_face to_put_on s refl tt tt
    (named (bytes "(put ") put_form clear_on to_put to_clear_on s refl tt tt
    (named (bytes "(clear ") clear_form reweigh_on to_clear to_reweigh_on s refl tt tt
    (named (bytes "(reweigh ") reweigh_form advance_on to_reweigh to_advance_on s refl tt tt
    (named (bytes "(advance ") advance_form density_on to_advance to_density_on s refl tt tt
    (named (bytes "(density ") density_form report_form to_density to_report s refl tt tt refl)))))))
