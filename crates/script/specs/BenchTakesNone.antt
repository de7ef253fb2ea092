-- 02, L10: "Lines carry (layer N) after alpha, and a put line lacking it means layer 0; the bench still takes none":
-- any text of a put with a layer is no line of the program. Assumes nothing.
use Rattle.std.specs.Prelude.{◌≡◌, refl, List, [], ℕ, None}
use Rattle.std.proofs.Common.{sym, ap, ◌∙◌, inl, inr}
use Rattle.text.specs.Text.{Text, lost, left, Got, bytes, literal, strip, float, decimal}
use Rattle.text.specs.Form.{Form, end, word, number, real, either, Vals, map, or_at, or, read, Spells, say, u32, followed}
use Rattle.text.specs.FormLaws.{reads, read_lost, other_word}
use Rattle.text.specs.Tokens.{literal-back, not_lost}
use Rattle.forms.specs.Forms.{open_form, vert_form, face_form, put_start, put_end, put_form, clear_on, put_on, face_on, vert_on, line_form, to_line, if_ended, parse_line}
use Rattle.script.specs.Lines.{layer_end}

-- a put's line with its layer
abbrev pub layered : Form
layered = followed put_start layer_end

-- what follows a form is read where the form ends
followed-read : (f g : Form) (t : Text) → (read (followed f g) t).text ≡ (read g (read f t).text).text
followed-read end g t = refl
followed-read (word p f) g t = followed-read f g (literal p t)
followed-read (number most f) g t = followed-read f g (decimal most t).text
followed-read (real f) g t = followed-read f g (float t).text
followed-read (either a b f) g t = followed-read f g (or (map inl (read a t)) (map inr (read b t))).text

neither : (a b : Form) (t : Text) → (read a t).text ≡ lost → (read b t).text ≡ lost → (read (either a b end) t).text ≡ lost
neither a b t x y = (λ i. (or_at (x i) (map inl (read a t)) (map inr (read b t))).text) ∙ y

module _ (v : Vals layered) (l : List ℕ) (s : Spells layered v l []) where
  abbrev start : Text
  start = (read put_start (left l)).text

  -- where the layer stands a put's end does not
  no_end : (t : Text) → (read layer_end t).text ≡ left [] → (read put_end t).text ≡ lost
  no_end lost e = not_lost (sym (read_lost layer_end) ∙ e)
  no_end (left k) e = go (strip (bytes ") (layer ") k) refl
    where
      go : (t : Text) → strip (bytes ") (layer ") k ≡ t → (read put_end (left k)).text ≡ lost
      go lost d =
          not_lost (sym (ap (λ (u : Text). (read (u32 (say "))" end)) u).text) d ∙ read_lost (u32 (say "))" end))) ∙ e)
      go (left m) d = other_word (bytes ") (layer ") put_end k m tt tt d

  no-put : (read put_form (left l)).text ≡ lost
  no-put =
      followed-read put_start put_end (left l)
      ∙ no_end start (sym (followed-read put_start layer_end (left l))
      ∙ ap (λ (g : Got (Vals layered)). g.text) (reads layered v l [] tt s))

  no_line : (read line_form (left l)).text ≡ lost
  no_line =
      let m = s.0 in
      let e : strip (bytes "(put ") l ≡ left m = ap (strip (bytes "(put ")) s.1 ∙ literal-back (bytes "(put ") m in
      neither open_form vert_on (left l) (other_word (bytes "(put ") open_form l m tt tt e)
      (neither vert_form face_on (left l) (other_word (bytes "(put ") vert_form l m tt tt e)
      (neither face_form put_on (left l) (other_word (bytes "(put ") face_form l m tt tt e)
      (neither put_form clear_on (left l) no-put (other_word (bytes "(put ") clear_on l m tt tt e))))

  -- "the bench still takes none"
  pub bench_takes_none : parse_line l ≡ None
  unfolding parse_line
  bench_takes_none = (λ i. if_ended (no_line i) (to_line (read line_form (left l)).val))
