-- 02, L10: "a reader of such lines from lent bytes": what bytes mean, and what the call does with them. Definitions
-- only.
use Rattle.std.specs.Result.{result_and}
use Rattle.std.specs.Prelude.{ℕ, zero, suc, Bool, true, ◌&&◌, cond, List, [], ◌∷◌, ltb, length, Float, Err}
use Rattle.base.specs.Answers.{counted, Checked, passed}
use Rattle.base.specs.declared.refusal.Refusal.TheVariants.{NoPlace, BadLine, NoLayer}
use Rattle.kernel.specs.declared.kernel.Kernel.{Kernel}
use Rattle.layout.specs.Layout.{place_limit, layer_limit}
use Rattle.layout.specs.After.{After, after, guarded}
use Rattle.store.specs.Calls.{open_check, open_step}
use Rattle.store.specs.Puts.{put_step_lem}
use Rattle.text.specs.Text.{Text, lost, left, Got}
use Rattle.text.specs.Form.{Form, end, either, Vals, choose, read}
use Rattle.forms.specs.Forms.{put_end}
use Rattle.reader.specs.declared.lines.Entry.{Entry}
use Rattle.script.specs.Lines.{open_line, vert_line, face_line, layer_end, put_line}

-- ---- lines one after the other

-- one thing more
abbrev pub more : {A : Type 0} → A → Got (List A) → Got (List A)
more v g = record { val = v ∷ g.val; text = g.text }

-- n lines of a form
unfoldable pub lines_from : (f : Form) → ℕ → Text → Got (List (Vals f))
lines_from f zero t = record { val = []; text = t }
lines_from f (suc n) t = more (read f t).val (lines_from f n (read f t).text)

-- no line more: the text is at its end, or it is lost
abbrev pub to_end : {A : Type 0} → Text → Got (List A)
to_end lost = record { val = []; text = lost }
to_end (left []) = record { val = []; text = left [] }
to_end (left (b ∷ l)) = record { val = []; text = lost }

-- a line, and then the next ones, unless the text is at its end
abbrev pub to_next : (f : Form) → (Text → Got (List (Vals f))) → Text → Got (List (Vals f))
to_next f next lost = record { val = []; text = lost }
to_next f next (left []) = record { val = []; text = left [] }
to_next f next (left (b ∷ l)) = more (read f (left (b ∷ l))).val (next (read f (left (b ∷ l))).text)

-- lines of a form to the text's end, n at most
unfoldable pub lines_to : (f : Form) → ℕ → Text → Got (List (Vals f))
lines_to f zero t = to_end t
lines_to f (suc n) t = to_next f (lines_to f n) t

-- ---- what the lines say

abbrev pub coords_in : List (Vals vert_line) → List Float
coords_in [] = []
coords_in (v ∷ vs) = v.0 ∷ v.1.0 ∷ v.1.1.0 ∷ coords_in vs

abbrev pub corners_in : List (Vals face_line) → List ℕ
corners_in [] = []
corners_in (v ∷ vs) = v.0 ∷ v.1.0 ∷ v.1.1.0 ∷ corners_in vs

-- a put line's place, kernel and layer; "a put line lacking it means layer 0"
abbrev pub place_in : Vals put_line → ℕ
place_in v = v.0

abbrev pub kernel_in : Vals put_line → Kernel
kernel_in v =
    record {
      c = v.1.0 ∷ v.1.1.0 ∷ v.1.1.1.0 ∷ [];
      sigma = v.1.1.1.1.0;
      w = v.1.1.1.1.1.0;
      alpha = v.1.1.1.1.1.1.0;
    }

abbrev pub layer_named : Vals (either put_end layer_end end) → ℕ
layer_named = choose (λ none. 0) (λ n. n.0)

abbrev pub layer_in : Vals put_line → ℕ
layer_in v = layer_named v.1.1.1.1.1.1.1

-- all that a put line says
abbrev pub entry_of : Vals put_line → Entry
entry_of v = record { put = record { place = place_in v; kernel = kernel_in v }; layer = layer_in v }

-- ---- "one whole opening and then puts": a put line has a byte at least, so that there are no more of them than bytes
pub record Script : Type 0 where
  pub radius : Float
  pub verts : ℕ
  pub faces : ℕ
  pub coords : List Float
  pub corners : List ℕ
  pub puts : List (Vals put_line)

-- what bytes say; lost where they are no script
unfoldable pub read_of : List ℕ → Got Script
read_of s =
    let o = read open_line (left s) in
    let v = lines_from vert_line o.val.1.0 o.text in
    let f = lines_from face_line o.val.1.1.0 v.text in
    let p = lines_to put_line (length s) f.text in
    record {
      val =
          record {
            radius = o.val.0;
            verts = o.val.1.0;
            faces = o.val.1.1.0;
            coords = coords_in v.val;
            corners = corners_in f.val;
            puts = p.val;
          };
      text = p.text;
    }

-- ---- the effect: "leaves what that opening and those puts, line by line, would"

-- a put on the two runs as the call before left them
abbrev pub put_on : ℕ → Vals put_line → After → After
put_on q v a = put_step_lem q a.floats a.words (place_in v) (kernel_in v) (layer_in v)

unfoldable pub puts_on : ℕ → List (Vals put_line) → After → After
puts_on q [] a = a
puts_on q (v ∷ vs) a = puts_on q vs (put_on q v a)

abbrev pub played : ℕ → List Float → List ℕ → Script → After
played q fs ws d = puts_on q d.puts (open_step q fs ws d.radius d.coords d.corners)

-- ---- refusals: "13 [..] comes ahead of all others", then 2, 3, 4, 6 and 16, each where it applies to any line

abbrev pub form_check : Text → Checked
form_check lost = Err BadLine
form_check (left l) = passed

-- each line names a place, and each a layer
unfoldable pub places_in : List (Vals put_line) → Bool
places_in [] = true
places_in (v ∷ vs) = ltb (place_in v) place_limit && places_in vs

unfoldable pub layers_in : List (Vals put_line) → Bool
layers_in [] = true
layers_in (v ∷ vs) = ltb (layer_in v) layer_limit && layers_in vs

abbrev pub puts_check : List (Vals put_line) → Checked
puts_check vs =
    result_and (cond (places_in vs) passed (Err NoPlace)) (cond (layers_in vs) passed (Err NoLayer))

-- for runs of a floats and b words; 1 is never, since coordinates and corners come by threes
abbrev pub script_check : ℕ → Script → ℕ → ℕ → Checked
script_check q d a b = result_and (open_check q (length d.coords) d.corners a b) (puts_check d.puts)

-- ---- the contract: "refuses the whole where one line would be refused"; else it answers vertices, faces and lines of
-- puts
unfoldable pub load_step : ℕ → List Float → List ℕ → List ℕ → After
load_step q fs ws s =
    let g = read_of s in
    let d = g.val in
    let e = played q fs ws d in
    guarded (result_and (form_check g.text) (script_check q d (length fs) (length ws))) fs ws
    (after (counted (d.verts ∷ d.faces ∷ length d.puts ∷ [])) e.floats e.words)
