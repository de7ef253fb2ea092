-- 02, L10: "a writer from a store to bracket lines [..]: opening, vertices, faces, then puts by rising place, with kept
-- weights". Definitions only.
use Rattle.std.specs.Prelude.{ℕ, zero, suc, ◌+◌, ◌*◌, cond, List, [], ◌∷◌, ◌++◌, eqb, leb, length, get_or, Float, Err}
use Rattle.std.proofs.Common.{inr}
use Rattle.std.specs.Float.{nan}
use Rattle.base.specs.Answers.{counted, Printout, printout, guarded_bytes, Checked, passed}
use Rattle.base.specs.declared.refusal.Refusal.TheVariants.{ShortText}
use Rattle.kernel.specs.declared.kernel.Kernel.{Kernel}
use Rattle.layout.specs.Runs.{write}
use Rattle.layout.specs.Layout.{place_limit, radius_of, kernel_from, coords_from, corners_from, verts_of, faces_of, status_of, layer_of}
use Rattle.layout.specs.Soundness.{store_check}
use Rattle.text.specs.Text.{bytes}
use Rattle.text.specs.Print.{decimal_text, float_text}
use Rattle.text.specs.Form.{Form, Vals, print, ◌&◌}
use Rattle.script.specs.Lines.{open_line, vert_line, face_line, put_line}

-- n lines of a form, of the values from i on
abbrev pub printed_lines : (f : Form) → (ℕ → Vals f) → ℕ → ℕ → List ℕ
printed_lines f v zero i = []
printed_lines f v (suc n) i = print f (v i) ++ printed_lines f v n (suc i)

-- vertex i
abbrev pub vert_at : List Float → ℕ → Vals vert_line
vert_at fs i =
    get_or fs (coords_from + 3 * i) nan & get_or fs (coords_from + 3 * i + 1) nan & get_or fs (coords_from + 3 * i + 2) nan & tt

-- face i
abbrev pub face_at : ℕ → List ℕ → ℕ → Vals face_line
face_at q ws i =
    get_or ws (corners_from q + 3 * i) 0 & get_or ws (corners_from q + 3 * i + 1) 0 & get_or ws (corners_from q + 3 * i + 2) 0
    & tt

-- place i: c, sigma, the weight as it is kept, alpha, and always the layer
abbrev pub put_in : List Float → ℕ → ℕ → Vals put_line
put_in fs i layer =
    i & get_or fs (kernel_from i) nan & get_or fs (kernel_from i + 1) nan & get_or fs (kernel_from i + 2) nan
    & get_or fs (kernel_from i + 3) nan & get_or fs (kernel_from i + 4) nan & get_or fs (kernel_from i + 5) nan
    & inr (layer & tt) & tt

-- the same of a kernel that is at hand
abbrev pub put_of : ℕ → Kernel → ℕ → Vals put_line
put_of i k layer =
    i & get_or k.c 0 nan & get_or k.c 1 nan & get_or k.c 2 nan & k.sigma & k.w & k.alpha & inr (layer & tt) & tt

-- such a line's start: the place and the centre
abbrev pub centre_text : ℕ → List Float → List ℕ
centre_text place c =
    bytes "(put "
    ++ (decimal_text place
    ++ (bytes " (c "
    ++ (float_text (get_or c 0 nan)
    ++ (bytes " " ++ (float_text (get_or c 1 nan) ++ (bytes " " ++ float_text (get_or c 2 nan)))))))

abbrev pub put_at : ℕ → List Float → List ℕ → ℕ → Vals put_line
put_at q fs ws i = put_in fs i (layer_of q ws i)

unfoldable pub vert_rows : List Float → ℕ → ℕ → List ℕ
vert_rows fs n i = printed_lines vert_line (vert_at fs) n i

unfoldable pub face_rows : ℕ → List ℕ → ℕ → ℕ → List ℕ
face_rows q ws n i = printed_lines face_line (face_at q ws) n i

-- the line of a place, none where it is empty
unfoldable pub put_row : ℕ → List Float → List ℕ → ℕ → List ℕ
put_row q fs ws i = cond (eqb (status_of q ws i) 0) [] (print put_line (put_at q fs ws i))

-- "puts by rising place": n places from i on
unfoldable pub put_rows : ℕ → List Float → List ℕ → ℕ → ℕ → List ℕ
put_rows q fs ws zero i = []
put_rows q fs ws (suc n) i = put_row q fs ws i ++ put_rows q fs ws n (suc i)

-- "opening, vertices, faces, then puts", with v vertices and f faces
unfoldable pub lines_of : ℕ → List Float → List ℕ → ℕ → ℕ → List ℕ
lines_of q fs ws v f =
    print open_line (radius_of fs & v & f & tt)
    ++ (vert_rows fs v 0 ++ (face_rows q ws f 0 ++ put_rows q fs ws place_limit 0))

abbrev pub written : ℕ → List Float → List ℕ → List ℕ
written q fs ws = lines_of q fs ws (verts_of ws) (faces_of ws)

-- ---- the call

-- "19 when the writer's lent bytes are too few"; both are counts of bytes
abbrev pub text_check : ℕ → ℕ → Checked
text_check need room = cond (leb need room) passed (Err ShortText)

-- "It answers its byte count"; bytes past the text stay
unfoldable pub text_answer : List ℕ → List ℕ → Printout
text_answer t bs = guarded_bytes (text_check (length t) (length bs)) bs (printout (counted (length t ∷ [])) (write bs 0 t))

-- the contract: refusals 4, 5 and, "after 5", 19
unfoldable pub write_step : ℕ → List Float → List ℕ → List ℕ → Printout
write_step q fs ws bs = guarded_bytes (store_check q fs ws) bs (text_answer (written q fs ws) bs)
