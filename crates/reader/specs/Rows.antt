-- What 02 and its readings say of the reader, row by row. Assumes nothing.
use Rattle.std.specs.Prelude.{◌≡◌, refl, List, [], ◌∷◌, ◌++◌, ℕ, ◌<◌, Float, Err}
use Rattle.std.proofs.Common.{inl, lt-ltb, eq-eqb}
use Rattle.std.specs.Float.Ieee.{of_bits}
use Rattle.base.specs.Answers.{refused, passed}
use Rattle.base.specs.declared.refusal.Refusal.TheVariants.{Oversize, BadLine}
use Rattle.mesh.specs.Checks.{vertex_limit}
use Rattle.layout.specs.Layout.{width}
use Rattle.layout.specs.After.{after}
use Rattle.text.specs.Text.{bytes, float, decimal, pattern_from}
use Rattle.text.specs.Form.{Vals, ◌&◌}
use Rattle.script.specs.Lines.{put_line}
use Rattle.reader.specs.ReadOf.{place_in, kernel_in, layer_in, lines_from, lines_to, read_of, form_check, load_step}
use Rattle.reader.specs.StepLaws.{check_is}
use Rattle.reader.specs.Spelling.{by_threes}
use Rattle.reader.specs.Leaves.{Held, given}
use Rattle.reader.specs.LineByLine.{held_by, held_after}

-- ---- "one whole opening and then puts"

-- no line at all; an opening with its newline and without; fewer lines than it names
pub no_line : form_check (read_of []).text ≡ Err BadLine
unfolding read_of lines_from lines_to float pattern_from decimal
no_line = refl

pub an_opening : form_check (read_of (bytes "(open (radius 0000000000000000) (verts 0) (faces 0))\n")).text ≡ passed
unfolding read_of lines_from lines_to float pattern_from decimal of_bits
an_opening = refl

pub no_newline : form_check (read_of (bytes "(open (radius 0000000000000000) (verts 0) (faces 0))")).text
    ≡ Err BadLine
unfolding read_of lines_from lines_to float pattern_from decimal of_bits
no_newline = refl

pub a_line_missing : form_check (read_of (bytes "(open (radius 0000000000000000) (verts 0) (faces 1))\n")).text
    ≡ Err BadLine
unfolding read_of lines_from lines_to float pattern_from decimal of_bits
a_line_missing = refl

-- "a count above them being 2", where its lines are there
pub above_limit_lem : (fs : List Float) (ws : List ℕ) (s : List ℕ) → form_check (read_of s).text ≡ passed
    → vertex_limit < (read_of s).val.verts → load_step width fs ws s ≡ after (refused Oversize) fs ws
unfolding load_step
above_limit_lem fs ws s f h =
    let d = (read_of s).val in
    rw (f, check_is width d (by_threes s).0 (by_threes s).1, lt-ltb vertex_limit d.verts h) refl

-- ---- puts

-- "a put line lacking it means layer 0"
pub no_layer : (p : ℕ) (x y z sigma w alpha : Float)
    → layer_in (p & x & y & z & sigma & w & alpha & inl tt & tt) ≡ 0
no_layer p x y z sigma w alpha = refl

-- the last put into a place stands, whatever came before it
pub last-stands : (us : List (Vals put_line)) (v : Vals put_line) (held : ℕ → Held)
    → held_after (us ++ (v ∷ [])) held (place_in v) ≡ given (kernel_in v) (layer_in v)
last-stands [] v held = rw (eq-eqb (place_in v) (place_in v) refl) refl
last-stands (u ∷ us) v held = last-stands us v (held_by u held)
