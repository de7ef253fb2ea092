-- A put line by its parts. Assumes nothing.
use mathlib.Core.Path.{◌≡◌, sym, ◌∙◌}
use mathlib.Core.List.{List, ◌++◌, append_assoc}
use Prim.Native.Nat.{ℕ}
use lib.Ieee.{nan}
use lib.ListN.{get_or}
use Rattle.kernel.specs.declared.kernel.Kernel.{Kernel}
use Rattle.text.specs.Text.{bytes}
use Rattle.text.specs.Print.{decimal_text, float_text}
use Rattle.text.specs.Form.{print}
use Rattle.script.specs.Lines.{put_line}
use Rattle.script.specs.LineLaws.{put_joined, verts_more, verts_none, faces_more, faces_none, puts_more, puts_none}
use Rattle.script.specs.LineLaws.{todo_next, todo_done}
use Rattle.script.specs.Written.{put_of, centre_text}

-- a put line, by its parts
pub put_text_lem : (p : ℕ) (k : Kernel) (l : ℕ)
    → centre_text p k.c
    ++ (bytes ") (sigma "
    ++ (float_text k.sigma
    ++ (bytes ") (w "
    ++ (float_text k.w
    ++ (bytes ") (alpha " ++ (float_text k.alpha ++ (bytes ") (layer " ++ (decimal_text l ++ bytes "))\n"))))))))
    ≡ print put_line (put_of p k l)
put_text_lem p k l =
    let tail : List ℕ → List ℕ
    = λ t. bytes ") (sigma "
    ++ (float_text k.sigma
    ++ (bytes ") (w "
    ++ (float_text k.w ++ (bytes ") (alpha " ++ (float_text k.alpha ++ (bytes ") (layer " ++ t)))))) in
    (λ i. centre_text p k.c ++ tail (sym (append_assoc (decimal_text l) (bytes "))") (bytes "\n")) i))
    ∙ put_joined (decimal_text p) (float_text (get_or k.c 0 nan)) (float_text (get_or k.c 1 nan))
    (float_text (get_or k.c 2 nan)) (tail (decimal_text l ++ bytes "))" ++ bytes "\n"))

-- ---- lines written one after the other: one more, and none left
pub ruleset verts = (verts_more, verts_none, todo_next, todo_done)

pub ruleset faces = (faces_more, faces_none, todo_next, todo_done)

pub ruleset puts = (puts_more, puts_none, todo_next, todo_done)
