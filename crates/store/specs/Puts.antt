-- 01, "The store": what put answers, with 02's L4, and what it leaves in the two runs. Definitions only.
use Rattle.std.specs.Result.{result_and}
use Rattle.std.specs.Prelude.{cond, List, [], ◌∷◌, ◌++◌, ℕ, zero, suc, ◌+◌, ◌*◌, eqb, Float}
use Rattle.base.specs.Answers.{Answer}
use Rattle.base.specs.Floats.{+0}
use Rattle.layout.specs.Runs.{write}
use Rattle.kernel.specs.declared.kernel.Kernel.{Kernel}
use Rattle.kernel.specs.Kernels.{six}
use Rattle.pieces.specs.declared.fit.Fit.{Fit}
use Rattle.pieces.specs.declared.pieces.Pieces.{Pieces}
use Rattle.pieces.specs.Pieces.{decomposed, part_at}
use Rattle.pieces.specs.FitEnd.{fit_of, kind_of, column_of, pivot_told}
use Rattle.layout.specs.Layout.{piece_limit, radius_of, kernel_from, pieces_from, state_from, layer_words, faces_of}
use Rattle.layout.specs.Soundness.{place_check, layer_check}
use Rattle.layout.specs.After.{After, after, guarded}

-- "c, sigma, w, alpha, error"
abbrev pub seven : Kernel → Float → List Float
seven k error = six k ++ (error ∷ [])

-- "sigma, coefficient, volume so far", which is "0 before the first" face: n pieces from j on; past the last, the fit's
-- arrays are +0
abbrev pub fresh : Pieces → ℕ → ℕ → List Float
fresh fit zero j = []
fresh fit (suc n) j = (part_at fit j).sigma ∷ (part_at fit j).coefficient ∷ +0 ∷ fresh fit n (suc j)

-- "with F = 0 all are finished"
unfoldable pub at_first : ℕ → ℕ → ℕ
at_first faces count = cond (eqb faces 0) count 0

-- the floats and words with place i filled; "status (0 empty, else 1 + pieces), pieces finished, faces done", and by
-- 02's L5 "with the layer last"
unfoldable pub put_floats : List Float → ℕ → Kernel → Pieces → List Float
put_floats fs i k fit = write (write fs (kernel_from i) (seven k fit.error)) (pieces_from i) (fresh fit piece_limit 0)

unfoldable pub put_words : ℕ → List ℕ → ℕ → Pieces → ℕ → List ℕ
put_words q ws i fit layer =
    write ws (state_from q i) ((1 + fit.count) ∷ at_first (faces_of ws) fit.count ∷ 0 ∷ layer_words q layer)

-- "Answers pieces and need"; 02, L4: "put answers one of kept, fitted with that pivot, fallback with that column, or no
-- exponent": `end` says which, and `fit` elsewhere in this file is the pieces of a kernel
abbrev pub placed_with : ℕ → ℕ → Fit → Answer
placed_with pieces need end =
    record { refusal = 0; counts = pieces ∷ need ∷ kind_of end ∷ column_of end ∷ []; floats = pivot_told end ∷ [] }

-- "Put: .. p = 0"; 02, L5: a layer "given at put", "16 when a layer is above 15, after 6"
unfoldable pub put_step_lem : ℕ → List Float → List ℕ → ℕ → Kernel → ℕ → After
put_step_lem q fs ws i k layer =
    let fit = decomposed k (radius_of fs) in
    guarded (result_and (place_check q fs ws i) (layer_check layer)) fs ws
    (after (placed_with fit.count (fit.count * faces_of ws) (fit_of k (radius_of fs))) (put_floats fs i k fit)
    (put_words q ws i fit layer))
