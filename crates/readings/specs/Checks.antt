-- 01, "The store": rows 4, 5 and 8 of a reading, and between them 02's 16. Definitions only.
use Rattle.std.specs.Result.{result_and}
use Rattle.std.specs.Prelude.{Bool, ◌&&◌, cond, List, ℕ, ltb, Float, Err}
use Rattle.base.specs.Answers.{Checked, passed}
use Rattle.base.specs.declared.refusal.Refusal.TheVariants.{Unfinished}
use Rattle.layout.specs.Layout.{place_limit, faces_of}
use Rattle.layout.specs.Soundness.{store_check}
use Rattle.layout.specs.Left.{left_of}
use Rattle.layout.specs.Layers.{layers_check, in_layers}

-- the check of a store, then that of the set of layers, then whether work is left that the reading needs: "Left is then
-- counted over the places in the set where a reading decides whether it is unfinished"
unfoldable pub read_check : ℕ → List Float → List ℕ → ℕ → Bool → Checked
read_check q fs ws layers needs =
    let seen = in_layers q layers ws in
    result_and (result_and (store_check q fs ws) (layers_check layers))
    (cond (needs && ltb 0 (left_of q seen (faces_of seen) place_limit)) (Err Unfinished) passed)
