-- 02, L7, "Mass of what is finished": "a report that may be taken while work is left". Definitions only.
use Rattle.std.specs.Result.{result_and}
use Rattle.std.specs.Prelude.{Bool, List, [], ◌∷◌, ◌++◌, ℕ, ◌-◌, eqb, Float}
use Rattle.base.specs.Answers.{Answer, granted}
use Rattle.density.specs.declared.convention.Convention.{Convention}
use Rattle.layout.specs.Layout.{place_limit, status_of, finished_of}
use Rattle.layout.specs.Soundness.{store_check}
use Rattle.layout.specs.Layers.{layers_check, hiding, in_layers}
use Rattle.readings.specs.Readings.{report, answer_of, held_filled, held_seen}

-- "the places whose steps are complete": every piece of place i is finished. So it is of a place without pieces, and of
-- any place of a mesh without faces
unfoldable pub complete_at : ℕ → List ℕ → ℕ → Bool
complete_at q ws i = eqb (finished_of q ws i) (status_of q ws i - 1)

-- "It covers only the places whose steps are complete", of its layers: the words with all other places empty
unfoldable pub complete_in : ℕ → ℕ → List ℕ → List ℕ
complete_in q layers ws = hiding q (complete_at q ws) (in_layers q layers ws) place_limit

-- "how many filled places of its layers it passed over": those that it does not cover
unfoldable pub passed_over_lem : ℕ → ℕ → List ℕ → ℕ
passed_over_lem q layers ws =
    held_filled q (in_layers q layers ws) place_limit - held_filled q (complete_in q layers ws) place_limit

-- a count more in an answer
abbrev pub beside : ℕ → Answer → Answer
beside n a = record { refusal = a.refusal; counts = a.counts ++ (n ∷ []); floats = a.floats }

-- "It equals the ordinary report of a store holding just those places"; "It is never refused as unfinished": 4, 5 and
-- 16
unfoldable pub finished_step : ℕ → List Float → List ℕ → ℕ → Convention → Answer
finished_step q fs ws layers v =
    granted (result_and (store_check q fs ws) (layers_check layers))
    (beside (passed_over_lem q layers ws) (answer_of (report v) (held_seen q fs (complete_in q layers ws))).reply)
