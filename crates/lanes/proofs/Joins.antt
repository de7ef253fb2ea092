-- The steps together: what each did of its list makes the factors. Assumes nothing.
use mathlib.Core.Path.{◌≡◌, refl, ap, ◌∙◌}
use mathlib.Core.Bool.{Bool, true, false}
use mathlib.Core.List.{List}
use Prim.Native.Nat.{ℕ, ◌<◌}
use native.Mathlib.Omega.{arith}
use borrow.Author.Tests.{ltb-true, ltb-false}
use lib.Dec.{ltb}
use lib.ListN.{get_or}
use lib.Ieee.{Float, nan}
use Rattle.radial.specs.Radial.{radial_g}
use Rattle.arcs.specs.Lists.{First, Of}
use Rattle.lanes.specs.Factors.{factor, All, Each}
use Rattle.lanes.specs.Stages.{radius, AllSmall, SeriesFrom, Parting, Gathered}
use Rattle.lanes.proofs.Points.{small_is}

-- all are the first 28, and the other way round
pub whole : {P : ℕ → Float → Type 0} {ys : List Float} → First 28 P ys → All P ys
whole h = record { at = λ i l. h.at i l }

pub firsts : {P : ℕ → Float → Type 0} {ys : List Float} → All P ys → First 28 P ys
firsts h = record { at = λ i l. h.at i l }

pub by_series : (ts : List Float) {fs gs : List Float} → AllSmall ts → SeriesFrom 0 ts fs gs → Each radial_g ts gs
by_series ts h k = record { at = λ i l. k.worked i (omega arith) l ∙ small_is (get_or ts i nan) (h.at i l) }

pub by_radii : (sigma : Float) (xs : List Float) {ts gs : List Float} → Each (radius sigma) xs ts → Each radial_g ts gs
    → Each (factor sigma) xs gs
by_radii sigma xs e f = record { at = λ i h. f.at i h ∙ ap radial_g (e.at i h) }

-- on both sides of 0.1: ds are the factors by the arc tangent in the first places, ss all in the order of the places
pub by_parts : {ts us ds ss gs : List Float} {ps : List ℕ} (large : ℕ) → Parting ts us ps large
    → First large (Of radial_g us) ds → SeriesFrom large us ds ss → Gathered ps ss gs → Each radial_g ts gs
by_parts {us = us} {ss = ss} {ps = ps} large p f k g =
    record {
      at = λ i l. g.at i l ∙ at_place (get_or ps i 0) (p.placed.within i l) ∙ ap radial_g (p.placed.same i l);
    }
  where
    at_place : (q : ℕ) → q < 28 → get_or ss q nan ≡ radial_g (get_or us q nan)
    at_place q l = go (ltb q large) refl
      where
        go : (b : Bool) → ltb q large ≡ b → get_or ss q nan ≡ radial_g (get_or us q nan)
        go true h = let y = ltb-true q large h in k.kept q y ∙ f.at q y
        go false h =
            let y = ltb-false q large h in
            k.worked q y l ∙ small_is (get_or us q nan) (p.back.at q l y)
