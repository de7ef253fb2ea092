-- The steps together: what each did of its list makes the factors. Assumes nothing.
use Prim.Native.Nat.{ℕ}
use mathlib.Core.Path.{sym, ap, ◌∙◌, subst⁻¹}
use mathlib.Core.List.{List}
use lib.ListN.{get_or}
use lib.Ieee.{Float, nan, binary64}
use Rattle.base.specs.Floats.{◌⊕◌, ◌⊘◌}
use Rattle.base.specs.Constants.{one}
use Rattle.base.specs.Ranges.{Within}
use Rattle.root.specs.Root.{square_root}
use Rattle.powers.specs.Arc.{halved}
use Rattle.radial.specs.Radial.{radial_g}
use Rattle.arcs.specs.Lists.{Each}
use Rattle.arcs.specs.Stages.{inverted, radicand, quotient, AllLarge, Tangents, Radicands, Halves, Quotients}
use Rattle.arcs.proofs.Points.{large_is, tangent_of, radicand_of}

pub halves_are : {n : ℕ} (vs : List Float) {fs ws : List Float} → Each n radicand vs fs → Halves n vs fs ws
    → Each n halved vs ws
unfolding halved
halves_are vs e h =
    record { at = λ i l. h.at i l ∙ ap (λ (f : Float). get_or vs i nan ⊘ (one ⊕ square_root binary64 f)) (e.at i l) }

of_inverted : {n : ℕ} (ts : List Float) {vs fs : List Float} → Each n inverted ts vs
    → Each n (λ s. radicand (inverted s)) ts fs → Each n radicand vs fs
of_inverted ts e f = record { at = λ i l. f.at i l ∙ ap radicand (sym (e.at i l)) }

tangents_of : {n : ℕ} (ts : List Float) {vs : List Float} → AllLarge n ts → Each n inverted ts vs → Tangents n vs
tangents_of ts h e = record { at = λ i l. subst⁻¹ (Within 0 1) (e.at i l) (tangent_of (get_or ts i nan) (h.at i l)) }

pub radicands_of : {n : ℕ} (vs : List Float) {fs : List Float} → Tangents n vs → Each n radicand vs fs → Radicands n fs
radicands_of vs h e = record { at = λ i l. subst⁻¹ (Within 1 2) (e.at i l) (radicand_of (get_or vs i nan) (h.at i l)) }

pub start_within : {n : ℕ} (ts : List Float) {vs fs : List Float} → AllLarge n ts
    → Each n inverted ts vs × Each n (λ s. radicand (inverted s)) ts fs → Radicands n fs × Tangents n vs
start_within ts {vs} h e = let t = tangents_of ts h e.0 in (radicands_of vs t (of_inverted ts e.0 e.1), t)

pub first_half : {n : ℕ} (ts : List Float) {a d b : List Float}
    → Each n inverted ts a × Each n (λ s. radicand (inverted s)) ts d → Halves n a d b
    → Each n (λ s. halved (inverted s)) ts b
first_half ts {a} e h =
    let k = halves_are a (of_inverted ts e.0 e.1) h in
    record { at = λ i l. k.at i l ∙ ap halved (e.0.at i l) }

pub by_arcs : {n : ℕ} (ts : List Float) {b c gs : List Float} → AllLarge n ts → Each n (λ s. halved (inverted s)) ts b
    → Each n halved b c → Quotients n ts c gs → Each n radial_g ts gs
by_arcs ts l e f q =
    record {
      at =
          λ i h.
          q.at i h ∙ ap (quotient (get_or ts i nan)) (f.at i h ∙ ap halved (e.at i h))
          ∙ large_is (get_or ts i nan) (l.at i h);
    }
