-- The runs that hold a machine, by sixteen pieces to a filled place: past its last piece they are +0, whatever was
-- done. Assumes nothing.
use mathlib.Core.Path.{◌≡◌, refl, sym, ap, ◌∙◌}
use mathlib.Core.List.{List, [], ◌∷◌, ◌++◌, map}
use Prim.Native.Nat.{ℕ, zero, suc, ◌+◌, ◌*◌, ◌-◌, ◌≤◌, min}
use native.Mathlib.Nat.{suc-mul, zero-mul, suc-add, zero-add, add-zero, sub-zero}
use native.Mathlib.Omega.{arith}
use lib.ListN.{get_or, replicate}
use lib.Ieee.{Float}
use Rattle.base.specs.Floats.{+0}
use Rattle.base.specs.Loops.{times}
use Rattle.volume.specs.Volume.{volume_to}
use Rattle.kernel.specs.Field.{centre_of}
use Rattle.kernel.specs.declared.kernel.Kernel.{Kernel}
use Rattle.pieces.specs.Pieces.{part_at}
use Rattle.pieces.specs.declared.pieces.Pieces.{Pieces}
use Rattle.pieces.specs.PieceLaws.{Clean}
use Rattle.machine.specs.Machine.{Mesh, Place, empty, full}
use Rattle.machine.specs.Holding.{triangles, cells, flat, floats7, floats48, floats_of}
use Rattle.machine.specs.Valid.{Within, Valid}

module _ (m : Mesh) (k : Kernel) (fit : Pieces) where
  -- no step, no volume
  none_done : (sigma : Float) (n : ℕ) → n ≡ 0 → volume_to (triangles m) (centre_of k) sigma (min m.faces n) ≡ +0
  unfolding volume_to times
  none_done sigma n e =
      let z : min m.faces n ≡ 0 = omega arith in
      rw z refl

  cells-zero : Clean fit → (n j t : ℕ) → fit.count ≤ j → j + n ≤ 16 → t ≡ 0
      → cells m k fit n j t ≡ replicate (n * 3) +0
  cells-zero h zero j t l b e = refl
  cells-zero h (suc n) j t l b e =
      let r = cells-zero h n (suc j) (t - m.faces) (omega arith) (omega arith) (omega arith) in
      let q : suc n * 3 ≡ suc (suc (suc (n * 3))) = omega arith in
      rw (
        none_done (part_at fit j).sigma t e,
        h.no_sigma j l (omega arith),
        h.no_coefficient j l (omega arith),
        r,
        q,
      ) refl

  cells-split : (a b j t : ℕ)
      → cells m k fit (a + b) j t ≡ cells m k fit a j t ++ cells m k fit b (j + a) (t - a * m.faces)
  cells-split zero b j t = rw (zero-add b, zero-mul m.faces, sub-zero t, add-zero j) refl
  cells-split (suc a) b j t =
      let e : t - m.faces - a * m.faces ≡ t - suc a * m.faces = rw (suc-mul a m.faces) (omega arith) in
      let f : suc j + a ≡ j + suc a = omega arith in
      let r = cells-split a b (suc j) (t - m.faces) in
      rw (suc-add a b, r, e, f) refl

-- ---- a place's floats by sixteen pieces, as the calls write them
abbrev pub sixteen : Mesh → Place → List Float
sixteen m empty = replicate 48 +0
sixteen m (full k fit o p l) = cells m k fit 16 0 p

unfoldable pub laid_out_lem : Mesh → List Place → List Float → List Float
laid_out_lem m ss xs = m.radius ∷ (flat (map floats7 ss) ++ (flat (map (sixteen m) ss) ++ (m.coords ++ xs)))

place_laid : (m : Mesh) (s : Place) → Within m s → floats48 m s ≡ sixteen m s
place_laid m empty w = refl
place_laid m (full k fit o p l) w =
    let n = fit.count in
    let f = w.few in
    let e : n + (16 - n) ≡ 16 = omega arith in
    let z : p - n * m.faces ≡ 0 = omega (arith, w.steps) in
    let q : (16 - n) * 3 ≡ 48 - 3 * n = omega arith in
    ap (λ (l : List Float). cells m k fit n 0 p ++ l)
    (sym
    (cells-zero m k fit w.clean (16 - n) (0 + n) (p - n * m.faces) (omega arith) (omega arith) z
    ∙ ap (λ (j : ℕ). replicate j +0) q))
    ∙ (sym (cells-split m k fit n (16 - n) 0 p) ∙ ap (λ (j : ℕ). cells m k fit j 0 p) e)

places-laid : (m : Mesh) (ss : List Place) → ((i : ℕ) → Within m (get_or ss i empty))
    → map (floats48 m) ss ≡ map (sixteen m) ss
places-laid m [] w = refl
places-laid m (s ∷ ss) w = rw (place_laid m s (w zero), places-laid m ss (λ i. w (suc i))) refl

pub laid_out : (m : Mesh) (ss : List Place) → Valid m ss → (xs : List Float) → floats_of m ss xs ≡ laid_out_lem m ss xs
unfolding floats_of laid_out_lem
laid_out m ss v xs = rw (places-laid m ss v.within) refl
