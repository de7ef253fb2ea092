-- Laws of the mesh that a store holds, and of the steps that it has left. Assumes nothing.
use Rattle.std.specs.Prelude.{◌≡◌, refl, List, ℕ, zero, suc, ◌+◌, ◌*◌, ◌-◌, ◌≤◌, ◌<◌, Float, length, get_or, take, drop}
use Rattle.std.proofs.Common.{◌∙◌, mul-le-mul, suc-mul, zero-mul, arith, get_or-take, get_or-drop}
use Rattle.std.proofs.Math.Nat.{zero-sub}
use Rattle.layout.specs.RunLaws.{length_part}
use Rattle.mesh.specs.Triangles.{Sound}
use Rattle.mesh.specs.Checks.{face_limit}
use Rattle.layout.specs.Layout.{width, coords_from, corners_from, status_of, finished_of}
use Rattle.layout.specs.SoundLaws.{Ready, Meshed, Worded}

-- ---- the mesh that a store holds is one that `volume_from` takes
pub mesh_ready : (fs : List Float) (ws : List ℕ) (vs ms : ℕ) → Meshed width fs ws vs ms → (d k : ℕ) → d + k ≤ ms
    → (Sound (length (take (coords_from + 3 * vs - coords_from) (drop coords_from fs)))
    (take (corners_from width + 3 * ms - corners_from width) (drop (corners_from width) ws)))
    × ((d ≤ d + k) × (3 * (d + k) ≤ length
    (take (corners_from width + 3 * ms - corners_from width) (drop (corners_from width) ws))))
mesh_ready fs ws vs ms h d k hk =
    let a = length_part ws (corners_from width) (3 * ms) h.words in
    let b = length_part fs coords_from (3 * vs) h.floats in (
      record {
        corner = λ j l.
            let e : get_or (take (corners_from width + 3 * ms - corners_from width) (drop (corners_from width) ws)) j 0
            ≡ get_or ws (corners_from width + j) 0
            = get_or-take (corners_from width + 3 * ms - corners_from width) (drop (corners_from width) ws) j 0
            (omega arith) ∙ get_or-drop (corners_from width) ws j 0 in
            omega (arith, h.corners j (omega arith));
      },
      (omega arith, omega arith),
    )

-- ---- the work left at a place, of at most 16 pieces
pub left_bound : (ws : List ℕ) (m i : ℕ) → Worded width ws m → i < 32
    → (status_of width ws i - 1 - finished_of width ws i) * m ≤ 33554432
left_bound ws m i w h =
    let r = w.place i h in mul-le-mul {n₂ = 16} {m₂ = 2097152} (omega arith) (omega arith)

work_bound : (q m : ℕ) → q ≤ 16 → m ≤ face_limit → q * m ≤ 33554432
work_bound q m a b = mul-le-mul a b

work-low : (q m d : ℕ) → 0 < q → d ≤ m → d ≤ q * m
work-low zero m d h l = absurd (omega arith)
work-low (suc q) m d h l = rw (suc-mul q m) (omega arith)

-- the same by values that equal a place's words; and no more faces are done than that work has
pub left_term : (m i s n d q a b : ℕ) → Ready m i (s - 1) n d → m ≤ face_limit → q ≡ s - 1 → a ≡ n → b ≡ d → a < q
    → ((q - a) * m ≤ 33554432) × (b ≤ (q - a) * m)
left_term m i s n d q a b r hm e f g h =
    let z = r.part (omega arith) in
    (work_bound (q - a) m (omega (arith, r)) hm, work-low (q - a) m b (omega arith) (omega arith))

pub left-none : (m s n d : ℕ) → s - 1 ≤ n → 0 ≡ (s - 1 - n) * m - d
left-none m s n d h = let e : s - 1 - n ≡ 0 = omega arith in rw (e, zero-mul, zero-sub) refl
