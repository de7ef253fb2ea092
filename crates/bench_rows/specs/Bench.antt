-- 01, "Bench rows": the rows marked P, in 01's order, over the definitions that the contracts cite. Assumes nothing.
use Rattle.std.specs.Prelude.{◌≡◌, List, [], ◌∷◌, ℕ, Float}
use Rattle.std.proofs.Common.{◌∙◌}
use Rattle.std.specs.Float.{nan, binary64}
use Rattle.base.specs.Answers.{accepted, outcome}
use Rattle.base.specs.Floats.{bits, decimal, +0, ◌⊘◌}
use Rattle.base.specs.Constants.{one, two, three, four, flat_limit}
use Rattle.root.specs.Root.{square_root}
use Rattle.root.specs.Rows as root
use Rattle.powers.specs.Power.{power}
use Rattle.powers.specs.Rows as powers
use Rattle.radial.specs.Radial.{radial_g}
use Rattle.solve.specs.Solve.{flat_at, solution}
use Rattle.solve.specs.Rows as solve
use Rattle.pieces.specs.Pieces.{delta, size_of, itself, decomposed}
use Rattle.pieces.specs.Rows.{near, two_and_half}
use Rattle.pieces.specs.Rows as pieces
use Rattle.mesh.specs.declared.vectors.V3.{V3}
use Rattle.mesh.specs.declared.triangles.Triangle.{Triangle}
use Rattle.volume.specs.Volume.{kernel_volume}
use Rattle.mass.specs.Centroid.{volume_centroid}
use Rattle.mesh.specs.Dunavant.{third-is}
use Rattle.mass.specs.Rows as mass
use Rattle.density.specs.Densitize.{densitized}
use Rattle.density.specs.Rows as density

abbrev minus_zero : Float
minus_zero = bits 0x8000_0000_0000_0000

abbrev five : Float
five = bits 0x4014_0000_0000_0000

pub record BenchRows : Type 0 where
  -- "root 4 = 2; root -0 = -0"
  pub root_four : square_root binary64 four ≡ two
  pub root_minus-zero : square_root binary64 minus_zero ≡ minus_zero
  -- "P(1,NaN) = 1"
  pub power-one-nan : power one nan ≡ one
  -- "g(0) = 1/3"
  pub g_zero : radial_g +0 ≡ one ⊘ three
  -- "[2|4] solves to 2; [1e-18|1] is 11; [1 1|3],[1 2|5] gives 1, 2", by 02 with the smallest pivot or the flat column
  pub solve_one : solution 1 (two ∷ four ∷ []) (+0 ∷ []) ≡ outcome (accepted (two ∷ [])) (two ∷ [])
  pub solve_flat : solution 1 (flat_limit ∷ one ∷ []) (+0 ∷ []) ≡ outcome (flat_at 0) (+0 ∷ [])
  pub solve_two : solution 2 (one ∷ one ∷ three ∷ one ∷ two ∷ five ∷ []) (+0 ∷ +0 ∷ four ∷ [])
      ≡ outcome (accepted (one ∷ [])) (one ∷ two ∷ four ∷ [])
  -- "alpha 1.0000000005 stays": for every centre, sigma, weight and radius
  pub near-is : near ≡ decimal 10000000005 10
  pub near-stays : (c : List Float) (sigma w radius : Float)
      → decomposed (record { c = c; sigma = sigma; w = w; alpha = near }) radius
      ≡ itself (record { c = c; sigma = sigma; w = w; alpha = near })
  -- "alpha 2 has 13 terms, 2.5 has 16"
  pub two_terms : (size_of (delta two)).terms ≡ 13
  pub two-and-half-is : two_and_half ≡ decimal 25 1
  pub two-and-half_terms : (size_of (delta two_and_half)).terms ≡ 16
  -- "no faces: volume 0, centroid 0 0 0": for every centre and sigma
  pub no_faces_volume : (t : ℕ → Triangle) (c : V3) (sigma : Float) → kernel_volume t 0 c sigma ≡ +0
  pub no_faces_centroid : (t : ℕ → Triangle) → volume_centroid t 0 ≡ record { x = +0; y = +0; z = +0 }
  -- "w 2, sigma 1 at the origin, alpha 1: density 1 at (1,0,0)"
  pub density_row : densitized (+0 ∷ +0 ∷ +0 ∷ one ∷ two ∷ one ∷ []) (one ∷ +0 ∷ +0 ∷ []) ≡ accepted (one ∷ [])

pub bench-rows : BenchRows
bench-rows =
    record {
      root_four = root.root_four;
      root_minus-zero = root.root_minus-zero;
      power-one-nan = powers.power-one-nan;
      g_zero = mass.g_zero ∙ third-is;
      solve_one = solve.one-row;
      solve_flat = solve.flat-row;
      solve_two = solve.two-rows;
      near-is = pieces.near-is;
      near-stays = pieces.near-stays;
      two_terms = pieces.two_terms;
      two-and-half-is = pieces.two_and_half-is;
      two-and-half_terms = pieces.two-and-half_terms;
      no_faces_volume = mass.no_faces_volume;
      no_faces_centroid = mass.no_faces_centroid;
      density_row = density.density_row;
    }
