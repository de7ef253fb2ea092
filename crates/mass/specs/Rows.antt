-- Rows of the bench table, by computation. Assumes nothing.
use Rattle.std.specs.Prelude.{ℕ, ◌≡◌, refl, Float}
use Rattle.std.specs.Float.Ieee.{add, mul, div, neg, lt, of_bits, of_int, round}
use Rattle.base.specs.Floats.{+0, abs}
use Rattle.base.specs.Loops.{times}
use Rattle.mesh.specs.declared.vectors.V3.{V3}
use Rattle.mesh.specs.declared.triangles.Triangle.{Triangle}
use Rattle.radial.specs.Radial.{series_of, radial_g}
use Rattle.mesh.specs.Dunavant.{third}
use Rattle.volume.specs.Volume.{origin_point, volume_to, kernel_volume}
use Rattle.mass.specs.Centroid.{moment_to, centred, volume_centroid}

-- "g(0) = 1/3"
pub g_zero : radial_g +0 ≡ third
unfolding radial_g series_of times abs add mul div neg lt of_bits of_int round
g_zero = refl

-- "no faces: volume 0", for every centre and sigma
pub no_faces_volume : (t : ℕ → Triangle) (c : V3) (sigma : Float) → kernel_volume t 0 c sigma ≡ +0
unfolding volume_to times
no_faces_volume t c sigma = refl

-- "no faces: .. centroid 0 0 0"
pub no_faces_centroid : (t : ℕ → Triangle) → volume_centroid t 0 ≡ origin_point
unfolding volume_centroid centred moment_to volume_to times abs lt of_bits
no_faces_centroid t = refl
