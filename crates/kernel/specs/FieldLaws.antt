-- A law of the check of a mesh with a list. Assumes nothing.
use Rattle.std.specs.Result.{result_and}
use Rattle.std.specs.Prelude.{◌≡◌, refl, ℕ, List, Float, Ok, Err}
use Rattle.std.proofs.Common.{arith}
use Rattle.base.specs.Answers.{Checked, passed}
use Rattle.kernel.specs.Kernels.{list_check}
use Rattle.mesh.specs.Triangles.{Sound}
use Rattle.mesh.specs.Checks.{mesh_check}
use Rattle.mesh.specs.CheckLaws.{passed_sound}
use Rattle.kernel.specs.Field.{field_check}

-- ---- a call that is not refused has a sound mesh
pub passed_field : {n : ℕ} {corners : List ℕ} (kernels : List Float) → field_check n corners kernels ≡ passed
    → Sound n corners
unfolding field_check
passed_field {n} {corners} kernels h = go (mesh_check n corners) refl h
  where
    go : (m : Checked) → mesh_check n corners ≡ m → result_and m (list_check kernels) ≡ passed → Sound n corners
    go (Ok _) e h = passed_sound e
    go (Err r) e h = let z : ◌≡◌ {A = ℕ} 0 1 = cc in absurd (omega arith)
