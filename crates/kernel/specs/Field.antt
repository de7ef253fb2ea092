-- 01, "Volume, mass, weights", and rows 1 to 3 and 9 of the table: a mesh with a list of kernels. Definitions only.
use Rattle.std.specs.Result.{result_and}
use Rattle.std.specs.Prelude.{ℕ, List, get_or, Float}
use Rattle.std.specs.Float.{nan}
use Rattle.base.specs.Answers.{Checked}
use Rattle.kernel.specs.declared.kernel.Kernel.{Kernel}
use Rattle.kernel.specs.Kernels.{list_check}
use Rattle.mesh.specs.declared.vectors.V3.{V3}
use Rattle.mesh.specs.Checks.{mesh_check}

-- a kernel's centre as a point
unfoldable pub centre_of : Kernel → V3
centre_of k = record { x = get_or k.c 0 nan; y = get_or k.c 1 nan; z = get_or k.c 2 nan }

-- of the mesh first, then of the list
unfoldable pub field_check : ℕ → List ℕ → List Float → Checked
field_check coordinates corners kernels = result_and (mesh_check coordinates corners) (list_check kernels)
