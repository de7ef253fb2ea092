-- 02, L3, "The bill before the work": "Given kernels and a mesh's V and F, work out a step count and a list length in
-- floats without fitting anything." No radius is given, so none matters. Definitions only.
use Rattle.std.specs.Result.{result_and}
use Rattle.std.specs.Prelude.{ℕ, zero, suc, ◌+◌, ◌*◌, ◌/◌, cond, List, [], ◌∷◌, leb, length, Float, Err}
use Rattle.base.specs.Answers.{Answer, counted, granted, Checked, passed}
use Rattle.base.specs.declared.refusal.Refusal.TheVariants.{Oversize, ManyKernels}
use Rattle.kernel.specs.Kernels.{kernel_at, list_check}
use Rattle.mesh.specs.Checks.{above_limit}
use Rattle.pieces.specs.Pieces.{most_pieces}

-- "For a kernel that stays or has a NaN exponent both are exact; for others 13 or 16 pieces are assumed": `most_pieces`
-- is 1, 0, 13 or 16. The pieces assumed of the first n kernels, and of the whole list
unfoldable pub assumed : List Float → ℕ → ℕ
assumed kernels zero = 0
assumed kernels (suc n) = assumed kernels n + most_pieces (kernel_at kernels n).alpha

abbrev pub assumed_of : List Float → ℕ
assumed_of kernels = assumed kernels (length kernels / 6)

-- a step for each face of each piece
unfoldable pub bill_steps : List Float → ℕ → ℕ
bill_steps kernels faces = assumed_of kernels * faces

-- six floats for each piece
unfoldable pub bill_floats : List Float → ℕ
bill_floats kernels = 6 * assumed_of kernels

-- "Any number of kernels up to 32 may be billed"
abbrev pub bill_limit : ℕ
bill_limit = 32

-- "V or F above the limit is 2 as before; 15 when there are more than 32 kernels, after 9"
unfoldable pub bill_check : List Float → ℕ → ℕ → Checked
bill_check kernels verts faces =
    result_and (cond (above_limit verts faces) (Err Oversize) passed)
    (result_and (list_check kernels) (cond (leb (length kernels / 6) bill_limit) passed (Err ManyKernels)))

-- steps, then floats
unfoldable pub bill_of : List Float → ℕ → ℕ → Answer
bill_of kernels verts faces =
    granted (bill_check kernels verts faces) (counted (bill_steps kernels faces ∷ bill_floats kernels ∷ []))
