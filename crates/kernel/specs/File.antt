-- 01, "A kernel arrives": one kernel of a file. Definitions only.
use Rattle.std.specs.Prelude.{cond, [], ◌∷◌, get_or, Float, Option, Some, None}
use Rattle.std.specs.Float.{nan}
use Rattle.std.specs.Float.Ieee.{lt}
use Rattle.base.specs.Floats.{◌⊗◌, ◌⊘◌, +0}
use Rattle.base.specs.Constants.{thousand}
use Rattle.kernel.specs.declared.kernel.Kernel.{Kernel}
use Rattle.kernel.specs.declared.file.Kilometres.{Kilometres}
use Rattle.kernel.specs.declared.file.Metres.{Metres}

-- "cross to metres only by c times 1000 and sigma divided by 1000"
unfoldable pub in_metres : Kilometres → Metres
in_metres k =
    (get_or k.0 0 nan ⊗ thousand ∷ get_or k.0 1 nan ⊗ thousand ∷ get_or k.0 2 nan ⊗ thousand ∷ [], k.1 ⊘ thousand)

-- "a missing one, or one not above 0, becomes the file's default"; a NaN is not above 0
unfoldable pub exponent_or : Option Float → Float → Float
exponent_or (Some alpha) default = cond (lt +0 alpha) alpha default
exponent_or None default = default

-- "One call carries one file kernel and a default across"
unfoldable pub from_file : Kilometres → Float → Option Float → Float → Kernel
from_file lengths w exponent default =
    record { c = (in_metres lengths).0; sigma = (in_metres lengths).1; w = w; alpha = exponent_or exponent default }
