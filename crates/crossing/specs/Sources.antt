-- What crosses to C of the calls that write kernels: the number, and how many kernels are written. Definitions only.
use Rattle.std.specs.Prelude.{ℕ, cond, eqb, get_or, Float, Option, Some, None}
use Rattle.base.specs.Answers.{Answer}
use Rattle.crossing.specs.declared.sources.CauchyKernels.{CauchyKernels}

-- as many as the answer says, 0 where the call is refused
abbrev pub written_from : Answer → CauchyKernels
written_from a = record { no = a.refusal; kernels = get_or a.counts 0 0 }

-- all n kernels are written where nothing is refused, and none where it is
abbrev pub kernels_from : ℕ → Answer → CauchyKernels
kernels_from n a = record { no = a.refusal; kernels = cond (eqb a.refusal 0) n 0 }

-- a float that C may leave out: it is missing where its flag is 0
abbrev pub optional : ℕ → Float → Option Float
optional flag x = cond (eqb flag 0) None (Some x)
