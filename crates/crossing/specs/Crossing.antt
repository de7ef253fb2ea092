-- What crosses to C: of each answer its number, 01's (0 where the call is not refused), beside its values, 0 where it
-- has none. Definitions only.
use Rattle.std.specs.Prelude.{ℕ, ◌+◌, List, get_or, Float}
use Rattle.base.specs.Answers.{Answer, Outcome}
use Rattle.base.specs.Floats.{+0}
use Rattle.kernel.specs.declared.kernel.Kernel.{Kernel}
use Rattle.kernel.specs.File.{from_file}
use Rattle.pieces.specs.declared.fit.Fit.{Fit}
use Rattle.pieces.specs.FitEnd.{kind_of, column_of, pivot_told}
use Rattle.crossing.specs.Sources.{optional}
use Rattle.crossing.specs.declared.kernels.CauchyFileKernel.{CauchyFileKernel}
use Rattle.crossing.specs.declared.kernels.CauchySolved.{CauchySolved}
use Rattle.crossing.specs.declared.kernels.CauchyFit.{CauchyFit}
use Rattle.crossing.specs.declared.kernels.CauchyPieces.{CauchyPieces}
use Rattle.crossing.specs.declared.kernels.CauchyListPieces.{CauchyListPieces}

-- ---- what C gets of a call that writes a lent run, with the run's words as they are then
pub record Lent (A W : Type 0) : Type 0 where
  pub answer : A
  pub out : List W

abbrev pub lent : {A W : Type 0} → A → List W → Lent A W
lent r out = record { answer = r; out = out }

-- an outcome, its reply as C gets it
abbrev pub lent_from : {A : Type 0} → (Answer → A) → Outcome → Lent A Float
lent_from answer o = lent (answer o.reply) o.out

-- an answer without values
abbrev pub number_from : Answer → ℕ
number_from a = a.refusal

-- ---- a solution: the smallest accepted pivot, and beside refusal 11 the column of the flat one
abbrev pub solved_from : Answer → CauchySolved
solved_from a = record { no = a.refusal; column = get_or a.counts 0 0; pivot = get_or a.floats 0 +0 }

-- ---- a file's kernel, whose exponent may be missing
abbrev pub crossed_kernel : CauchyFileKernel → Float → Kernel
crossed_kernel k default = from_file (k.c, k.sigma) k.w (optional k.given k.alpha) default

-- ---- how a fit ended
abbrev pub fit_crossed : Fit → CauchyFit
fit_crossed f = record { kind = kind_of f; column = column_of f; pivot = pivot_told f }

-- beside a refusal
abbrev pub no_fit : CauchyFit
no_fit = record { kind = 0; column = 0; pivot = +0 }

-- and as an answer carries it: kind and column from count i on, the pivot at float j
abbrev pub fit_from : ℕ → ℕ → Answer → CauchyFit
fit_from i j a =
    record { kind = get_or a.counts i 0; column = get_or a.counts (i + 1) 0; pivot = get_or a.floats j +0 }

-- ---- a kernel's pieces
abbrev pub kernel_pieces_from : Answer → CauchyPieces
kernel_pieces_from a =
    record { no = a.refusal; pieces = get_or a.counts 0 0; error = get_or a.floats 0 +0; fit = fit_from 1 1 a }

-- ---- a list's pieces
abbrev pub list_pieces_from : Answer → CauchyListPieces
list_pieces_from a =
    record {
      no = a.refusal;
      kernels = get_or a.counts 0 0;
      pieces = get_or a.counts 1 0;
      error = get_or a.floats 0 +0;
    }
