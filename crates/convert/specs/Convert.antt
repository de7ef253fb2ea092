-- 02, L11: the converter, from bytes to a lent run. Definitions only.
use Rattle.std.specs.Result.{result_and}
use Rattle.std.specs.Prelude.{ℕ, suc, ◌*◌, Bool, cond, List, [], ◌∷◌, map, length, Float, Err}
use Rattle.base.specs.Answers.{counted, Outcome, outcome, guarded_run, room_check, Checked, passed}
use Rattle.base.specs.declared.refusal.Refusal.TheVariants.{BadKernelLine, LoadersDiffer}
use Rattle.kernel.specs.declared.kernel.Kernel.{Kernel}
use Rattle.kernel.specs.Kernels.{kernel_set}
use Rattle.convert.specs.Loaders.{loaded, all_alike_lem}
use Rattle.convert.specs.Lines.{filed, all_lines}
use Rattle.convert.specs.declared.file.Loader.{Loader}
use Rattle.convert.specs.declared.file.Loader.TheVariants.{Native, Source, Strict}

-- "20 when a line isn't of this form, ahead of 9"
abbrev pub line_check : Bool → Checked
line_check good = cond good passed (Err BadKernelLine)

-- "21 when the strict form finds differing kernels, after 9"
abbrev pub strict_check : Loader → Bool → Checked
strict_check Native same = passed
strict_check Source same = passed
strict_check Strict same = cond same passed (Err LoadersDiffer)

-- "six floats per line, in order": kernels from place i of a run on, words past them as they were
-- (layout's `write` would say it of all floats at once, but only where there is room, and this crate uses no store)
abbrev pub laid_from : List Kernel → ℕ → List Float → List Float
laid_from [] i xs = xs
laid_from (k ∷ ks) i xs = laid_from ks (suc i) (kernel_set xs i k)

-- 20, 9, 21, of the lines s and a run of so much room
abbrev pub conversion_check : List ℕ → Float → Loader → ℕ → Checked
conversion_check s default loader room =
    result_and (line_check (all_lines s))
    (result_and (room_check (6 * length (filed s)) room) (strict_check loader (all_alike_lem default (filed s))))

-- "writes six floats per line, in order, and answers the kernel count"
unfoldable pub conversion : List ℕ → Float → Loader → List Float → Outcome
conversion s default loader xs =
    guarded_run (conversion_check s default loader (length xs)) xs
    (outcome (counted (length (filed s) ∷ [])) (laid_from (map (loaded loader default) (filed s)) 0 xs))
