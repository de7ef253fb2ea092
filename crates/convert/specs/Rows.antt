-- What 02 and its readings say of the converter, row by row: which calls are refused, and exponents on which the
-- loaders differ or agree. Assumes nothing.
use Rattle.std.specs.Prelude.{◌≡◌, refl, true, false, List, [], ◌∷◌, map, ℕ, ◌*◌, ◌<◌, ◌≤◌, length, Float, Some}
use Rattle.std.proofs.Common.{sym, ◌∙◌, arith, le-leb}
use Rattle.std.specs.Float.{nan}
use Rattle.std.specs.Float.Ieee.{lt, of_bits, to_bits}
use Rattle.std.proofs.lemmas.Bool.{lt-leb}
use Rattle.base.specs.Floats.{bits, +0}
use Rattle.base.specs.Constants.{one}
use Rattle.base.specs.Answers.{refused, counted, outcome}
use Rattle.base.specs.declared.refusal.Refusal.TheVariants.{BadKernelLine, ShortList}
use Rattle.kernel.specs.File.{exponent_or}
use Rattle.convert.specs.Loaders.{native_of, source_of, given_or, loaded, alike}
use Rattle.convert.specs.Lines.{file_lines, filed, all_lines}
use Rattle.convert.specs.Convert.{laid_from, conversion}
use Rattle.convert.specs.ConvertLaws.{alike_by_exponent}
use Rattle.convert.specs.declared.file.FileKernel.{FileKernel}
use Rattle.convert.specs.declared.file.Loader.{Loader}
use Rattle.convert.specs.declared.file.Loader.TheVariants.{Native, Source, Strict}

-- ---- the refusals of s, the lines, with a default d and a lent run xs

pub record Refusals (s : List ℕ) (d : Float) (xs : List Float) : Type 0 where
  -- "20 when a line isn't of this form, ahead of 9"
  pub twenty : (loader : Loader) → all_lines s ≡ false → conversion s d loader xs ≡ outcome (refused BadKernelLine) xs
  -- 9, of six floats a line
  pub nine : (loader : Loader) → all_lines s ≡ true → length xs < 6 * length (filed s)
      → conversion s d loader xs ≡ outcome (refused ShortList) xs
  -- no other of a named loader
  pub by_native : all_lines s ≡ true → 6 * length (filed s) ≤ length xs
      → conversion s d Native xs ≡ outcome (counted (length (filed s) ∷ []))
      (laid_from (map (native_of d) (filed s)) 0 xs)
  pub by_source : all_lines s ≡ true → 6 * length (filed s) ≤ length xs
      → conversion s d Source xs ≡ outcome (counted (length (filed s) ∷ []))
      (laid_from (map (source_of d) (filed s)) 0 xs)

pub refusals : (s : List ℕ) (d : Float) (xs : List Float) → Refusals s d xs
unfolding conversion loaded
refusals s d xs =
    let n = length (filed s) in
    record {
      twenty = λ loader h. rw h refl;
      nine = λ loader h r. rw (h, lt-leb (6 * n) (length xs) r) refl;
      by_native = λ h r. rw (h, le-leb (6 * n) (length xs) r) refl;
      by_source = λ h r. rw (h, le-leb (6 * n) (length xs) r) refl;
    }

-- no line: no kernel, and the run as it was
pub no_lines : (d : Float) (loader : Loader) (xs : List Float)
    → conversion [] d loader xs ≡ outcome (counted (0 ∷ [])) xs
unfolding conversion file_lines
no_lines d Native xs = rw (le-leb 0 (length xs) (omega arith)) refl
no_lines d Source xs = rw (le-leb 0 (length xs) (omega arith)) refl
no_lines d Strict xs = rw (le-leb 0 (length xs) (omega arith)) refl

-- ---- exponents that are not above 0

-- -0 given and the default +0: other bits
pub zeros_differ : (f : FileKernel) → f.exponent ≡ Some (bits 0x8000_0000_0000_0000) → alike +0 f ≡ false
unfolding exponent_or given_or to_bits lt of_bits
zeros_differ f e = sym (alike_by_exponent +0 f) ∙ rw e refl

-- a NaN given and the default NaN: NaN is one
pub nans_agree : (f : FileKernel) → f.exponent ≡ Some nan → alike nan f ≡ true
unfolding exponent_or given_or to_bits lt of_bits
nans_agree f e = sym (alike_by_exponent nan f) ∙ rw e refl

-- a NaN given and another default: native replaces it, source keeps it
pub nan_differs : (f : FileKernel) → f.exponent ≡ Some nan → alike one f ≡ false
unfolding exponent_or given_or to_bits lt of_bits
nan_differs f e = sym (alike_by_exponent one f) ∙ rw e refl
