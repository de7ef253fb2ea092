-- The kernels of lines, written one after the other, and what the converter answers. Assumes nothing.
use mathlib.Core.Path.{◌≡◌, refl, sym, ap, ◌∙◌}
use mathlib.Core.List.{List, ◌∷◌, map}
use Prim.Native.Nat.{ℕ, suc, ◌+◌, ◌-◌, ◌<◌, ◌≤◌}
use native.Mathlib.Numerals.{add-one}
use native.Mathlib.Omega.{arith}
use lib.ListN.{length}
use lib.Ieee.{Float}
use Rattle.kernel.specs.declared.kernel.Kernel.{Kernel}
use Rattle.kernel.specs.Kernels.{kernel_set}
use Rattle.kernel.specs.KernelLaws.{kernel_set-length}
use Rattle.text.specs.Text.{left, rest, got}
use Rattle.text.specs.TextLaws.{rest_all}
use Rattle.convert.specs.Lines.{file_line, lines_in}
use Rattle.convert.specs.Convert.{laid_from}
use Rattle.convert.specs.declared.file.FileKernel.{FileKernel}

module _ (s : List ℕ) (n : ℕ) (load : FileKernel → Kernel) (xs : List Float) where
  -- i of n lines are written, up to position k
  pub record Laid (i k : ℕ) (ys : List Float) : Type 0 where
    pub within : i ≤ n
    pub same : laid_from (map load (lines_in (n - i) (rest s k))) i ys ≡ laid_from (map load (lines_in n (left s))) 0 xs
    pub long : length ys ≡ length xs

  pub none_laid : Laid 0 0 xs
  none_laid =
      let e : n - 0 ≡ n = omega arith in
      record { within = omega arith; same = rw (e, rest_all s) refl; long = refl }

  one_more : (i k : ℕ) → i < n
      → lines_in (n - i) (rest s k) ≡ (file_line (rest s k)).val ∷ lines_in (n - (i + 1)) (file_line (rest s k)).text
  unfolding lines_in
  one_more i k h =
      let e : n - i ≡ suc (n - (i + 1)) = omega arith in
      rw e refl

  pub line_laid : {i k k' : ℕ} {f : FileKernel} {ys zs : List Float} {q : Kernel} → Laid i k ys → i < n
      → got s f k' ≡ file_line (rest s k) → q ≡ load f → zs ≡ kernel_set ys i q → Laid (i + 1) k' zs
  line_laid {i} {k} {k'} {f} {ys} {zs} l h e g w =
      let m = n - (i + 1) in
      let a : lines_in (n - i) (rest s k) ≡ f ∷ lines_in m (rest s k')
      = one_more i k h ∙ sym (λ j. (e j).val ∷ lines_in m (e j).text) in
      record {
        within = omega arith;
        same =
            (λ j. laid_from (map load (lines_in m (rest s k'))) (add-one i j) (w j))
            ∙ (λ j. laid_from (map load (lines_in m (rest s k'))) (suc i) (kernel_set ys i (g j)))
            ∙ sym (ap (λ (fs : List FileKernel). laid_from (map load fs) i ys) a) ∙ l.same;
        long = rw (w, kernel_set-length) l.long;
      }

  pub all_laid : {i k : ℕ} {ys : List Float} → Laid i k ys → n ≤ i → ys ≡ laid_from (map load (lines_in n (left s))) 0 xs
  unfolding lines_in
  all_laid {i} l h =
      let e : n - i ≡ 0 = omega arith in
      rw e at l.same
