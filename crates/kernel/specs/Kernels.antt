-- 01, "A kernel arrives" and "The store": "Functions over several kernels take c, sigma, w, alpha, six floats each".
-- Definitions only.
use Rattle.base.specs.Answers.{Checked, passed}
use Rattle.std.specs.Prelude.{ℕ, ◌+◌, ◌*◌, ◌%◌, cond, List, [], ◌∷◌, eqb, get_or, length, Float, Err}
use Rattle.std.proofs.lemmas.List.Edits.{sets}
use Rattle.std.specs.Float.{nan}
use Rattle.std.specs.Float.Ieee.{neg}
use Rattle.base.specs.declared.refusal.Refusal.TheVariants.{ShortList}
use Rattle.kernel.specs.declared.kernel.Kernel.{Kernel}

-- kernel i of a list of six floats each
unfoldable pub kernel_at : List Float → ℕ → Kernel
kernel_at xs i =
    record {
      c = get_or xs (6 * i) nan ∷ get_or xs (6 * i + 1) nan ∷ get_or xs (6 * i + 2) nan ∷ [];
      sigma = get_or xs (6 * i + 3) nan;
      w = get_or xs (6 * i + 4) nan;
      alpha = get_or xs (6 * i + 5) nan;
    }

-- 9: "a kernel list given whose length isn't a multiple of 6"
unfoldable pub list_check : List Float → Checked
list_check kernels = cond (eqb (length kernels % 6) 0) passed (Err ShortList)

-- a kernel as six floats
abbrev pub six : Kernel → List Float
six k = get_or k.c 0 nan ∷ get_or k.c 1 nan ∷ get_or k.c 2 nan ∷ k.sigma ∷ k.w ∷ k.alpha ∷ []

-- the list with a kernel written to place i, the other words as they were
unfoldable pub kernel_set : List Float → ℕ → Kernel → List Float
kernel_set xs i k = sets xs (6 * i) (six k)

-- the kernel with the negative of its sigma
abbrev pub turned : Kernel → Kernel
turned k = record { c = k.c; sigma = neg k.sigma; w = k.w; alpha = k.alpha }
