-- Theorems of the converter: the strict form "accepts exactly the lists on which both give equal kernels", there all
-- three write the same, and a list whose exponents are above 0 is one of them. Assumes nothing.
use Rattle.std.proofs.Math.Path.{◌≡◌, refl}
use Rattle.std.proofs.Common.{sym, ap, ◌∙◌, inl, inr, eq-eqb, eqb-true}
use Rattle.std.specs.Prelude.{Bool, cond, ℕ, zero, suc, T, Float, None, Option, Some}
use Rattle.std.proofs.Math.Bool.{true, false, and-eq-true_iff}
use mathlib.Core.List.{List, [], ◌∷◌, map}
use Rattle.std.proofs.Math.ListN.{length}
use Rattle.std.specs.Float.{binary64}
use Rattle.std.specs.Float.Ieee.{lt, fits, of_bits, to_bits}
use Rattle.std.specs.Float.Ieee.Bits.{of_bits-to_bits, of_bits-fits}
use Rattle.base.specs.Floats.{+0}
use Rattle.base.specs.Answers.{refused, outcome, passed}
use Rattle.base.specs.declared.refusal.Refusal.TheVariants.{LoadersDiffer}
use Rattle.kernel.specs.declared.kernel.Kernel.{Kernel}
use Rattle.kernel.specs.File.{exponent_or, from_file}
use Rattle.text.specs.Text.{Text, lost, left, bytes, literal, float, pattern}
use Rattle.text.specs.Form.{read, map as mapped, or_at}
use Rattle.convert.specs.Loaders.{native_of, source_of, given_or, same_bits_lem, same_kernel, alike, all_alike_lem}
use Rattle.convert.specs.Lines.{given_form, missing_form, to_exponent, file_line, file_lines, filed}
use Rattle.convert.specs.Convert.{conversion_check, conversion}
use Rattle.convert.specs.declared.file.FileKernel.{FileKernel}
use Rattle.convert.specs.declared.file.Loader.TheVariants.{Native, Source, Strict}

-- ---- floats of the format are told apart by their bits

same_self : (x : Float) → same_bits_lem x x ≡ true
same_self x = eq-eqb (to_bits binary64 x) (to_bits binary64 x) refl

same-is : (x y : Float) → T (fits binary64 x) → T (fits binary64 y) → same_bits_lem x y ≡ true → x ≡ y
same-is x y f g h =
    sym (of_bits-to_bits binary64 x f) ∙ ap (of_bits binary64) (eqb-true (to_bits binary64 x) (to_bits binary64 y) h)
    ∙ of_bits-to_bits binary64 y g

-- a given exponent is of the format
abbrev pub Formed : Option Float → Type 0
Formed (Some alpha) = T (fits binary64 alpha)
Formed None = Unit {0}

or-fits : (e : Option Float) (d : Float) → Formed e → T (fits binary64 d) → T (fits binary64 (exponent_or e d))
unfolding exponent_or
or-fits (Some a) d f g = go (lt +0 a)
  where
    go : (b : Bool) → T (fits binary64 (cond b a d))
    go true = f
    go false = g
or-fits None d f g = g

given-fits : (e : Option Float) (d : Float) → Formed e → T (fits binary64 d) → T (fits binary64 (given_or e d))
unfolding given_or
given-fits (Some a) d f g = f
given-fits None d f g = g

-- ---- one line

-- both loaders' kernels differ in the exponent alone
by_exponent : (d : Float) (f : FileKernel) → exponent_or f.exponent d ≡ given_or f.exponent d
    → native_of d f ≡ source_of d f
unfolding native_of source_of from_file
by_exponent d f e =
    let n = native_of d f in
    (λ i. record { c = n.c; sigma = n.sigma; w = n.w; alpha = e i })

pub alike_by_exponent : (d : Float) (f : FileKernel)
    → same_bits_lem (exponent_or f.exponent d) (given_or f.exponent d) ≡ alike d f
unfolding alike native_of source_of from_file
alike_by_exponent d f = sym (simp same_self)

pub alike_equal : (d : Float) (f : FileKernel) → T (fits binary64 d) → Formed f.exponent → alike d f ≡ true
    → native_of d f ≡ source_of d f
alike_equal d f g h a =
    let e = f.exponent in
    by_exponent d f (same-is (exponent_or e d) (given_or e d) (or-fits e d h g) (given-fits e d h g)
    (alike_by_exponent d f ∙ a))

same_kernel_lem : (k : Kernel) → same_kernel k k ≡ true
same_kernel_lem k = simp same_self

pub equal_alike : (d : Float) (f : FileKernel) → native_of d f ≡ source_of d f → alike d f ≡ true
unfolding alike
equal_alike d f e = sym (ap (λ (k : Kernel). same_kernel (native_of d f) k) e) ∙ same_kernel_lem (native_of d f)

-- ---- all lines

abbrev pub AllFormed : List FileKernel → Type 0
AllFormed [] = Unit {0}
AllFormed (f ∷ fs) = Formed f.exponent × AllFormed fs

pub all_equal : (d : Float) (fs : List FileKernel) → T (fits binary64 d) → AllFormed fs → all_alike_lem d fs ≡ true
    → map (native_of d) fs ≡ map (source_of d) fs
all_equal d [] g h e = refl
all_equal d (f ∷ fs) g h e =
    let b = (and-eq-true_iff (alike d f) (all_alike_lem d fs)).0 e in
    (λ i. alike_equal d f g h.0 b.0 i ∷ all_equal d fs g h.1 b.1 i)

abbrev first_of : List Kernel → Kernel → Kernel
first_of [] k = k
first_of (j ∷ js) k = j

abbrev others_of : List Kernel → List Kernel
others_of [] = []
others_of (j ∷ js) = js

pub all_alike : (d : Float) (fs : List FileKernel) → map (native_of d) fs ≡ map (source_of d) fs → all_alike_lem d fs ≡ true
all_alike d [] e = refl
all_alike d (f ∷ fs) e =
    (and-eq-true_iff (alike d f) (all_alike_lem d fs)).1
    (equal_alike d f (ap (λ (l : List Kernel). first_of l (native_of d f)) e), all_alike d fs (ap others_of e))

-- an exponent above 0, which both loaders keep, or a missing one, for which both take the default
abbrev pub Above : Option Float → Type 0
Above (Some alpha) = lt +0 alpha ≡ true
Above None = Unit {0}

abbrev pub AllAbove : List FileKernel → Type 0
AllAbove [] = Unit {0}
AllAbove (f ∷ fs) = Above f.exponent × AllAbove fs

above_same : (e : Option Float) (d : Float) → Above e → exponent_or e d ≡ given_or e d
unfolding exponent_or given_or
above_same (Some a) d h = rw h refl
above_same None d h = refl

pub above_equal : (d : Float) (fs : List FileKernel) → AllAbove fs → map (native_of d) fs ≡ map (source_of d) fs
above_equal d [] h = refl
above_equal d (f ∷ fs) h = (λ i. by_exponent d f (above_same f.exponent d h.0) i ∷ above_equal d fs h.1 i)

-- every exponent that is read is of the format
exponent_formed : (u t : Text) → Formed (to_exponent
    ((or_at u (mapped inl (read given_form t)) (mapped inr (read missing_form t))).val, tt))
unfolding float
exponent_formed lost t = tt
exponent_formed (left l) t = of_bits-fits binary64 (pattern t).val

line_formed : (t : Text) → Formed (file_line t).val.exponent
unfolding file_line
line_formed t =
    let x = float (literal (bytes "(kernel (c ") t) in
    let y = float (literal (bytes " ") x.text) in
    let z = float (literal (bytes " ") y.text) in
    let g = float (literal (bytes ") (sigma ") z.text) in
    let w = float (literal (bytes ") (w ") g.text) in
    let a = literal (bytes ") (alpha ") w.text in
    exponent_formed (read given_form a).text a

pub all_formed : (most : ℕ) (t : Text) → AllFormed (file_lines most t).val
unfolding file_lines
all_formed zero t = tt
all_formed (suc most) lost = tt
all_formed (suc most) (left []) = tt
all_formed (suc most) (left (b ∷ l)) = (line_formed (left (b ∷ l)), all_formed most (file_line (left (b ∷ l))).text)

-- ---- the call: s the lines, d the default, xs the lent run

-- both loaders give equal kernels
abbrev pub Equal : List ℕ → Float → Type 0
Equal s d = map (native_of d) (filed s) ≡ map (source_of d) (filed s)

-- the strict form answers what both loaders answer, and leaves the run that both leave
abbrev pub AsBoth : List ℕ → Float → List Float → Type 0
AsBoth s d xs =
    (conversion s d Strict xs ≡ conversion s d Native xs) × (conversion s d Strict xs ≡ conversion s d Source xs)

pub record StrictHolds (s : List ℕ) (d : Float) (xs : List Float) : Type 0 where
  -- equal kernels are accepted
  pub accepts : Equal s d → AsBoth s d xs
  -- others are refused, where the native loader refuses nothing
  pub refuses : (Equal s d → ⊥) → conversion_check s d Native (length xs) ≡ passed
      → conversion s d Strict xs ≡ outcome (refused LoadersDiffer) xs
  -- what is accepted is equal, and all three give the same run
  pub only_equal : (conversion s d Strict xs).reply.refusal ≡ 0 → Equal s d × AsBoth s d xs
  -- where every exponent is above 0 or missing the loaders agree, whatever the default
  pub above : AllAbove (filed s) → AsBoth s d xs
