-- The strict form holds to both loaders, by the laws of the single kernels. Assumes nothing.
use Rattle.std.specs.Result.{result_and}
use Rattle.std.proofs.Math.Path.{◌≡◌, refl}
use Rattle.std.proofs.Common.{arith}
use Rattle.std.specs.Prelude.{Bool, cond, ℕ, ◌*◌, T, leb, Float, Err}
use Rattle.std.proofs.Math.Bool.{true, false}
use mathlib.Core.List.{List, [], ◌∷◌, map}
use Rattle.std.proofs.Math.ListN.{length}
use Rattle.std.specs.Float.{binary64}
use Rattle.std.specs.Float.Ieee.{fits}
use Rattle.base.specs.Answers.{refused, counted, Outcome, outcome, guarded_run, passed}
use Rattle.base.specs.declared.refusal.Refusal.TheVariants.{BadKernelLine, ShortList, LoadersDiffer}
use Rattle.text.specs.Text.{left}
use Rattle.convert.specs.Loaders.{loaded, all_alike_lem}
use Rattle.convert.specs.Lines.{filed, all_lines}
use Rattle.convert.specs.Convert.{laid_from, conversion_check, conversion}
use Rattle.convert.specs.ConvertLaws.{all_equal, all_alike, above_equal, all_formed, Equal, AsBoth, StrictHolds}
use Rattle.convert.specs.declared.file.Loader.TheVariants.{Native, Strict}

module _ (s : List ℕ) (d : Float) (xs : List Float) where
  accepted : Equal s d → AsBoth s d xs
  unfolding conversion loaded
  accepted e =
      let a = all_alike d (filed s) e in
      (rw a refl, rw (a, e) refl)

  module _ (g : T (fits binary64 d)) where
    not_alike : (Equal s d → ⊥) → all_alike_lem d (filed s) ≡ false
    not_alike n = go (all_alike_lem d (filed s)) refl
      where
        go : (b : Bool) → all_alike_lem d (filed s) ≡ b → b ≡ false
        go true e = absurd (n (all_equal d (filed s) g (all_formed (length s) (left s)) e))
        go false e = refl

    refused-21 : (Equal s d → ⊥) → conversion_check s d Native (length xs) ≡ passed
        → conversion s d Strict xs ≡ outcome (refused LoadersDiffer) xs
    unfolding conversion
    refused-21 n p = rw (not_alike n) (go (all_lines s) (leb (6 * length (filed s)) (length xs))
        (outcome (counted (length (filed s) ∷ [])) (laid_from (map (loaded Strict d) (filed s)) 0 xs)) p)
      where
        go : (a b : Bool) (o : Outcome) → result_and (cond a passed (Err BadKernelLine))
            (result_and (cond b passed (Err ShortList)) passed) ≡ passed
            → guarded_run (result_and (cond a passed (Err BadKernelLine))
            (result_and (cond b passed (Err ShortList)) (Err LoadersDiffer))) xs o
            ≡ outcome (refused LoadersDiffer) xs
        go true true o p = refl
        go true false o p = absurd (let z : ◌≡◌ {A = ℕ} 0 1 = cc in omega arith)
        go false b o p = absurd (let z : ◌≡◌ {A = ℕ} 0 1 = cc in omega arith)

    equal-only : (conversion s d Strict xs).reply.refusal ≡ 0 → Equal s d
    unfolding conversion
    equal-only h = all_equal d (filed s) g (all_formed (length s) (left s))
        (go (all_lines s) (leb (6 * length (filed s)) (length xs)) (all_alike_lem d (filed s)) (length (filed s))
        (laid_from (map (loaded Strict d) (filed s)) 0 xs) h)
      where
        go : (a b c : Bool) (n : ℕ) (ys : List Float)
            → (guarded_run (result_and (cond a passed (Err BadKernelLine))
            (result_and (cond b passed (Err ShortList)) (cond c passed (Err LoadersDiffer)))) xs
            (outcome (counted (n ∷ [])) ys)).reply.refusal ≡ 0 → c ≡ true
        go true true true n ys h = refl
        go true true false n ys h = absurd (omega arith)
        go true false c n ys h = absurd (omega arith)
        go false b c n ys h = absurd (omega arith)

-- of every default that is a float of the format, as each f64 is
pub strict_holds : (s : List ℕ) (d : Float) (xs : List Float) → T (fits binary64 d) → StrictHolds s d xs
strict_holds s d xs g =
    record {
      accepts = accepted s d xs;
      refuses = refused-21 s d xs g;
      only_equal = λ h. let e = equal-only s d xs g h in (e, accepted s d xs e);
      above = λ h. accepted s d xs (above_equal d (filed s) h);
    }
