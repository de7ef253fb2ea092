-- Laws of the numbers of refusals. Assumes nothing.
use Rattle.std.specs.Prelude.{◌≡◌, refl, Bool, true, false, ℕ, eqb}
use Rattle.std.proofs.Common.{sym, ◌∙◌, arith, eq-eqb}
use Rattle.base.specs.Refusals.{number}
use Rattle.base.specs.declared.refusal.Refusal.{Refusal}
use Rattle.base.specs.declared.refusal.Refusal.TheVariants.{Ragged, Oversize, LooseCorner, ShortStore, Unsound, NoPlace, Vacant, Unfinished, ShortList, BadMatrix, FlatPivot, Exponent, BadLine, BadTrack, ManyKernels, NoLayer, NoFigure, ShortPage, ShortText, BadKernelLine, LoadersDiffer, Unclosed}

-- 0 is the number of no refusal
pub never-zero : (r : Refusal) → eqb (number r) 0 ≡ false
never-zero Ragged = refl
never-zero Oversize = refl
never-zero LooseCorner = refl
never-zero ShortStore = refl
never-zero Unsound = refl
never-zero NoPlace = refl
never-zero Vacant = refl
never-zero Unfinished = refl
never-zero ShortList = refl
never-zero BadMatrix = refl
never-zero FlatPivot = refl
never-zero Exponent = refl
never-zero BadLine = refl
never-zero BadTrack = refl
never-zero ManyKernels = refl
never-zero NoLayer = refl
never-zero NoFigure = refl
never-zero ShortPage = refl
never-zero ShortText = refl
never-zero BadKernelLine = refl
never-zero LoadersDiffer = refl
never-zero Unclosed = refl

pub not-zero : {P : Type 0} (r : Refusal) → number r ≡ 0 → P
not-zero r h = absurd (let o : ◌≡◌ {A = Bool} true false = sym (eq-eqb (number r) 0 h)
    ∙ never-zero r in let p : ◌≡◌ {A = ℕ} 0 1 = cc in omega arith)
