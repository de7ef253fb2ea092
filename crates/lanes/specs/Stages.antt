-- What a step computes of one point and of 28, for the functions' contracts. Definitions only.
use Rattle.std.specs.Prelude.{ℕ, ◌≤◌, ◌<◌, ◌≡◌, ◌⊎◌, true, cond, List, get_or, Float}
use Rattle.std.specs.Float.{nan, binary64}
use Rattle.std.specs.Float.Ieee.{lt, le}
use Rattle.base.specs.Floats.{◌⊕◌, ◌⊗◌, ◌⊘◌, abs}
use Rattle.base.specs.Constants.{one, tenth}
use Rattle.base.specs.Ranges.{Within}
use Rattle.root.specs.Root.{square_root}
use Rattle.radial.specs.Radial.{radial_gSeries, radial_g}
use Rattle.arcs.specs.Stages.{Large, Low, StepsLeft, quotient, AllLarge as FirstLarge, AllLow as FirstLow}
use Rattle.lanes.specs.declared.radii.Found.{Found}
use Rattle.lanes.specs.Factors.{All, Each}

-- sigma times the distance, whose square is x
abbrev pub radius : Float → Float → Float
radius sigma x = sigma ⊗ square_root binary64 x

-- the series is taken
abbrev pub Small : Float → Type 0
Small t = lt (abs t) tenth ≡ true

-- the quotient is taken, or the series
abbrev pub Sided : Float → Type 0
Sided t = Large t ⊎ Small t

-- t, or 0.1 where t is not at least that
unfoldable pub raised : Float → Float
raised t = cond (le tenth t) t tenth

-- ---- of 28 points
abbrev pub AllLarge : List Float → Type 0
AllLarge ts = All (λ i t. Large t) ts

abbrev pub AllLow : List Float → Type 0
AllLow ts = All (λ i t. Low t) ts

abbrev pub AllSmall : List Float → Type 0
AllSmall ts = All (λ i t. Small t) ts

abbrev pub AllSided : List Float → Type 0
AllSided ts = All (λ i t. Sided t) ts

-- what the answers tell of the radii
abbrev pub Radii : Float → List Float → Found → List Float → Type 0
Radii sigma xs r ts =
    (r.near ≡ true → Each (radius sigma) xs ts) × (r.large ≡ true → AllLarge ts) × (r.low ≡ true → AllLow ts)

-- tangents of angles up to 45 degrees, and what the roots are taken of
abbrev pub Tangents : List Float → Type 0
Tangents vs = All (λ i v. Within 0 1 v) vs

abbrev pub Radicands : List Float → Type 0
Radicands fs = All (λ i f. Within 1 2 f) fs

-- ws are the vs halved, fs being the radicands
abbrev pub Halves : List Float → List Float → List Float → Type 0
Halves vs fs ws = All (λ i w. w ≡ get_or vs i nan ⊘ (one ⊕ square_root binary64 (get_or fs i nan))) ws

-- gs are the factors of those radii that take the series
abbrev pub SmallFactors : List Float → List Float → Type 0
SmallFactors ts gs = All (λ i g. Small (get_or ts i nan) → g ≡ radial_g (get_or ts i nan)) gs

-- hs are the ss where the radius is at least 0.1, else the gs
abbrev pub Chosen : List Float → List Float → List Float → List Float → Type 0
Chosen ts ss gs hs = All (λ i h. h ≡ cond (le tenth (get_or ts i nan)) (get_or ss i nan) (get_or gs i nan)) hs

-- of each series k steps are left
abbrev pub AllStepsLeft : ℕ → List Float → List Float → Type 0
AllStepsLeft k vs gs = All (λ i a. StepsLeft k (get_or vs i nan ⊗ get_or vs i nan) a) gs

abbrev pub Quotients : List Float → List Float → List Float → Type 0
Quotients ts vs gs = All (λ i g. g ≡ quotient (get_or ts i nan) (get_or vs i nan)) gs

-- the elements of gs from place n on are those of ts by the series, the others those of fs
pub record SeriesFrom (n : ℕ) (ts fs gs : List Float) : Type 0 where
  pub worked : (i : ℕ) → n ≤ i → i < 28 → get_or gs i nan ≡ radial_gSeries (get_or ts i nan)
  pub kept : (i : ℕ) → i < n → get_or gs i nan ≡ get_or fs i nan

-- each of the 28 elements of ts stands in us, at the place that ps has for it
pub record Placed (ts us : List Float) (ps : List ℕ) : Type 0 where
  pub within : (i : ℕ) → i < 28 → get_or ps i 0 < 28
  pub same : (i : ℕ) → i < 28 → get_or us (get_or ps i 0) nan ≡ get_or ts i nan

-- ts parted in us: those of at least 0.1 stand first, in places below `large`, and the others take the series
pub record Parting (ts us : List Float) (ps : List ℕ) (large : ℕ) : Type 0 where
  pub few : large ≤ 28
  pub placed : Placed ts us ps
  pub front : FirstLarge large us
  pub low : AllLow ts → FirstLow large us
  pub back : All (λ i t. large ≤ i → Small t) us

-- gs are the elements of ss at the places ps
abbrev pub Gathered : List ℕ → List Float → List Float → Type 0
Gathered ps ss gs = All (λ i g. g ≡ get_or ss (get_or ps i 0) nan) gs
