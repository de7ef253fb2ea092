-- 02, L9: "Point order and every float remain." By computation. Assumes nothing.
use Rattle.std.specs.Prelude.{ℕ, ◌≡◌, refl, List, [], ◌∷◌, map}
use Rattle.std.specs.Float.Ieee.{of_bits, round, div}
use Rattle.base.specs.Floats.{decimal, ◌⊘◌}
use Rattle.base.specs.Constants.{one, three}
use Rattle.mesh.specs.declared.dunavant.Node.{Node}
use Rattle.mesh.specs.Dunavant.{by_row, barycentric, node}

abbrev middle : Node
middle = record { a = one ⊘ three; b = one ⊘ three; c = one ⊘ three; w = decimal 225 3 }

-- a row of decimals, each of 17 places and rounded once
abbrev row : ℕ → ℕ → ℕ → ℕ → Node
row a b c w = record { a = decimal a 17; b = decimal b 17; c = decimal c 17; w = decimal w 17 }

-- the table of native mass.rs, the digits grouped as they are there and filled up with zeros; that of source density.rs
-- has the same numbers
abbrev pub DUNANT7 : List Node
DUNANT7 =
    middle
    ∷ row 059_715_871_789_769_81 470_142_064_105_115_10 470_142_064_105_115_10 132_394_152_788_506_20
    ∷ row 470_142_064_105_115_10 059_715_871_789_769_81 470_142_064_105_115_10 132_394_152_788_506_20
    ∷ row 470_142_064_105_115_10 470_142_064_105_115_10 059_715_871_789_769_81 132_394_152_788_506_20
    ∷ row 797_426_985_353_087_30 101_286_507_323_456_34 101_286_507_323_456_34 125_939_180_544_827_13
    ∷ row 101_286_507_323_456_34 797_426_985_353_087_30 101_286_507_323_456_34 125_939_180_544_827_13
    ∷ row 101_286_507_323_456_34 101_286_507_323_456_34 797_426_985_353_087_30 125_939_180_544_827_13
    ∷ []

-- the formula gives its rows, number by number, in its order
pub seven-rows : map node (0 ∷ 1 ∷ 2 ∷ 3 ∷ 4 ∷ 5 ∷ 6 ∷ []) ≡ DUNANT7
unfolding node barycentric by_row of_bits round div
seven-rows = refl
