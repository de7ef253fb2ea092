-- DUNANT7 of native mass.rs and of source density.rs: Dunavant 1985, degree 5, on a triangle. 02, L9: "The seven rows
-- of the surface rule repeat five coordinates and three weights .. Replace the rows by the numbers and a formula that
-- picks, for row and corner, which one stands there." The numbers are given by their bits. That they are the Rust's
-- decimals, each rounded once, and that the formula gives the Rust's rows, is the theorem `seven-rows` (DunavantRows).
use Rattle.std.specs.Prelude.{ℕ, ◌+◌, ◌%◌, ◌≡◌, refl, cond, eqb, ltb, Float}
use Rattle.std.specs.Float.Ieee.{of_bits, div}
use Rattle.base.specs.Floats.{bits, ◌⊕◌, ◌⊗◌, ◌⊘◌}
use Rattle.base.specs.Constants.{one, three}
use Rattle.mesh.specs.declared.vectors.V3.{V3}
use Rattle.mesh.specs.declared.triangles.Triangle.{Triangle}
use Rattle.mesh.specs.declared.dunavant.Node.{Node}

-- ---- the five coordinates

-- in the middle, 1.0 / 3.0
abbrev pub third : Float
third = bits 0x3fd5_5555_5555_5555

pub third-is : third ≡ one ⊘ three
unfolding of_bits div
third-is = refl

-- of an inner point, at one corner and at the two others: about 0.06 and 0.47
abbrev pub inner_one : Float
inner_one = bits 0x3fae_9314_28c7_43f4

abbrev pub inner_two : Float
inner_two = bits 0x3fde_16ce_bd73_8bc1

-- of an outer point, likewise: about 0.80 and 0.10
abbrev pub outer_one : Float
outer_one = bits 0x3fe9_8485_98e1_429c

abbrev pub outer_two : Float
outer_two = bits 0x3fb9_ede9_9c7a_f590

-- ---- the three weights: 0.225, about 0.132 and about 0.126

abbrev pub middle_weight : Float
middle_weight = bits 0x3fcc_cccc_cccc_cccd

abbrev pub inner_weight : Float
inner_weight = bits 0x3fc0_f24a_a634_41e8

abbrev pub outer_weight : Float
outer_weight = bits 0x3fc0_1ec6_6adc_cf29

-- ---- the formula

-- row 0 is the middle, rows 1 to 3 are the inner points, rows 4 to 6 the outer ones
unfoldable pub by_row : ℕ → Float → Float → Float → Float
by_row i middle inner outer = cond (eqb i 0) middle (cond (ltb i 4) inner outer)

-- the barycentric coordinate of row i at corner k. The corner that differs from the two others is 0, 1, 2 in rows 1,
-- 2, 3, and again in rows 4, 5, 6
unfoldable pub barycentric : ℕ → ℕ → Float
barycentric i k = cond (eqb k ((i + 2) % 3)) (by_row i third inner_one outer_one) (by_row i third inner_two outer_two)

-- row i, for an i below 7: the coordinates at the three corners, and the weight
unfoldable pub node : ℕ → Node
node i =
    record {
      a = barycentric i 0;
      b = barycentric i 1;
      c = barycentric i 2;
      w = by_row i middle_weight inner_weight outer_weight;
    }

-- the point of a triangle at a node: b0·p0 + b1·p1 + b2·p2
unfoldable pub point_of : Triangle → Node → V3
point_of t k =
    record {
      x = k.a ⊗ t.a.x ⊕ k.b ⊗ t.b.x ⊕ k.c ⊗ t.c.x;
      y = k.a ⊗ t.a.y ⊕ k.b ⊗ t.b.y ⊕ k.c ⊗ t.c.y;
      z = k.a ⊗ t.a.z ⊕ k.b ⊗ t.b.z ⊕ k.c ⊗ t.c.z;
    }
