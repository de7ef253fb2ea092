-- `sub`, `dot`, `cross`, `norm` of native mass.rs and mesh.rs, with their brackets. Definitions only.
use Rattle.std.specs.Prelude.{Float}
use Rattle.std.specs.Float.{binary64}
use Rattle.base.specs.Floats.{◌⊕◌, ◌⊖◌, ◌⊗◌}
use Rattle.root.specs.Root.{square_root}
use Rattle.mesh.specs.declared.vectors.V3.{V3}

unfoldable pub vsub : V3 → V3 → V3
vsub a b = record { x = a.x ⊖ b.x; y = a.y ⊖ b.y; z = a.z ⊖ b.z }

unfoldable pub dot : V3 → V3 → Float
dot a b = a.x ⊗ b.x ⊕ a.y ⊗ b.y ⊕ a.z ⊗ b.z

unfoldable pub cross : V3 → V3 → V3
cross a b =
    record {
      x = a.y ⊗ b.z ⊖ a.z ⊗ b.y;
      y = a.z ⊗ b.x ⊖ a.x ⊗ b.z;
      z = a.x ⊗ b.y ⊖ a.y ⊗ b.x;
    }

unfoldable pub norm : V3 → Float
norm a = square_root binary64 (dot a a)
