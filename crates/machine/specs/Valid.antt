-- What every machine has that an opening and calls lead to: Demands.antt says so of each. Definitions only.
use Rattle.std.specs.Prelude.{◌≡◌, true, List, ℕ, ◌*◌, ◌≤◌, ◌<◌, length, get_or, Float}
use Rattle.mesh.specs.Checks.{vertex_limit, face_limit, all_below}
use Rattle.kernel.specs.declared.kernel.Kernel.{Kernel}
use Rattle.pieces.specs.declared.pieces.Pieces.{Pieces}
use Rattle.pieces.specs.Pieces.{decomposed}
use Rattle.pieces.specs.PieceLaws.{Clean}
use Rattle.machine.specs.Machine.{Mesh, Provenance, own, carried, Place, empty, full, need}

-- pieces that a put fitted are those that the kernel's decomposition gives; a carry brings any
abbrev pub FittedBy : Float → Kernel → Pieces → Provenance → Type 0
FittedBy radius k fit own = fit ≡ decomposed k radius
FittedBy radius k fit carried = Unit {0}

-- a filled place
pub record Okay (m : Mesh) (k : Kernel) (fit : Pieces) (o : Provenance) (p l : ℕ) : Type 0 where
  pub of_kernel : FittedBy m.radius k fit o
  -- "So a kernel has at most 16 pieces", and the arrays of a fit are +0 past its last
  pub few : fit.count ≤ 16
  pub clean : Clean fit
  -- its steps are within its need
  pub steps : p ≤ need m fit
  -- its layer is one of sixteen
  pub layer : l < 16

abbrev pub Within : Mesh → Place → Type 0
Within m empty = Unit {0}
Within m (full k fit o p l) = Okay m k fit o p l

-- a mesh that an opening does not refuse
pub record Shape (m : Mesh) : Type 0 where
  pub coords : length m.coords ≡ 3 * m.verts
  pub corners : length m.corners ≡ 3 * m.faces
  pub verts : m.verts ≤ vertex_limit
  pub faces : m.faces ≤ face_limit
  pub below : all_below m.verts m.corners ≡ true

-- and its 32 places
pub record Valid (m : Mesh) (ss : List Place) : Type 0 where
  pub mesh : Shape m
  pub places : length ss ≡ 32
  pub within : (i : ℕ) → Within m (get_or ss i empty)
