-- The machine's pieces as a reading sums them: each with its volume over all F faces. Definitions only.
use mathlib.Core.List.{List, [], ◌∷◌, ◌++◌}
use Prim.Native.Nat.{ℕ, zero, suc}
use lib.ListN.{length, get_or}
use lib.Ieee.{nan}
use Rattle.base.specs.Floats.{◌⊗◌, +0}
use Rattle.volume.specs.Volume.{kernel_volume, body_volume}
use Rattle.kernel.specs.Field.{centre_of}
use Rattle.kernel.specs.declared.kernel.Kernel.{Kernel}
use Rattle.pieces.specs.declared.pieces.Pieces.{Pieces}
use Rattle.pieces.specs.Pieces.{piece_alpha, part_at}
use Rattle.readings.specs.Readings.{Part, Seen, seeing}
use Rattle.machine.specs.Machine.{Mesh, Place, empty, full}
use Rattle.machine.specs.Holding.{triangles}
use Rattle.machine.specs.Fresh.{fit_afresh, work_all, worst_from}

-- piece j of a fit
abbrev pub fresh_part : Mesh → Kernel → Pieces → ℕ → Part
fresh_part m k fit j =
    record {
      kernel = record {
        c = get_or k.c 0 nan ∷ get_or k.c 1 nan ∷ get_or k.c 2 nan ∷ [];
        sigma = (part_at fit j).sigma;
        w = k.w ⊗ (part_at fit j).coefficient;
        alpha = piece_alpha k.alpha;
      };
      volume = kernel_volume (triangles m) m.faces (centre_of k) (part_at fit j).sigma;
    }

-- its first n pieces
abbrev pub fresh_at : Mesh → Kernel → Pieces → ℕ → List Part
fresh_at m k fit zero = []
fresh_at m k fit (suc n) = fresh_at m k fit n ++ (fresh_part m k fit n ∷ [])

-- a place, "decomposed", or by the pieces that a carry brought
abbrev pub fresh_place : Mesh → Place → List Part
fresh_place m empty = []
fresh_place m (full k fit o p l) = let f = fit_afresh m.radius k fit o in fresh_at m k f f.count

abbrev pub fresh_all : Mesh → List Place → List Part
fresh_all m [] = []
fresh_all m (s ∷ ss) = fresh_place m s ++ fresh_all m ss

unfoldable pub fresh_seen : Mesh → List Place → Seen
fresh_seen m ss =
    seeing (fresh_all m ss) (body_volume (triangles m) m.faces) (length (work_all m.radius ss))
    (worst_from +0 (work_all m.radius ss))
