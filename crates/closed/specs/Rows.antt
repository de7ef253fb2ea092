-- The definition of 02's L13 at small meshes, by computation. Assumes nothing.
use Rattle.std.specs.Prelude.{◌≡◌, refl, true, false, [], ◌∷◌}
use Rattle.closed.specs.Closed.{edges, occurrences, distinct_corners, once, each, passes}

-- "A mesh without faces passes."
pub no_faces : passes [] ≡ true
unfolding passes edges occurrences distinct_corners once each
no_faces = refl

pub tetrahedron : passes (0 ∷ 1 ∷ 2 ∷ 0 ∷ 3 ∷ 1 ∷ 1 ∷ 3 ∷ 2 ∷ 2 ∷ 3 ∷ 0 ∷ []) ≡ true
unfolding passes edges occurrences distinct_corners once each
tetrahedron = refl

-- "Orientation as a whole isn't judged": the same, turned inside out
pub inside_out : passes (0 ∷ 2 ∷ 1 ∷ 0 ∷ 1 ∷ 3 ∷ 1 ∷ 2 ∷ 3 ∷ 2 ∷ 0 ∷ 3 ∷ []) ≡ true
unfolding passes edges occurrences distinct_corners once each
inside_out = refl

-- one face turned
pub one-turned : passes (0 ∷ 2 ∷ 1 ∷ 0 ∷ 3 ∷ 1 ∷ 1 ∷ 3 ∷ 2 ∷ 2 ∷ 3 ∷ 0 ∷ []) ≡ false
unfolding passes edges occurrences distinct_corners once each
one-turned = refl

-- a hole
pub hole : passes (0 ∷ 1 ∷ 2 ∷ 0 ∷ 3 ∷ 1 ∷ 1 ∷ 3 ∷ 2 ∷ []) ≡ false
unfolding passes edges occurrences distinct_corners once each
hole = refl

-- a face that names a corner twice, though each of its edges occurs once with its reverse
pub corner_twice : passes (0 ∷ 0 ∷ 1 ∷ []) ≡ false
unfolding passes edges occurrences distinct_corners once each
corner_twice = refl
