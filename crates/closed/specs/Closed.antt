-- 02, L13, "Is the delivered mesh closed?". Definitions only.
use Rattle.std.specs.Result.{result_and}
use Rattle.std.specs.Prelude.{ℕ, ◌+◌, Bool, true, not, ◌&&◌, cond, List, [], ◌∷◌, eqb, Err}
use Rattle.base.specs.declared.refusal.Refusal.TheVariants.{Unclosed}
use Rattle.base.specs.Answers.{Checked, passed}
use Rattle.mesh.specs.Checks.{mesh_check}

-- a directed edge, from a corner of a face to the face's next
pub record Edge : Type 0 where
  pub tail : ℕ
  pub head : ℕ

abbrev pub edge : ℕ → ℕ → Edge
edge a b = record { tail = a; head = b }

abbrev pub reversed : Edge → Edge
reversed e = edge e.head e.tail

abbrev pub same : Edge → Edge → Bool
same d e = eqb d.tail e.tail && eqb d.head e.head

-- the directed edges of all faces, in order; three corners are a face, and fewer at the end are refused with 1
unfoldable pub edges : List ℕ → List Edge
edges [] = []
edges (a ∷ []) = []
edges (a ∷ b ∷ []) = []
edges (a ∷ b ∷ c ∷ ks) = edge a b ∷ edge b c ∷ edge c a ∷ edges ks

-- how often e occurs in a list
unfoldable pub occurrences : Edge → List Edge → ℕ
occurrences e [] = 0
occurrences e (d ∷ ds) = cond (same d e) 1 0 + occurrences e ds

-- "no face names a corner twice"
unfoldable pub distinct_corners : List ℕ → Bool
distinct_corners [] = true
distinct_corners (a ∷ []) = true
distinct_corners (a ∷ b ∷ []) = true
distinct_corners (a ∷ b ∷ c ∷ ks) = not (eqb a b) && not (eqb b c) && not (eqb c a) && distinct_corners ks

-- the edge e "occurs once over all faces, with its reverse also once"
unfoldable pub once : List Edge → Edge → Bool
once es e = eqb (occurrences e es) 1 && eqb (occurrences (reversed e) es) 1

unfoldable pub each : (Edge → Bool) → List Edge → Bool
each p [] = true
each p (e ∷ es) = p e && each p es

-- "A mesh passes exactly when no face names a corner twice and each directed edge of a face occurs once over all faces,
-- with its reverse also once."
unfoldable pub passes : List ℕ → Bool
passes corners = distinct_corners corners && each (once (edges corners)) (edges corners)

-- "1, 2 and 3 apply first; 22 when a mesh doesn't pass"
unfoldable pub closed_check : ℕ → List ℕ → Checked
closed_check coordinates corners =
    result_and (mesh_check coordinates corners) (cond (passes corners) passed (Err Unclosed))
