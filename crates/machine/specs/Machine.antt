-- 01, "The store": the machine, "fed only the calls' arguments, never the store's runs". Definitions only.
use Rattle.std.specs.Prelude.{Bool, false, not, ◌||◌, cond, List, [], ◌∷◌, ◌++◌, map, ℕ, zero, suc, ◌+◌, ◌*◌, ◌-◌, ◌/◌, ◌%◌, min, ltb, leb, eqb, length, get_or, set, replicate, Float}
use Rattle.base.specs.Floats.{+0}
use Rattle.base.specs.Loops.{iterate}
use Rattle.base.specs.Answers.{Answer, refused, counted, done}
use Rattle.base.specs.declared.refusal.Refusal.TheVariants.{Vacant}
use Rattle.kernel.specs.declared.kernel.Kernel.{Kernel}
use Rattle.pieces.specs.declared.fit.Fit.{Fit}
use Rattle.pieces.specs.declared.fit.Fit.TheVariants.{Kept, Fitted, Fallback, NoExponent}
use Rattle.pieces.specs.declared.pieces.Pieces.{Pieces}
use Rattle.layout.specs.Layout.{place_limit}
use Rattle.squeeze.specs.Squeeze.{used, point_of}

-- the mesh and radius that an opening gave: V and F are the counts of vertices and faces
pub record Mesh : Type 0 where
  pub radius : Float
  pub coords : List Float
  pub corners : List ℕ
  pub verts : ℕ
  pub faces : ℕ

-- where a filled place's pieces come from: its kernel was decomposed when it was put; or a carry brought them, 02, L6:
-- "pieces fitted before L2 go across as held"
pub data Provenance : Type 0 where
  own : Provenance
  carried : Provenance

-- "each place is empty or (kernel, steps p)"; a filled one keeps its pieces, and where they come from. 02, L5: "Each
-- place, the machine's too, gets a layer number from 0 to 15". In `full k fit o p l`, o says where the pieces fit come
-- from, p are the steps and l is the layer
pub data Place : Type 0 where
  empty : Place
  full : Kernel → Pieces → Provenance → ℕ → ℕ → Place

-- "pieces is how many its decomposition gives, need = pieces times F"
abbrev pub need : Mesh → Pieces → ℕ
need m fit = fit.count * m.faces

-- need - p, "0 for an empty place"
abbrev pub left_place : Mesh → Place → ℕ
left_place m empty = 0
left_place m (full k fit o p l) = need m fit - p

-- "left, the sum of need - p"
abbrev pub left_sum : Mesh → List Place → ℕ
left_sum m [] = 0
left_sum m (s ∷ ss) = left_place m s + left_sum m ss

-- u steps more
abbrev pub adv : ℕ → Place → Place
adv u empty = empty
adv u (full k fit o p l) = full k fit o (p + u) l

pub record Machine : Type 0 where
  pub mesh : Mesh
  pub places : List Place
  pub charged : ℕ
  pub dropped : ℕ
  -- the coordinates that squeezes freed
  pub freed : ℕ

-- the work left in all places
abbrev pub work_left : Machine → ℕ
work_left m = left_sum m.mesh m.places

-- what a call does: the machine after it, the reply, and what is lent beside the store as it is then: a run of floats,
-- or the bytes of a page ([] where none is lent)
pub record Turn : Type 0 where
  pub next : Machine
  pub reply : Answer
  pub out : List Float
  pub bytes : List ℕ

abbrev pub turn : Machine → Answer → Turn
turn m r = record { next = m; reply = r; out = []; bytes = [] }

-- with other places, and so much more charged and dropped
abbrev pub with_places : Machine → List Place → ℕ → ℕ → Machine
with_places m ss c d =
    record {
      mesh = m.mesh;
      places = ss;
      charged = m.charged + c;
      dropped = m.dropped + d;
      freed = m.freed;
    }

-- "Open copies a mesh and radius; all empty, charged = dropped = 0"
abbrev pub mesh_of : Float → List Float → List ℕ → Mesh
mesh_of r xs ks = record { radius = r; coords = xs; corners = ks; verts = length xs / 3; faces = length ks / 3 }

abbrev pub opened : Float → List Float → List ℕ → Machine
opened r xs ks =
    record { mesh = mesh_of r xs ks; places = replicate place_limit empty; charged = 0; dropped = 0; freed = 0 }

-- "index ≥ V": some corner names no vertex
abbrev pub loose_in : ℕ → List ℕ → Bool
loose_in v [] = false
loose_in v (k ∷ ks) = leb v k || loose_in v ks

-- row 4, of runs of a floats and b words for v vertices and f faces: "below 1,761+3V floats or 98+3F words", and by
-- 02's L5 "below 130+3F words": 98 and 130 are 2 + 32q
abbrev pub short_row : ℕ → ℕ → ℕ → ℕ → ℕ → ℕ
short_row q v f a b = cond (ltb a (1761 + 3 * v) || ltb b (2 + 32 * q + 3 * f)) 4 0

-- which of the table's rows 1 to 4 refuses an opening of coordinates xs and corners ks, in runs of a floats and b words
-- with q words to a place: "The lowest that applies is returned alone"; 0 where none applies
unfoldable pub open_row : ℕ → List Float → List ℕ → ℕ → ℕ → ℕ
open_row q xs ks a b =
    let v = length xs / 3 in
    let f = length ks / 3 in
    -- "coordinate or index count not a multiple of 3"
    cond (not (eqb (length xs % 3) 0) || not (eqb (length ks % 3) 0)) 1
    -- "V vertices ≤ 1,048,576; F faces ≤ 2,097,152": "V or F above limit"
    (cond (ltb 1048576 v || ltb 2097152 f) 2
    -- "index ≥ V"
    (cond (loose_in v ks) 3
    (short_row q v f a b)))

-- 02, L4: "put answers one of kept, fitted with that pivot, fallback with that column, or no exponent": which one and
-- the column, then the pivot
abbrev pub end_counts : Fit → List ℕ
end_counts Kept = 0 ∷ 0 ∷ []
end_counts (Fitted pivot) = 1 ∷ 0 ∷ []
end_counts (Fallback column) = 2 ∷ column ∷ []
end_counts NoExponent = 3 ∷ 0 ∷ []

abbrev pub end_floats : Fit → List Float
end_floats Kept = +0 ∷ []
end_floats (Fitted pivot) = pivot ∷ []
end_floats (Fallback column) = +0 ∷ []
end_floats NoExponent = +0 ∷ []

-- "Put: charged += need, dropped += the old need - p (0 for an empty place), p = 0"; the layer is "given at put"
abbrev pub put_into : Machine → ℕ → Kernel → Pieces → Provenance → ℕ → Machine
put_into m i k fit o l =
    with_places m (set m.places i (full k fit o 0 l)) (need m.mesh fit)
    (left_place m.mesh (get_or m.places i empty))

-- "Answers pieces and need", and how the fit ended, which the place does not keep
abbrev pub put_turn : Machine → ℕ → Kernel → Pieces → Fit → ℕ → Turn
put_turn m i k fit end l =
    turn (put_into m i k fit own l)
    (record { refusal = 0; counts = fit.count ∷ need m.mesh fit ∷ end_counts end; floats = end_floats end })

-- "Clear: dropped += need - p; empty."
abbrev pub clear_turn : Machine → ℕ → Place → Turn
clear_turn m i empty = turn m (refused Vacant)
clear_turn m i (full k fit o p l) = turn (with_places m (set m.places i empty) 0 (need m.mesh fit - p)) done

-- "Reweigh: new w, p kept."; the layer is "kept at a reweigh", and so are the pieces, wherever they come from
abbrev pub weighed : Kernel → Float → Kernel
weighed k v = record { c = k.c; sigma = k.sigma; w = v; alpha = k.alpha }

abbrev pub reweigh_turn : Machine → ℕ → Float → Place → Turn
reweigh_turn m i v empty = turn m (refused Vacant)
reweigh_turn m i v (full k fit o p l) =
    turn (with_places m (set m.places i (full (weighed k v) fit o p l)) 0 0) done

-- "Advance(n, u64): does min(n, left) steps, lowest unfinished place first, one face of one piece each; the step count
-- in its result is done, beside left"
abbrev pub bump : Mesh → List Place → List Place
bump m [] = []
bump m (s ∷ ss) = cond (eqb (left_place m s) 0) (s ∷ bump m ss) (adv 1 s ∷ ss)

abbrev pub steps_of : Machine → ℕ → ℕ
steps_of m n = min n (work_left m)

abbrev pub advance_turn : Machine → ℕ → Turn
advance_turn m n =
    let ss = iterate (bump m.mesh) (steps_of m n) m.places in
    turn (with_places m ss 0 0) (counted (steps_of m n ∷ left_sum m.mesh ss ∷ []))

-- ---- 02, L5: "Each reading takes a set of layers and sees only places in it"

-- a set of layers is a number, bit l for layer l: the l-th digit to base 2
abbrev pub among : ℕ → ℕ → Bool
among zero layers = eqb (layers % 2) 1
among (suc l) layers = among l (layers / 2)

-- a place that a reading of these layers does not see is to it an empty one
abbrev pub seen_place : ℕ → Place → Place
seen_place layers empty = empty
seen_place layers (full k fit o p l) = cond (among l layers) (full k fit o p l) empty

abbrev pub seen_places : ℕ → List Place → List Place
seen_places layers ss = map (seen_place layers) ss

-- ---- 02, L7: "It covers only the places whose steps are complete, and says how many filled places of its layers it
-- passed over": of the places that it sees, those with nothing left, and how many have something left

-- nothing is left; so it is of a place without pieces, and of any place of a mesh without faces
abbrev pub is_complete : Mesh → Place → Bool
is_complete m s = eqb (left_place m s) 0

abbrev pub complete_place : Mesh → Place → Place
complete_place m s = cond (is_complete m s) s empty

abbrev pub complete_places : Mesh → List Place → List Place
complete_places m ss = map (complete_place m) ss

abbrev pub passed_places : Mesh → List Place → ℕ
passed_places m [] = 0
passed_places m (s ∷ ss) = cond (is_complete m s) 0 1 + passed_places m ss

-- ---- 02, L12, on the machine's mesh alone

-- the vertices below n that a face uses, in order
abbrev pub used_below : List ℕ → ℕ → List ℕ
used_below ks zero = []
used_below ks (suc n) = used_below ks n ++ cond (used ks n) (n ∷ []) []

-- where vertex i stands among the vertices vs: its new number
abbrev pub number_in : List ℕ → ℕ → ℕ
number_in [] i = 0
number_in (v ∷ vs) i = cond (eqb v i) 0 (suc (number_in vs i))

-- the coordinates of the vertices vs
abbrev pub points_at : List Float → List ℕ → List Float
points_at xs [] = []
points_at xs (v ∷ vs) = point_of xs v ++ points_at xs vs

-- "its machine then drops the same vertices from its mesh": radius and F stay
unfoldable pub slim : Mesh → Mesh
slim m =
    let vs = used_below m.corners m.verts in
    record {
      radius = m.radius;
      coords = points_at m.coords vs;
      corners = map (number_in vs) m.corners;
      verts = length vs;
      faces = m.faces;
    }

-- "It answers how many coordinates were freed": three to each vertex that is dropped
unfoldable pub freed_by : Mesh → ℕ
freed_by m = 3 * (m.verts - length (used_below m.corners m.verts))

-- places and sums stay
abbrev pub squeeze_turn : Machine → Turn
squeeze_turn m =
    let n = freed_by m.mesh in
    turn
    (record {
      mesh = slim m.mesh;
      places = m.places;
      charged = m.charged;
      dropped = m.dropped;
      freed = n + m.freed;
    })
    (counted (n ∷ []))
