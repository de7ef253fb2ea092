-- Demand 3: what a store goes through, its own calls and adoptions from other stores; the sums over a list. Adoptions
-- are ours, beyond 01 and 02, so no words are quoted for them: docs/landings/Hands.md says what they do. Definitions
-- only.
use Rattle.std.specs.Prelude.{Bool, ◌&&◌, cond, List, [], ◌∷◌, map, ℕ, ◌+◌, ◌-◌, eqb, get_or, set}
use Rattle.base.specs.Answers.{Answer, refused}
use Rattle.base.specs.declared.refusal.Refusal.TheVariants.{Vacant}
use Rattle.adopt.specs.Same.{same_float, same_floats, same_words}
use Rattle.adopt.specs.Adopt.{adopted, another, adopt_step}
use Rattle.kernel.specs.declared.kernel.Kernel.{Kernel}
use Rattle.pieces.specs.declared.pieces.Pieces.{Pieces}
use Rattle.machine.specs.Machine.{Mesh, Provenance, Place, empty, full, need, left_place, Machine, Turn, turn, with_places}
use Rattle.machine.specs.Calls.{Call, in_place, machine, Store, Result, result, store, charged_by, done_by}

-- an event of a store: a call of its own, or an adoption, which is ours, beyond 02 (docs/DECISIONS.md, Many hands). In
-- `adopt i o s j` place j of another store comes into place i: the machine gets that store's machine o, the store its
-- runs s. Beginnings.antt says where such a store may come from
pub data Event : Type 0 where
  call : Call → Event
  adopt : ℕ → Machine → Store → ℕ → Event

-- ---- the machine

-- the same body: radius, V, F, coordinates and corners are equal, bit for bit with NaN as one. `body` in Demands.antt
-- says that this test is `≡`
unfoldable pub same_mesh : Mesh → Mesh → Bool
same_mesh m o =
    same_float m.radius o.radius
    && ((eqb m.verts o.verts && eqb m.faces o.faces)
    && (same_floats m.coords o.coords && same_words m.corners o.corners))

-- the machine's place becomes that of the other store's machine; charged grows by the left that comes across, dropped
-- by the left that is lost
abbrev pub adopt_into : Machine → ℕ → Kernel → Pieces → Provenance → ℕ → ℕ → Machine
adopt_into m i k fit b p l =
    with_places m (set m.places i (full k fit b p l)) (need m.mesh fit - p)
    (left_place m.mesh (get_or m.places i empty))

-- 7 where the other's place is empty; else the answer is 1, the pieces and the steps left, or three zeros where the
-- bodies differ, and then nothing is changed
abbrev pub adopt_turn : Machine → ℕ → Mesh → Place → Turn
adopt_turn m i o empty = turn m (refused Vacant)
adopt_turn m i o (full k fit b p l) =
    cond (same_mesh m.mesh o)
    (turn (adopt_into m i k fit b p l) (adopted fit.count (need m.mesh fit - p)))
    (turn m another)

-- 6 of either place
abbrev pub turn_of : Machine → Event → Turn
turn_of m (call c) = machine m c
turn_of m (adopt i o s j) = in_place m i (in_place m j (adopt_turn m i o.mesh (get_or o.places j empty)))

-- ---- the store
abbrev pub result_of : ℕ → Store → Event → Result
result_of q s (call c) = store q s c
result_of q s (adopt i o t j) = result (adopt_step q s.floats s.words i t.floats t.words j)

-- ---- a list of events: each gets what the event before it left
abbrev pub leaves_all : ℕ → Store → List Event → Store
leaves_all q s [] = s
leaves_all q s (e ∷ es) = leaves_all q (result_of q s e).runs es

abbrev pub machine_after : Machine → List Event → Machine
machine_after m [] = m
machine_after m (e ∷ es) = machine_after (turn_of m e).next es

-- and of a store's own calls alone
abbrev pub leaves : ℕ → Store → List Call → Store
leaves q s cs = leaves_all q s (map call cs)

abbrev pub after_all : Machine → List Call → Machine
after_all m cs = machine_after m (map call cs)

-- ---- the sums: what an accepted put charges is its need, an adoption the left that comes across, as they answer
abbrev pub charged_by_event : Event → Answer → ℕ
charged_by_event (call c) r = charged_by c r
charged_by_event (adopt i o s j) r = get_or r.counts 2 0

abbrev pub done_by_event : Event → Answer → ℕ
done_by_event (call c) r = done_by c r
done_by_event (adopt i o s j) r = 0

abbrev pub charged_over : ℕ → Store → List Event → ℕ
charged_over q s [] = 0
charged_over q s (e ∷ es) = charged_by_event e (result_of q s e).reply + charged_over q (result_of q s e).runs es

abbrev pub done_over : ℕ → Store → List Event → ℕ
done_over q s [] = 0
done_over q s (e ∷ es) = done_by_event e (result_of q s e).reply + done_over q (result_of q s e).runs es

-- and of a store's own calls alone
abbrev pub charged_in : ℕ → Store → List Call → ℕ
charged_in q s cs = charged_over q s (map call cs)
