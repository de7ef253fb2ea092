-- Demand 3: how a store may begin, by an opening, a carry (02, L6) or lines that are read (02, L10); and the other
-- stores from which places may be adopted. r, xs and ks are the radius, coordinates and corners of an opening; fs and
-- ws the runs lent to it, whatever was in them; q is the count of words to a place. Definitions only.
use Rattle.std.specs.Prelude.{◌≡◌, Bool, cond, ltb, leb, List, [], ◌∷◌, map, ℕ, length, Float}
use Rattle.layout.specs.Layout.{width, place_limit}
use Rattle.layout.specs.After.{After}
use Rattle.store.specs.Calls.{open_step}
use Rattle.carry.specs.Carry.{old_width, carry_step}
use Rattle.text.specs.Text.{Text, lost, left}
use Rattle.text.specs.Form.{Vals}
use Rattle.script.specs.Lines.{put_line}
use Rattle.reader.specs.ReadOf.{place_in, kernel_in, layer_in, Script, read_of, load_step}
use Rattle.machine.specs.Machine.{carried, Place, empty, full, Machine, work_left, opened, short_row, open_row}
use Rattle.machine.specs.Calls.{Call, put, Store}
use Rattle.machine.specs.Events.{Event, call, adopt, leaves_all, machine_after, after_all}
use Rattle.machine.specs.OldStore.{Fitting, Old, OfPuts, old_leaves, old_after}

-- the runs that a beginning leaves
abbrev pub leaving : After → Store
leaving a = record { floats = a.floats; words = a.words }

-- ---- 02, L6: a store of the form before L5 is carried over. r, xs, ks, fs and ws are those of its opening, cs its
-- calls; gs and us are the new runs, whatever was in them
abbrev pub carrying : Float → List Float → List ℕ → List Float → List ℕ → List Old → List Float → List ℕ → After
carrying r xs ks fs ws cs gs us =
    let old = old_leaves (leaving (open_step old_width fs ws r xs ks)) cs in
    carry_step old.floats old.words gs us

-- "demand 3's list begins at the carry, its machine with the mesh, radius, places and steps carried, and its charged
-- with the left that goes across": the machine m has had the old store's opening and calls
abbrev pub carried_place : Place → Place
carried_place empty = empty
carried_place (full k fit o p l) = full k fit carried p 0

abbrev pub carried_over : Machine → Machine
carried_over m =
    record {
      mesh = m.mesh;
      places = map carried_place m.places;
      charged = work_left m;
      dropped = 0;
      freed = 0;
    }

-- which row refuses a carry into the runs gs and us: 4 where they are too short, and 0 where none does
abbrev pub carry_row : Machine → List Float → List ℕ → ℕ
carry_row m gs us = short_row width m.mesh.verts m.mesh.faces (length gs) (length us)

-- ---- 02, L10: a store that is read from lines, s are their bytes and fs and ws the runs lent, whatever was in them

-- a put line as a call
abbrev pub put_call : Vals put_line → Call
put_call v = put (place_in v) (kernel_in v) (layer_in v)

-- "leaves what that opening and those puts, line by line, would": the machine gets them as calls
abbrev pub scripted : Script → Machine
scripted d = after_all (opened d.radius d.coords d.corners) (map put_call d.puts)

-- "refuses the whole where one line would be refused", by the first of its rows that applies to any line: an opening's,
-- 6, 16
abbrev pub any_row : (Vals put_line → Bool) → ℕ → List (Vals put_line) → ℕ → ℕ
any_row test n [] other = other
any_row test n (v ∷ vs) other = cond (test v) n (any_row test n vs other)

abbrev pub lines_row : Text → ℕ → Script → ℕ → ℕ → ℕ
-- "13 [..] comes ahead of all others"
lines_row lost q d a b = 13
lines_row (left l) q d a b =
    let n = open_row q d.coords d.corners a b in
    cond (ltb 0 n) n
    (any_row (λ v. leb place_limit (place_in v)) 6 d.puts (any_row (λ v. ltb 15 (layer_in v)) 16 d.puts 0))

-- ---- the stores from which a place may be adopted: such a store came of an opening, a carry or lines, and any list of
-- events of its own. Whether its mesh and radius are those of this store is for the adoption to find out

-- a store that has just begun, and its machine
pub data Begun (q : ℕ) : Machine → Store → Type 0 where
  by-opening : (r : Float) (xs : List Float) (ks : List ℕ) (fs : List Float) (ws : List ℕ)
      → open_row q xs ks (length fs) (length ws) ≡ 0 → Begun q (opened r xs ks) (leaving (open_step q fs ws r xs ks))
  by-carry : (r : Float) (xs : List Float) (ks : List ℕ) (fs : List Float) (ws : List ℕ) (cs : List Old)
      (gs : List Float) (us : List ℕ)
      → q ≡ width → open_row old_width xs ks (length fs) (length ws) ≡ 0 → OfPuts Fitting cs
      → carry_row (old_after carried (opened r xs ks) cs) gs us ≡ 0
      → Begun q (carried_over (old_after carried (opened r xs ks) cs)) (leaving (carrying r xs ks fs ws cs gs us))
  by_lines : (fs : List Float) (ws : List ℕ) (s : List ℕ)
      → lines_row (read_of s).text q (read_of s).val (length fs) (length ws) ≡ 0
      → Begun q (scripted (read_of s).val) (leaving (load_step q fs ws s))

-- a list of events in which each adoption is from such a store, after any list of events of its own, which may hold
-- adoptions of the same kind
pub data Came (q : ℕ) : List Event → Type 0 where
  none : Came q []
  a_call : {c : Call} {es : List Event} → Came q es → Came q (call c ∷ es)
  an-adoption : {i j : ℕ} {m : Machine} {s : Store} {ds es : List Event}
      → Begun q m s → Came q ds → Came q es
      → Came q (adopt i (machine_after m ds) (leaves_all q s ds) j ∷ es)
