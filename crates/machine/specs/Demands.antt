-- Demand 3, one statement: `Demand3`, at the end: of an opening, a carry (02, L6) or lines that are read (02, L10), and
-- every list of events after it: calls, and adoptions from other stores. Each clause stands below the owner's words
-- that it says; adoptions and many hands are ours, beyond 02 (docs/landings/Hands.md), and have no such words.
-- r, xs and ks are the radius, coordinates and corners of an opening; fs and ws the runs lent to it, whatever was in
-- them; q is the count of words to a place, which the contracts have as `width`. Definitions only.
use Rattle.std.specs.Prelude.{◌≡◌, true, List, [], ◌∷◌, map, ℕ, ◌+◌, ◌*◌, ◌/◌, ◌%◌, ◌^◌, ◌≤◌, ◌<◌, length, get_or, Float}
use Rattle.base.specs.Answers.{Answer, refused, counted, outcome}
use Rattle.base.specs.declared.refusal.Refusal.TheVariants.{Unfinished, NoLayer}
use Rattle.base.specs.Floats.{+0}
use Rattle.layout.specs.Runs.{write}
use Rattle.kernel.specs.declared.kernel.Kernel.{Kernel}
use Rattle.pieces.specs.declared.pieces.Pieces.{Pieces}
use Rattle.pieces.specs.Pieces.{decomposed}
use Rattle.pieces.specs.Lists.{fitted_all, list_decomposition}
use Rattle.layout.specs.Layout.{width}
use Rattle.layout.specs.After.{After, after}
use Rattle.store.specs.Calls.{open_step}
use Rattle.carry.specs.Carry.{old_width}
use Rattle.reader.specs.ReadOf.{Script, read_of, load_step}
use Rattle.readings.specs.Readings.{Reading, density, report, list, track, sixes}
use Rattle.readings.specs.Finished.{beside}
use Rattle.page.specs.Page.{all_printable, page_of}
use Rattle.density.specs.declared.convention.Convention.{Convention}
use Rattle.machine.specs.Machine.{Mesh, Provenance, carried, empty, full, Machine, seen_places, complete_places, passed_places, work_left, with_places, opened, open_row}
use Rattle.machine.specs.Holding.{excess_f, excess_w}
use Rattle.machine.specs.Valid.{Valid}
use Rattle.machine.specs.Fresh.{Worked, kernels_of, work_all, all_pieces, worst_from, worked_afresh, finished_afresh, fresh_rows, page_afresh}
use Rattle.machine.specs.Calls.{Call, clear, advance, read, finished, page, needs, work_seen, Store, store, holding, left_in, without, heard, answers}
use Rattle.machine.specs.Events.{Event, call, adopt, same_mesh, turn_of, result_of, leaves_all, machine_after, leaves, after_all, charged_over, done_over}
use Rattle.machine.specs.OldStore.{Fitting, Todays, Old, nowadays, OfPuts, old_after}
use Rattle.machine.specs.Beginnings.{leaving, carrying, carried_over, carry_row, put_call, scripted, lines_row, Came}

-- ---- one event e: the store s beside the machine m, which "gets that opening and the same calls"; exF and exW are the
-- excess of the two runs, as the opening found it
pub record Same (q : ℕ) (exF : List Float) (exW : List ℕ) (m : Machine) (s : Store) (e : Event) : Type 0 where
  -- the call is given runs that hold the machine, "whole"
  pub before : s ≡ holding q m exF exW
  -- "Puts, clears, reweighs and advances are refused exactly when it refuses them, with its number; accepted puts
  -- answer its pieces and need, advances its done and left": an answer is the number of a refusal and the values, a
  -- put's with how its fit ended. A squeeze answers how many coordinates it freed, lines how many bytes they are (02,
  -- L10), an adoption the pieces and the left that come across; of a reading and a page more is said below
  pub reply : (result_of q s e).reply ≡ (turn_of m e).reply
  -- "answers and writes": each word of a run that is lent beside the store, and each byte of a page or of lines. Of a
  -- call that is refused they stay, since the machine's do
  pub lent : (result_of q s e).out ≡ (turn_of m e).out
  pub shown : (result_of q s e).bytes ≡ (turn_of m e).bytes
  -- "After each call the runs hold 01's fields for its mesh, radius, places and steps, volumes so far included": each
  -- word of both; past the fields come the words that squeezes freed, which are zero (02, L12: "those words become
  -- zero"), and the excess. "a refused call changes nothing": the machine after it is m
  pub fields : (result_of q s e).runs ≡ holding q (turn_of m e).next exF exW

-- ---- "its run long enough", of a reading worked on n pieces: a list's has six floats to each; a track's has one to
-- each point, and the points are up to 4,096 of three coordinates (02, L1). Said from the papers' words, not by the
-- calls' own checks
abbrev pub LongEnough : ℕ → Reading → Type 0
LongEnough n (density v x) = Unit {0}
LongEnough n (report v) = Unit {0}
LongEnough n (list v out) = 6 * n ≤ length out
LongEnough n (track v points out) =
    (length points % 3 ≡ 0) × ((length points / 3 ≤ 4096) × (length points / 3 ≤ length out))

-- ---- a reading r of a set of layers, anywhere in a list; mesh is the mesh opened, of which squeezes may have dropped
-- vertices in m
pub record Read (q : ℕ) (mesh : Mesh) (m : Machine) (s : Store) (layers : ℕ) (r : Reading) : Type 0 where
  -- 02, L5: "16 when a layer is above 15"; "demand 3 speaks of readings that 16 lets pass"
  pub no_layer : 2 ^ 16 ≤ layers → (store q s (read layers r)).reply ≡ refused NoLayer
  pub one_of_sixteen : (store q s (read layers r)).reply ≡ refused NoLayer → 2 ^ 16 ≤ layers
  -- "A reading is refused as unfinished exactly when the machine has work left that this reading needs": "Left is then
  -- counted over the places in the set"
  pub unfinished : layers < 2 ^ 16 → needs r ≡ true → 0 < work_seen m layers
      → (store q s (read layers r)).reply ≡ refused Unfinished
  pub only_then : (store q s (read layers r)).reply ≡ refused Unfinished
      → (layers < 2 ^ 16) × ((needs r ≡ true) × (0 < work_seen m layers))
  -- "Any other reading, its run long enough, answers and writes what demand 2's functions give, worked afresh on the
  -- mesh opened and the kernels then in the machine's places", those that it sees. Both give 9 where a list's run is
  -- too short, so no premise asks for its length. 02, L1: "demand 3 leaves out a track to which 14 applies and 8
  -- doesn't": it is not left out here, both give 14
  pub afresh : layers < 2 ^ 16 → ((store q s (read layers r)).reply ≡ refused Unfinished → ⊥)
      → ((store q s (read layers r)).reply ≡ (worked_afresh mesh (seen_places layers m.places) r).reply)
      × ((store q s (read layers r)).out ≡ (worked_afresh mesh (seen_places layers m.places) r).out)
  -- and "its run long enough", it "answers": it is not refused
  pub answers : layers < 2 ^ 16 → ((store q s (read layers r)).reply ≡ refused Unfinished → ⊥)
      → LongEnough (length (all_pieces (work_all mesh.radius (seen_places layers m.places)))) r
      → (store q s (read layers r)).reply.refusal ≡ 0
  -- "with all sixteen it reads as before": all places are seen
  pub all_sixteen : seen_places 65535 m.places ≡ m.places
  -- with none no place is, so that such a reading is worked on no kernel
  pub none : kernels_of (seen_places 0 m.places) ≡ []
  -- "no reading alters a kept weight", nor any other word of the store
  pub kept : (store q s (read layers r)).runs ≡ s

-- ---- 02, L7: a report of what is finished, of a set of layers, anywhere in a list

-- the machine holding just "the places whose steps are complete", of these layers: its other places are empty
abbrev pub only_complete : Machine → ℕ → Machine
only_complete m layers = with_places m (complete_places m.mesh (seen_places layers m.places)) 0 0

pub record Partly
    (q : ℕ) (exF : List Float) (exW : List ℕ) (mesh : Mesh) (m : Machine) (s : Store) (layers : ℕ) (v : Convention)
    : Type 0 where
  -- 02, L5: "16 when a layer is above 15", as of a reading
  pub no_layer : 2 ^ 16 ≤ layers → (store q s (finished layers v)).reply ≡ refused NoLayer
  pub one_of_sixteen : (store q s (finished layers v)).reply ≡ refused NoLayer → 2 ^ 16 ≤ layers
  -- "It is never refused as unfinished", whatever the machine has left
  pub never : (store q s (finished layers v)).reply ≡ refused Unfinished → ⊥
  -- "demand 3 takes only those for it": it answers what demand 2's functions give, worked afresh on the mesh opened and
  -- the kernels in those places of its layers that have nothing left, and beside it how many others of its layers are
  -- filled
  pub afresh : layers < 2 ^ 16
      → (store q s (finished layers v)).reply ≡ finished_afresh mesh (seen_places layers m.places) v
  -- "It equals the ordinary report of a store holding just those places"
  pub alone : layers < 2 ^ 16
      → (store q s (finished layers v)).reply
      ≡ beside (passed_places m.mesh (seen_places layers m.places))
      (store q (holding q (only_complete m layers) exF exW) (read 65535 (report v))).reply
  -- so with nothing left in its layers it is the ordinary report of this store, and passes over none
  pub ordinary : layers < 2 ^ 16 → work_seen m layers ≡ 0
      → (store q s (finished layers v)).reply ≡ beside 0 (store q s (read layers (report v))).reply
  -- like a reading it alters no word of the store
  pub kept : (store q s (finished layers v)).runs ≡ s

-- ---- 02, L8: a page anywhere in a list, into the bytes bs
pub record Post (q : ℕ) (mesh : Mesh) (m : Machine) (s : Store) (bs : List ℕ) : Type 0 where
  -- "It is given only when nothing is left to do, else 8"
  pub unfinished : 0 < work_left m → (store q s (page bs)).reply ≡ refused Unfinished
  pub only_then : (store q s (page bs)).reply ≡ refused Unfinished → 0 < work_left m
  -- any other answers and writes what demand 2's functions give, worked afresh on the mesh opened and the kernels then
  -- in the machine's places; both give 17 and 18. "demand 3 leaves out a page to which 17 applies and 8 doesn't": it is
  -- not left out here
  pub afresh : ((store q s (page bs)).reply ≡ refused Unfinished → ⊥)
      → ((store q s (page bs)).reply ≡ (page_afresh mesh m.places bs).reply)
      × ((store q s (page bs)).bytes ≡ (page_afresh mesh m.places bs).bytes)
  -- and where 17 does not apply to a place's mass and the bytes have room it is given: it is not refused
  pub answers : ((store q s (page bs)).reply ≡ refused Unfinished → ⊥)
      → all_printable (fresh_rows mesh 0 m.places) ≡ true
      → length (page_of (fresh_rows mesh 0 m.places)) ≤ length bs
      → (store q s (page bs)).reply.refusal ≡ 0
  -- a page alters no word of the store
  pub kept : (store q s (page bs)).runs ≡ s

-- ---- "the first gets the runs that an accepted opening left, each later one those that the call before it left,
-- whole, and nobody else writes there"
pub data Each (q : ℕ) (exF : List Float) (exW : List ℕ) (mesh : Mesh) : Machine → Store → List Event → Type 0 where
  end : {m : Machine} {s : Store} → Each q exF exW mesh m s []
  next : {m : Machine} {s : Store} {e : Event} {es : List Event}
      → Same q exF exW m s e
      → ((layers : ℕ) (r : Reading) → Read q mesh m s layers r)
      → ((layers : ℕ) (v : Convention) → Partly q exF exW mesh m s layers v)
      → ((bs : List ℕ) → Post q mesh m s bs)
      → Each q exF exW mesh (turn_of m e).next (result_of q s e).runs es → Each q exF exW mesh m s (e ∷ es)

-- ---- the pieces worked afresh are demand 2's too: the call that decomposes a list of kernels ks, six floats each,
-- writes them into a run that is long enough, and answers the kernels, the pieces and the greatest error
abbrev pub decomposed_all : Float → List Kernel → List Worked
decomposed_all radius ks = map (λ k. record { kernel = k; fit = decomposed k radius }) ks

pub record Decomposed (radius : Float) (ks : List Kernel) : Type 0 where
  pub listed : (run : List Float) → 6 * length (all_pieces (decomposed_all radius ks)) ≤ length run
      → list_decomposition (sixes ks) radius run
      ≡ outcome
      (fitted_all (length ks) (length (all_pieces (decomposed_all radius ks))) (worst_from +0 (decomposed_all radius ks)))
      (write run 0 (sixes (all_pieces (decomposed_all radius ks))))

-- ---- many hands, which is ours, beyond 02: work that is done by any number of stores, split by places in any way and
-- adopted in any order, ends in the very runs in which one store's own advances would have ended

-- the store's own advances, and adoptions each of which brings the place that is there, worked on elsewhere: the same
-- kernel, pieces and layer, with whatever steps. So a place may come back in any order, twice, out of date or not at
-- all. Between them may stand what changes nothing: readings, and what is refused
pub data Handed : Machine → List Event → Type 0 where
  none : {m : Machine} → Handed m []
  an-advance : {m : Machine} {n : ℕ} {es : List Event}
      → Handed (turn_of m (call (advance n))).next es → Handed m (call (advance n) ∷ es)
  an-adoption : {m o : Machine} {t : Store} {i j p u l : ℕ} {k : Kernel} {fit : Pieces} {b c : Provenance}
      {es : List Event}
      → get_or m.places i empty ≡ full k fit b p l → get_or o.places j empty ≡ full k fit c u l
      → Handed (turn_of m (adopt i o t j)).next es → Handed m (adopt i o t j ∷ es)
  idle : {m : Machine} {e : Event} {es : List Event} → (turn_of m e).next ≡ m → Handed m es → Handed m (e ∷ es)

-- a worker that is a copy of the store: some of its places are cleared, and it advances
pub data Worker : List Call → Type 0 where
  a_copy : Worker []
  it-clears : {i : ℕ} {cs : List Call} → Worker cs → Worker (clear i ∷ cs)
  it-advances : {n : ℕ} {cs : List Call} → Worker cs → Worker (advance n ∷ cs)

-- the store's own advances, and adoptions from such workers: of any place into the same place, also of one that the
-- worker has cleared, which is refused
pub data Parts (q : ℕ) (m : Machine) (s : Store) : List Event → Type 0 where
  no_part : Parts q m s []
  own-advance : {n : ℕ} {es : List Event} → Parts q m s es → Parts q m s (call (advance n) ∷ es)
  a-part : {i : ℕ} {cs : List Call} {es : List Event}
      → Worker cs → Parts q m s es → Parts q m s (adopt i (after_all m cs) (leaves q s cs) i ∷ es)

-- the store s and its machine m: any list of these events that ends, with nothing left, ends in the runs in which the
-- store's own advances end, ns steps each
pub record Hands (q : ℕ) (m : Machine) (s : Store) : Type 0 where
  -- by any stores
  pub same_runs : (es : List Event) → Came q es → Handed m es → work_left (machine_after m es) ≡ 0
      → (ns : List ℕ) → work_left (after_all m (map advance ns)) ≡ 0
      → leaves_all q s es ≡ leaves q s (map advance ns)
  -- by any workers, with any split of the places among them
  pub by_workers : (es : List Event) → Parts q m s es → work_left (machine_after m es) ≡ 0
      → (ns : List ℕ) → work_left (after_all m (map advance ns)) ≡ 0
      → leaves_all q s es ≡ leaves q s (map advance ns)

-- ---- a list of events, from the store s that an opening, a carry or lines left and its machine m
pub record Follows (q : ℕ) (exF : List Float) (exW : List ℕ) (m : Machine) (s : Store) (es : List Event) : Type 0 where
  -- "For every list of puts, clears, reweighs, advances and readings, refused ones among them", and of reports of what
  -- is finished (02, L7), pages (02, L8), a store's lines (02, L10), squeezes: "Demand 3's list may hold it" (02, L12),
  -- and adoptions
  pub calls : Each q exF exW m.mesh m s es
  -- the machine after the list, and so after each part of it: the pieces in its places, which the runs hold, are those
  -- of its kernels or came by a carry, and no place has more steps than its need, so that each need - p is a plain
  -- difference
  pub valid : Valid (machine_after m es).mesh (machine_after m es).places
  -- of a place that a put filled these are the pieces worked afresh; a place that a carry filled starts from its own
  pub pieces : Decomposed m.mesh.radius (kernels_of (machine_after m es).places)
  -- "After the list, with charged summed over the puts' answers and done over the advances', done + left + dropped =
  -- charged": left "is what an advance of 0 then answers", dropped is the machine's. What m had charged is 0 after an
  -- opening, and after a carry "the left that goes across" (02, L6); an adoption charges the left that it answers
  pub sums : done_over q s es + left_in (store q (leaves_all q s es) (advance 0)).reply + (machine_after m es).dropped
      ≡ m.charged + charged_over q s es
  -- and the machine's own charged is that sum
  pub charged : (machine_after m es).charged ≡ m.charged + charged_over q s es
  -- and from there on, whoever does the work that is left
  pub hands : Hands q (machine_after m es) (leaves_all q s es)

-- ---- what an accepted opening answers and leaves, and every list of events after it: V and F, and the runs of the
-- machine of which "Open copies a mesh and radius; all empty, charged = dropped = 0", the excess untouched
pub record Accepted (q : ℕ) (r : Float) (xs : List Float) (ks : List ℕ) (fs : List Float) (ws : List ℕ) : Type 0 where
  pub reply : (open_step q fs ws r xs ks).reply ≡ counted (length xs / 3 ∷ length ks / 3 ∷ [])
  pub holds : leaving (open_step q fs ws r xs ks) ≡ holding q (opened r xs ks) (excess_f xs fs) (excess_w q ks ws)
  pub every_list : (es : List Event) → Came q es
      → Follows q (excess_f xs fs) (excess_w q ks ws) (opened r xs ks) (leaving (open_step q fs ws r xs ks)) es
  -- 02, L12: "Later readings and step counts are then the same as without it; left isn't altered by it": so is all that
  -- the store's other calls answer and write, but for its lines (02, L10), which show the vertices. A squeezed mesh is
  -- no longer that of another store, so no adoption is in the list
  pub unaltered : (cs : List Call)
      → heard q (leaving (open_step q fs ws r xs ks)) cs ≡ heard q (leaving (open_step q fs ws r xs ks)) (without cs)

-- ---- "An opening is refused exactly when one of 01's 1 to 4 applies", with the lowest of them, changing nothing
abbrev pub refused_by : ℕ → Answer
refused_by n = record { refusal = n; counts = []; floats = [] }

pub record Opens (q : ℕ) (r : Float) (xs : List Float) (ks : List ℕ) (fs : List Float) (ws : List ℕ) : Type 0 where
  pub refused_as : 0 < open_row q xs ks (length fs) (length ws)
      → open_step q fs ws r xs ks ≡ after (refused_by (open_row q xs ks (length fs) (length ws))) fs ws
  pub accepted : open_row q xs ks (length fs) (length ws) ≡ 0 → Accepted q r xs ks fs ws

-- ---- 02, L6: a carry that is not refused. m is the machine of the old store and cs are its calls; gs and us are the
-- new runs; a is what the carry answers, V and F as an opening does, and leaves
pub record Carried
    (r : Float) (xs : List Float) (ks : List ℕ) (cs : List Old)
    (m : Machine) (gs : List Float) (us : List ℕ) (a : After) : Type 0 where
  pub reply : a.reply ≡ counted (m.mesh.verts ∷ m.mesh.faces ∷ [])
  -- "with every kernel in layer 0. Unfinished sums and step counts go along": each word of the new runs, their excess
  -- untouched
  pub holds : leaving a
      ≡ holding width (carried_over m) (excess_f m.mesh.coords gs) (excess_w width m.mesh.corners us)
  -- "On a carried store demand 3's list begins at the carry, its machine with the mesh, radius, places and steps
  -- carried, and its charged with the left that goes across"
  pub every_list : (es : List Event) → Came width es
      → Follows width (excess_f m.mesh.coords gs) (excess_w width m.mesh.corners us) (carried_over m) (leaving a)
      es
  -- squeezes, as after an opening
  pub unaltered : (ds : List Call) → heard width (leaving a) ds ≡ heard width (leaving a) (without ds)
  -- "For every list of later calls, the new store answers as one would that had received the old store's calls, its
  -- puts in layer 0, where those puts were made with L2's powers": that one was opened in runs hs and vs, whatever was
  -- in them
  pub as_if_always : OfPuts Todays cs
      → (hs : List Float) (vs : List ℕ) → open_row width xs ks (length hs) (length vs) ≡ 0 → (ds : List Call)
      → answers width (leaving a) ds
      ≡ answers width (leaves width (leaving (open_step width hs vs r xs ks)) (map nowadays cs)) ds

-- "Unsound and short-store refusals apply to the old runs as in 01, and 4 to new runs below L5's lengths": what the old
-- store's opening and calls left is neither short nor unsound, so that a carry is refused with 4 exactly when the new
-- runs are too short
pub record Carries
    (r : Float) (xs : List Float) (ks : List ℕ) (fs : List Float) (ws : List ℕ) (cs : List Old)
    (m : Machine) (gs : List Float) (us : List ℕ) : Type 0 where
  pub refused_as : 0 < carry_row m gs us
      → carrying r xs ks fs ws cs gs us
      ≡ after (refused_by (carry_row m gs us)) gs us
  pub accepted : carry_row m gs us ≡ 0
      → Carried r xs ks cs m gs us (carrying r xs ks fs ws cs gs us)

-- ---- 02, L10: lines that are read and not refused. d is what they say, a is what the call answers and leaves
pub record Loaded (q : ℕ) (fs : List Float) (ws : List ℕ) (d : Script) (a : After) : Type 0 where
  -- V, F and how many puts
  pub reply : a.reply ≡ counted (d.verts ∷ d.faces ∷ length d.puts ∷ [])
  -- "leaves what that opening and those puts, line by line, would": those of the machine, "with all steps still to do"
  pub holds : leaving a ≡ holding q (scripted d) (excess_f d.coords fs) (excess_w q d.corners ws)
  -- and those of the store: the calls that the lines say, one by one, leave the same
  pub by_calls : leaving a ≡ leaves q (leaving (open_step q fs ws d.radius d.coords d.corners))
      (map put_call d.puts)
  pub every_list : (es : List Event) → Came q es
      → Follows q (excess_f d.coords fs) (excess_w q d.corners ws) (scripted d) (leaving a) es
  pub unaltered : (cs : List Call) → heard q (leaving a) cs ≡ heard q (leaving a) (without cs)

-- "refuses the whole where one line would be refused", changing nothing, by the lowest row that applies to any line, 13
-- ahead of all others
pub record Loads (q : ℕ) (fs : List Float) (ws : List ℕ) (s : List ℕ) : Type 0 where
  pub refused_as : 0 < lines_row (read_of s).text q (read_of s).val (length fs) (length ws)
      → load_step q fs ws s
      ≡ after (refused_by (lines_row (read_of s).text q (read_of s).val (length fs) (length ws))) fs ws
  pub accepted : lines_row (read_of s).text q (read_of s).val (length fs) (length ws) ≡ 0
      → Loaded q fs ws (read_of s).val (load_step q fs ws s)

-- ---- demand 3, at the width that the contracts have: of every opening, of every carry of a store that an accepted
-- opening of the old form and any calls on it left, and of every text that a store is read from
pub record Demand3 : Type 0 where
  pub opening : (r : Float) (xs : List Float) (ks : List ℕ) (fs : List Float) (ws : List ℕ) → Opens width r xs ks fs ws
  pub carry : (r : Float) (xs : List Float) (ks : List ℕ) (fs : List Float) (ws : List ℕ)
      → open_row old_width xs ks (length fs) (length ws) ≡ 0
      → (cs : List Old) → OfPuts Fitting cs → (gs : List Float) (us : List ℕ)
      → Carries r xs ks fs ws cs (old_after carried (opened r xs ks) cs) gs us
  pub reading : (fs : List Float) (ws : List ℕ) (s : List ℕ) → Loads width fs ws s
  -- an adoption's machine takes two meshes for those of the same body exactly when they are one
  pub body : (m o : Mesh) → (same_mesh m o ≡ true → o ≡ m) × (o ≡ m → same_mesh m o ≡ true)
