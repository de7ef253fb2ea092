-- 02, L14: a mesh whose vertices are numbered anew has the same triangles and as many vertices in use, so every list of
-- calls answers and writes the same. Assumes nothing.
use mathlib.Core.Path.{◌≡◌, refl, sym, ap, subst, ◌∙◌}
use mathlib.Core.Bool.{Bool, true, false, ◌||◌, cond, true≢false}
use mathlib.Core.List.{List, [], ◌∷◌, map}
use Prim.Native.Nat.{ℕ, zero, suc, ◌+◌, ◌*◌, ◌/◌, ◌<◌}
use native.Mathlib.Decide.{dec_lt}
use native.Mathlib.Omega.{arith}
use borrow.Author.Tests.{eqb-true, eqb-false, ne_eqb, eq-eqb, lt-ltb, le-ltb, ltb-true, ltb-false}
use lib.Dec.{eqb, ltb}
use lib.ListN.{length, get_or, length-map}
use lib.Ieee.{Float, nan}
use Rattle.base.specs.Answers.{counted}
use Rattle.mesh.specs.Triangles.{vertex, triangle_at}
use Rattle.mesh.specs.TriangleLaws.{same-vertex, same-named}
use Rattle.layout.specs.Layout.{width}
use Rattle.layout.specs.After.{After}
use Rattle.store.specs.Calls.{open_step}
use Rattle.squeeze.specs.Squeeze.{used, rank, renumbered, kept_to}
use Rattle.mesh.specs.Corners.{Below}
use Rattle.squeeze.specs.TriangleLaws.{corner_used, rank_lt}
use Rattle.script.specs.Written.{text_answer}
use Rattle.machine.specs.Machine.{Mesh, Machine, turn, freed_by, opened, open_row}
use Rattle.machine.specs.Holding.{excess_f, excess_w}
use Rattle.machine.specs.Lines.{machine_lines}
use Rattle.machine.specs.Calls.{Call, put, clear, reweigh, advance, squeeze, read, finished, page, lines, machine, Store, Heard, heard_of, numberless}
use Rattle.machine.specs.Beginnings.{leaving}
use Rattle.machine.specs.Renumbering.{Renumbered, Renumbering}
use Rattle.machine.proofs.Rows.{width4, layered4, map_get_d}
use Rattle.machine.proofs.Slim.{thinned, slim-is, freed_is}
use Rattle.machine.proofs.Squeezing.{remesh}
use Rattle.machine.proofs.Unaltered.{remade, Alike, told, heard_by, store-heard, corners_below, squeezed-alike, Goes, put_goes, clear_goes, reweigh_goes, advance_goes, read_goes, finished_goes, page_goes}
use Rattle.machine.proofs.Adopting.{Holds}
use Rattle.machine.proofs.Opened.{opens, unrefused, holds}

-- ---- how many vertices are in use goes by which corners are equal, not by their numbers
pub distinct : List ℕ → ℕ
distinct [] = 0
distinct (k ∷ ks) = cond (used ks k) 0 1 + distinct ks

one_of : (b : Bool) → cond b 1 0 + cond b 0 1 ≡ 1
one_of true = refl
one_of false = refl

-- one corner more, in front
rank_cons : (k : ℕ) (ks : List ℕ) (v : ℕ) → rank (k ∷ ks) v ≡ rank ks v + cond (ltb k v) (cond (used ks k) 0 1) 0
unfolding rank used
rank_cons k ks zero = rw (le-ltb k 0 (omega arith)) refl
rank_cons k ks (suc i) = go (eqb k i) refl (rank_cons k ks i)
  where
    next : (k ≡ i → ⊥) → ltb k (suc i) ≡ ltb k i
    next n = at (ltb k i) refl
      where
        at : (b : Bool) → ltb k i ≡ b → ltb k (suc i) ≡ b
        at true e = lt-ltb k (suc i) (let l = ltb-true k i e in omega arith)
        at false e = le-ltb k (suc i) (let l = ltb-false k i e in omega (arith, l, n))

    go : (b : Bool) → eqb k i ≡ b → rank (k ∷ ks) i ≡ rank ks i + cond (ltb k i) (cond (used ks k) 0 1) 0
        → rank (k ∷ ks) i + cond (b || used ks i) 1 0
        ≡ rank ks i + cond (used ks i) 1 0 + cond (ltb k (suc i)) (cond (used ks k) 0 1) 0
    go true e h =
        let z : k ≡ i = eqb-true k i e in
        let a : rank (k ∷ ks) i ≡ rank ks i + 0
        = h ∙ ap (λ (b : Bool). rank ks i + cond b (cond (used ks k) 0 1) 0) (le-ltb k i (omega arith)) in
        rw (lt-ltb k (suc i) (omega arith), ap (used ks) z) (omega (arith, a, one_of (used ks i)))
    go false e h = rw (next (eqb-false k i e)) (omega (arith, h))

rank-none : (v : ℕ) → rank [] v ≡ 0
unfolding rank used
rank-none zero = refl
rank-none (suc v) = rw (rank-none v) refl

rank-distinct : (ks : List ℕ) (v : ℕ) → Below v ks → rank ks v ≡ distinct ks
unfolding distinct
rank-distinct [] v b = rank-none v
rank-distinct (k ∷ ks) v b =
    let i = rank-distinct ks v (record { corner = λ j h. b.corner (suc j) (omega arith) }) in
    rw (rank_cons k ks v, lt-ltb k v (b.corner 0 (omega arith)), i) (omega arith)

-- numbers that tell the corners apart
module _ (p : ℕ → ℕ) where
  used-map : (ls : List ℕ) (k : ℕ) → ((j : ℕ) → j < length ls → p (get_or ls j 0) ≡ p k → get_or ls j 0 ≡ k)
      → used (map p ls) (p k) ≡ used ls k
  unfolding used
  used-map [] k h = refl
  used-map (l ∷ ls) k h = rw (same (eqb l k) refl, used-map ls k (λ j g e. h (suc j) (omega arith) e)) refl
    where
      same : (b : Bool) → eqb l k ≡ b → eqb (p l) (p k) ≡ eqb l k
      same true e = let z = eqb-true l k e in rw (e, z) (eq-eqb (p k) (p k) refl)
      same false e = ne_eqb (p l) (p k) (λ q. eqb-false l k e (h 0 (omega arith) q)) ∙ sym e

  distinct-map : (ks : List ℕ)
      → ((i j : ℕ) → i < length ks → j < length ks → p (get_or ks i 0) ≡ p (get_or ks j 0) → get_or ks i 0 ≡ get_or ks j 0)
      → distinct (map p ks) ≡ distinct ks
  unfolding distinct
  distinct-map [] h = refl
  distinct-map (k ∷ ks) h =
      rw (
        used-map ks k (λ j g e. h (suc j) 0 (omega arith) (omega arith) e),
        distinct-map ks (λ i j a b e. h (suc i) (suc j) (omega arith) (omega arith) e),
      ) refl

-- a squeeze's numbers do
distinct-renumbered : (ks : List ℕ) → distinct (renumbered ks) ≡ distinct ks
distinct-renumbered ks =
    distinct-map (rank ks) ks
    (λ i j h g e. apart (get_or ks i 0) (get_or ks j 0) (corner_used ks i h) (corner_used ks j g) e)
  where
    apart : (a b : ℕ) → used ks a ≡ true → used ks b ≡ true → rank ks a ≡ rank ks b → a ≡ b
    apart a b u w e = go (dec_lt a b) (dec_lt b a)
      where
        go : Dec (a < b) → Dec (b < a) → a ≡ b
        go (yes l) d = absurd (omega (arith, rank_lt ks a b u l, e))
        go (no l) (yes g) = absurd (omega (arith, rank_lt ks b a w g, e))
        go (no l) (no g) = omega arith

-- ---- two meshes with the same triangles and as many vertices, of which as many are used; one and the same where lines
-- of the store, which show the numbers, are among the calls that are picked
pub record Paired (pick : Call → Bool) (m : Mesh) (xs : List Float) (ks : List ℕ) (w : ℕ) : Type 0 where
  pub alike : Alike m xs ks w
  pub verts : w ≡ m.verts
  pub used-same : distinct ks ≡ distinct m.corners
  pub shown : (bs : List ℕ) → pick (lines bs) ≡ true → remesh m xs ks w ≡ m

module _ (pick : Call → Bool) (m : Mesh) (xs : List Float) (ks : List ℕ) (w : ℕ) (a : Paired pick m xs ks w) where
  below : Below w ks
  below = corners_below (remesh m xs ks w) a.alike.shape

  own_below : Below m.verts m.corners
  own_below = corners_below m a.alike.was

  rank_same : rank ks w ≡ rank m.corners m.verts
  rank_same = rank-distinct ks w below ∙ (a.used-same ∙ sym (rank-distinct m.corners m.verts own_below))

  freed-same : freed_by (remesh m xs ks w) ≡ freed_by m
  freed-same = rw (freed_is (remesh m xs ks w), freed_is m, rank_same, a.verts) refl

  squeezed-paired : Paired pick (thinned m) (kept_to ks xs w) (renumbered ks) (rank ks w)
  squeezed-paired =
      let g = a.alike.was in
      let own : Alike m m.coords m.corners m.verts = record { shape = g; was = g; same = λ f h. refl } in
      let s = squeezed-alike m xs ks w a.alike in
      let t = squeezed-alike m m.coords m.corners m.verts own in
      record {
        alike = record { shape = s.shape; was = t.shape; same = λ f h. s.same f h ∙ sym (t.same f h) };
        verts = rank_same;
        used-same = distinct-renumbered ks ∙ (a.used-same ∙ sym (distinct-renumbered m.corners));
        shown = λ bs p. ap thinned (a.shown bs p);
      }

-- ---- a list of calls
module _ (pick : Call → Bool) (m : Machine) (c : Call) (cs : List Call) (xs : List Float) (ks : List ℕ) (w g : ℕ) where
  one_told : Goes m c xs ks w g → Paired pick m.mesh xs ks w
      → (Paired pick (machine m c).next.mesh xs ks w
      → heard_by pick (remade (machine m c).next xs ks w g) cs ≡ heard_by pick (machine m c).next cs)
      → heard_by pick (remade m xs ks w g) (c ∷ cs) ≡ heard_by pick m (c ∷ cs)
  one_told s a ih =
      rw s.lift
      (ap (λ (os : List Heard). cond (pick c) (told (machine m c) ∷ os) os)
      (ih (subst (λ (t : Mesh). Paired pick t xs ks w) (sym s.mesh) a)))

-- lines are picked of one and the same mesh alone
lines_told : (pick : Call → Bool) (m : Machine) (cs : List Call) (xs : List Float) (ks : List ℕ) (w g : ℕ) (bs : List ℕ)
    → Paired pick m.mesh xs ks w → heard_by pick (remade m xs ks w g) cs ≡ heard_by pick m cs
    → heard_by pick (remade m xs ks w g) (lines bs ∷ cs) ≡ heard_by pick m (lines bs ∷ cs)
unfolding machine
lines_told pick m cs xs ks w g bs a ih = go (pick (lines bs)) (a.shown bs)
  where
    n : Machine
    n = remade m xs ks w g

    said : Mesh → Heard
    said t =
        let a = text_answer (machine_lines t m.places) bs in
        record { reply = a.reply; out = []; bytes = a.bytes }

    go : (b : Bool) → (b ≡ true → remesh m.mesh xs ks w ≡ m.mesh)
        → cond b (said (remesh m.mesh xs ks w) ∷ heard_by pick n cs) (heard_by pick n cs)
        ≡ cond b (said m.mesh ∷ heard_by pick m cs) (heard_by pick m cs)
    go true e = λ j. said (e refl j) ∷ ih j
    go false e = ih

-- the machine that a squeeze leaves, by the store's own definitions
abbrev thinner : Machine → Machine
thinner m =
    record {
      mesh = thinned m.mesh;
      places = m.places;
      charged = m.charged;
      dropped = m.dropped;
      freed = freed_by m.mesh + m.freed;
    }

squeezes : (m : Machine) → Below m.mesh.verts m.mesh.corners
    → machine m squeeze ≡ turn (thinner m) (counted (freed_by m.mesh ∷ []))
unfolding machine
squeezes m b = rw (slim-is m.mesh b) refl

pub same-told : (pick : Call → Bool) (cs : List Call) (m : Machine) (xs : List Float) (ks : List ℕ) (w g : ℕ)
    → Paired pick m.mesh xs ks w → heard_by pick (remade m xs ks w g) cs ≡ heard_by pick m cs
same-told pick [] m xs ks w g a = refl
same-told pick (put i k l ∷ cs) m xs ks w g a =
    one_told pick m (put i k l) cs xs ks w g (put_goes m xs ks w g i k l) a
    (same-told pick cs (machine m (put i k l)).next xs ks w g)
same-told pick (clear i ∷ cs) m xs ks w g a =
    one_told pick m (clear i) cs xs ks w g (clear_goes m xs ks w g i) a
    (same-told pick cs (machine m (clear i)).next xs ks w g)
same-told pick (reweigh i x ∷ cs) m xs ks w g a =
    one_told pick m (reweigh i x) cs xs ks w g (reweigh_goes m xs ks w g i x) a
    (same-told pick cs (machine m (reweigh i x)).next xs ks w g)
same-told pick (advance k ∷ cs) m xs ks w g a =
    one_told pick m (advance k) cs xs ks w g (advance_goes m xs ks w g k) a
    (same-told pick cs (machine m (advance k)).next xs ks w g)
same-told pick (squeeze ∷ cs) m xs ks w g a =
    let f = freed_by m.mesh in
    let b = squeezed-paired pick m.mesh xs ks w a in
    rw (
      squeezes (remade m xs ks w g) (below pick m.mesh xs ks w a),
      squeezes m (own_below pick m.mesh xs ks w a),
      freed-same pick m.mesh xs ks w a,
    )
    (ap (λ (os : List Heard). cond (pick squeeze) (told (turn m (counted (f ∷ []))) ∷ os) os)
    (same-told pick cs (thinner m) (kept_to ks xs w) (renumbered ks) (rank ks w) (f + g) b))
same-told pick (read ls r ∷ cs) m xs ks w g a =
    one_told pick m (read ls r) cs xs ks w g (read_goes m xs ks w g a.alike ls r) a
    (same-told pick cs (machine m (read ls r)).next xs ks w g)
same-told pick (finished ls cv ∷ cs) m xs ks w g a =
    one_told pick m (finished ls cv) cs xs ks w g (finished_goes m xs ks w g a.alike ls cv) a
    (same-told pick cs (machine m (finished ls cv)).next xs ks w g)
same-told pick (page bs ∷ cs) m xs ks w g a =
    one_told pick m (page bs) cs xs ks w g (page_goes m xs ks w g a.alike bs) a
    (same-told pick cs (machine m (page bs)).next xs ks w g)
same-told pick (lines bs ∷ cs) m xs ks w g a =
    lines_told pick m cs xs ks w g bs a (same-told pick cs m xs ks w g a)

-- ---- a mesh and the one with its vertices numbered anew
module _ (p q : ℕ → ℕ) (xs : List Float) (ks : List ℕ) (ys : List Float) (ls : List ℕ) (e : Renumbered p q xs ks ys ls)
    (b : Below (length xs / 3) ks) where
  moved-corner : (j : ℕ) → j < length ks → vertex ys (get_or ls j 0) ≡ vertex xs (get_or ks j 0)
  moved-corner j h =
      let i = get_or ks j 0 in
      rw (e.corners, map_get_d p ks j 0 0 h) (same-vertex xs ys i (p i) (λ n l. e.coords i n (b.corner j h) l))

  pub same-triangles : (f : ℕ) → 3 * f + 2 < length ks → triangle_at ys ls f ≡ triangle_at xs ks f
  same-triangles f h = same-named xs ys ks ls moved-corner f h

  taken_back : (j : ℕ) → j < length ks → q (p (get_or ks j 0)) ≡ get_or ks j 0
  taken_back j h = e.numbers.back (get_or ks j 0) (b.corner j h)

  same-used : distinct ls ≡ distinct ks
  same-used =
      ap distinct e.corners ∙ distinct-map p ks (λ i j h g z. sym (taken_back i h) ∙ (ap q z ∙ taken_back j g))

-- ---- the store
module _ (r : Float) (xs : List Float) (ks : List ℕ) (fs : List Float) (ws : List ℕ)
    (h : open_row width xs ks (length fs) (length ws) ≡ 0) where
  begun : Holds width (opened r xs ks) (leaving (open_step width fs ws r xs ks)) (excess_f xs fs) (excess_w width ks ws)
  begun = holds width width4 r xs ks fs ws h

  opened-reply : (open_step width fs ws r xs ks).reply ≡ counted (length xs / 3 ∷ length ks / 3 ∷ [])
  opened-reply = ap (λ (a : After). a.reply) (opens width width4 r xs ks fs ws (unrefused width width4 r xs ks fs ws h))

  opened-told : (cs : List Call)
      → heard_of numberless width (leaving (open_step width fs ws r xs ks)) cs ≡ heard_by numberless (opened r xs ks) cs
  opened-told cs =
      ap (λ (s : Store). heard_of numberless width s cs) begun.runs
      ∙ store-heard width layered4 (excess_f xs fs) (excess_w width ks ws) numberless cs (opened r xs ks) begun.valid

pub renumbering : Renumbering
renumbering p q xs ks ys ls e r fs ws gs us h k =
    let v = (begun r xs ks fs ws h).valid.mesh in
    let w = (begun r ys ls gs us k).valid.mesh in
    let b = corners_below (opened r xs ks).mesh v in
    let l : length ls ≡ length ks = ap length e.corners ∙ length-map ks p in
    let m = opened r xs ks in
    let is : opened r ys ls ≡ remade m ys ls (length ys / 3) 0 = rw l refl in
    let a : Paired numberless m.mesh ys ls (length ys / 3)
    = record {
      alike = record {
        shape = rw l at w;
        was = v;
        same = λ f t. same-triangles p q xs ks ys ls e b f (omega (arith, v.corners));
      };
      verts = ap (λ (n : ℕ). n / 3) e.long;
      used-same = same-used p q xs ks ys ls e b;
      shown = λ bs z. absurd (true≢false (sym z));
    } in
    record {
      opening = opened-reply r xs ks fs ws h ∙ sym (opened-reply r ys ls gs us k ∙ rw (e.long, l) refl);
      calls = λ cs.
          opened-told r xs ks fs ws h cs
          ∙ (sym (same-told numberless cs m ys ls (length ys / 3) 0 a)
          ∙ (ap (λ (t : Machine). heard_by numberless t cs) (sym is) ∙ sym (opened-told r ys ls gs us k cs)));
    }

-- ---- the premise is met where two vertices change places
abbrev swap : ℕ → ℕ
swap zero = 1
swap (suc zero) = 0
swap (suc (suc n)) = suc (suc n)

swap_within : (n : ℕ) → n < 3 → swap n < 3
swap_within zero l = omega arith
swap_within (suc zero) l = omega arith
swap_within (suc (suc n)) l = l

swap-back : (n : ℕ) → swap (swap n) ≡ n
swap-back zero = refl
swap-back (suc zero) = refl
swap-back (suc (suc n)) = refl

module _ (a b c d e f g h i : Float) where
  abbrev three : List Float
  three = a ∷ b ∷ c ∷ d ∷ e ∷ f ∷ g ∷ h ∷ i ∷ []

  abbrev other : List Float
  other = d ∷ e ∷ f ∷ a ∷ b ∷ c ∷ g ∷ h ∷ i ∷ []

  swap-coords : (n j : ℕ) → n < 3 → j < 3 → get_or other (3 * swap n + j) nan ≡ get_or three (3 * n + j) nan
  swap-coords zero zero l k = refl
  swap-coords zero (suc zero) l k = refl
  swap-coords zero (suc (suc zero)) l k = refl
  swap-coords (suc zero) zero l k = refl
  swap-coords (suc zero) (suc zero) l k = refl
  swap-coords (suc zero) (suc (suc zero)) l k = refl
  swap-coords (suc (suc zero)) zero l k = refl
  swap-coords (suc (suc zero)) (suc zero) l k = refl
  swap-coords (suc (suc zero)) (suc (suc zero)) l k = refl
  swap-coords zero (suc (suc (suc j))) l k = absurd (omega arith)
  swap-coords (suc zero) (suc (suc (suc j))) l k = absurd (omega arith)
  swap-coords (suc (suc zero)) (suc (suc (suc j))) l k = absurd (omega arith)
  swap-coords (suc (suc (suc i))) j l k = absurd (omega arith)

  pub swapped : Renumbered swap swap three (0 ∷ 1 ∷ 2 ∷ []) other (1 ∷ 0 ∷ 2 ∷ [])
  swapped =
      let back : (n : ℕ) → n < 3 → swap (swap n) ≡ n = λ n l. swap-back n in
      record {
        numbers = record { within = swap_within; within_back = swap_within; back = back; forth = back };
        long = refl;
        coords = swap-coords;
        corners = refl;
      }
