-- Many hands: the work on a store's places, done here or elsewhere, ends in the same runs. Assumes nothing.
use mathlib.Core.Path.{◌≡◌, refl, sym, ap, subst, ◌∙◌}
use mathlib.Core.Bool.{Bool, true, false, cond}
use mathlib.Core.Logic.{◌⊎◌, inl, inr}
use mathlib.Core.List.{List, [], ◌∷◌, map}
use Prim.Native.Nat.{ℕ, zero, suc, ◌-◌, min}
use native.Mathlib.Omega.{arith}
use lib.Dec.{ltb}
use lib.ListN.{get_or, set, get_or-map}
use lib.Seq.{map-set_same}
use lib.Ieee.{Float}
use Rattle.base.specs.Answers.{refused}
use Rattle.base.specs.declared.refusal.Refusal.TheVariants.{NoPlace}
use Rattle.kernel.specs.declared.kernel.Kernel.{Kernel}
use Rattle.pieces.specs.declared.pieces.Pieces.{Pieces}
use Rattle.layout.specs.Layout.{place_limit}
use Rattle.machine.specs.Machine.{Mesh, Provenance, own, Place, empty, full, need, left_place, left_sum, adv, Machine, work_left, Turn, turn, clear_turn}
use Rattle.machine.specs.Holding.{floats7, floats48, place_row, floats_of, words_of}
use Rattle.machine.specs.Calls.{Call, clear, advance, machine, Store, past, holding}
use Rattle.machine.specs.Events.{Event, call, adopt, turn_of, leaves_all, machine_after, leaves, after_all}
use Rattle.machine.specs.Bills.{Every}
use Rattle.machine.specs.Demands.{Handed, none, an-advance, an-adoption, idle, Worker, a_copy, it-clears, it-advances, Parts, no_part, own-advance, a-part, Hands}
use Rattle.machine.specs.Valid.{Within, Valid}
use Rattle.machine.proofs.Rows.{Layered}
use Rattle.machine.proofs.Sweep.{spread, lowest_first}
use Rattle.machine.proofs.Adopting.{either-turn, Holds, Brought, own_calls, last, after_calls}
use Rattle.machine.proofs.Coming.{came_brought}

-- ---- a place with all its steps made, wherever its pieces come from
abbrev complete : Mesh → Place → Place
complete m empty = empty
complete m (full k fit b p l) = full k fit own (need m fit) l

abbrev all_complete : Mesh → List Place → List Place
all_complete m ss = map (complete m) ss

complete-adv : (m : Mesh) (u : ℕ) (s : Place) → complete m (adv u s) ≡ complete m s
complete-adv m u empty = refl
complete-adv m u (full k fit b p l) = refl

complete-spread : (m o : Mesh) (n : ℕ) (ss : List Place) → all_complete m (spread o n ss) ≡ all_complete m ss
complete-spread m o n [] = refl
complete-spread m o n (s ∷ ss) =
    rw (complete-adv m (min n (left_place o s)) s, complete-spread m o (n - left_place o s) ss) refl

complete_at_lem : (m : Mesh) (ss ts : List Place) → all_complete m ss ≡ all_complete m ts → (i : ℕ)
    → complete m (get_or ss i empty) ≡ complete m (get_or ts i empty)
complete_at_lem m ss ts e i =
    sym (get_or-map (complete m) ss i empty)
    ∙ (ap (λ (l : List Place). get_or l i empty) e ∙ get_or-map (complete m) ts i empty)

-- ---- a machine n that has done work on the machine m, or had it done: only steps have changed
record Same (m n : Machine) : Type 0 where
  mesh : n.mesh ≡ m.mesh
  freed : n.freed ≡ m.freed
  places : all_complete m.mesh n.places ≡ all_complete m.mesh m.places

-- a place that may come to where y is: none, or y itself, with whatever steps
abbrev Fits : Mesh → Place → Place → Type 0
Fits m x y = (complete m x ≡ empty) ⊎ (complete m x ≡ complete m y)

module _ (m n : Machine) (e : Same m n) where
  -- after an advance
  advanced : (k : ℕ) → Same m (turn_of n (call (advance k))).next
  unfolding machine
  advanced k =
      record {
        mesh = e.mesh;
        freed = e.freed;
        places =
            ap (all_complete m.mesh) (lowest_first n.mesh (min k (work_left n)) k n.places refl)
            ∙ (complete-spread m.mesh n.mesh k n.places ∙ e.places);
      }

  -- after an adoption
  handed-over : (o : Machine) (t : Store) (i j : ℕ)
      → Fits m.mesh (get_or o.places j empty) (get_or n.places i empty) → Same m (turn_of n (adopt i o t j)).next
  handed-over o t i j f =
      either-turn n o t i j (λ (x : Turn). Same m x.next) (λ r. e) e
      (λ k fit b p l h there c.
      let s = full k fit b p l in
      let g = subst (λ (x : Place). Fits m.mesh x (get_or n.places i empty)) there f in
      record {
        mesh = e.mesh;
        freed = e.freed;
        places = map-set_same (complete m.mesh) n.places i s empty (filled k fit b p l g) ∙ e.places;
      })
    where
      filled : (k : Kernel) (fit : Pieces) (b : Provenance) (p l : ℕ)
          → Fits m.mesh (full k fit b p l) (get_or n.places i empty)
          → complete m.mesh (full k fit b p l) ≡ complete m.mesh (get_or n.places i empty)
      filled k fit b p l (inl z) = cc
      filled k fit b p l (inr z) = z

-- ---- from any stores
after_handed : (m : Machine) {n : Machine} {es : List Event} → Handed n es → Same m n → Same m (machine_after n es)
after_handed m none e = e
after_handed m {n} (an-advance {n = k} h) e = after_handed m h (advanced m n e k)
after_handed m {n} (an-adoption {o = o} {t = t} {i = i} {j = j} here there h) e =
    after_handed m h (handed-over m n e o t i j (inr (rw (here, there) refl)))
after_handed m (idle {es = es} z h) e = subst (λ (x : Machine). Same m (machine_after x es)) (sym z) (after_handed m h e)

own-advances : (m : Machine) (ns : List ℕ) → Handed m (map call (map advance ns))
own-advances m [] = none
own-advances m (n ∷ ns) = an-advance (own-advances (machine m (advance n)).next ns)

-- ---- from workers that are copies: what they have in a place is what the store had there, or nothing
cleared_at : (ss : List Place) (i j : ℕ)
    → (get_or (set ss i empty) j empty ≡ empty) ⊎ (get_or (set ss i empty) j empty ≡ get_or ss j empty)
cleared_at [] i j = inr refl
cleared_at (s ∷ ss) zero zero = inl refl
cleared_at (s ∷ ss) zero (suc j) = inr refl
cleared_at (s ∷ ss) (suc i) zero = inr refl
cleared_at (s ∷ ss) (suc i) (suc j) = cleared_at ss i j

module _ (m : Machine) where
  abbrev Copied : Machine → Type 0
  Copied o = (j : ℕ) → Fits m.mesh (get_or o.places j empty) (get_or m.places j empty)

  -- after a clear
  cleared : (o : Machine) → Copied o → (i : ℕ) → Copied (machine o (clear i)).next
  unfolding machine
  cleared o f i j = go (ltb i place_limit) (get_or o.places i empty)
    where
      without : (get_or (set o.places i empty) j empty ≡ empty)
          ⊎ (get_or (set o.places i empty) j empty ≡ get_or o.places j empty)
          → Fits m.mesh (get_or (set o.places i empty) j empty) (get_or m.places j empty)
      without (inl z) = inl (rw z refl)
      without (inr z) = rw z (f j)

      go : (x : Bool) (s : Place)
          → Fits m.mesh (get_or (cond x (clear_turn o i s) (turn o (refused NoPlace))).next.places j empty)
          (get_or m.places j empty)
      go true empty = f j
      go true (full k fit b p l) = without (cleared_at o.places i j)
      go false s = f j

  -- after an advance
  moved : (o : Machine) → Copied o → (n : ℕ) → Copied (machine o (advance n)).next
  unfolding machine
  moved o f n j =
      let ss = spread o.mesh n o.places in
      let z = complete_at_lem m.mesh ss o.places (complete-spread m.mesh o.mesh n o.places) j in
      rw (lowest_first o.mesh (min n (work_left o)) n o.places refl, z) (f j)

  copied : {cs : List Call} → Worker cs → (o : Machine) → Copied o → Copied (after_all o cs)
  copied a_copy o f = f
  copied (it-clears {i = i} w) o f = copied w (machine o (clear i)).next (cleared o f i)
  copied (it-advances {n = n} w) o f = copied w (machine o (advance n)).next (moved o f n)

  after-parts : {q : ℕ} {s : Store} {es : List Event} → Parts q m s es → (n : Machine) → Same m n
      → Same m (machine_after n es)
  after-parts no_part n e = e
  after-parts (own-advance {n = k} h) n e = after-parts h (turn_of n (call (advance k))).next (advanced m n e k)
  after-parts {q} {s} (a-part {i = i} {cs = cs} w h) n e =
      let o = after_all m cs in
      let t = leaves q s cs in
      let f = complete_at_lem m.mesh n.places m.places e.places i in
      let g = copied w m (λ j. inr refl) i in
      after-parts h (turn_of n (adopt i o t i)).next (handed-over m n e o t i i (rw f g))

-- ---- with nothing left each place is complete
module _
    (m : Mesh) {A : Type 0} (row : Place → List A)
    (same : (k : Kernel) (fit : Pieces) (b c : Provenance) (p l : ℕ)
    → row (full k fit b p l) ≡ row (full k fit c p l)) where
  row_made : (s : Place) → Within m s → left_place m s ≡ 0 → row (complete m s) ≡ row s
  row_made empty w e = refl
  row_made (full k fit b p l) w e =
      let z : need m fit ≡ p = omega (arith, w.steps) in
      rw z (same k fit own b p l)

  rows_made : (ss : List Place) → ((i : ℕ) → Within m (get_or ss i empty)) → left_sum m ss ≡ 0
      → map row (all_complete m ss) ≡ map row ss
  rows_made [] w e = refl
  rows_made (s ∷ ss) w e =
      rw (row_made s (w zero) (omega arith), rows_made ss (λ i. w (suc i)) (omega arith)) refl

-- the runs of a machine with all its places complete
abbrev ended : ℕ → Machine → List Float → List ℕ → Store
ended wd m xs ys =
    let ss = all_complete m.mesh m.places in
    record { floats = floats_of m.mesh ss (past m xs); words = words_of wd m.mesh ss ys }

nothing_left : (wd : ℕ) (m : Machine) (xs : List Float) (ys : List ℕ) → Valid m.mesh m.places → work_left m ≡ 0
    → ended wd m xs ys ≡ holding wd m xs ys
unfolding floats_of words_of
nothing_left wd m xs ys v e =
    rw (
      rows_made m.mesh floats7 (λ k fit b c p l. refl) m.places v.within e,
      rows_made m.mesh (floats48 m.mesh) (λ k fit b c p l. refl) m.places v.within e,
      rows_made m.mesh (place_row wd m.mesh) (λ k fit b c p l. refl) m.places v.within e,
    ) refl

ended_same : (wd : ℕ) (m n : Machine) (xs : List Float) (ys : List ℕ) → Same m n → ended wd n xs ys ≡ ended wd m xs ys
ended_same wd m n xs ys e = rw (e.mesh, e.freed, e.places) refl

module _
    (wd : ℕ) (ly : Layered wd) {m : Machine} {s : Store} {xs : List Float} {ys : List ℕ}
    (held : Holds wd m s xs ys) where
  start : Same m m
  start = record { mesh = refl; freed = refl; places = refl }

  -- a list that does work alone and ends
  ends : (es : List Event) → Every (Brought wd) es → Same m (machine_after m es) → work_left (machine_after m es) ≡ 0
      → leaves_all wd s es ≡ ended wd m xs ys
  ends es bs g e =
      let n = machine_after m es in
      let i = last wd ly xs ys es bs held in
      i.runs ∙ (sym (nothing_left wd n xs ys i.valid e) ∙ ended_same wd m n xs ys g)

  own-end : (ns : List ℕ) → work_left (after_all m (map advance ns)) ≡ 0
      → leaves wd s (map advance ns) ≡ ended wd m xs ys
  own-end ns e =
      let cs = map advance ns in
      ends (map call cs) (own_calls wd cs) (after_handed m (own-advances m ns) start) e

  part-brought : {es : List Event} → Parts wd m s es → Every (Brought wd) es
  part-brought no_part = tt {0}
  part-brought (own-advance h) = (tt {0}, part-brought h)
  part-brought (a-part {cs = cs} w h) = ((xs, ys, after_calls wd ly xs ys cs held), part-brought h)

  pub hands : Hands wd m s
  hands =
      record {
        same_runs = λ es came g e ns f.
            ends es (came_brought wd ly came) (after_handed m g start) e ∙ sym (own-end ns f);
        by_workers = λ es g e ns f. ends es (part-brought g) (after-parts m g m start) e ∙ sym (own-end ns f);
      }
