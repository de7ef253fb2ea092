-- Every list of events on a store that holds a valid machine does what demand 3 says, and so from every opening on.
-- Assumes nothing.
use Rattle.std.specs.Result.{result_and}
use Rattle.std.specs.Prelude.{Err}
use mathlib.Core.Path.{◌≡◌, refl, sym, ap, subst, ◌∙◌}
use mathlib.Core.Bool.{Bool, true, false, ◌&&◌, cond, and-eq-true_iff, true≢false}
use mathlib.Core.Logic.{◌⊎◌, inl, inr}
use mathlib.Core.List.{List, [], ◌∷◌, map}
use Prim.Native.Nat.{ℕ, ◌+◌, ◌*◌, ◌/◌, ◌%◌, ◌^◌, ◌≤◌, min}
use native.Mathlib.Omega.{arith}
use lib.Dec.{ltb, leb, eqb}
use lib.ListN.{length}
use lib.Ieee.{Float}
use borrow.Author.Tests.{eq-eqb, lt-ltb, ltb-true, le-leb, lt-leb, leb-true, leb-false}
use Rattle.base.specs.Answers.{Answer, refused, counted, Outcome, outcome, guarded_run, Printout, printout, guarded_bytes, passed}
use Rattle.base.specs.declared.refusal.Refusal.{Refusal}
use Rattle.base.specs.declared.refusal.Refusal.TheVariants.{Unfinished, NoLayer, ShortList, BadTrack, NoFigure, ShortPage}
use Rattle.layout.specs.Runs.{write}
use Rattle.along.specs.Along.{along}
use Rattle.density.specs.declared.convention.Convention.{Convention}
use Rattle.layout.specs.After.{After}
use Rattle.readings.specs.Readings.{Reading, density, report, list, track, bare, applied, rescaled, density_at, sixes, Seen, track_limit, track_check, answer_of, refusing}
use Rattle.readings.specs.Finished.{beside}
use Rattle.page.specs.Page.{Row, all_printable, page_of, page_answer}
use Rattle.machine.specs.Machine.{Mesh, Place, left_sum, seen_places, complete_places, passed_places, Machine, opened, open_row}
use Rattle.machine.specs.Holding.{excess_f, excess_w}
use Rattle.machine.specs.Fresh.{kernels_of, work_all, all_pieces, fresh_rows, worked_afresh, finished_afresh, page_afresh}
use Rattle.machine.specs.Calls.{advance, read, finished, page, needs, machine, Store, Result, store, holding, left_in, without, heard}
use Rattle.machine.specs.Events.{Event, call, adopt, turn_of, leaves_all, machine_after}
use Rattle.machine.specs.Bills.{Every}
use Rattle.machine.specs.Demands.{Same, LongEnough, Read, only_complete, Partly, Post, Each, end, next, Follows, Accepted, Opens}
use Rattle.machine.specs.Beginnings.{Came}
use Rattle.machine.specs.Valid.{Shape, Valid}
use Rattle.machine.proofs.Rows.{Layered, formed}
use Rattle.machine.proofs.Parts.{fresh_seen}
use Rattle.machine.proofs.Afresh.{joined}
use Rattle.machine.proofs.Layers.{all_seen, none_seen}
use Rattle.machine.proofs.Finished.{nothing_left, complete_afresh, complete_valid}
use Rattle.machine.proofs.Claim.{one_call}
use Rattle.machine.proofs.Adopting.{mesh_stays, Holds, Brought, kept_at, one_event, books, charges, last, its_runs}
use Rattle.machine.proofs.Coming.{came_brought}
use Rattle.machine.proofs.Handing.{hands}
use Rattle.machine.proofs.Unaltered.{From, from_start, from_next, on-opened, finished_opened, page_opened, unaltered}
use Rattle.machine.proofs.Listed.{listed}
use Rattle.machine.proofs.Opened.{opens, unrefused, refuses, holds}

-- ---- what is answered is never 8 or 16: it is accepted, 9 of a list or 14 of a track
abbrev Answered : ℕ → Type 0
Answered n = (n ≡ 0) ⊎ ((n ≡ 9) ⊎ (n ≡ 14))

listed_as_lem : (b : Bool) (n : ℕ) (o out : List Float)
    → Answered (guarded_run (cond b passed (Err ShortList)) out (outcome (counted (n ∷ [])) o)).reply.refusal
listed_as_lem true n o out = inl refl
listed_as_lem false n o out = inr (inl refl)

tracked_as : (a b n : ℕ) (o out : List Float)
    → Answered (guarded_run (track_check a b) out (outcome (counted (n ∷ [])) o)).reply.refusal
unfolding track_check
tracked_as a b n o out = go (eqb (a % 3) 0 && leb (a / 3) track_limit && leb (a / 3) b)
  where
    go : (t : Bool)
        → Answered (guarded_run (cond t passed (Err BadTrack)) out (outcome (counted (n ∷ [])) o)).reply.refusal
    go true = inl refl
    go false = inr (inr refl)

answered : (r : Reading) (s : Seen) → Answered (answer_of r s).reply.refusal
answered (density v x) s = inl refl
answered (report v) s = inl refl
answered (list v out) s =
    let ks = map bare s.parts in
    let js = map (rescaled (applied v s.parts)) ks in
    listed_as_lem (leb (6 * length ks) (length out)) (length ks) (write out 0 (sixes js)) out
answered (track v points out) s =
    let n = length points / 3 in
    let js = map (rescaled (applied v s.parts)) (map bare s.parts) in
    tracked_as (length points) (length out) n (write out 0 (along (density_at js) points n)) out

-- with a run that is long enough it is accepted
accepted-long : (m : Mesh) → Shape m → (ss : List Place) (r : Reading)
    → LongEnough (length (all_pieces (work_all m.radius ss))) r → (worked_afresh m ss r).reply.refusal ≡ 0
unfolding worked_afresh track_check
accepted-long m g ss (density v x) h = ap (λ (o : Outcome). o.reply.refusal) (sym (joined m g ss (density v x)))
accepted-long m g ss (report v) h = refl
accepted-long m g ss (list v out) h =
    rw (le-leb (6 * length (all_pieces (work_all m.radius ss))) (length out) h) refl
accepted-long m g ss (track v points out) h =
    rw (
      eq-eqb (length points % 3) 0 h.0,
      le-leb (length points / 3) 4096 h.1.0,
      le-leb (length points / 3) (length out) h.1.1,
    ) refl

refuses_as : (r : Reading) (e : Refusal) → (refusing r e).reply ≡ refused e
refuses_as (density v x) e = refl
refuses_as (report v) e = refl
refuses_as (list v out) e = refl
refuses_as (track v points out) e = refl

never : {n : ℕ} → Answered n → (n ≡ 8 → ⊥) × (n ≡ 16 → ⊥)
never (inl x) = (λ z. omega arith, λ z. omega arith)
never (inr (inl x)) = (λ z. omega arith, λ z. omega arith)
never (inr (inr x)) = (λ z. omega arith, λ z. omega arith)

abbrev number : Answer → ℕ
number a = a.refusal

not-both : refused Unfinished ≡ refused NoLayer → ⊥
not-both e = let z : ◌≡◌ {A = ℕ} 8 16 = ap number e in omega arith

-- 16, then 8, then what is worked afresh
module _ (r : Reading) (o : Outcome) where
  abbrev turned : Bool → Bool → Outcome
  turned a b = cond a (refusing r NoLayer) (cond b (refusing r Unfinished) o)

  when-sixteen : Answered o.reply.refusal → (a b : Bool) → (turned a b).reply ≡ refused NoLayer → a ≡ true
  when-sixteen n true b e = refl
  when-sixteen n false true e = absurd (not-both (sym (refuses_as r Unfinished) ∙ e))
  when-sixteen n false false e = absurd ((never n).1 (ap number e))

  when-eight : Answered o.reply.refusal → (a b : Bool) → (turned a b).reply ≡ refused Unfinished
      → (a ≡ false) × (b ≡ true)
  when-eight n true b e = absurd (not-both (sym e ∙ refuses_as r NoLayer))
  when-eight n false true e = (refl, refl)
  when-eight n false false e = absurd ((never n).0 (ap number e))

  when-not : (a b : Bool) → a ≡ false → ((turned a b).reply ≡ refused Unfinished → ⊥) → turned a b ≡ o
  when-not true b h n = absurd (true≢false h)
  when-not false true h n = absurd (n (refuses_as r Unfinished))
  when-not false false h n = refl

-- a report of what is finished is refused by 16 alone
finished_not : (n : ℕ) (x : Answer) → Answered x.refusal → (b : Bool)
    → cond b (refused NoLayer) (beside n x) ≡ refused Unfinished → ⊥
finished_not n x a true e = not-both (sym e)
finished_not n x a false e = (never a).0 (ap number e)

finished_sixteen : (n : ℕ) (x : Answer) → Answered x.refusal → (b : Bool)
    → cond b (refused NoLayer) (beside n x) ≡ refused NoLayer → b ≡ true
finished_sixteen n x a true e = refl
finished_sixteen n x a false e = absurd ((never a).1 (ap number e))

-- what a page answers is never 8
paged_not : (rs : List Row) (bs : List ℕ) → (page_answer rs bs).reply ≡ refused Unfinished → ⊥
unfolding page_answer
paged_not rs bs e = go (all_printable rs) (leb (length (page_of rs)) (length bs)) (ap (λ (a : Answer). a.refusal) e)
  where
    go : (a b : Bool)
        → (guarded_bytes (result_and (cond a passed (Err NoFigure)) (cond b passed (Err ShortPage))) bs
        (printout (counted (length (page_of rs) ∷ [])) (write bs 0 (page_of rs)))).reply.refusal
        ≡ 8
        → ⊥
    go true true z = omega arith
    go true false z = omega arith
    go false b z = omega arith

page_good : (rs : List Row) (bs : List ℕ) → all_printable rs ≡ true → length (page_of rs) ≤ length bs
    → (page_answer rs bs).reply.refusal ≡ 0
unfolding page_answer
page_good rs bs p l = rw (p, le-leb (length (page_of rs)) (length bs) l) refl

page_given : (m : Mesh) (ss : List Place) (bs : List ℕ) → all_printable (fresh_rows m 0 ss) ≡ true
    → length (page_of (fresh_rows m 0 ss)) ≤ length bs → (page_afresh m ss bs).reply.refusal ≡ 0
unfolding page_afresh
page_given m ss bs = page_good (fresh_rows m 0 ss) bs

page_not : (m : Mesh) (ss : List Place) (bs : List ℕ) → (page_afresh m ss bs).reply ≡ refused Unfinished → ⊥
unfolding page_afresh
page_not m ss bs = paged_not (fresh_rows m 0 ss) bs

module _ (o : Printout) (bs : List ℕ) where
  page-eight : (o.reply ≡ refused Unfinished → ⊥) → (b : Bool)
      → (cond b (printout (refused Unfinished) bs) o).reply ≡ refused Unfinished → b ≡ true
  page-eight n true e = refl
  page-eight n false e = absurd (n e)

  page-other : (b : Bool) → ((cond b (printout (refused Unfinished) bs) o).reply ≡ refused Unfinished → ⊥)
      → cond b (printout (refused Unfinished) bs) o ≡ o
  page-other true n = absurd (n refl)
  page-other false n = refl

-- the mesh after an event has the triangles of the mesh opened
from_event : (o : Mesh) (m : Machine) (e : Event) → From o m.mesh → From o (turn_of m e).next.mesh
from_event o m (call c) f = from_next o m c f
from_event o m (adopt i n t j) f = subst (From o) (sym (mesh_stays m n t i j)) f

module _ (wd : ℕ) (fm : Layered wd) (exF : List Float) (exW : List ℕ) where
  same : (m : Machine) → Valid m.mesh m.places → (e : Event) → Brought wd e
      → Same wd exF exW m (holding wd m exF exW) e
  same m v e b =
      let r = one_event wd fm m v exF exW e b in
      record {
        before = refl;
        reply = ap (λ (x : Result). x.reply) r;
        lent = ap (λ (x : Result). x.out) r;
        shown = ap (λ (x : Result). x.bytes) r;
        fields = ap (λ (x : Result). x.runs) r;
      }

  reading : (o : Mesh) (m : Machine) → Valid m.mesh m.places → From o m.mesh
      → (layers : ℕ) (r : Reading) → Read wd o m (holding wd m exF exW) layers r
  unfolding machine
  reading o m v g layers r =
      let e = one_call wd fm m v exF exW (read layers r) in
      let er = ap (λ (x : Result). x.reply) e in
      let eo = ap (λ (x : Result). x.out) e in
      let ss = seen_places layers m.places in
      let l = left_sum m.mesh ss in
      let a = leb (2 ^ 16) layers in
      let b = needs r && ltb 0 l in
      let f = worked_afresh m.mesh ss r in
      let j = joined m.mesh v.mesh ss r in
      let n = subst (λ (x : Outcome). Answered x.reply.refusal) j (answered r (fresh_seen m.mesh ss)) in
      record {
        no_layer = λ h. er ∙ rw (le-leb (2 ^ 16) layers h) (refuses_as r NoLayer);
        one_of_sixteen = λ z. leb-true (2 ^ 16) layers (when-sixteen r f n a b (sym er ∙ z));
        unfinished = λ h w p. er ∙ rw (lt-leb (2 ^ 16) layers h, w, lt-ltb 0 l p) (refuses_as r Unfinished);
        only_then = λ z.
            let t = when-eight r f n a b (sym er ∙ z) in
            let u = (and-eq-true_iff (needs r) (ltb 0 l)).0 t.1 in
            (leb-false (2 ^ 16) layers t.0, (u.0, ltb-true 0 l u.1));
        afresh = λ h z.
            let t = when-not r f a b (lt-leb (2 ^ 16) layers h) (λ y. z (er ∙ y)) ∙ on-opened o m.mesh g ss r in
            (er ∙ ap (λ (x : Outcome). x.reply) t, eo ∙ ap (λ (x : Outcome). x.out) t);
        answers = λ h z long.
            let t = when-not r f a b (lt-leb (2 ^ 16) layers h) (λ y. z (er ∙ y)) in
            ap number (er ∙ ap (λ (x : Outcome). x.reply) t)
            ∙ accepted-long m.mesh v.mesh ss r
            (subst (λ (x : Float). LongEnough (length (all_pieces (work_all x ss))) r) (sym g.radius) long);
        all_sixteen = all_seen m.mesh m.places v.within;
        none = none_seen m.places;
        kept = ap (λ (x : Result). x.runs) e;
      }

  -- the ordinary report of the store holding just the complete places
  only-complete : (m : Machine) → Valid m.mesh m.places → (layers : ℕ) (cv : Convention)
      → (store wd (holding wd (only_complete m layers) exF exW) (read 65535 (report cv))).reply
      ≡ (worked_afresh m.mesh (complete_places m.mesh (seen_places layers m.places)) (report cv)).reply
  unfolding machine
  only-complete m v layers cv =
      let ss = seen_places layers m.places in
      let w = complete_valid wd fm m.mesh m.places v exF exW layers in
      let e = one_call wd fm (only_complete m layers) w exF exW (read 65535 (report cv)) in
      ap (λ (x : Result). x.reply) e
      ∙ rw (all_seen m.mesh (complete_places m.mesh ss) w.within, nothing_left m.mesh ss) refl

  so_far : (o : Mesh) (m : Machine) → Valid m.mesh m.places → From o m.mesh
      → (layers : ℕ) (cv : Convention) → Partly wd exF exW o m (holding wd m exF exW) layers cv
  unfolding machine finished_afresh
  so_far o m v g layers cv =
      let e = one_call wd fm m v exF exW (finished layers cv) in
      let er = ap (λ (x : Result). x.reply) e in
      let ss = seen_places layers m.places in
      let cs = complete_places m.mesh ss in
      let f = (worked_afresh m.mesh cs (report cv)).reply in
      let j = joined m.mesh v.mesh cs (report cv) in
      let n = subst (λ (x : Outcome). Answered x.reply.refusal) j (answered (report cv) (fresh_seen m.mesh cs)) in
      record {
        no_layer = λ h. er ∙ rw (le-leb (2 ^ 16) layers h) refl;
        one_of_sixteen = λ z.
            leb-true (2 ^ 16) layers
            (finished_sixteen (passed_places m.mesh ss) f n (leb (2 ^ 16) layers) (sym er ∙ z));
        never = λ z. finished_not (passed_places m.mesh ss) f n (leb (2 ^ 16) layers) (sym er ∙ z);
        afresh = λ h. er ∙ rw (lt-leb (2 ^ 16) layers h) (finished_opened o m.mesh g ss cv);
        alone = λ h.
            er ∙ rw (lt-leb (2 ^ 16) layers h)
            (ap (beside (passed_places m.mesh ss)) (sym (only-complete m v layers cv)));
        ordinary = λ h z.
            let r = ap (λ (x : Result). x.reply) (one_call wd fm m v exF exW (read layers (report cv))) in
            let y : (store wd (holding wd m exF exW) (read layers (report cv))).reply
            ≡ (worked_afresh m.mesh ss (report cv)).reply
            = r ∙ rw (lt-leb (2 ^ 16) layers h, z) refl in
            er ∙ rw (lt-leb (2 ^ 16) layers h) (complete_afresh m.mesh ss cv z ∙ ap (beside 0) (sym y));
        kept = ap (λ (x : Result). x.runs) e;
      }

  posting : (o : Mesh) (m : Machine) → Valid m.mesh m.places → From o m.mesh → (bs : List ℕ)
      → Post wd o m (holding wd m exF exW) bs
  unfolding machine
  posting o m v g bs =
      let e = one_call wd fm m v exF exW (page bs) in
      let er = ap (λ (x : Result). x.reply) e in
      let ep = ap (λ (x : Result). x.bytes) e in
      let l = left_sum m.mesh m.places in
      let f = page_afresh m.mesh m.places bs in
      record {
        unfinished = λ h. er ∙ rw (lt-ltb 0 l h) refl;
        only_then = λ z. ltb-true 0 l (page-eight f bs (page_not m.mesh m.places bs) (ltb 0 l) (sym er ∙ z));
        afresh = λ z.
            let t = page-other f bs (ltb 0 l) (λ y. z (er ∙ y)) ∙ page_opened o m.mesh g m.places bs in
            (er ∙ ap (λ (a : Printout). a.reply) t, ep ∙ ap (λ (a : Printout). a.bytes) t);
        answers = λ z p room.
            let t = page-other f bs (ltb 0 l) (λ y. z (er ∙ y)) ∙ page_opened o m.mesh g m.places bs in
            ap number (er ∙ ap (λ (a : Printout). a.reply) t) ∙ page_given o m.places bs p room;
        kept = ap (λ (x : Result). x.runs) e;
      }

  each : (o : Mesh) (es : List Event) → Every (Brought wd) es → (m : Machine) → Valid m.mesh m.places
      → From o m.mesh → Each wd exF exW o m (holding wd m exF exW) es
  each o [] bs m v g = end
  each o (e ∷ es) bs m v g =
      let s = same m v e bs.0 in
      let n = (turn_of m e).next in
      next s (reading o m v g) (so_far o m v g) (posting o m v g)
      (subst (λ (t : Store). Each wd exF exW o n t es) (sym s.fields)
      (each o es bs.1 n (kept_at wd fm m v e bs.0).valid (from_event o m e g)))

  left-asked : (m : Machine) → Valid m.mesh m.places
      → left_in (store wd (holding wd m exF exW) (advance 0)).reply ≡ left_sum m.mesh m.places
  unfolding machine
  left-asked m v =
      let z : min 0 (left_sum m.mesh m.places) ≡ 0 = omega arith in
      ap (λ (x : Result). left_in x.reply) (one_call wd fm m v exF exW (advance 0)) ∙ rw z refl

  on-held : (m : Machine) → Valid m.mesh m.places → m.charged ≡ left_sum m.mesh m.places + m.dropped
      → (es : List Event) → Came wd es → Follows wd exF exW m (holding wd m exF exW) es
  on-held m v z es came =
      let s = holding wd m exF exW in
      let bs = came_brought wd fm came in
      let n = machine_after m es in
      let i = last wd fm exF exW es bs (its_runs wd fm exF exW m v) in
      let l : left_in (store wd (leaves_all wd s es) (advance 0)).reply ≡ left_sum n.mesh n.places
      = ap (λ (t : Store). left_in (store wd t (advance 0)).reply) i.runs ∙ left-asked n i.valid in
      let b = books wd fm exF exW es bs m v in
      record {
        calls = each m.mesh es bs m v (from_start m.mesh v.mesh);
        valid = i.valid;
        pieces = listed m.mesh.radius (kernels_of n.places);
        sums = omega arith;
        charged = charges wd fm exF exW es bs m v;
        hands = hands wd fm i;
      }

  pub follows : {m : Machine} {s : Store} → Holds wd m s exF exW
      → m.charged ≡ left_sum m.mesh m.places + m.dropped
      → (es : List Event) → Came wd es → Follows wd exF exW m s es
  follows {m} h z es came =
      subst (λ (t : Store). Follows wd exF exW m t es) (sym h.runs) (on-held m h.valid z es came)

-- ---- from an opening on
module _ (wd : ℕ) (ly : Layered wd) (r : Float) (xs : List Float) (ks : List ℕ) (fs : List Float) (ws : List ℕ) where
  accepts : open_row wd xs ks (length fs) (length ws) ≡ 0 → Accepted wd r xs ks fs ws
  accepts h =
      let fm = formed ly in
      let e = holds wd fm r xs ks fs ws h in
      let f = excess_f xs fs in
      let w = excess_w wd ks ws in
      record {
        reply = ap (λ (a : After). a.reply) (opens wd fm r xs ks fs ws (unrefused wd fm r xs ks fs ws h));
        holds = e.runs;
        every_list = follows wd ly f w e refl;
        unaltered = λ cs.
            subst (λ (s : Store). heard wd s cs ≡ heard wd s (without cs)) (sym e.runs)
            (unaltered wd ly f w (opened r xs ks) e.valid cs);
      }

  pub opens_at : Opens wd r xs ks fs ws
  opens_at = record { refused_as = refuses wd (formed ly) r xs ks fs ws; accepted = accepts }
