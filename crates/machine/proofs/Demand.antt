-- Demand 3: of every opening, of every carry, and of every text that is read. Assumes nothing.
use mathlib.Core.Path.{◌≡◌, refl, sym, ap, subst, ◌∙◌}
use mathlib.Core.Bool.{true}
use mathlib.Core.List.{List, map}
use Prim.Native.Nat.{ℕ}
use native.Mathlib.Omega.{arith}
use lib.ListN.{length}
use lib.Ieee.{Float}
use Rattle.layout.specs.Layout.{width, verts_of, faces_of}
use Rattle.store.specs.Calls.{open_step}
use Rattle.carry.specs.Carry.{old_width}
use Rattle.reader.specs.ReadOf.{read_of}
use Rattle.machine.specs.Machine.{Provenance, own, carried, Machine, opened, open_row}
use Rattle.machine.specs.Holding.{words_of, excess_f, excess_w}
use Rattle.machine.specs.Calls.{Call, Store, without, heard, answers}
use Rattle.machine.specs.Events.{leaves, after_all}
use Rattle.machine.specs.OldStore.{Fitting, Todays, Old, nowadays, OfPuts, old_leaves, old_after}
use Rattle.machine.specs.Demands.{Carries, Loads, Demand3}
use Rattle.machine.specs.Beginnings.{leaving, carrying, carried_over, carry_row, scripted}
use Rattle.machine.proofs.Rows.{width3, width4, layered4}
use Rattle.machine.proofs.Adopting.{mesh_is, mesh_self, Holds, after_calls}
use Rattle.machine.proofs.Opened.{none_at, holds}
use Rattle.machine.proofs.Unaltered.{heard_by, store-heard, unaltered}
use Rattle.machine.proofs.Loading.{played-on, scripted-holds, scripted_in_step, not-loaded}
use Rattle.machine.proofs.OldCalls.{Source, old_all, brought_puts, own_puts}
use Rattle.machine.proofs.Carrying.{left-same, not_carried, carried_reply, carried_holds}
use Rattle.machine.proofs.Always.{low_all, same_after, carried_told}
use Rattle.machine.proofs.Follow.{follows, opens_at}

-- ---- a carry, from the opening of the old store on
module _
    (r : Float) (xs : List Float) (ks : List ℕ) (fs : List Float) (ws : List ℕ)
    (h : open_row old_width xs ks (length fs) (length ws) ≡ 0) (cs : List Old) (fitting : OfPuts Fitting cs)
    (gs : List Float) (us : List ℕ) where
  abbrev M : Machine
  M = opened r xs ks

  -- the machine that says o of all pieces
  abbrev by : Provenance → Machine
  by o = old_after o M cs

  abbrev old : Store
  old = old_leaves (leaving (open_step old_width fs ws r xs ks)) cs

  held : (o : Provenance) → OfPuts (Source o) cs → Holds old_width (by o) old (excess_f xs fs) (excess_w old_width ks ws)
  held o s = old_all o cs s (holds old_width width3 r xs ks fs ws h)

  brought : Holds old_width (by carried) old (excess_f xs fs) (excess_w old_width ks ws)
  brought = held carried (brought_puts cs fitting)

  -- ---- with today's fit
  module _ (same : OfPuts Todays cs) where
    put : Holds old_width (by own) old (excess_f xs fs) (excess_w old_width ks ws)
    put = held own (own_puts cs fitting same)

    -- one pair of runs holds both machines
    counts_same : ((by carried).mesh.verts ≡ (by own).mesh.verts) × ((by carried).mesh.faces ≡ (by own).mesh.faces)
    unfolding words_of
    counts_same =
        let e = sym brought.runs ∙ put.runs in
        (ap (λ (s : Store). verts_of s.words) e, ap (λ (s : Store). faces_of s.words) e)

    always : carry_row (by carried) gs us ≡ 0
        → (hs : List Float) (vs : List ℕ) → open_row width xs ks (length hs) (length vs) ≡ 0 → (ds : List Call)
        → answers width (leaving (carrying r xs ks fs ws cs gs us)) ds
        ≡ answers width (leaves width (leaving (open_step width hs vs r xs ks)) (map nowadays cs)) ds
    always n hs vs g ds =
        let m = by own in
        let c = counts_same in
        let a = carried_holds put gs us (rw (c.0, c.1) at n) in
        let f = excess_f xs hs in
        let w = excess_w width ks vs in
        let l = after_calls width layered4 f w (map nowadays cs) (holds width width4 r xs ks hs vs g) in
        let low = low_all own cs M (λ i. rw (none_at 32 i) refl) in
        ap (λ (s : Store). answers width s ds) a.runs
        ∙ (carried_told m put.valid low (excess_f m.mesh.coords gs) (excess_w width m.mesh.corners us) ds
        ∙ (ap (λ (t : Machine). heard_by (λ c. true) t ds) (same_after cs same M)
        ∙ sym (ap (λ (s : Store). answers width s ds) l.runs
        ∙ store-heard width layered4 f w (λ c. true) ds (after_all M (map nowadays cs)) l.valid)))

  carry : Carries r xs ks fs ws cs (by carried) gs us
  carry =
      let m = by carried in
      record {
        refused_as = not_carried brought gs us;
        accepted = λ n.
            let t = carried_holds brought gs us n in
            let f = excess_f m.mesh.coords gs in
            let w = excess_w width m.mesh.corners us in
            record {
              reply = carried_reply brought gs us n;
              holds = t.runs;
              every_list = follows width layered4 f w t (omega (arith, left-same m.mesh m.places));
              unaltered = λ ds.
                  subst (λ (x : Store). heard width x ds ≡ heard width x (without ds)) (sym t.runs)
                  (unaltered width layered4 f w (carried_over m) t.valid ds);
              as_if_always = λ same hs vs g ds. always same n hs vs g ds;
            };
      }

-- ---- a text that is read
reading : (fs : List Float) (ws : List ℕ) (s : List ℕ) → Loads width fs ws s
reading fs ws s =
    record {
      refused_as = not-loaded width layered4 fs ws s;
      accepted = λ h.
          let d = (read_of s).val in
          let f = excess_f d.coords fs in
          let w = excess_w width d.corners ws in
          let e = played-on width layered4 fs ws s h in
          let t = scripted-holds width layered4 fs ws s h in
          record {
            reply = e.0;
            holds = t.runs;
            by_calls = e.1;
            every_list = follows width layered4 f w t (scripted_in_step width layered4 fs ws s h);
            unaltered = λ cs.
                subst (λ (x : Store). heard width x cs ≡ heard width x (without cs)) (sym t.runs)
                (unaltered width layered4 f w (scripted d) t.valid cs);
          };
    }

pub demand3 : Demand3
demand3 =
    record {
      opening = opens_at width layered4;
      carry = carry;
      reading = reading;
      body = λ m o. (mesh_is m o, mesh_self m o);
    }
