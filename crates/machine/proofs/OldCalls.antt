-- 02, L6: each call on a store of the form before L5 that holds a machine leaves one that holds the machine after it.
-- Assumes nothing.
use mathlib.Core.Path.{◌≡◌, refl, sym, ap, ◌∙◌}
use mathlib.Core.Bool.{Bool, true, false, cond}
use mathlib.Core.List.{List, [], ◌∷◌}
use Prim.Native.Nat.{ℕ, ◌≤◌, ◌<◌}
use native.Mathlib.Decide.{dec_lt}
use native.Mathlib.Omega.{arith}
use lib.Dec.{ltb}
use lib.Ieee.{Float}
use borrow.Author.Tests.{lt-ltb, le-ltb}
use Rattle.kernel.specs.declared.kernel.Kernel.{Kernel}
use Rattle.pieces.specs.declared.pieces.Pieces.{Pieces}
use Rattle.pieces.specs.PieceLaws.{Clean}
use Rattle.layout.specs.Layout.{place_limit}
use Rattle.carry.specs.Carry.{old_width}
use Rattle.machine.specs.Machine.{Provenance, own, carried, Machine, put_into}
use Rattle.machine.specs.Calls.{clear, reweigh, advance, squeeze, Store, Result, store, past, holding}
use Rattle.machine.specs.OldStore.{Fitter, Fitting, Todays, Old, puts, clears, reweighs, advances, squeezes, reads, pages, OfPut, OfPuts, old_store, old_leaves, old_machine, old_after}
use Rattle.machine.specs.Valid.{FittedBy, Valid}
use Rattle.machine.proofs.Rows.{width3}
use Rattle.machine.proofs.Held.{radius-held}
use Rattle.machine.proofs.Claim.{inner, place_in, place_out, put_runs, clear-held, reweigh_held, advance_held, squeeze_held, put_valid, kept, held_in}
use Rattle.machine.proofs.Adopting.{Holds}

-- what may fit the pieces of places that say o of them
pub record Source (o : Provenance) (fitter : Fitter) : Type 0 where
  pub few : (k : Kernel) (radius : Float) → (fitter k radius).count ≤ 16
  pub clean : (k : Kernel) (radius : Float) → Clean (fitter k radius)
  pub of_kernel : (k : Kernel) (radius : Float) → FittedBy radius k (fitter k radius) o

-- of puts that were fitted by such and such
both_puts : {P Q R : Fitter → Type 0} → ((fitter : Fitter) → P fitter → Q fitter → R fitter)
    → (cs : List Old) → OfPuts P cs → OfPuts Q cs → OfPuts R cs
both_puts f [] p q = tt {0}
both_puts f (puts fitter i k ∷ cs) p q = (f fitter p.0 q.0, both_puts f cs p.1 q.1)
both_puts f (clears i ∷ cs) p q = (tt {0}, both_puts f cs p.1 q.1)
both_puts f (reweighs i v ∷ cs) p q = (tt {0}, both_puts f cs p.1 q.1)
both_puts f (advances n ∷ cs) p q = (tt {0}, both_puts f cs p.1 q.1)
both_puts f (squeezes ∷ cs) p q = (tt {0}, both_puts f cs p.1 q.1)
both_puts f (reads r ∷ cs) p q = (tt {0}, both_puts f cs p.1 q.1)
both_puts f (pages bs ∷ cs) p q = (tt {0}, both_puts f cs p.1 q.1)

module _ (o : Provenance) where
  module _ (m : Machine) (v : Valid m.mesh m.places) (xs : List Float) (ys : List ℕ) where
    still-valid : (c : Old) → OfPut (Source o) c → Valid (old_machine o m c).mesh (old_machine o m c).places
    unfolding old_machine
    still-valid (puts fitter i k) source = go (ltb i place_limit)
      where
        fit : Pieces
        fit = fitter k m.mesh.radius

        next : Bool → Machine
        next b = cond b (put_into m i k fit o 0) m

        go : (b : Bool) → Valid (next b).mesh (next b).places
        go true =
            let r = m.mesh.radius in
            put_valid m v i k fit o 0 (source.of_kernel k r) (source.few k r) (source.clean k r) (omega arith)
        go false = v
    still-valid (clears i) source = (kept m v (clear i)).valid
    still-valid (reweighs i w) source = (kept m v (reweigh i w)).valid
    still-valid (advances n) source = (kept m v (advance n)).valid
    still-valid squeezes source = (kept m v squeeze).valid
    still-valid (reads r) source = v
    still-valid (pages bs) source = v

    call-in : (c : Old) → old_store (inner old_width m xs ys) c ≡ inner old_width (old_machine o m c) xs ys
    unfolding old_store old_machine store
    call-in (puts fitter i k) = go (dec_lt i 32)
      where
        c : Old
        c = puts fitter i k

        go : Dec (i < 32) → old_store (inner old_width m xs ys) c ≡ inner old_width (old_machine o m c) xs ys
        go (yes h) =
            rw (place_in old_width width3 m v xs ys i h, lt-ltb i 32 h, radius-held m.mesh m.places (past m xs))
            (put_runs old_width width3 m v xs ys i k (fitter k m.mesh.radius) o 0 h)
        go (no h) = rw (place_out old_width width3 m v xs ys i (omega arith), le-ltb i 32 (omega arith)) refl
    call-in (clears i) = ap (λ (a : Result). a.runs) (clear-held old_width width3 m v xs ys i)
    call-in (reweighs i w) = ap (λ (a : Result). a.runs) (reweigh_held old_width width3 m v xs ys i w)
    call-in (advances n) = ap (λ (a : Result). a.runs) (advance_held old_width width3 m v xs ys n)
    call-in squeezes = ap (λ (a : Result). a.runs) (squeeze_held old_width width3 m v xs ys)
    call-in (reads r) = refl
    call-in (pages bs) = refl

    one-old : (c : Old) → OfPut (Source o) c
        → old_store (holding old_width m xs ys) c ≡ holding old_width (old_machine o m c) xs ys
    one-old c source =
        ap (λ (s : Store). old_store s c) (held_in old_width m v xs ys)
        ∙ (call-in c ∙ sym (held_in old_width (old_machine o m c) (still-valid c source) xs ys))

  -- every list of calls
  pub old_all : (cs : List Old) → OfPuts (Source o) cs → {m : Machine} {s : Store} {xs : List Float} {ys : List ℕ}
      → Holds old_width m s xs ys → Holds old_width (old_after o m cs) (old_leaves s cs) xs ys
  old_all [] sources h = h
  old_all (c ∷ cs) sources {m} {s} {xs} {ys} h =
      let source = sources.0 in
      old_all cs sources.1
      (record {
        runs = ap (λ (t : Store). old_store t c) h.runs ∙ one-old m h.valid xs ys c source;
        valid = still-valid m h.valid xs ys c source;
      })

-- of pieces that are fitted by anything, where they count as brought
pub brought_puts : (cs : List Old) → OfPuts Fitting cs → OfPuts (Source carried) cs
brought_puts cs fitting =
    both_puts (λ f p q. record { few = p.few; clean = p.clean; of_kernel = λ k radius. tt {0} }) cs fitting fitting

-- and by today's decomposition, where they count as the store's own
pub own_puts : (cs : List Old) → OfPuts Fitting cs → OfPuts Todays cs → OfPuts (Source own) cs
own_puts cs fitting same =
    both_puts (λ f p q. record { few = p.few; clean = p.clean; of_kernel = q }) cs fitting same
