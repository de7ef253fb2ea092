-- The pieces of a store laid down six floats each, read again; and what a track's check tells. Assumes nothing.
use Rattle.std.specs.Prelude.{◌≡◌, refl, Bool, true, false, ◌&&◌, cond, List, [], ◌∷◌, map, ℕ, ◌/◌, ◌%◌, ◌≤◌, leb, eqb, Err}
use Rattle.std.specs.Prelude.{length, drop, Float}
use Rattle.std.proofs.Common.{sym, ap, ◌∙◌, arith, leb-true, eqb-true}
use Rattle.std.proofs.lemmas.List.{length-map}
use Rattle.base.specs.Answers.{refused, counted, outcome, passed}
use Rattle.base.specs.declared.refusal.Refusal.{Refusal}
use Rattle.base.specs.declared.refusal.Refusal.TheVariants.{BadTrack}
use Rattle.kernel.specs.declared.kernel.Kernel.{Kernel}
use Rattle.kernel.specs.Kernels.{kernel_at}
use Rattle.density.specs.Densitize.{densitize_of}
use Rattle.layout.specs.Runs.{write}
use Rattle.along.specs.Along.{along}
use Rattle.readings.specs.Readings.{Part, bare, rescaled, density_at, sixes, track_limit, track_check, tracking}
use Rattle.readings.specs.Lists.{rescaled_sixes}
use Rattle.readings.specs.SixLaws.{laid_density}

-- ---- the density of pieces that are laid down is theirs
pub rescaled_density : (l : List Float) (s : Float) (ps : List Part) (n : ℕ) → n ≡ length ps → (x : List Float)
    → densitize_of (kernel_at (write l 0 (rescaled_sixes s ps))) n x ≡ density_at (map (rescaled s) (map bare ps)) x
unfolding write
rescaled_density l s ps n e x =
    let ks = map (rescaled s) (map bare ps) in
    let m : n ≡ length ks = e ∙ sym (length-map (map bare ps) (rescaled s) ∙ length-map ps bare) in
    ap (λ (j : ℕ). densitize_of (kernel_at (write l 0 (sixes ks))) j x) m
    ∙ laid_density ks (drop (length (sixes ks)) l) x

-- ---- the check
pub record Trackable (coords room : ℕ) : Type 0 where
  pub threes : coords % 3 ≡ 0
  pub few : coords / 3 ≤ track_limit
  pub fits : coords / 3 ≤ room

pub trackable : (coords room : ℕ) → track_check coords room ≡ passed → Trackable coords room
unfolding track_check
trackable coords room h =
    go (eqb (coords % 3) 0) refl (leb (coords / 3) track_limit) refl (leb (coords / 3) room) refl h
  where
    go : (a : Bool) → eqb (coords % 3) 0 ≡ a → (b : Bool) → leb (coords / 3) track_limit ≡ b → (c : Bool)
        → leb (coords / 3) room ≡ c
        → cond (a && b && c) passed (Err BadTrack) ≡ passed → Trackable coords room
    go true p true q true r h =
        record {
          threes = eqb-true (coords % 3) 0 p;
          few = leb-true (coords / 3) track_limit q;
          fits = leb-true (coords / 3) room r;
        }
    go false p b q c r h = absurd (let o : ◌≡◌ {A = ℕ} 0 1 = cc in omega arith)
    go true p false q c r h = absurd (let o : ◌≡◌ {A = ℕ} 0 1 = cc in omega arith)
    go true p true q false r h = absurd (let o : ◌≡◌ {A = ℕ} 0 1 = cc in omega arith)

-- ---- a track's two answers
module _ (s : Float) (ks : List Kernel) (points out : List Float) where
  pub track_in : (out' : List Float) → track_check (length points) (length out) ≡ passed
      → out' ≡ write out 0 (along (density_at (map (rescaled s) ks)) points (length points / 3))
      → outcome (counted (length points / 3 ∷ [])) out' ≡ tracking s ks points out
  track_in out' h e = rw (h, e) refl

  pub track_out : (r : Refusal) → track_check (length points) (length out) ≡ Err r
      → outcome (refused r) out ≡ tracking s ks points out
  track_out r h = rw h refl
