-- What an adoption that is not refused was given. Assumes nothing.
use Rattle.base.specs.Answers.{Checked, passed}
use Rattle.std.specs.Prelude.{Err}
use mathlib.Core.Path.{◌≡◌, refl, sym, ◌∙◌}
use mathlib.Core.Bool.{Bool, true, false, ◌&&◌, cond}
use mathlib.Core.List.{List}
use Prim.Native.Nat.{ℕ, ◌<◌}
use native.Mathlib.Omega.{arith}
use borrow.Author.Tests.{ltb-true}
use lib.Dec.{ltb, eqb}
use lib.Ieee.{Float}
use Rattle.base.specs.declared.refusal.Refusal.TheVariants.{ShortStore, Unsound, NoPlace, Vacant}
use Rattle.layout.specs.Layout.{width, place_limit, status_of}
use Rattle.layout.specs.Soundness.{long_enough, sound, store_check}
use Rattle.layout.specs.SoundLaws.{Fine, fine, both}
use Rattle.adopt.specs.Adopt.{adopt_check}

module _ (fs : List Float) (ws : List ℕ) (gs : List Float) (us : List ℕ) where
  -- both are sound, both places are there
  pub record Adopts (i j : ℕ) : Type 0 where
    pub here : Fine width fs ws
    pub there : Fine width gs us
    pub into : i < place_limit
    pub from : j < place_limit

  pub adopt_passes : (i j : ℕ) {r : Checked} → r ≡ adopt_check width fs ws i gs us j → r ≡ passed → Adopts i j
  unfolding adopt_check store_check
  adopt_passes i j e p =
      go (long_enough width fs ws && long_enough width gs us) (sound width ws && sound width us)
      (ltb i place_limit && ltb j place_limit) (eqb (status_of width us j) 0) refl refl refl (sym e ∙ p)
    where
      go : (a b d e : Bool) → (long_enough width fs ws && long_enough width gs us) ≡ a
          → (sound width ws && sound width us) ≡ b
          → (ltb i place_limit && ltb j place_limit) ≡ d
          → cond a (cond b (cond d (cond e (Err Vacant) passed) (Err NoPlace)) (Err Unsound))
          (Err ShortStore) ≡ passed → Adopts i j
      go true true true e x y z t =
          let l = both (long_enough width fs ws) (long_enough width gs us) x in
          let s = both (sound width ws) (sound width us) y in
          let p = both (ltb i place_limit) (ltb j place_limit) z in
          record {
            here = fine width fs ws (rw (l.0, s.0) refl);
            there = fine width gs us (rw (l.1, s.1) refl);
            into = ltb-true i place_limit p.0;
            from = ltb-true j place_limit p.1;
          }
      go true true false e x y z t = absurd (let o : ◌≡◌ {A = ℕ} 0 1 = cc in omega arith)
      go true false d e x y z t = absurd (let o : ◌≡◌ {A = ℕ} 0 1 = cc in omega arith)
      go false b d e x y z t = absurd (let o : ◌≡◌ {A = ℕ} 0 1 = cc in omega arith)
