-- The sums of the readings' definitions are folds over the parts. Assumes nothing.
use Rattle.std.specs.Prelude.{◌≡◌, get_or, Float}
use Rattle.std.proofs.Math.Path.{refl, ap}
use Rattle.std.proofs.Common.{sym, ◌∙◌}
use mathlib.Core.List.{List, [], ◌∷◌, ◌++◌, map, append_assoc}
use Prim.Native.Nat.{ℕ, suc, ◌+◌, ◌-◌}
use Rattle.std.proofs.Math.Numerals.{add-one}
use Rattle.std.proofs.Math.ListN.{length, length-append}
use Rattle.std.proofs.Math.Seq.{get_or-append_seam}
use Rattle.base.specs.Floats.{◌⊕◌, ◌⊗◌, +0}
use Rattle.base.specs.Loops.{times}
use Rattle.kernel.specs.declared.kernel.Kernel.{Kernel}
use Rattle.density.specs.Densitize.{density_of, densitize_of}
use Rattle.layout.specs.Layout.{status_of}
use Rattle.readings.specs.Readings.{Part, bare, rescaled, origin, no_kernel, no_part, density_at, raw_mass_lem}
use Rattle.readings.specs.Readings.{held_part, held_at, held_all_lem}
use Rattle.readings.specs.Folds.{fold, scaled_step, origin_step, mass_step}

module _ {S : Type 0} (f : Part → S → S) where
  pub fold_append : (ps qs : List Part) (a : S) → fold f (ps ++ qs) a ≡ fold f qs (fold f ps a)
  fold_append [] qs a = refl
  fold_append (p ∷ ps) qs a = fold_append ps qs (f p a)

  -- one piece more, and one place more
  pub piece_more : (fs : List Float) (i j : ℕ) (a : S)
      → fold f (held_at fs i (j + 1)) a ≡ f (held_part fs i j) (fold f (held_at fs i j) a)
  piece_more fs i j a =
      ap (λ (n : ℕ). fold f (held_at fs i n) a) (add-one j) ∙ fold_append (held_at fs i j) (held_part fs i j ∷ []) a

  pub place_more : (q : ℕ) (fs : List Float) (ws : List ℕ) (k : ℕ) (a : S)
      → fold f (held_all_lem q fs ws (k + 1)) a
      ≡ fold f (held_at fs k (status_of q ws k - 1)) (fold f (held_all_lem q fs ws k) a)
  unfolding held_all_lem
  place_more q fs ws k a = ap (λ (n : ℕ). fold f (held_all_lem q fs ws n) a) (add-one k)
      ∙ fold_append (held_all_lem q fs ws k) (held_at fs k (status_of q ws k - 1)) a

-- a loop over a list by index is a fold
module _ {A S : Type 0} (g : A → S → S) (d : A) where
  abbrev foldl : List A → S → S
  foldl [] a = a
  foldl (x ∷ xs) a = foldl xs (g x a)

  from-index : (pre xs : List A) (a : S)
      → times (λ i s. g (get_or (pre ++ xs) i d) s) (length xs) (length pre) a ≡ foldl xs a
  unfolding times
  from-index pre [] a = refl
  from-index pre (x ∷ xs) a =
      let n : length (pre ++ (x ∷ [])) ≡ suc (length pre) = length-append pre (x ∷ []) ∙ add-one (length pre) in
      ap (λ (y : A). times (λ i s. g (get_or (pre ++ (x ∷ xs)) i d) s) (length xs) (suc (length pre)) (g y a))
      (get_or-append_seam pre x xs d)
      ∙ (ap (λ (l : List A). times (λ i s. g (get_or l i d) s) (length xs) (suc (length pre)) (g x a))
      (sym (append_assoc pre (x ∷ []) xs))
      ∙ (ap (λ (i : ℕ). times (λ j s. g (get_or ((pre ++ (x ∷ [])) ++ xs) j d) s) (length xs) i (g x a)) (sym n)
      ∙ from-index (pre ++ (x ∷ [])) xs (g x a)))

  pub by_index : (xs : List A) (a : S) → times (λ i s. g (get_or xs i d) s) (length xs) 0 a ≡ foldl xs a
  by_index xs a = from-index [] xs a

mapped : (s : Float) (x : List Float) (ps : List Part) (a : Float)
    → foldl (λ (k : Kernel) (rho : Float). rho ⊕ density_of k x) no_kernel (map (rescaled s) (map bare ps)) a
    ≡ fold (scaled_step s x) ps a
mapped s x [] a = refl
mapped s x (p ∷ ps) a = mapped s x ps (scaled_step s x p a)

plain : (ps : List Part) (a : Float) → foldl (λ (k : Kernel) (rho : Float). rho ⊕ density_of k origin) no_kernel
    (map bare ps) a ≡ fold origin_step ps a
plain [] a = refl
plain (p ∷ ps) a = plain ps (origin_step p a)

masses : (ps : List Part) (a : Float) → foldl (λ (p : Part) (t : Float). t ⊕ p.kernel.w ⊗ p.volume) no_part ps a
    ≡ fold mass_step ps a
masses [] a = refl
masses (p ∷ ps) a = masses ps (mass_step p a)

pub scaled_sum : (s : Float) (x : List Float) (ps : List Part)
    → density_at (map (rescaled s) (map bare ps)) x ≡ fold (scaled_step s x) ps +0
unfolding density_at densitize_of
scaled_sum s x ps = by_index (λ (k : Kernel) (rho : Float). rho ⊕ density_of k x) no_kernel
    (map (rescaled s) (map bare ps)) +0 ∙ mapped s x ps +0

pub origin_sum : (ps : List Part) → density_at (map bare ps) origin ≡ fold origin_step ps +0
unfolding density_at densitize_of
origin_sum ps =
    by_index (λ (k : Kernel) (rho : Float). rho ⊕ density_of k origin) no_kernel (map bare ps) +0 ∙ plain ps +0

pub mass_sum : (ps : List Part) → raw_mass_lem ps ≡ fold mass_step ps +0
unfolding raw_mass_lem
mass_sum ps = by_index (λ (p : Part) (t : Float). t ⊕ p.kernel.w ⊗ p.volume) no_part ps +0 ∙ masses ps +0
