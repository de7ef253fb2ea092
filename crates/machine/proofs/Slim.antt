-- The machine's slim mesh is the mesh that the store's squeeze leaves: two ways of saying one thing. Assumes nothing.
use mathlib.Core.Path.{◌≡◌, refl, sym, ap, ◌∙◌}
use mathlib.Core.Bool.{Bool, true, false, cond}
use mathlib.Core.List.{List, [], ◌∷◌, ◌++◌, map, append_assoc, append-nil}
use Prim.Native.Nat.{ℕ, zero, suc, ◌+◌, ◌≤◌, ◌<◌}
use native.Mathlib.Decide.{dec_lt}
use native.Mathlib.Omega.{arith}
use lib.ListN.{length, get_or, length-append}
use lib.Ieee.{Float}
use borrow.Author.Tests.{eq-eqb, ne_eqb}
use Rattle.squeeze.specs.Squeeze.{used, rank, renumbered, point_of, kept_to, freed_of}
use Rattle.mesh.specs.Corners.{Below}
use Rattle.squeeze.specs.TriangleLaws.{corner_used}
use Rattle.machine.specs.Machine.{Mesh, used_below, number_in, points_at, slim, freed_by}

module _ (ks : List ℕ) where
  -- as many vertices as the rank counts
  pub used-count : (n : ℕ) → length (used_below ks n) ≡ rank ks n
  unfolding rank
  used-count zero = refl
  used-count (suc n) = rw (length-append, used-count n) (one (used ks n))
    where
      one : (b : Bool) → rank ks n + length (cond b (n ∷ []) []) ≡ rank ks n + cond b 1 0
      one true = refl
      one false = refl

  -- a vertex from n on is not among those below n
  past : (n : ℕ) (t : List ℕ) (i : ℕ) → n ≤ i → number_in (used_below ks n ++ t) i ≡ rank ks n + number_in t i
  unfolding rank
  past zero t i h = omega arith
  past (suc n) t i h =
      ap (λ (l : List ℕ). number_in l i) (append_assoc (used_below ks n) (cond (used ks n) (n ∷ []) []) t)
      ∙ past n (cond (used ks n) (n ∷ []) [] ++ t) i (omega arith)
      ∙ one (used ks n)
    where
      one : (b : Bool) → rank ks n + number_in (cond b (n ∷ []) [] ++ t) i ≡ rank ks n + cond b 1 0 + number_in t i
      one true = rw (ne_eqb n i (λ (e : n ≡ i). omega arith)) (omega arith)
      one false = omega arith

  -- a used vertex stands at its rank
  place-rank : (n : ℕ) (t : List ℕ) (i : ℕ) → used ks i ≡ true → i < n → number_in (used_below ks n ++ t) i ≡ rank ks i
  place-rank zero t i u h = absurd (omega arith)
  place-rank (suc n) t i u h =
      ap (λ (l : List ℕ). number_in l i) (append_assoc (used_below ks n) (cond (used ks n) (n ∷ []) []) t)
      ∙ go (λ (l : i < n). place-rank n (cond (used ks n) (n ∷ []) [] ++ t) i u l) (dec_lt i n)
    where
      go : (i < n → number_in (used_below ks n ++ (cond (used ks n) (n ∷ []) [] ++ t)) i ≡ rank ks i) → Dec (i < n)
          → number_in (used_below ks n ++ (cond (used ks n) (n ∷ []) [] ++ t)) i ≡ rank ks i
      go ih (yes l) = ih l
      go ih (no l) =
          let e : n ≡ i = omega arith in
          rw (e, u) (past i (i ∷ t) i (omega arith) ∙ rw (eq-eqb i i refl) (omega arith))

  points_kept : (xs : List Float) (n : ℕ) → points_at xs (used_below ks n) ≡ kept_to ks xs n
  unfolding kept_to
  points_kept xs zero = refl
  points_kept xs (suc n) =
      joined (used_below ks n) (cond (used ks n) (n ∷ []) []) ∙ rw (points_kept xs n) (one (used ks n))
    where
      joined : (vs ws : List ℕ) → points_at xs (vs ++ ws) ≡ points_at xs vs ++ points_at xs ws
      joined [] ws = refl
      joined (v ∷ vs) ws =
          ap (λ (l : List Float). point_of xs v ++ l) (joined vs ws)
          ∙ sym (append_assoc (point_of xs v) (points_at xs vs) (points_at xs ws))

      one : (b : Bool) → kept_to ks xs n ++ points_at xs (cond b (n ∷ []) []) ≡ kept_to ks xs n ++ cond b (point_of xs n) []
      one true = refl
      one false = refl

  corners-renumbered : (n : ℕ) → Below n ks → map (number_in (used_below ks n)) ks ≡ renumbered ks
  corners-renumbered n b = go ks (λ j h. (corner_used ks j h, b.corner j h))
    where
      go : (ls : List ℕ) → ((j : ℕ) → j < length ls → (used ks (get_or ls j 0) ≡ true) × (get_or ls j 0 < n))
          → map (number_in (used_below ks n)) ls ≡ map (rank ks) ls
      go [] h = refl
      go (l ∷ ls) h =
          let u = h zero (omega arith) in
          let e : number_in (used_below ks n) l ≡ rank ks l
          = ap (λ (t : List ℕ). number_in t l) (sym (append-nil (used_below ks n))) ∙ place-rank n [] l u.0 u.1 in
          rw (e, go ls (λ j z. h (suc j) (omega arith))) refl

-- the mesh by the store's own definitions
abbrev pub thinned : Mesh → Mesh
thinned m =
    record {
      radius = m.radius;
      coords = kept_to m.corners m.coords m.verts;
      corners = renumbered m.corners;
      verts = rank m.corners m.verts;
      faces = m.faces;
    }

pub slim-is : (m : Mesh) → Below m.verts m.corners → slim m ≡ thinned m
unfolding slim
slim-is m b =
    rw (
      points_kept m.corners m.coords m.verts,
      corners-renumbered m.corners m.verts b,
      used-count m.corners m.verts,
    ) refl

pub freed_is : (m : Mesh) → freed_by m ≡ freed_of m.corners m.verts
unfolding freed_by
freed_is m = rw (used-count m.corners m.verts) refl
