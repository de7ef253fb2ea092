-- Laws of a track and of loops over the elements of an array. Assumes nothing.
use Rattle.std.specs.Prelude.{◌≡◌, true, List, [], ◌∷◌, ◌++◌, length, get_or, set, replicate, Float}
use Rattle.std.proofs.Math.Path.{refl, sym}
use Rattle.std.proofs.Common.{ap, ◌∙◌, append_assoc, append-nil, lt_of_lt_of_le, add-suc}
use Prim.Native.Nat.{ℕ, zero, suc, ◌+◌, ◌*◌, ◌-◌, ◌≤◌, ◌<◌}
use Rattle.std.proofs.Math.Nat.{zero-add, add-zero}
use Rattle.std.proofs.Math.Numerals.{add-one}
use native.Mathlib.Omega.{arith}
use Rattle.std.proofs.Math.ListN.{take, length-append, length-set}
use Rattle.std.proofs.lemmas.List.{length-replicate, get_or-replicate, get_or_at}
use Rattle.std.proofs.Math.Seq.{take-suc}
use Rattle.std.specs.Float.Ieee.{nan, lt}
use Rattle.base.specs.Floats.{◌⊕◌, ◌⊖◌, +0, abs}
use Rattle.base.specs.Constants.{one, stay_limit}
use Rattle.base.specs.FillLaws.{Filled}
use Rattle.base.specs.LoopLaws.{Left, from_zero, goes, ended, times-suc}
use Rattle.kernel.specs.declared.kernel.Kernel.{Kernel}
use Rattle.density.specs.Densitize.{base_at, density_of, density_to, densitize_of}
use Rattle.layout.specs.Runs.{write}
use Rattle.layout.specs.RunLaws.{length-write, write-more, write_snoc, write-none}
use Rattle.along.specs.Along.{point_at, stretch, along}
use Rattle.along.specs.declared.along.UnitKernel.{UnitKernel}
use Rattle.along.specs.PointLanes.{unit_of, unit_term, unit_at, Lanes, lane, Thirds, Zeros, Added, BothAdded, Summed}

-- ---- a loop that sets elements of an array
pub all_filled : {P : ℕ → Float → Type 0} {first ys : List Float} {i m : ℕ} → Filled 64 P first i ys → m ≤ i
    → Lanes m P ys
all_filled f h = record { long = f.long; at = λ j l. f.done j (lt_of_lt_of_le l h) }

-- ---- one kernel more
pub unit_is : (k : Kernel) (x y z : Float) → lt (abs (k.alpha ⊖ one)) stay_limit ≡ true
    → unit_term (get_or k.c 0 nan) (get_or k.c 1 nan) (get_or k.c 2 nan) k.sigma k.w x y z
    ≡ density_of k (x ∷ y ∷ z ∷ [])
unfolding unit_term density_of base_at
unit_is k x y z h = rw h refl

module _ (m : ℕ) (xs ys zs rs : List Float) where
  abbrev term : Kernel → ℕ → Float
  term k i = unit_term (get_or k.c 0 nan) (get_or k.c 1 nan) (get_or k.c 2 nan) k.sigma k.w (get_or xs i nan)
      (get_or ys i nan) (get_or zs i nan)

  term_is : (k : Kernel) (i : ℕ) → lt (abs (k.alpha ⊖ one)) stay_limit ≡ true
      → term k i ≡ density_of k (lane xs ys zs i)
  term_is k i h = unit_is k (get_or xs i nan) (get_or ys i nan) (get_or zs i nan) h

  pub lanes_unit : (k : Kernel) (ss : List Float) → lt (abs (k.alpha ⊖ one)) stay_limit ≡ true
      → Lanes m (λ i r. r ≡ get_or rs i nan ⊕ term k i) ss → Added m k xs ys zs rs ss
  lanes_unit k ss h l =
      record { long = l.long; at = λ i g. l.at i g ∙ ap (λ (v : Float). get_or rs i nan ⊕ v) (term_is k i h) }

  pub lanes_units : (k l : Kernel) (ss : List Float) → lt (abs (k.alpha ⊖ one)) stay_limit ≡ true
      → lt (abs (l.alpha ⊖ one)) stay_limit ≡ true
      → Lanes m (λ i r. r ≡ get_or rs i nan ⊕ term k i ⊕ term l i) ss → BothAdded m k l xs ys zs rs ss
  lanes_units k l ss h g a =
      record {
        long = a.long;
        at = λ i e. a.at i e ∙ (ap (λ (v : Float). get_or rs i nan ⊕ v ⊕ term l i) (term_is k i h)
            ∙ ap (λ (v : Float). get_or rs i nan ⊕ density_of k (lane xs ys zs i) ⊕ v) (term_is l i g));
      }

  -- a kernel that passes the strict test, and its five floats without the exponent
  abbrev pub IsUnit : Kernel → UnitKernel → Type 0
  IsUnit k u = (lt (abs (k.alpha ⊖ one)) stay_limit ≡ true) × (u ≡ unit_of k)

  abbrev term_at : UnitKernel → ℕ → Float
  term_at u i = unit_at u (get_or xs i nan) (get_or ys i nan) (get_or zs i nan)

  term_at_is : (k : Kernel) (u : UnitKernel) (i : ℕ) → IsUnit k u → term_at u i ≡ density_of k (lane xs ys zs i)
  term_at_is k u i h = ap (λ (v : UnitKernel). term_at v i) h.1 ∙ term_is k i h.0

  pub lanes_unit_at : (k : Kernel) (u : UnitKernel) (ss : List Float) → IsUnit k u
      → Lanes m (λ i r. r ≡ get_or rs i nan ⊕ term_at u i) ss → Added m k xs ys zs rs ss
  lanes_unit_at k u ss h l =
      record { long = l.long; at = λ i g. l.at i g ∙ ap (λ (v : Float). get_or rs i nan ⊕ v) (term_at_is k u i h) }

  pub lanes_units_at : (k l : Kernel) (u v : UnitKernel) (ss : List Float) → IsUnit k u → IsUnit l v
      → Lanes m (λ i r. r ≡ get_or rs i nan ⊕ term_at u i ⊕ term_at v i) ss → BothAdded m k l xs ys zs rs ss
  lanes_units_at k l u v ss h g a =
      record {
        long = a.long;
        at = λ i e. a.at i e ∙ (ap (λ (s : Float). get_or rs i nan ⊕ s ⊕ term_at v i) (term_at_is k u i h)
            ∙ ap (λ (s : Float). get_or rs i nan ⊕ density_of k (lane xs ys zs i) ⊕ s) (term_at_is l v i g));
      }

  -- one after the other
  pub both_added : (k l : Kernel) (ss ts : List Float) → Added m k xs ys zs rs ss → Added m l xs ys zs ss ts
      → BothAdded m k l xs ys zs rs ts
  both_added k l ss ts a b =
      record {
        long = b.long;
        at = λ i h. b.at i h ∙ ap (λ (v : Float). v ⊕ density_of l (lane xs ys zs i)) (a.at i h);
      }

module _ (k : ℕ → Kernel) (n m : ℕ) (xs ys zs : List Float) where
  -- at each point the kernels that are left, added to the sum so far, give the density
  abbrev pub Sums : ℕ → List Float → Type 0
  Sums j rs = Lanes m (λ i r. Left (density_to k (lane xs ys zs i)) n j r (densitize_of k n (lane xs ys zs i))) rs

  pub no_sums : (rs : List Float) → Zeros m rs → Sums 0 rs
  unfolding densitize_of
  no_sums rs z = record { long = z.long; at = λ i l. rw (z.at i l) (from_zero refl) }

  pub more_sums : {rs ss : List Float} {j : ℕ} → Sums j rs → j + 1 < n → BothAdded m (k j) (k (j + 1)) xs ys zs rs ss
      → Sums (j + 2) ss
  more_sums {rs} {ss} {j} s h a =
      let e : j + 2 ≡ j + 1 + 1 = omega arith in
      rw e record { long = a.long; at = λ i l. goes (goes (s.at i l) (omega arith) refl) h (a.at i l) }

  pub all_sums : {rs : List Float} {j : ℕ} → Sums j rs → n ≤ j → Summed m (densitize_of k n) xs ys zs rs
  all_sums s h = record { long = s.long; at = λ i l. ended (s.at i l) h }

-- the last one of an odd number
pub last_sum : (k : ℕ → Kernel) (n m : ℕ) (xs ys zs : List Float) {rs ss : List Float}
    → Summed m (densitize_of k n) xs ys zs rs → Added m (k n) xs ys zs rs ss
    → Summed m (densitize_of k (suc n)) xs ys zs ss
unfolding densitize_of
last_sum k n m xs ys zs s a =
    record {
      long = a.long;
      at = λ i h. a.at i h ∙ (ap (λ (v : Float). v ⊕ density_of (k n) (lane xs ys zs i)) (s.at i h)
          ∙ sym (times-suc (density_to k (lane xs ys zs i)) n 0 +0 ∙ ap
          (λ (j : ℕ). density_to k (lane xs ys zs i) j (densitize_of k n (lane xs ys zs i))) (zero-add n)));
    }

pub zeros : (m : ℕ) → m ≤ 64 → Zeros m (replicate 64 +0)
zeros m h =
    record {
      long = length-replicate {A = Float} 64 +0;
      at = λ i l. get_or-replicate {A = Float} 64 i +0 nan (lt_of_lt_of_le l h);
    }

-- ---- a stretch of a track
module _ (f : List Float → Float) (ps : List Float) where
  pub stretch-length : (at k : ℕ) → length (stretch f ps at k) ≡ k
  unfolding stretch
  stretch-length at zero = refl
  stretch-length at (suc k) =
      length-append (stretch f ps at k) (f (point_at ps (at + k)) ∷ []) ∙ omega (arith, stretch-length at k)

  -- a stretch, then the next one
  pub stretch-more : (at k m : ℕ) → stretch f ps at (k + m) ≡ stretch f ps at k ++ stretch f ps (at + k) m
  unfolding stretch
  stretch-more at k zero = rw (add-zero, append-nil) refl
  stretch-more at k (suc m) =
      let e : at + (k + m) ≡ at + k + m = omega arith in
      rw (add-suc k m, stretch-more at k m, e)
      (append_assoc (stretch f ps at k) (stretch f ps (at + k) m) (f (point_at ps (at + k + m)) ∷ []))

  one-stretch : (at : ℕ) → stretch f ps at 1 ≡ f (point_at ps at) ∷ []
  unfolding stretch
  one-stretch at = rw add-zero refl

  -- the density at a point of it
  pub stretch_at : (at k i : ℕ) (d : Float) → i < k → get_or (stretch f ps at k) i d ≡ f (point_at ps (at + i))
  stretch_at at k i d h =
      let r = k - suc i in
      let e : i + (1 + r) ≡ k = omega arith in
      let m = stretch-more at i (1 + r) in
      let n : stretch f ps (at + i) (1 + r) ≡ f (point_at ps (at + i)) ∷ stretch f ps (at + i + 1) r
      = stretch-more (at + i) 1 r ∙ ap (λ (l : List Float). l ++ stretch f ps (at + i + 1) r) (one-stretch (at + i)) in
      ap (λ (j : ℕ). get_or (stretch f ps at j) i d) (sym e)
      ∙ (ap (λ (l : List Float). get_or l i d) (m ∙ ap (λ (l : List Float). stretch f ps at i ++ l) n)
      ∙ get_or_at (stretch f ps at i) (f (point_at ps (at + i))) (stretch f ps (at + i + 1) r) d i
      (stretch-length at i))

  -- the sums at the points from `at` on are a stretch
  pub lanes_are : (m at : ℕ) (xs ys zs rs : List Float) → m ≤ 64 → Thirds m ps (3 * at) xs
      → Thirds m ps (3 * at + 1) ys → Thirds m ps (3 * at + 2) zs → Summed m f xs ys zs rs
      → take m rs ≡ stretch f ps at m
  unfolding stretch
  lanes_are m at xs ys zs rs h x y z s = go m (omega arith)
    where
      go : (k : ℕ) → k ≤ m → take k rs ≡ stretch f ps at k
      go zero l = refl
      go (suc k) l =
          let a : 3 * at + 3 * k ≡ 3 * (at + k) = omega arith in
          let b : 3 * at + 1 + 3 * k ≡ 3 * (at + k) + 1 = omega arith in
          let c : 3 * at + 2 + 3 * k ≡ 3 * (at + k) + 2 = omega arith in
          rw (
            take-suc rs k nan (omega (arith, s.long)),
            go k
                (omega arith),
            s.at k l,
            x.at k l,
            y.at k l,
            z.at k l,
            a,
            b,
            c,
          ) refl

  -- ---- the run as far as it is written
  pub record Traced (l : List Float) (k : ℕ) (o : List Float) : Type 0 where
    pub long : length o ≡ length l
    pub same : o ≡ write l 0 (along f ps k)

  pub none_traced : (l : List Float) → Traced l 0 l
  unfolding stretch
  none_traced l = record { long = refl; same = sym (write-none l 0) }

  -- a stretch more, and a point more
  pub more_traced : (l : List Float) (k m : ℕ) {o o' : List Float} → Traced l k o → k + m ≤ length l
      → o' ≡ write o k (stretch f ps k m) → Traced l (k + m) o'
  more_traced l k m {o} {o'} t h e =
      let a : k ≡ 0 + length (along f ps k) = omega (arith, stretch-length 0 k) in
      let b = stretch-length k m in
      record {
        long = ap length e ∙ (length-write o k (stretch f ps k m) (omega (arith, t.long)) ∙ t.long);
        same = e ∙ (ap (λ (r : List Float). write r k (stretch f ps k m)) t.same
            ∙ (ap (λ (j : ℕ). write (write l 0 (along f ps k)) j (stretch f ps k m)) a
            ∙ (write-more l 0 (along f ps k) (stretch f ps k m) (omega arith)
            ∙ ap (write l 0)
            (sym (stretch-more 0 k m ∙ ap (λ (j : ℕ). along f ps k ++ stretch f ps j m) (zero-add k))))));
      }

  pub one_traced : (l : List Float) (k : ℕ) {o : List Float} {v : Float} → Traced l k o → k < length l
      → v ≡ f (point_at ps k) → Traced l (k + 1) (set o k v)
  unfolding stretch
  one_traced l k t h e =
      record {
        long = simp length-set t.long;
        same = rw (t.same, e, add-one k, zero-add k)
            (rw (zero-add k) at (write_snoc l 0 k (along f ps k) (f (point_at ps k)) (stretch-length 0 k)
            (omega arith)));
      }

-- a function that answers the same at each point
pub stretch-same : (f g : List Float → Float) → ((x : List Float) → f x ≡ g x) → (ps : List Float) (at k : ℕ)
    → stretch f ps at k ≡ stretch g ps at k
unfolding stretch
stretch-same f g h ps at zero = refl
stretch-same f g h ps at (suc k) = rw (stretch-same f g h ps at k, h (point_at ps (at + k))) refl
