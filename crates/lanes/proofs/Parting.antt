-- The loop that parts the radii: after i of them, those of at least 0.1 stand in the first n places and the others in
-- the last i - n. A turn puts one more into a place that is not taken. Assumes nothing.
use mathlib.Core.Path.{◌≡◌, refl, ap, ◌∙◌, subst, subst⁻¹}
use mathlib.Core.Logic.{◌⊎◌, ◌≢◌, inl, inr}
use mathlib.Core.Bool.{Bool, true, false, cond}
use mathlib.Core.List.{List}
use Prim.Native.Nat.{ℕ, ◌+◌, ◌-◌, ◌≤◌, ◌<◌}
use native.Mathlib.Nat.{eq-or-lt_of_le, lt_of_lt_of_le, ne_of_lt, ne_of_gt}
use native.Mathlib.Omega.{arith}
use lib.ListN.{get_or, set, length, length-set}
use lib.Seq.{get_or-set_same, get_or-set_other}
use lib.Bits.{bit_or}
use lib.Ieee.{Float, nan, le}
use Rattle.base.specs.FillLaws.{up_to}
use Rattle.base.specs.Constants.{tenth}
use Rattle.root.specs.Flags.{or-zero}
use Rattle.arcs.specs.Stages.{Large, Low}
use Rattle.lanes.specs.Stages.{Small, AllLow, Parting}

-- after i radii, n of them large, the place q is taken
abbrev pub Taken : ℕ → ℕ → ℕ → Type 0
Taken n i q = (q < n) ⊎ (28 + n ≤ q + i)

-- the radius j stands where its place says
pub record Noted (ts us : List Float) (ps : List ℕ) (n i j : ℕ) : Type 0 where
  pub within : get_or ps j 0 < 28
  pub taken : Taken n i (get_or ps j 0)
  pub same : get_or us (get_or ps j 0) nan ≡ get_or ts j nan

-- the element of us at place k, where it is one of the large ones
abbrev Front : List Float → List Float → ℕ → Type 0
Front ts us k = Large (get_or us k nan) × (AllLow ts → Low (get_or us k nan))

pub record PartedTo (ts us : List Float) (ps : List ℕ) (n flag i : ℕ) : Type 0 where
  pub few : n ≤ i
  pub end : i ≤ 28
  pub long : length us ≡ 28
  pub noted : length ps ≡ 28
  pub front : (k : ℕ) → k < n → Front ts us k
  pub back : flag ≡ 0 → (k : ℕ) → k < 28 → 28 + n ≤ k + i → Small (get_or us k nan)
  pub found : (j : ℕ) → j < i → Noted ts us ps n i j

-- where a radius is put is a place
pub in_place : (a : Float) {p n i : ℕ} → p ≡ cond (le tenth a) n (27 + n - i) → n ≤ i → i < 28 → p < 28
in_place a {p} {n} {i} e h l = go (le tenth a) e
  where
    go : (b : Bool) → p ≡ cond b n (27 + n - i) → p < 28
    go true x = omega arith
    go false x = omega arith

pub none_parted : {ts : List Float} (us : List Float) (ps : List ℕ) → length us ≡ 28 → length ps ≡ 28
    → PartedTo ts us ps 0 0 0
none_parted us ps h k =
    record {
      few = omega arith;
      end = omega arith;
      long = h;
      noted = k;
      front = λ j l. absurd (omega arith);
      back = λ e j l g. absurd (omega arith);
      found = λ j l. absurd (omega arith);
    }

module _ {ts us : List Float} {ps : List ℕ} {n flag i : ℕ} (r : PartedTo ts us ps n flag i) (h : i < 28) {a : Float}
    (e : a ≡ get_or ts i nan) where
  in-us : (p : ℕ) → p < 28 → p < length us
  in-us p l = subst⁻¹ (λ (m : ℕ). p < m) r.long l

  -- what is noted once a is put into a place p that is not taken
  notes : (m p : ℕ) → p < 28 → ((q : ℕ) → Taken n i q → (q ≢ p) × Taken m (i + 1) q) → Taken m (i + 1) p
      → (j : ℕ) → j < i + 1 → Noted ts (set us p a) (set ps i p) m (i + 1) j
  notes m p l on new = up_to {P = λ (j : ℕ). Noted ts (set us p a) (set ps i p) m (i + 1) j} before last
    where
      before : (j : ℕ) → j < i → Noted ts (set us p a) (set ps i p) m (i + 1) j
      before j g =
          let f = r.found j g in
          let x = get_or-set_other ps i j p 0 (ne_of_lt g) in
          let o = on (get_or ps j 0) f.taken in
          record {
            within = subst⁻¹ (λ (q : ℕ). q < 28) x f.within;
            taken = subst⁻¹ (Taken m (i + 1)) x o.1;
            same =
                ap (λ (q : ℕ). get_or (set us p a) q nan) x ∙ get_or-set_other us p (get_or ps j 0) a nan o.0 ∙ f.same;
          }

      last : Noted ts (set us p a) (set ps i p) m (i + 1) i
      last =
          let x = get_or-set_same ps i p 0 (subst⁻¹ (λ (m : ℕ). i < m) r.noted h) in
          record {
            within = subst⁻¹ (λ (q : ℕ). q < 28) x l;
            taken = subst⁻¹ (Taken m (i + 1)) x new;
            same = ap (λ (q : ℕ). get_or (set us p a) q nan) x ∙ get_or-set_same us p a nan (in-us p l) ∙ e;
          }

  -- a large one
  to_front : (b : ℕ) → Large a → PartedTo ts (set us n a) (set ps i n) (n + 1) (bit_or flag b) (i + 1)
  to_front b g =
      record {
        few = omega (arith, r.few);
        end = omega arith;
        long = length-set us n a ∙ r.long;
        noted = length-set ps i n ∙ r.noted;
        front =
            up_to {P = Front ts (set us n a)}
            (λ k l. subst⁻¹ (λ (z : Float). Large z × (AllLow ts → Low z))
            (get_or-set_other us n k a nan (ne_of_lt l)) (r.front k l))
            (subst⁻¹ (λ (z : Float). Large z × (AllLow ts → Low z)) (get_or-set_same us n a nan (in-us n below))
            (g, λ w. subst⁻¹ Low e (w.at i h)));
        back =
            λ z k l y. subst⁻¹ Small (get_or-set_other us n k a nan (ne_of_gt (past k y)))
            (r.back (or-zero flag b z).0 k l (less k y));
        found = notes (n + 1) n below on (inl (omega arith));
      }
    where
      below : n < 28
      below = omega (arith, r.few)

      past : (k : ℕ) → 28 + (n + 1) ≤ k + (i + 1) → n < k
      past k y = omega arith

      less : (k : ℕ) → 28 + (n + 1) ≤ k + (i + 1) → 28 + n ≤ k + i
      less k y = omega arith

      on : (q : ℕ) → Taken n i q → (q ≢ n) × Taken (n + 1) (i + 1) q
      on q (inl l) = (ne_of_lt l, inl (omega arith))
      on q (inr l) = (ne_of_gt (omega arith), inr (omega arith))

  -- another
  to_back : (b p : ℕ) → p + i ≡ 27 + n → (b ≡ 0 → Small a)
      → PartedTo ts (set us p a) (set ps i p) n (bit_or flag b) (i + 1)
  to_back b p at s =
      record {
        few = omega (arith, r.few);
        end = omega arith;
        long = length-set us p a ∙ r.long;
        noted = length-set ps i p ∙ r.noted;
        front =
            λ k l. subst⁻¹ (λ (z : Float). Large z × (AllLow ts → Low z))
            (get_or-set_other us p k a nan (ne_of_lt (before k l))) (r.front k l);
        back = λ z k l y. new z k l (eq-or-lt_of_le (from k y));
        found = notes n p below on (inr (omega arith));
      }
    where
      below : p < 28
      below = omega (arith, r.few)

      before : (k : ℕ) → k < n → k < p
      before k l = omega arith

      from : (k : ℕ) → 28 + n ≤ k + (i + 1) → p ≤ k
      from k y = omega arith

      more : (k : ℕ) → p < k → 28 + n ≤ k + i
      more k y = omega arith

      new : bit_or flag b ≡ 0 → (k : ℕ) → k < 28 → (p ≡ k) ⊎ (p < k) → Small (get_or (set us p a) k nan)
      new z k l (inl x) =
          subst (λ (m : ℕ). Small (get_or (set us p a) m nan)) x
          (subst⁻¹ Small (get_or-set_same us p a nan (in-us p below)) (s (or-zero flag b z).1))
      new z k l (inr x) =
          subst⁻¹ Small (get_or-set_other us p k a nan (ne_of_gt x)) (r.back (or-zero flag b z).0 k l (more k x))

      on : (q : ℕ) → Taken n i q → (q ≢ p) × Taken n (i + 1) q
      on q (inl l) = (ne_of_lt (before q l), inl l)
      on q (inr l) = (ne_of_gt (omega arith), inr (omega arith))

  -- either, as its test says
  pub parts : {p m : ℕ} (b : ℕ) → p ≡ cond (le tenth a) n (27 + n - i) → m ≡ cond (le tenth a) (n + 1) n
      → (b ≡ 0 → le tenth a ≡ false → Small a) → PartedTo ts (set us p a) (set ps i p) m (bit_or flag b) (i + 1)
  parts {p} {m} b x y s = go (le tenth a) refl x y
    where
      go : (c : Bool) → le tenth a ≡ c → p ≡ cond c n (27 + n - i) → m ≡ cond c (n + 1) n
          → PartedTo ts (set us p a) (set ps i p) m (bit_or flag b) (i + 1)
      go true g x y = rw (x, y) (to_front b g)
      go false g x y = rw y (to_back b p (room x) (λ z. s z g))
        where
          room : p ≡ 27 + n - i → p + i ≡ 27 + n
          room v = omega (arith, r.few)

pub all_parted : {ts us : List Float} {ps : List ℕ} {n flag i : ℕ} → PartedTo ts us ps n flag i → 28 ≤ i → flag ≡ 0
    → Parting ts us ps n
all_parted {n = n} {i = i} f h e =
    record {
      few = omega (arith, f.few, f.end);
      placed =
          record {
            within = λ j l. (f.found j (lt_of_lt_of_le l h)).within;
            same = λ j l. (f.found j (lt_of_lt_of_le l h)).same;
          };
      front = record { at = λ k l. (f.front k l).0 };
      low = λ w. record { at = λ k l. (f.front k l).1 w };
      back = record { at = λ k l g. f.back e k l (past k g) };
    }
  where
    past : (k : ℕ) → n ≤ k → 28 + n ≤ k + i
    past k g = omega arith
