-- `rounded` gives the whole number nearest to a float's exact value, of two equally near the even one, and no other is
-- that. Assumes nothing.
use Rattle.std.specs.Prelude.{◌≡◌, refl, Bool, true, false, cond, ◌⊎◌, ℕ, zero, suc, ◌+◌, ◌-◌, ◌*◌, ◌%◌, ◌≤◌, ◌<◌, ltb, ℤ, pos, negsuc, neg_ℤ, nat_abs, ◌+ℤ◌, ◌-ℤ◌, ◌*ℤ◌, Float}
use Rattle.std.proofs.Common.{sym, ap, ◌∙◌, inl, inr, zero-mul, suc-mul, arith, ltb-true, ltb-false}
use Rattle.std.proofs.Math.IntN.{neg_ℤ-neg_ℤ, neg_ℤ-+ℤ, zero-*ℤ, pos-*ℤ-pos, negsuc-*ℤ-pos}
use Rattle.std.specs.Float.{nan, inf, fin}
use Rattle.std.specs.Float.Ieee.{up, down}
use Rattle.std.specs.Float.Ieee.Fits.{down_pos}
use Rattle.whole.specs.Whole.{nearest, magnitude, signed_whole, rounded}
use Rattle.whole.specs.NearestLaws.{apart, Near, nearest-is, near-least, near_only}

-- how far the exact value of a finite x is from the whole number k, in units of 1 / d, where x is a / d
abbrev pub off : Float → ℤ → ℕ
off nan k = 0
off (inf s) k = 0
off (fin s m e) k = nat_abs (signed_whole s (m * up e) -ℤ k *ℤ pos (down e))

-- "nearest, ties to even": every other whole number is farther off, or as far, and then k is even
pub record NearestTo (x : Float) (k : ℤ) : Type 0 where
  pub least : (j : ℤ) → (j ≡ k → ⊥) → (off x k < off x j) ⊎ ((off x k ≡ off x j) × (nat_abs k % 2 ≡ 0))

-- ---- whole numbers
abs_neg : (k : ℤ) → nat_abs (neg_ℤ k) ≡ nat_abs k
abs_neg (pos zero) = refl
abs_neg (pos (suc n)) = refl
abs_neg (negsuc n) = refl

abs-minus : (a c : ℕ) → nat_abs (pos a -ℤ pos c) ≡ apart a c
abs-minus a zero = omega arith
abs-minus a (suc c) = go (ltb a (suc c)) refl
  where
    go : (b : Bool) → ltb a (suc c) ≡ b → nat_abs (cond b (negsuc (suc c - suc a)) (pos (a - suc c))) ≡ apart a (suc c)
    go true e = let h = ltb-true a (suc c) e in omega arith
    go false e = let h = ltb-false a (suc c) e in omega arith

neg-mul : (k : ℤ) (d : ℕ) → neg_ℤ (neg_ℤ k *ℤ pos d) ≡ k *ℤ pos d
neg-mul (pos zero) d = ap neg_ℤ (zero-*ℤ (pos d)) ∙ sym (zero-*ℤ (pos d))
neg-mul (pos (suc n)) d = ap neg_ℤ (negsuc-*ℤ-pos n d) ∙ neg_ℤ-neg_ℤ (pos (suc n * d)) ∙ sym (pos-*ℤ-pos (suc n) d)
neg-mul (negsuc n) d = ap neg_ℤ (pos-*ℤ-pos (suc n) d) ∙ sym (negsuc-*ℤ-pos n d)

-- ---- the value a / d
at_pos : (a d k : ℕ) → nat_abs (pos a -ℤ pos k *ℤ pos d) ≡ apart a (k * d)
at_pos a d k = ap (λ (z : ℤ). nat_abs (pos a -ℤ z)) (pos-*ℤ-pos k d) ∙ abs-minus a (k * d)

at_neg : (a d j : ℕ) → nat_abs (pos a -ℤ negsuc j *ℤ pos d) ≡ a + suc j * d
at_neg a d j = ap (λ (z : ℤ). nat_abs (pos a -ℤ z)) (negsuc-*ℤ-pos j d)
    ∙ ap (λ (z : ℤ). nat_abs (pos a +ℤ z)) (neg_ℤ-neg_ℤ (pos (suc j * d)))

flipped : (a d : ℕ) (k : ℤ) → nat_abs (neg_ℤ (pos a) -ℤ k *ℤ pos d) ≡ nat_abs (pos a -ℤ neg_ℤ k *ℤ pos d)
flipped a d k =
    ap nat_abs (sym (neg_ℤ-+ℤ (pos a) (k *ℤ pos d)))
    ∙ abs_neg (pos a +ℤ k *ℤ pos d)
    ∙ ap (λ (z : ℤ). nat_abs (pos a +ℤ z)) (sym (neg-mul k d))

-- none is farther off than 0 is
not-past : (a d r : ℕ) → Near a d r → apart a (r * d) ≤ a
not-past a d zero g = rw (zero-mul d) (omega arith)
not-past a d (suc r) g = elim (near-least a d (suc r) g 0 (λ z. omega arith)) [
  | inl l ↦ let x : 0 * d ≡ 0 = zero-mul d in omega arith
  | inr z ↦ let x : 0 * d ≡ 0 = zero-mul d in omega (arith, z.0)
]

module _ (a d : ℕ) (p : 0 < d) where
  -- how far a / d is from k, in units of 1 / d
  abbrev far : ℤ → ℕ
  far k = nat_abs (pos a -ℤ k *ℤ pos d)

  abbrev Least : ℤ → Type 0
  Least k = (j : ℤ) → (j ≡ k → ⊥) → (far k < far j) ⊎ ((far k ≡ far j) × (nat_abs k % 2 ≡ 0))

  least : Least (pos (nearest a d))
  least (pos k) h = rw (at_pos a d (nearest a d), at_pos a d k)
      (near-least a d (nearest a d) (nearest-is a d p) k (λ z. h (ap pos z)))
  least (negsuc j) h =
      let l = not-past a d (nearest a d) (nearest-is a d p) in
      let s = suc-mul j d in
      rw (at_pos a d (nearest a d), at_neg a d j) (inl (omega arith))

  -- below zero 0 is nearer
  below-zero : (j : ℕ) → (far (negsuc j) < far (pos 0))
      ⊎ ((far (negsuc j) ≡ far (pos 0)) × (nat_abs (negsuc j) % 2 ≡ 0)) → ⊥
  below-zero j (inl l) = omega (arith, rw (at_pos a d 0, at_neg a d j, zero-mul d) at l)
  below-zero j (inr z) =
      let e = sym (at_neg a d j) ∙ (z.0 ∙ at_pos a d 0) in
      omega (arith, rw (zero-mul d) at e, suc-mul j d)

  only : (k : ℤ) → Least k → k ≡ pos (nearest a d)
  only (negsuc j) l = absurd (below-zero j (l (pos 0) (λ z. omega (arith, ap nat_abs z))))
  only (pos k) l = ap pos (near_only a d (nearest a d) k p (nearest-is a d p)
      (λ h. rw (at_pos a d k, at_pos a d (nearest a d)) at (l (pos (nearest a d)) (λ z. h (sym (ap nat_abs z))))))

-- ---- the theorem
pub nearest-whole : (s : Bool) (m : ℕ) (e : ℤ) → NearestTo (fin s m e) (rounded (fin s m e))
unfolding rounded magnitude
nearest-whole false m e = record { least = least (m * up e) (down e) (down_pos e) }
nearest-whole true m e =
    let a = m * up e in
    let d = down e in
    let r = nearest a d in
    record {
      least = λ j h.
          rw (flipped a d (neg_ℤ (pos r)), flipped a d j, neg_ℤ-neg_ℤ (pos r), abs_neg (pos r))
          (least a d (down_pos e) (neg_ℤ j) (λ z. h (sym (neg_ℤ-neg_ℤ j) ∙ ap neg_ℤ z)));
    }

-- no other whole number is the nearest
pub only_nearest : (s : Bool) (m : ℕ) (e : ℤ) (k : ℤ) → NearestTo (fin s m e) k → k ≡ rounded (fin s m e)
unfolding rounded magnitude
only_nearest false m e k n = only (m * up e) (down e) (down_pos e) k n.least
only_nearest true m e k n =
    let a = m * up e in
    let d = down e in
    sym (neg_ℤ-neg_ℤ k)
    ∙ ap neg_ℤ (only a d (down_pos e) (neg_ℤ k) (λ j h.
    rw (flipped a d k, flipped a d (neg_ℤ j), neg_ℤ-neg_ℤ j, ← abs_neg k) at
    (n.least (neg_ℤ j) (λ z. h (sym (neg_ℤ-neg_ℤ j) ∙ ap neg_ℤ z)))))

-- and it is off by a half at most
pub within_half : (s : Bool) (m : ℕ) (e : ℤ) → 2 * off (fin s m e) (rounded (fin s m e)) ≤ down e
unfolding rounded magnitude
within_half false m e =
    rw (at_pos (m * up e) (down e) (nearest (m * up e) (down e))) (nearest-is (m * up e) (down e) (down_pos e)).near
within_half true m e =
    let a = m * up e in
    let d = down e in
    rw (flipped a d (neg_ℤ (pos (nearest a d))), neg_ℤ-neg_ℤ (pos (nearest a d)), at_pos a d (nearest a d))
    (nearest-is a d (down_pos e)).near
