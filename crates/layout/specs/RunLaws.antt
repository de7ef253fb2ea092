-- Laws of a run that is written from a place on. Assumes nothing.
use Rattle.std.specs.Prelude.{◌≡◌, ℕ, ◌+◌, ◌-◌, ◌≤◌, ◌<◌, set, replicate}
use Rattle.std.proofs.Math.Path.{refl, sym, ap}
use Rattle.std.proofs.Common.{◌∙◌, zero-add, add-one, length-take, length-set, take-add, take-take, take-suc, take_all}
use Rattle.std.proofs.Common.{get_or-drop, get_or-append-add}
use mathlib.Core.List.{List, [], ◌∷◌, ◌++◌, append_assoc}
use native.Mathlib.Omega.{arith}
use Rattle.std.proofs.Math.ListN.{length, take, drop, get_or, length-append, length-drop, take-append-drop}
use Rattle.std.proofs.Math.ListN.{get_or-append}
use Rattle.std.proofs.lemmas.List.{replicate_more, length-replicate, get_or-replicate}
use Rattle.std.proofs.lemmas.List.Edits.{sets}
use Rattle.std.proofs.Math.Seq.{sets-eq, drop-drop, drop_at, length-take-le, take-append_seam, drop-append_seam, take-suc-set}
use Rattle.std.proofs.Math.Seq.{drop-append-add, take-append-add, get_or-take}
use borrow.Rule.Slice.PartMut.{put_mid}
use Rattle.layout.specs.Runs.{write}

module _ {ℓ} {A : Type ℓ} where
  -- words stored one after another, and a part lent and given back, are writes
  pub sets-write : (vs l : List A) (i : ℕ) → i + length vs ≤ length l → sets l i vs ≡ write l i vs
  unfolding write
  sets-write vs l i h =
      sets-eq vs l i h
      ∙ (append_assoc (take i l) vs (drop (i + length vs) l)
      ∙ ap (λ (r : List A). take i l ++ (vs ++ r)) (sym (drop-drop (length vs) i l)))

  pub length_part : (l : List A) (i k : ℕ) → i + k ≤ length l → length (take (i + k - i) (drop i l)) ≡ k
  length_part l i k h = simp (length-take, length-drop) (omega arith)

  pub length-write : (l : List A) (i : ℕ) (vs : List A) → i + length vs ≤ length l → length (write l i vs) ≡ length l
  unfolding write
  length-write l i vs h =
      simp (length-append, length-drop) (rw (length-take-le i l (omega arith)) (omega arith))

module _ {A : Type 0} where
  -- two writes, the second where the first ends
  pub write-more : (l : List A) (i : ℕ) (xs ys : List A) → i + length xs ≤ length l
      → write (write l i xs) (i + length xs) ys ≡ write l i (xs ++ ys)
  unfolding write
  write-more l i xs ys h =
      let p = take i l ++ xs in
      let r = drop (length xs) (drop i l) in
      let n : length p ≡ i + length xs = length-append (take i l) xs ∙ rw (length-take-le i l (omega arith)) refl in
      let s : take i l ++ (xs ++ r) ≡ p ++ r = sym (append_assoc (take i l) xs r) in
      rw (s, ← n)
      (seam p r
      ∙ rw (
        length-append xs ys,
        append_assoc (take i l) xs (ys ++ drop (length ys) r),
        append_assoc xs ys,
        drop-drop
            (length ys) (length xs) (drop i l),
      ) refl)
    where
      seam : (p r : List A) → take (length p) (p ++ r) ++ (ys ++ drop (length ys) (drop (length p) (p ++ r)))
          ≡ p ++ (ys ++ drop (length ys) r)
      seam p r = rw (take-append_seam p r, drop-append_seam p r) refl

  -- one word more
  pub write_snoc : (l : List A) (i k : ℕ) (vs : List A) (v : A) → length vs ≡ k → i + k < length l
      → set (write l i vs) (i + k) v ≡ write l i (vs ++ (v ∷ []))
  write_snoc l i k vs v e h =
      let m = length-write l i vs (omega arith) in
      rw (← e) (sets-write (v ∷ []) (write l i vs) (i + length vs) (omega arith)
      ∙ write-more l i vs (v ∷ []) (omega arith))

  -- a part of k words that is lent and given back, with vs in it
  pub write_part : (l : List A) (i k : ℕ) (vs : List A) → length vs ≡ k → put_mid i k l vs ≡ write l i vs
  unfolding write
  write_part l i k vs e = rw e refl

  -- one word more of those that are all v, and the whole of them
  pub one_more : (l : List A) (i : ℕ) (v : A) → take i l ≡ replicate i v → i < length l
      → take (i + 1) (set l i v) ≡ replicate (i + 1) v
  one_more l i v e h = rw add-one (take-suc-set l i v h ∙ rw e (replicate_more i v ∙ rw add-one refl))

  pub all_same : (l : List A) (n : ℕ) (v : A) → take n l ≡ replicate n v → length l ≡ n → l ≡ replicate n v
  all_same l n v e h = sym (take_all n l (omega arith)) ∙ e

  -- nothing written
  pub write-none : (l : List A) (i : ℕ) → write l i [] ≡ l
  unfolding write
  write-none l i = take-append-drop i l

  -- the words before what is written, the written ones, and the rest
  pub write_before : (l : List A) (i : ℕ) (vs : List A) (j : ℕ) (d : A) → i ≤ length l → j < i
      → get_or (write l i vs) j d ≡ get_or l j d
  unfolding write
  write_before l i vs j d h b =
      let n = length-take-le i l h in
      get_or-append (take i l) (vs ++ drop (length vs) (drop i l)) d j (omega arith) ∙ get_or-take i l j d b

  pub write_at : (l : List A) (i : ℕ) (vs : List A) (j : ℕ) (d : A) → i ≤ length l → j < length vs
      → get_or (write l i vs) (i + j) d ≡ get_or vs j d
  unfolding write
  write_at l i vs j d h b =
      let n = length-take-le i l h in
      ap (λ (k : ℕ). get_or (take i l ++ (vs ++ drop (length vs) (drop i l))) (k + j) d) (sym n)
      ∙ (get_or-append-add (take i l) (vs ++ drop (length vs) (drop i l)) j d
      ∙ get_or-append vs (drop (length vs) (drop i l)) d j b)

  pub write-rest : (l : List A) (i : ℕ) (vs : List A) (n : ℕ) → i ≤ length l → i + length vs ≤ n
      → drop n (write l i vs) ≡ drop n l
  unfolding write
  write-rest l i vs n h b =
      let k = length-take-le i l h in
      let r = n - (i + length vs) in
      let e : n ≡ i + (length vs + r) = omega arith in
      let x = vs ++ drop (length vs) (drop i l) in
      rw e
      (ap (λ (m : ℕ). drop (m + (length vs + r)) (take i l ++ x)) (sym k)
      ∙ (drop-append-add (take i l) x (length vs + r)
      ∙ (drop-append-add vs (drop (length vs) (drop i l)) r
      ∙ (drop-drop r (length vs) (drop i l) ∙ drop-drop (length vs + r) i l))))

  pub write-past : (l : List A) (i : ℕ) (vs : List A) (j : ℕ) (d : A) → i ≤ length l → i + length vs ≤ j
      → get_or (write l i vs) j d ≡ get_or l j d
  write-past l i vs j d h b =
      let e : j ≡ j + 0 = omega arith in
      rw e (sym (get_or-drop j (write l i vs) 0 d)
      ∙ (ap (λ (r : List A). get_or r 0 d) (write-rest l i vs j h b) ∙ get_or-drop j l 0 d))

  -- a write in the first n words: what is written, and r words more
  write-in : (l : List A) (i : ℕ) (vs : List A) (r : ℕ) → i + (length vs + r) ≤ length l
      → write (take (i + (length vs + r)) l) i vs ≡ take (i + (length vs + r)) (write l i vs)
  unfolding write
  write-in l i vs r b =
      let m = length vs in
      let k = length-take-le i l (omega arith) in
      let t : drop m (drop i (take (i + (m + r)) l)) ≡ take r (drop m (drop i l))
      = ap (λ (t : List A). drop m (drop i t)) (take-add i (m + r) l)
      ∙ (ap (drop m) (drop_at (take i l) (take (m + r) (drop i l)) i k)
      ∙ (ap (drop m) (take-add m r (drop i l))
      ∙ drop_at (take m (drop i l)) (take r (drop m (drop i l))) m
      (length-take-le m (drop i l) (rw length-drop (omega arith))))) in
      let u : take (i + (m + r)) (take i l ++ (vs ++ drop m (drop i l)))
      ≡ take i l ++ (vs ++ take r (drop m (drop i l)))
      = ap (λ (j : ℕ). take (j + (m + r)) (take i l ++ (vs ++ drop m (drop i l)))) (sym k)
      ∙ (take-append-add (take i l) (vs ++ drop m (drop i l)) (m + r)
      ∙ ap (λ (t : List A). take i l ++ t) (take-append-add vs (drop m (drop i l)) r)) in
      ap (λ (t : List A). t ++ (vs ++ drop m (drop i (take (i + (m + r)) l))))
      (take-take i (i + (m + r)) l (omega arith))
      ∙ (ap (λ (t : List A). take i l ++ (vs ++ t)) t ∙ sym u)

  pub write-take : (l : List A) (n i : ℕ) (vs : List A) → i + length vs ≤ n → n ≤ length l
      → write (take n l) i vs ≡ take n (write l i vs)
  write-take l n i vs h b =
      let e : i + (length vs + (n - (i + length vs))) ≡ n = omega arith in
      rw e at (write-in l i vs (n - (i + length vs)) (omega arith))

  -- three parts, one behind the other
  pub laid : (l xs ys zs : List A) (a : ℕ) → length xs + length ys ≡ a → a + length zs ≤ length l
      → write (write (write l 0 xs) (length xs) ys) a zs ≡ write l 0 (xs ++ (ys ++ zs))
  laid l xs ys zs a e b =
      let m : length (xs ++ ys) ≡ a = length-append xs ys ∙ e in
      let w : write (write l 0 xs) (length xs) ys ≡ write l 0 (xs ++ ys) = rw zero-add at
      (write-more l 0 xs ys (omega arith)) in
      rw (w, ← m) ((rw zero-add at (write-more l 0 (xs ++ ys) zs (omega arith)))
      ∙ ap (write l 0) (append_assoc xs ys zs))

  -- ---- a run copied word by word: i of the words xs stand from `at` on
  pub record Copied (l : List A) (at : ℕ) (xs : List A) (i : ℕ) (f : List A) : Type 0 where
    pub within : i ≤ length xs
    pub long : length f ≡ length l
    pub same : f ≡ write l at (take i xs)

  pub none_copied : (l : List A) (at : ℕ) (xs : List A) → Copied l at xs 0 l
  none_copied l at xs = record { within = omega arith; long = refl; same = sym (write-none l at) }

  module _ {l : List A} {at : ℕ} {xs : List A} {i : ℕ} {f : List A} where
    pub one_copied : {v : A} (d : A) → Copied l at xs i f → i < length xs → at + length xs ≤ length l
        → v ≡ get_or xs i d
        → Copied l at xs (i + 1) (set f (at + i) v)
    one_copied d c h b e =
        record {
          within = omega arith;
          long = simp length-set c.long;
          same = rw (c.same, e, add-one, take-suc xs i d h)
              (write_snoc l at i (take i xs) (get_or xs i d) (length-take-le i xs (omega arith)) (omega arith));
        }

    pub all_copied : Copied l at xs i f → length xs ≤ i → f ≡ write l at xs
    all_copied c h = c.same ∙ ap (write l at) (take_all i xs h)

  -- the same of one word written n times
  module _ (n : ℕ) (v : A) {l : List A} {at i : ℕ} {f : List A} where
    pub one_filled : Copied l at (replicate n v) i f → i < n → at + n ≤ length l
        → Copied l at (replicate n v) (i + 1) (set f (at + i) v)
    one_filled c h b =
        let e = length-replicate n v in one_copied v c (omega arith) (omega arith) (sym (get_or-replicate n i v v h))

    pub all_filled : Copied l at (replicate n v) i f → n ≤ i → f ≡ write l at (replicate n v)
    all_filled c h = all_copied c (rw length-replicate h)

-- ---- what a fill needs
pub ruleset fills = (write_part, one_more, all_same)
