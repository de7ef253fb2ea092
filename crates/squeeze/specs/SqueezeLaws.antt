-- Laws of a squeezed mesh: lengths, what the loops leave, and that its triangles are those of the mesh.
-- Assumes nothing.
use Rattle.std.specs.Prelude.{◌≡◌, refl, Bool, true, false, cond, List, [], ◌∷◌, ◌++◌, map, ℕ, zero, suc, ◌+◌, ◌*◌, ◌-◌}
use Rattle.std.specs.Prelude.{◌/◌, ◌%◌, ◌≤◌, ◌<◌, length, get_or, take, drop, set, replicate, Float}
use Rattle.std.proofs.Common.{sym, ◌∙◌, append_assoc, append-nil, add-one, arith, length-append, length-set}
use Rattle.std.proofs.Common.{length-drop, take-suc, drop-cons, length-take-le, take_all, drop-set-lt, take-suc-set}
use Rattle.std.proofs.Common.{get_or-drop, drop-drop}
use Rattle.std.proofs.Math.Path.{ap}
use Rattle.std.proofs.lemmas.List.{length-map, length-replicate, set_at, get_or_at, take-set-le}
use Rattle.std.specs.Float.{nan}
use Rattle.base.specs.Floats.{+0}
use Rattle.mesh.specs.Corners.{Below}
use Rattle.layout.specs.Runs.{write}
use Rattle.squeeze.specs.Squeeze.{used, rank, point_of, kept_to, freed_of, squeezed}
use Rattle.squeeze.specs.Marks.{word_limit, digit, Marked, Ranked, number_of}
use Rattle.squeeze.specs.MarkLaws.{rank-le, number_is, number_small}

-- ---- a list mapped word by word
module _ {A : Type 0} (g : A → A) (d : A) where
  pub record Mapped (l : List A) (i : ℕ) (r : List A) : Type 0 where
    pub within : i ≤ length l
    pub long : length r ≡ length l
    pub same : r ≡ map g (take i l) ++ drop i l

  pub none_mapped : (l : List A) → Mapped l 0 l
  none_mapped l = record { within = omega arith; long = refl; same = refl }

  module _ {l r : List A} {i : ℕ} (m : Mapped l i r) (h : i < length l) where
    front : length (map g (take i l)) ≡ i
    front = length-map (take i l) g ∙ length-take-le i l m.within

    pub word_left : get_or r i d ≡ get_or l i d
    word_left = rw (m.same, drop-cons l i d h) (get_or_at (map g (take i l)) (get_or l i d) (drop (suc i) l) d i front)

    pub one-mapped : (v : A) → v ≡ g (get_or l i d) → Mapped l (i + 1) (set r i v)
    one-mapped v e =
        record {
          within = omega arith;
          long = length-set r i v ∙ m.long;
          same =
              rw (m.same, drop-cons l i d h, e)
              (set_at (map g (take i l)) (get_or l i d) (drop (suc i) l) (g (get_or l i d)) i front ∙ next);
        }
      where
        map_snoc : (xs : List A) (x : A) → map g (xs ++ (x ∷ [])) ≡ map g xs ++ (g x ∷ [])
        map_snoc [] x = refl
        map_snoc (y ∷ xs) x = ap (λ (t : List A). g y ∷ t) (map_snoc xs x)

        next : map g (take i l) ++ (g (get_or l i d) ∷ drop (suc i) l) ≡ map g (take (i + 1) l) ++ drop (i + 1) l
        next = rw (add-one, take-suc l i d h, map_snoc (take i l) (get_or l i d), append_assoc) refl

  pub all_mapped : {l r : List A} {i : ℕ} → Mapped l i r → length l ≤ i → r ≡ map g l
  all_mapped {l} {r} {i} m h =
      let e : i ≡ length l = omega (arith, m.within) in
      m.same ∙ rw (take_all i l h, drop_all l i h) (append-nil (map g l))
    where
      drop_all : (l : List A) (i : ℕ) → length l ≤ i → drop i l ≡ []
      drop_all [] zero h = refl
      drop_all [] (suc i) h = refl
      drop_all (x ∷ l) zero h = absurd (omega arith)
      drop_all (x ∷ l) (suc i) h = drop_all l i (omega arith)

-- ---- corners renumbered one by one, by marks and ranks
module _ {ks ms rs r : List ℕ} {n i : ℕ} (m : Mapped (rank ks) 0 ks i r) (h : i < length r) (b : Below (32 * n) ks)
    (hn : n ≤ word_limit) (rd : Ranked ms rs n) (md : Marked ks ms) where
  inside : i < length ks
  inside = omega (arith, m.long)

  pub corner_small : (get_or r i 0 < 1048576) × (get_or r i 0 / 32 < n) × (get_or rs (get_or r i 0 / 32) 0 ≤ 1048576)
  corner_small =
      rw (word_left (rank ks) 0 m inside) (number_small ks ms md rs n rd hn (get_or ks i 0) (b.corner i inside))

  pub one_renumbered : (v : ℕ) → v ≡ number_of ms rs (get_or r i 0) → Mapped (rank ks) 0 ks (i + 1) (set r i v)
  one_renumbered v e =
      one-mapped (rank ks) 0 m inside v
      (e ∙ ap (number_of ms rs) (word_left (rank ks) 0 m inside)
      ∙ number_is ks ms md rs n rd hn (get_or ks i 0) (b.corner i inside))

-- ---- coordinates moved down: i vertices looked at, `to` kept
pub record Moving (x₀ : List Float) (i to : ℕ) (x : List Float) : Type 0 where
  pub low : to ≤ i
  pub long : length x ≡ length x₀
  pub rest : drop (3 * i) x ≡ drop (3 * i) x₀

-- those that the corners ks use
pub record Moved (ks : List ℕ) (x₀ : List Float) (i to : ℕ) (x : List Float) : Type 0 where
  pub count : to ≡ rank ks i
  pub front : take (3 * to) x ≡ kept_to ks x₀ i

pub none_moving : (x : List Float) → Moving x 0 0 x
none_moving x = record { low = omega arith; long = refl; rest = refl }

pub none-moved : (ks : List ℕ) (x : List Float) → Moved ks x 0 0 x
unfolding rank kept_to
none-moved ks x = record { count = refl; front = refl }

module _ {A : Type 0} (l : List A) (i : ℕ) (a b c : A) where
  abbrev three : List A
  three = set (set (set l i a) (i + 1) b) (i + 2) c

  pub three-long : length three ≡ length l
  three-long = simp length-set refl

  three-front : take i three ≡ take i l
  three-front = rw (
    take-set-le i (set (set l i a) (i + 1) b) (i + 2) c (omega arith),
    take-set-le i (set l i a)
        (i + 1) b (omega arith),
    take-set-le i l i a (omega arith),
  ) refl

  three-more : i + 2 < length l → take (i + 3) three ≡ take i l ++ (a ∷ b ∷ c ∷ [])
  three-more h =
      let n1 : length (set l i a) ≡ length l = length-set l i a in
      let n2 : length (set (set l i a) (i + 1) b) ≡ length l = length-set (set l i a) (i + 1) b ∙ n1 in
      let s3 : i + 3 ≡ suc (i + 2) = omega arith in
      let s2 : i + 2 ≡ suc (i + 1) = omega arith in
      let t3 : take (suc (i + 2)) three ≡ take (i + 2) (set (set l i a) (i + 1) b)
      ++ (c ∷ []) = take-suc-set (set (set l i a) (i + 1) b) (i + 2) c (omega arith) in
      let t2 : take (i + 2) (set (set l i a) (i + 1) b)
      ≡ take (i + 1) (set l i a) ++ (b ∷ []) = rw s2 (take-suc-set (set l i a) (i + 1) b (omega arith)) in
      let t1 : take (i + 1) (set l i a) ≡ take i l ++ (a ∷ []) = rw add-one (take-suc-set l i a (omega arith)) in
      rw s3 (t3 ∙ ap (λ (t : List A). t ++ (c ∷ [])) (t2 ∙ ap (λ (t : List A). t ++ (b ∷ [])) t1)
      ∙ (append_assoc (take i l ++ (a ∷ [])) (b ∷ []) (c ∷ []) ∙ append_assoc (take i l) (a ∷ []) (b ∷ c ∷ [])))

  three-rest : (n : ℕ) → i + 2 < n → drop n three ≡ drop n l
  three-rest n h = rw (
    drop-set-lt n (set (set l i a) (i + 1) b) (i + 2) c h,
    drop-set-lt n (set l i a) (i + 1) b
        (omega arith),
    drop-set-lt n l i a (omega arith),
  ) refl

module _ {x₀ x : List Float} {i to : ℕ} (m : Moving x₀ i to x) (h : 3 * i + 2 < length x₀) where
  read : (j : ℕ) → get_or x (3 * i + j) nan ≡ get_or x₀ (3 * i + j) nan
  read j = sym (get_or-drop (3 * i) x j nan) ∙ ap (λ (l : List Float). get_or l j nan) m.rest
      ∙ get_or-drop (3 * i) x₀ j nan

  -- the three floats of vertex i stored at `to`
  module _ (d : ℕ) (hd : d ≤ 1) where
    abbrev after-three : List Float
    after-three = three x (3 * to) (get_or x (3 * i) nan) (get_or x (3 * i + 1) nan) (get_or x (3 * i + 2) nan)

    pub one_moving : Moving x₀ (i + 1) (to + d) after-three
    one_moving =
        let n : 3 * (i + 1) ≡ 3 * i + 3 = omega arith in
        let k = m.low in
        record {
          low = omega arith;
          long = three-long x (3 * to) (get_or x (3 * i) nan) (get_or x (3 * i + 1) nan) (get_or x (3 * i + 2) nan)
              ∙ m.long;
          rest = rw n (three-rest x (3 * to) (get_or x (3 * i) nan) (get_or x (3 * i + 1) nan)
              (get_or x (3 * i + 2) nan)
              (3 * i + 3) (omega arith)
              ∙ sym (drop-drop 3 (3 * i) x) ∙ ap (drop 3) m.rest ∙ drop-drop 3 (3 * i) x₀);
        }

    pub one-moved : (ks : List ℕ) → Moved ks x₀ i to x → d ≡ cond (used ks i) 1 0
        → Moved ks x₀ (i + 1) (to + d) after-three
    unfolding rank kept_to
    one-moved ks v e =
        record {
          count = rw (add-one, e, v.count) refl;
          front = go (used ks i) e ∙ ap (kept_to ks x₀) (sym (add-one i));
        }
      where
        k : to ≤ i
        k = m.low

        n : length x ≡ length x₀
        n = m.long

        r0 : get_or x (3 * i) nan ≡ get_or x₀ (3 * i) nan
        r0 = let z : 3 * i + 0 ≡ 3 * i = omega arith in rw z at (read 0)

        go : (t : Bool) → d ≡ cond t 1 0
            → take (3 * (to + d)) after-three ≡ kept_to ks x₀ i ++ cond t (point_of x₀ i) []
        go true q =
            let z : 3 * (to + d) ≡ 3 * to + 3 = omega arith in
            rw (
              z,
              three-more x (3 * to) (get_or x (3 * i) nan) (get_or x (3 * i + 1) nan) (get_or x (3 * i + 2) nan)
                  (omega arith),
              v.front,
              r0,
              read 1,
              read 2,
            ) refl
        go false q =
            let z : 3 * (to + d) ≡ 3 * to = omega arith in
            rw (
              z,
              three-front x (3 * to) (get_or x (3 * i) nan) (get_or x (3 * i + 1) nan)
                  (get_or x (3 * i + 2) nan),
              v.front,
            ) (sym (append-nil (kept_to ks x₀ i)))

-- the digit that the code looks at
pub vertex_marked : (ks ms : List ℕ) (i d : ℕ) → Marked ks ms → i < 1048576 → d ≡ digit (get_or ms (i / 32) 0) (i % 32)
    → d ≡ cond (used ks i) 1 0
vertex_marked ks ms i d m h e =
    let z : 32 * (i / 32) + i % 32 ≡ i = omega arith in
    e ∙ rw z at (m.bit (i / 32) (i % 32) (omega arith) (omega arith))

-- ---- lengths
pub kept-length : (ks : List ℕ) (xs : List Float) (n : ℕ) → length (kept_to ks xs n) ≡ 3 * rank ks n
unfolding kept_to rank
kept-length ks xs zero = refl
kept-length ks xs (suc n) =
    length-append (kept_to ks xs n) (cond (used ks n) (point_of xs n) []) ∙ go (used ks n) (kept-length ks xs n)
  where
    go : (t : Bool) → length (kept_to ks xs n) ≡ 3 * rank ks n
        → length (kept_to ks xs n) + length (cond t (point_of xs n) []) ≡ 3 * (rank ks n + cond t 1 0)
    go true e = omega arith
    go false e = omega arith

pub squeezed-length : (ks : List ℕ) (xs : List Float) (n : ℕ) → length (squeezed ks xs n) ≡ 3 * n
squeezed-length ks xs n = length-append (kept_to ks xs n) (replicate (freed_of ks n) +0)
    ∙ rw (kept-length ks xs n, length-replicate (freed_of ks n) +0) (omega (arith, rank-le ks n))

-- ---- the tail zeroed
pub zeroed : (ks : List ℕ) (x₀ x : List Float) (n k : ℕ) → k ≡ rank ks n → k ≤ n → length x ≡ 3 * n
    → take (3 * k) x ≡ kept_to ks x₀ n
    → write x (3 * k) (replicate (3 * (n - k)) +0) ≡ squeezed ks x₀ n
unfolding write
zeroed ks x₀ x n k e h l f =
    let m : length (replicate (3 * (n - k)) +0) ≡ 3 * (n - k) = length-replicate (3 * (n - k)) +0 in
    let z : drop (3 * (n - k)) (drop (3 * k) x) ≡ [] = none (drop (3 * (n - k)) (drop (3 * k) x))
    (simp length-drop (omega arith)) in
    rw (m, z, f, append-nil (replicate (3 * (n - k)) +0), e) refl
  where
    none : (l : List Float) → length l ≡ 0 → l ≡ []
    none [] h = refl
    none (y ∷ l) h = absurd (omega arith)

-- ---- a part lent and given back
pub part-write : {A : Type 0} (l vs : List A) (a e : ℕ) → length vs ≡ e - a
    → take a l ++ (vs ++ drop (e - a) (drop a l)) ≡ write l a vs
unfolding write
part-write l vs a e h = rw h refl
