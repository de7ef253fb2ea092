-- Runs that are rows of one length, laid end to end. Assumes nothing.
use mathlib.Core.Path.{◌≡◌, refl, sym, ap, ◌∙◌}
use mathlib.Core.List.{List, [], ◌∷◌, ◌++◌, map, append_assoc}
use Prim.Native.Nat.{ℕ, zero, suc, ◌+◌, ◌*◌, ◌<◌}
use native.Mathlib.Nat.{zero-add, suc-add, mul-zero, mul-suc}
use native.Mathlib.Omega.{arith}
use lib.ListN.{length, take, drop, get_or, set, length-append, get_or-append}
use lib.Seq.{get_or-append-add, set-append_left, take-append-add, drop-append-add, drop-append_seam, take_at}
use Rattle.layout.specs.Runs.{write}
use Rattle.machine.specs.Holding.{flat}

-- the words to a place for which the proofs stand: three in the form before 02's L5, four since
pub data Width : ℕ → Type 0 where
  width3 : Width 3
  width4 : Width 4

-- those with a word for the layer: readings of some layers are of such a form alone
pub data Layered : ℕ → Type 0 where
  layered4 : Layered 4

pub formed : {w : ℕ} → Layered w → Width w
formed layered4 = width4

module _ {A : Type 0} where
  pub set_append_add : (xs ys : List A) (n : ℕ) (v : A) → set (xs ++ ys) (length xs + n) v ≡ xs ++ set ys n v
  set_append_add [] ys n v = rw zero-add refl
  set_append_add (x ∷ xs) ys n v = rw suc-add (ap (λ (l : List A). x ∷ l) (set_append_add xs ys n v))

  pub write_append_add : (xs ys : List A) (n : ℕ) (vs : List A)
      → write (xs ++ ys) (length xs + n) vs ≡ xs ++ write ys n vs
  unfolding write
  write_append_add xs ys n vs =
      rw (take-append-add xs ys n, drop-append-add xs ys n)
      (append_assoc xs (take n ys) (vs ++ drop (length vs) (drop n ys)))

  -- rows, each of k
  pub data Each (k : ℕ) : List (List A) → Type 0 where
    none : Each k []
    more : {r : List A} {rs : List (List A)} → length r ≡ k → Each k rs → Each k (r ∷ rs)

  pub row_get : (k : ℕ) (rs : List (List A)) → Each k rs → (ys : List A) (i j : ℕ) (d : A) → i < length rs → j < k
      → get_or (flat rs ++ ys) (k * i + j) d ≡ get_or (get_or rs i []) j d
  row_get k [] none ys i j d h hj = absurd (omega arith)
  row_get k (r ∷ rs) (more e es) ys zero j d h hj =
      rw (mul-zero, zero-add, append_assoc) (get_or-append r (flat rs ++ ys) d j (omega arith))
  row_get k (r ∷ rs) (more e es) ys (suc i) j d h hj =
      let q : k * suc i + j ≡ length r + (k * i + j) = rw mul-suc (omega arith) in
      rw (q, append_assoc) (get_or-append-add r (flat rs ++ ys) (k * i + j) d ∙ row_get k rs es ys i j d (omega arith) hj)

  pub row-set : (k : ℕ) (rs : List (List A)) → Each k rs → (ys : List A) (i j : ℕ) (v : A) → i < length rs → j < k
      → set (flat rs ++ ys) (k * i + j) v ≡ flat (set rs i (set (get_or rs i []) j v)) ++ ys
  row-set k [] none ys i j v h hj = absurd (omega arith)
  row-set k (r ∷ rs) (more e es) ys zero j v h hj =
      rw (mul-zero, zero-add, append_assoc, append_assoc) (set-append_left r (flat rs ++ ys) j v (omega arith))
  row-set k (r ∷ rs) (more e es) ys (suc i) j v h hj =
      let q : k * suc i + j ≡ length r + (k * i + j) = rw mul-suc (omega arith) in
      rw (q, append_assoc, append_assoc)
      (set_append_add r (flat rs ++ ys) (k * i + j) v
      ∙ ap (λ (l : List A). r ++ l) (row-set k rs es ys i j v (omega arith) hj))

  pub row_write : (k : ℕ) (rs : List (List A)) → Each k rs → (ys : List A) (i : ℕ) (vs : List A) → i < length rs
      → length vs ≡ k → write (flat rs ++ ys) (k * i) vs ≡ flat (set rs i vs) ++ ys
  unfolding write
  row_write k [] none ys i vs h hv = absurd (omega arith)
  row_write k (r ∷ rs) (more e es) ys zero vs h hv =
      let q : length vs ≡ length r = hv ∙ sym e in
      rw (mul-zero, append_assoc, append_assoc, q, drop-append_seam r (flat rs ++ ys)) refl
  row_write k (r ∷ rs) (more e es) ys (suc i) vs h hv =
      let q : k * suc i ≡ length r + k * i = rw mul-suc (omega arith) in
      rw (q, append_assoc, append_assoc)
      (write_append_add r (flat rs ++ ys) (k * i) vs
      ∙ ap (λ (l : List A). r ++ l) (row_write k rs es ys i vs (omega arith) hv))

  -- a whole row
  pub row-part : (k : ℕ) (rs : List (List A)) → Each k rs → (ys : List A) (i : ℕ) → i < length rs
      → take k (drop (k * i) (flat rs ++ ys)) ≡ get_or rs i []
  row-part k [] none ys i h = absurd (omega arith)
  row-part k (r ∷ rs) (more e es) ys zero h = rw (mul-zero, append_assoc) (take_at r (flat rs ++ ys) k e)
  row-part k (r ∷ rs) (more e es) ys (suc i) h =
      let q : k * suc i ≡ length r + k * i = rw mul-suc (omega arith) in
      rw (q, append_assoc, drop-append-add r (flat rs ++ ys) (k * i)) (row-part k rs es ys i (omega arith))

  pub flat-length : (k : ℕ) (rs : List (List A)) → Each k rs → length (flat rs) ≡ k * length rs
  flat-length k [] none = rw mul-zero refl
  flat-length k (r ∷ rs) (more e es) = rw (length-append, mul-suc, flat-length k rs es) (omega arith)

module _ {A B : Type 0} where
  pub map-set : (g : A → B) (l : List A) (i : ℕ) (v : A) → map g (set l i v) ≡ set (map g l) i (g v)
  map-set g [] i v = refl
  map-set g (x ∷ l) zero v = refl
  map-set g (x ∷ l) (suc i) v = ap (λ (t : List B). g x ∷ t) (map-set g l i v)

  pub map_get_d : (g : A → B) (l : List A) (i : ℕ) (d : A) (e : B) → i < length l → get_or (map g l) i e ≡ g (get_or l i d)
  map_get_d g [] i d e h = absurd (omega arith)
  map_get_d g (x ∷ l) zero d e h = refl
  map_get_d g (x ∷ l) (suc i) d e h = map_get_d g l i d e (omega arith)

pub each_map : {A C : Type 0} (k : ℕ) (g : A → List C) → ((a : A) → length (g a) ≡ k) → (l : List A) → Each k (map g l)
each_map k g h [] = none
each_map k g h (x ∷ l) = more (h x) (each_map k g h l)

pub each_set : {A : Type 0} (k : ℕ) (rs : List (List A)) → Each k rs → (i : ℕ) (v : List A) → length v ≡ k
    → Each k (set rs i v)
each_set k [] none i v h = none
each_set k (r ∷ rs) (more e es) zero v h = more h es
each_set k (r ∷ rs) (more e es) (suc i) v h = more e (each_set k rs es i v h)
