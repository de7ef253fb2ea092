-- Laws of the check of a mesh. Assumes nothing.
use Rattle.base.specs.Answers.{passed}
use Rattle.std.specs.Prelude.{◌≡◌, refl, Bool, true, false, ◌&&◌, ◌||◌, cond, List, [], ◌∷◌, ◌++◌, ℕ, zero, suc, ◌+◌, Err}
use Rattle.std.specs.Prelude.{◌/◌, ◌≤◌, ◌<◌, ltb, length, get_or, take}
use Rattle.std.proofs.Common.{sym, not-suc-le-zero, le_of_suc-le-suc, arith, take-suc, add-one, ltb-true, ltb-false}
use Rattle.std.proofs.Math.Bool.{and-true, and_assoc, and-eq-true_iff}
use Rattle.base.specs.declared.refusal.Refusal.TheVariants.{Ragged, Oversize, LooseCorner}
use Rattle.mesh.specs.Triangles.{Sound}
use Rattle.mesh.specs.Checks.{vertex_limit, face_limit, ragged, oversize, all_below, mesh_check}

-- one word more, behind
pub below_snoc : (v : ℕ) (ks : List ℕ) (k : ℕ) → all_below v (ks ++ (k ∷ [])) ≡ (all_below v ks && ltb k v)
unfolding all_below
below_snoc v [] k = and-true (ltb k v)
below_snoc v (x ∷ ks) k = rw (below_snoc v ks k) (sym (and_assoc (ltb x v) (all_below v ks) (ltb k v)))

pub below_more : (v : ℕ) (ks : List ℕ) (i : ℕ) → i < length ks
    → all_below v (take (i + 1) ks) ≡ (all_below v (take i ks) && ltb (get_or ks i 0) v)
below_more v ks i h = rw (add-one, take-suc ks i 0 h) (below_snoc v (take i ks) (get_or ks i 0))

-- what `all_below` says of each word
pub below_each : (v : ℕ) (ks : List ℕ) → all_below v ks ≡ true → (k : ℕ) → k < length ks → get_or ks k 0 < v
unfolding all_below
below_each v [] h k l = absurd (not-suc-le-zero l)
below_each v (x ∷ ks) h zero l = ltb-true x v ((and-eq-true_iff (ltb x v) (all_below v ks)).0 h).0
below_each v (x ∷ ks) h (suc k) l =
    below_each v ks ((and-eq-true_iff (ltb x v) (all_below v ks)).0 h).1 k (le_of_suc-le-suc l)

-- a mesh that is not oversize has vertices in the limit
pub in_limit : (n : ℕ) (ks : List ℕ) → oversize n ks ≡ false → n / 3 ≤ vertex_limit
in_limit n ks h = ltb-false vertex_limit (n / 3) (first (ltb vertex_limit (n / 3)) h)
  where
    first : (s : Bool) → (s || ltb face_limit (length ks / 3)) ≡ false → s ≡ false
    first true h = h
    first false h = refl

-- a mesh that passes is sound
pub passed_sound : {n : ℕ} {corners : List ℕ} → mesh_check n corners ≡ passed → Sound n corners
unfolding mesh_check
passed_sound {n} {corners} h = go (ragged n corners) (oversize n corners) (all_below (n / 3) corners) refl h
  where
    go : (a b d : Bool) → all_below (n / 3) corners ≡ d
        → cond a (Err Ragged) (cond b (Err Oversize) (cond d passed (Err LooseCorner))) ≡ passed
        → Sound n corners
    go false false true e h = record { corner = λ k l. omega (arith, below_each (n / 3) corners e k l) }
    go false false false e h = let z : ◌≡◌ {A = ℕ} 0 1 = cc in absurd (omega arith)
    go false true d e h = let z : ◌≡◌ {A = ℕ} 0 1 = cc in absurd (omega arith)
    go true b d e h = let z : ◌≡◌ {A = ℕ} 0 1 = cc in absurd (omega arith)
