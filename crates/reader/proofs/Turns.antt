-- The flags and the stores of a face or a vertex. Assumes nothing.
use mathlib.Core.Path.{◌≡◌, refl}
use mathlib.Core.List.{List, [], ◌∷◌}
use mathlib.Core.Bool.{Bool, true, false, ◌&&◌}
use Prim.Native.Nat.{ℕ, suc, ◌+◌}
use native.Mathlib.Omega.{arith}
use lib.Dec.{ltb}
use Rattle.std.proofs.Common.{length, take, drop, set, add-zero, ◌++◌, ◌-◌, ◌≤◌, sym, ◌∙◌, drop-drop, append_assoc}
use Rattle.std.proofs.lemmas.List.Edits.{sets, sets-eq}
use Rattle.mesh.specs.Checks.{all_below}

pub flags : (x p q r t : Bool) → (((x && p) && q) && r) && t ≡ x && (p && (q && (r && t)))
flags false p q r t = refl
flags true false q r t = refl
flags true true false r t = refl
flags true true true r t = refl

pub three-below : (v a b c : ℕ) (x : Bool) (ks : List ℕ)
    → (((x && ltb a v) && ltb b v) && ltb c v) && all_below v ks ≡ x && all_below v (a ∷ b ∷ c ∷ ks)
unfolding all_below
three-below v a b c x ks = flags x (ltb a v) (ltb b v) (ltb c v) (all_below v ks)

pub none_below : (v : ℕ) (x : Bool) → x && all_below v [] ≡ x
unfolding all_below
none_below v true = refl
none_below v false = refl

all_sets : {A : Type 0} (u v l : List A) (i : ℕ) → sets l i (u ++ v) ≡ sets (sets l i u) (i + length u) v
all_sets [] v l i = rw (add-zero i)
all_sets (a ∷ u) v l i =
    let e : suc i + length u ≡ i + length (a ∷ u) = omega arith in
    all_sets u v (set l i a) (suc i) ∙ (λ k. sets (sets (set l i a) (suc i) u) (e k) v)

-- three numbers stored over a part of a run, and then those after them
pub stored : {A : Type 0} (l x r : List A) (j j' : ℕ) → length x ≡ 3 → j + 3 ≤ length l → j' ≡ j + 3
    → sets (take j l ++ (x ++ drop (j + 3 - j) (drop j l))) j' r ≡ sets l j (x ++ r)
stored l x r j j' n h e =
    let k : j + 3 - j ≡ 3 = omega arith in
    let m : j + length x ≡ j + 3 = omega arith in
    let room : j + length x ≤ length l = omega arith in
    let part : take j l ++ (x ++ drop (j + 3 - j) (drop j l)) ≡ sets l j x =
    (λ i. take j l ++ (x ++ drop (k i) (drop j l)))
    ∙ (λ i. take j l ++ (x ++ drop-drop 3 j l i))
    ∙ (λ i. take j l ++ (x ++ drop (sym m i) l))
    ∙ sym (append_assoc (take j l) x (drop (j + length x) l))
    ∙ sym (sets-eq x l j room) in
    (λ i. sets (part i) (e i) r) ∙ (λ i. sets (sets l j x) (sym m i) r) ∙ sym (all_sets x r l j)
