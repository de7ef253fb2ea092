-- Texts written one after the other, and the length of a number's text. Assumes nothing.
use Rattle.std.specs.Prelude.{◌≡◌, refl, List, [], ◌∷◌, ◌++◌, ℕ, zero, suc, ◌+◌, ◌/◌, ◌%◌, length, set}
use Rattle.std.proofs.Common.{sym, ap, ◌∙◌, add-zero, arith, length-append}
use Rattle.std.proofs.lemmas.List.Edits.{sets}
use Rattle.text.specs.Print.{Wrote, glyph, digits}

pub sets_append : (u v l : List ℕ) (i : ℕ) → sets l i (u ++ v) ≡ sets (sets l i u) (i + length u) v
sets_append [] v l i = rw (add-zero i)
sets_append (a ∷ u) v l i =
    let e : suc i + length u ≡ i + length (a ∷ u) = omega arith in
    sets_append u v (set l i a) (suc i) ∙ ap (λ (k : ℕ). sets (sets (set l i a) (suc i) u) k v) e

pub then : {o u v o' o'' : List ℕ} {at r r' : ℕ} → Wrote o at u r o' → Wrote o' r v r' o'' → Wrote o at (u ++ v) r' o''
then {o} {u} {v} {o'} {o''} {at} {r} {r'} p q =
    record {
      next = omega (arith, p.next, q.next, length-append u v);
      run = q.run ∙ (λ i. sets (p.run i) (p.next i) v) ∙ sym (sets_append u v o at);
    }

pub length_digits : (b k n : ℕ) → length (digits b k n) ≡ k
unfolding digits
length_digits b zero n = refl
length_digits b (suc k) n =
    length-append (digits b k (n / b)) (glyph (n % b) ∷ []) ∙ (let e = length_digits b k (n / b) in omega arith)
