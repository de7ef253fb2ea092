-- A text that was written in parts. Assumes nothing.
use mathlib.Core.Path.{◌≡◌, refl, sym, subst, ◌∙◌}
use mathlib.Core.List.{List, [], ◌∷◌, ◌++◌, append_assoc}
use Prim.Native.Nat.{ℕ}
use native.Mathlib.Nat.{add-zero}
use lib.Ieee.{Float}
use Rattle.text.specs.Print.{Wrote, float_text}
use Rattle.text.specs.Form.{end, print, three, ◌&◌}
use Rattle.text.specs.WriteLaws.{then}

pub nothing : {o : List ℕ} {at : ℕ} → Wrote o at [] at o
nothing {o} {at} = record { next = sym (add-zero at); run = refl }

-- three floats and then a text
abbrev after_three : Float → Float → Float → List ℕ → List ℕ
after_three x y z t = float_text x ++ (32 ∷ (float_text y ++ (32 ∷ (float_text z ++ t))))

three_append : (x y z : Float) (t : List ℕ) → print (three end) (x & y & z & tt) ++ t ≡ after_three x y z t
three_append x y z t =
    append_assoc (float_text x) (32 ∷ (float_text y ++ (32 ∷ (float_text z ++ [])))) t
    ∙ (λ i. float_text x ++ (32 ∷ append_assoc (float_text y) (32 ∷ (float_text z ++ [])) t i))
    ∙ (λ i. float_text x ++ (32 ∷ (float_text y ++ (32 ∷ append_assoc (float_text z) [] t i))))

-- a text after bytes, and then another
pub then-on : (p t : List ℕ) {o u o' o'' : List ℕ} {at r r' : ℕ} → Wrote o at (p ++ t) r o' → Wrote o' r u r' o''
    → Wrote o at (p ++ (t ++ u)) r' o''
then-on p t {o} {u} {o'' = o''} {at} {r' = r'} a b =
    subst (λ (l : List ℕ). Wrote o at l r' o'') (append_assoc p t u) (then a b)

pub then-three : (p : List ℕ) (x y z : Float) {o t o' o'' : List ℕ} {at r r' : ℕ}
    → Wrote o at (p ++ print (three end) (x & y & z & tt)) r o' → Wrote o' r t r' o''
    → Wrote o at (p ++ after_three x y z t) r' o''
then-three p x y z {o} {t} {o'' = o''} {at} {r' = r'} a b =
    subst (λ (l : List ℕ). Wrote o at (p ++ l) r' o'') (three_append x y z t)
    (then-on p (print (three end) (x & y & z & tt)) a b)
