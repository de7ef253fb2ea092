-- The end of a line, and its first word. Assumes nothing.
use mathlib.Core.Path.{◌≡◌, refl, sym, ap, ◌∙◌}
use mathlib.Core.List.{List}
use Rattle.std.specs.Prelude.{Some, None}
use mathlib.Core.Bool.{Bool, true, false, cond}
use Prim.Native.Nat.{ℕ, ◌≤◌}
use native.Mathlib.Omega.{arith}
use lib.ListN.{length, drop}
use lib.Dec.{leb, ltb}
use borrow.Author.Tests.{ltb-true, ltb-false}
use Rattle.std.proofs.Common.{nat_eq}
use Rattle.std.specs.List.{starts_with}
use Rattle.text.specs.Text.{lost, left, rest, got, strip}
use Rattle.text.proofs.Steps.{begun, not_begun}
use Rattle.text.specs.Form.{Form, Vals, map, read}
use Rattle.text.specs.TextLaws.{rest_out, rest_end, rest_all, rest_cons}
use Rattle.text.specs.FormLaws.{stands}
use Rattle.forms.specs.Forms.{if_ended}
use Rattle.forms.specs.Words.{read_as_lem}
use Rattle.forms.specs.declared.line.Line.{Line}

pub ended_is : (s : List ℕ) (k : ℕ) (l : Line) → k ≡ length s → Some l ≡ if_ended (rest s k) l
ended_is s k l e = sym ((λ i. if_ended (rest s (e i)) l) ∙ (λ i. if_ended (rest_end s i) l))

pub other-is : (s : List ℕ) (k : ℕ) (l : Line) → (k ≡ length s → ⊥) → None ≡ if_ended (rest s k) l
other-is s k l h = go (ltb k (length s)) refl
  where
    go : (b : Bool) → ltb k (length s) ≡ b → None ≡ if_ended (rest s k) l
    go true e = sym (λ i. if_ended (rest_cons s k (ltb-true k (length s) e) i) l)
    go false e = let g : length s ≤ k = ltb-false k (length s) e in sym (λ i. if_ended (rest_out s k (omega arith) i) l)

-- a position in the text is where something stands
pub stands-rest : (s : List ℕ) (k : ℕ) → leb k (length s) ≡ stands (rest s k)
unfolding rest
stands-rest s k = go (leb k (length s))
  where
    go : (b : Bool) → b ≡ stands (cond b (left (drop k s)) lost)
    go true = refl
    go false = refl

-- whether a text begins with a word, as the library tests it
pub starts-stands : (p l : List ℕ) → starts_with nat_eq l p ≡ stands (strip p l)
starts-stands p l = go (starts_with nat_eq l p) refl
  where
    go : (b : Bool) → b ≡ starts_with nat_eq l p → b ≡ stands (strip p l)
    go true e = sym (ap stands (begun p l e))
    go false e = sym (ap stands (not_begun p l e))

-- what a form says of a text from its start on
pub read_as : (f : Form) (to : Vals f → Line) (s : List ℕ) (l : Line) (k : ℕ) → got s l k ≡ map to (read f (rest s 0))
    → if_ended (rest s k) l ≡ read_as_lem f to s
read_as f to s l k e =
    (λ i. if_ended (e i).text (e i).val)
    ∙ (λ i. if_ended (read f (rest_all s i)).text (to (read f (rest_all s i)).val))
