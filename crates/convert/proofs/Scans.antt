-- The lines of a text, read one after the other: how many, whether both loaders agree, and what is left.
-- Assumes nothing.
use mathlib.Core.Path.{◌≡◌, refl, sym, ap, ◌∙◌}
use mathlib.Core.List.{List, [], ◌∷◌}
use mathlib.Core.Bool.{Bool, true, false, ◌&&◌, and-true, and_assoc}
use Prim.Native.Nat.{ℕ, zero, suc, ◌+◌, ◌-◌, ◌<◌, ◌≤◌}
use native.Mathlib.Omega.{arith}
use lib.Dec.{eqb}
use lib.ListN.{length}
use lib.Ieee.{Float}
use borrow.Author.Tests.{eqb-true, eqb-false}
use Rattle.std.proofs.Math.Decide.{dec_lt}
use Rattle.text.specs.Text.{Text, lost, left, Got, rest, got}
use Rattle.text.specs.TextLaws.{rest_out, rest_end, rest_all, rest_cons, rest-none}
use Rattle.convert.specs.Loaders.{alike, all_alike_lem}
use Rattle.convert.specs.Lines.{file_line, file_lines, lines_in, ended}
use Rattle.convert.specs.declared.file.FileKernel.{FileKernel}

-- no line
abbrev nothing : Text → Got (List FileKernel)
nothing t = record { val = []; text = t }

none_asked : (t : Text) → file_lines 0 t ≡ nothing t
unfolding file_lines
none_asked t = refl

at_lost : (m : ℕ) → file_lines m lost ≡ nothing lost
unfolding file_lines
at_lost zero = refl
at_lost (suc m) = refl

at_end : (m : ℕ) → file_lines m (left []) ≡ nothing (left [])
unfolding file_lines
at_end zero = refl
at_end (suc m) = refl

-- what was counted of the lines is all that there are
pub first_lines : (m : ℕ) (t : Text) → lines_in (length (file_lines m t).val) t ≡ (file_lines m t).val
unfolding file_lines lines_in
first_lines zero t = refl
first_lines (suc m) lost = refl
first_lines (suc m) (left []) = refl
first_lines (suc m) (left (b ∷ l)) =
    let g = file_line (left (b ∷ l)) in
    ap (λ (fs : List FileKernel). g.val ∷ fs) (first_lines m g.text)

module _ (s : List ℕ) (d : Float) where
  abbrev total : Got (List FileKernel)
  total = file_lines (length s) (left s)

  -- those not read yet, n lines having been read up to position k
  abbrev after : ℕ → ℕ → Got (List FileKernel)
  after n k = file_lines (length s - n) (rest s k)

  -- n lines were read, up to position k
  pub record Scanned (n k : ℕ) (same : Bool) : Type 0 where
    pub within : n ≤ length s
    pub count : length total.val ≡ n + length (after n k).val
    pub text : total.text ≡ (after n k).text
    pub agree : all_alike_lem d total.val ≡ (same && all_alike_lem d (after n k).val)

  pub none_scanned : Scanned 0 0 true
  none_scanned =
      let e : length s - 0 ≡ length s = omega arith in
      record {
        within = omega arith;
        count = rw (e, rest_all s) (omega arith);
        text = rw (e, rest_all s) refl;
        agree = rw (e, rest_all s) refl;
      }

  one_more : (n k : ℕ) → n < length s → k < length s
      → after n k
      ≡ record {
        val = (file_line (rest s k)).val ∷ (file_lines (length s - (n + 1)) (file_line (rest s k)).text).val;
        text = (file_lines (length s - (n + 1)) (file_line (rest s k)).text).text;
      }
  unfolding file_lines
  one_more n k h p =
      let e : length s - n ≡ suc (length s - (n + 1)) = omega arith in
      rw (e, rest_cons s k p) refl

  pub line_scanned : {n k k' : ℕ} {b b' : Bool} {f : FileKernel} → Scanned n k b → n < length s → k < length s
      → got s f k' ≡ file_line (rest s k) → b' ≡ (b && alike d f) → Scanned (n + 1) k' b'
  line_scanned {n} {k} {k'} {b} {b'} {f} z h p e g =
      let m = length s - (n + 1) in
      let q : after n k ≡ record { val = f ∷ (after (n + 1) k').val; text = (after (n + 1) k').text }
      = one_more n k h p
      ∙ sym (λ i. record { val = (e i).val ∷ (file_lines m (e i).text).val; text = (file_lines m (e i).text).text }) in
      let c = ap (λ (x : Got (List FileKernel)). length x.val) q in
      record {
        within = omega arith;
        count = omega (arith, z.count, c);
        text = z.text ∙ ap (λ (x : Got (List FileKernel)). x.text) q;
        agree =
            z.agree ∙ ap (λ (x : Got (List FileKernel)). b && all_alike_lem d x.val) q
            ∙ sym (and_assoc b (alike d f) (all_alike_lem d (after (n + 1) k').val))
            ∙ sym (ap (λ (x : Bool). x && all_alike_lem d (after (n + 1) k').val) g);
      }

  -- what was found, where no line is left to be read
  pub record Found (n k : ℕ) (same : Bool) : Type 0 where
    pub lines : n ≡ length total.val
    pub agree : same ≡ all_alike_lem d total.val
    pub text : total.text ≡ rest s k

  found : {n k : ℕ} {b : Bool} → Scanned n k b → after n k ≡ nothing (rest s k) → Found n k b
  found {n} {k} {b} z q =
      let c = ap (λ (x : Got (List FileKernel)). length x.val) q in
      record {
        lines = omega (arith, z.count, c);
        agree = sym (z.agree ∙ ap (λ (x : Got (List FileKernel)). b && all_alike_lem d x.val) q ∙ and-true b);
        text = z.text ∙ ap (λ (x : Got (List FileKernel)). x.text) q;
      }

  pub found_end : {n k : ℕ} {b : Bool} → Scanned n k b → length s ≤ k → Found n k b
  found_end {n} {k} z h =
      found z
      (rest-none (λ (t : Text). file_lines (length s - n) t ≡ nothing t) s k h (at_lost (length s - n))
      (at_end (length s - n)))

  pub found_many : {n k : ℕ} {b : Bool} → Scanned n k b → length s ≤ n → Found n k b
  found_many {n} {k} z h =
      let e : length s - n ≡ 0 = omega arith in
      found z (ap (λ (m : ℕ). file_lines m (rest s k)) e ∙ none_asked (rest s k))

-- whether a position is the text's end
pub ended_is : (s : List ℕ) (k : ℕ) → eqb k (length s) ≡ ended (rest s k)
ended_is s k = go (eqb k (length s)) refl (dec_lt k (length s))
  where
    go : (b : Bool) → eqb k (length s) ≡ b → Dec (k < length s) → b ≡ ended (rest s k)
    go true e d = sym (ap (λ (j : ℕ). ended (rest s j)) (eqb-true k (length s) e) ∙ ap ended (rest_end s))
    go false e (yes h) = sym (ap ended (rest_cons s k h))
    go false e (no h) = let n = eqb-false k (length s) e in sym (ap ended (rest_out s k (omega (arith, n, h))))
