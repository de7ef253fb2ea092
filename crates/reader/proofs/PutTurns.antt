-- A turn of the check of puts. Assumes nothing.
use Rattle.std.specs.Prelude.{Option, Some, None, MatchOption, ◌≢◌, ◌⊎◌}
use Rattle.std.proofs.Common.{inl, inr, eq-eqb, ne_eqb}
use Rattle.std.proofs.Math.Decide.{dec_lt}
use mathlib.Core.Path.{◌≡◌, refl, sym, ap, ◌∙◌}
use mathlib.Core.List.{List, ◌∷◌}
use mathlib.Core.Bool.{Bool, true, ◌&&◌}
use Prim.Native.Nat.{ℕ, suc, ◌+◌, ◌-◌, ◌<◌, ◌≤◌}
use native.Mathlib.Nat.{sub-zero}
use native.Mathlib.Omega.{arith}
use lib.Dec.{ltb}
use lib.ListN.{length, get_or, drop}
use Rattle.text.specs.Text.{Text, lost, left, rest, Got}
use Rattle.text.specs.TextLaws.{rest_cons}
use Rattle.text.specs.Form.{Vals, read}
use Rattle.script.specs.Lines.{put_line}
use Rattle.reader.specs.ReadOf.{lines_to, place_in, layer_in, places_in, layers_in}
use Rattle.reader.specs.ReadLaws.{to_none, to_more, at_end, Ends, place_more, layer_more, place_none, layer_none}
use Rattle.reader.specs.declared.read.Puts.{Puts}

-- a put's line more: the lines after it, with p and l for its place and layer, say what they say with it
pub record PutTurn (turns : ℕ) (t u : Text) (placed layered : Bool) (p l : ℕ) : Type 0 where
  pub text : (lines_to put_line (turns - 1) u).text ≡ (lines_to put_line turns t).text
  pub count : length (lines_to put_line turns t).val ≡ suc (length (lines_to put_line (turns - 1) u).val)
  pub places : (placed && ltb p 32) && places_in (lines_to put_line (turns - 1) u).val
      ≡ placed && places_in (lines_to put_line turns t).val
  pub layers : (layered && ltb l 16) && layers_in (lines_to put_line (turns - 1) u).val
      ≡ layered && layers_in (lines_to put_line turns t).val

pub put_turn_lem : (s : List ℕ) (k turns : ℕ) (u : Text) (placed layered : Bool) (p l : ℕ) → k < length s → 0 < turns
    → u ≡ (read put_line (rest s k)).text → p ≡ place_in (read put_line (rest s k)).val
    → l ≡ layer_in (read put_line (rest s k)).val → PutTurn turns (rest s k) u placed layered p l
put_turn_lem s k turns u placed layered p l h more ends place layer =
    let c = rest_cons s k h in
    let b = get_or s k 0 in
    let m = drop (suc k) s in
    let r = lines_to put_line (turns - 1) u in
    let v = (read put_line (left (b ∷ m))).val in
    let e = ap (lines_to put_line turns) c
    ∙ to_more put_line b m turns u more (ends ∙ (λ i. (read put_line (c i)).text)) in
    record {
      text = sym (λ i. (e i).text);
      count = λ i. length (e i).val;
      places = place_more placed p v r.val (place ∙ (λ i. place_in (read put_line (c i)).val))
          ∙ (λ i. placed && places_in (sym e i).val);
      layers = layer_more layered l v r.val (layer ∙ (λ i. layer_in (read put_line (c i)).val))
          ∙ (λ i. layered && layers_in (sym e i).val);
    }

-- after i turns of the check, at position k: the lines that are left, with what was found, say what all say
pub record SoFar (s : List ℕ) (at i k : ℕ) (placed layered : Bool) : Type 0 where
  pub text : (lines_to put_line (length s - i) (rest s k)).text ≡ (lines_to put_line (length s) (rest s at)).text
  pub count : i + length (lines_to put_line (length s - i) (rest s k)).val
      ≡ length (lines_to put_line (length s) (rest s at)).val
  pub places : placed && places_in (lines_to put_line (length s - i) (rest s k)).val
      ≡ places_in (lines_to put_line (length s) (rest s at)).val
  pub layers : layered && layers_in (lines_to put_line (length s - i) (rest s k)).val
      ≡ layers_in (lines_to put_line (length s) (rest s at)).val

pub so_far_first : (s : List ℕ) (at : ℕ) → SoFar s at 0 at true true
so_far_first s at =
    record {
      text = rw sub-zero refl;
      count = rw sub-zero (omega arith);
      places = rw sub-zero refl;
      layers = rw sub-zero refl;
    }

pub so_far_next : {s : List ℕ} {at i k k' : ℕ} {placed layered : Bool} {p l : ℕ} → i < length s
    → SoFar s at i k placed layered → PutTurn (length s - i) (rest s k) (rest s k') placed layered p l
    → SoFar s at (i + 1) k' (placed && ltb p 32) (layered && ltb l 16)
so_far_next {s} {at} {i} {k} {k'} {placed} {layered} {p} {l} h f t =
    let e : length s - (i + 1) ≡ length s - i - 1 = omega arith in
    let m : i + 1 + length (lines_to put_line (length s - i - 1) (rest s k')).val
    ≡ length (lines_to put_line (length s) (rest s at)).val
    = omega (arith, f.count, t.count) in
    record {
      text = rw e (t.text ∙ f.text);
      count = rw e m;
      places = rw e (t.places ∙ f.places);
      layers = rw e (t.layers ∙ f.layers);
    }

module _ {s : List ℕ} {at i k : ℕ} {placed layered : Bool} (f : SoFar s at i k placed layered) where
  abbrev here : Got (List (Vals put_line))
  here = lines_to put_line (length s - i) (rest s k)

  ends_whole : k ≡ length s → Ends s at i placed layered
  ends_whole e =
      let g = at_end put_line s k (length s - i) (omega arith) in
      record {
        text = sym f.text ∙ (λ j. (g j).text) ∙ rw (eq-eqb k (length s) e) refl;
        count = omega (arith, f.count, ap (λ (x : Got (List (Vals put_line))). length x.val) g);
        places = sym (place_none placed) ∙ (λ j. placed && places_in (sym g j).val) ∙ f.places;
        layers = sym (layer_none layered) ∙ (λ j. layered && layers_in (sym g j).val) ∙ f.layers;
      }

  past : (k ≡ length s → ⊥) → length s ≤ k → here.text ≡ lost
  past n h = (λ j. (at_end put_line s k (length s - i) h j).text) ∙ rw (ne_eqb k (length s) n) refl

  ends_lost : (k ≡ length s → ⊥) → (length s ≤ k) ⊎ (length s ≤ i) → here.text ≡ lost
  ends_lost n (inl h) = past n h
  ends_lost n (inr h) = go (dec_lt k (length s))
    where
      go : Dec (k < length s) → here.text ≡ lost
      go (yes l) =
          (λ j. (lines_to put_line (length s - i) (rest_cons s k l j)).text)
          ∙ (λ j. (to_none put_line (get_or s k 0) (drop (suc k) s) (length s - i) (omega arith) j).text)
      go (no l) = past n (omega arith)

  pub puts_found : (length s ≤ k) ⊎ (length s ≤ i) → (r : Option Puts)
      → MatchOption r (k ≢ length s)
      (λ p. (k ≡ length s) × (p ≡ record { count = i; placed = placed; layered = layered }))
      → MatchOption r ((lines_to put_line (length s) (rest s at)).text ≡ lost)
      (λ p. Ends s at p.count p.placed p.layered)
  puts_found w None n = sym f.text ∙ ends_lost n w
  puts_found w (Some p) m = rw m.1 (ends_whole m.0)
