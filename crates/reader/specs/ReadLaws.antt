-- Lines read one after the other. Assumes nothing.
use Rattle.std.specs.Prelude.{◌≡◌, Bool, true, false, ◌&&◌, cond, eqb, ltb, Float, length}
use Rattle.std.proofs.Math.Path.{refl, ap}
use Rattle.std.proofs.Common.{sym, ◌∙◌, eqb-true, ltb-true}
use mathlib.Core.List.{List, [], ◌∷◌}
use Prim.Native.Nat.{ℕ, zero, suc, ◌+◌, ◌-◌, ◌*◌, ◌<◌, ◌≤◌}
use native.Mathlib.Omega.{arith}
use Rattle.std.proofs.Math.Decide.{dec_lt}
use Rattle.text.specs.Tokens.{not_lost}
use Rattle.text.specs.Text.{Text, lost, left, rest, Got}
use Rattle.text.specs.TextLaws.{rest_end, rest_out}
use Rattle.base.specs.Answers.{Answer, done}
use Rattle.layout.specs.After.{After, after}
use Rattle.store.specs.Puts.{put_step_lem}
use Rattle.std.proofs.lemmas.Bool.{eqb-false}
use Rattle.layout.specs.SoundLaws.{both}
use Rattle.text.specs.Form.{Form, Vals, read}
use Rattle.text.specs.FormLaws.{read_lost}
use Rattle.script.specs.Lines.{vert_line, face_line, put_line}
use Rattle.reader.specs.ReadOf.{more, lines_from, lines_to, coords_in, corners_in, place_in, kernel_in, layer_in, places_in, layers_in, puts_on}

-- ---- n lines

pub from_lost : (f : Form) (n : ℕ) → (lines_from f n lost).text ≡ lost
unfolding lines_from
from_lost f zero = refl
from_lost f (suc n) = ap (λ (t : Text). (lines_from f n t).text) (read_lost f) ∙ from_lost f n

-- a line more
pub from_more : (f : Form) (n i : ℕ) (t u : Text) (v : Vals f) → i < n → record { val = v; text = u } ≡ read f t
    → lines_from f (n - i) t ≡ more v (lines_from f (n - (i + 1)) u)
unfolding lines_from
from_more f n i t u v h e =
    let k : n - i ≡ suc (n - (i + 1)) = omega arith in
    rw k (λ j. more (sym e j).val (lines_from f (n - (i + 1)) (sym e j).text))

-- and by what it says itself
pub from_next : (f : Form) (n i : ℕ) (t u : Text) → i < n → u ≡ (read f t).text
    → lines_from f (n - i) t ≡ more (read f t).val (lines_from f (n - (i + 1)) u)
from_next f n i t u h e =
    from_more f n i t (read f t).text (read f t).val h refl
    ∙ (λ j. more (read f t).val (lines_from f (n - (i + 1)) (sym e j)))

pub from-none : (f : Form) (n i : ℕ) (t : Text) → n ≤ i → lines_from f (n - i) t ≡ record { val = []; text = t }
unfolding lines_from
from-none f n i t h = let k : n - i ≡ 0 = omega arith in rw k refl

pub coords_count : (n : ℕ) (t : Text) → length (coords_in (lines_from vert_line n t).val) ≡ 3 * n
unfolding lines_from
coords_count zero t = refl
coords_count (suc n) t = let e = coords_count n (read vert_line t).text in omega arith

pub corners_count : (n : ℕ) (t : Text) → length (corners_in (lines_from face_line n t).val) ≡ 3 * n
unfolding lines_from
corners_count zero t = refl
corners_count (suc n) t = let e = corners_count n (read face_line t).text in omega arith

-- ---- lines to the end

module _ (f : Form) where
  pub to_whole : (m : ℕ) → lines_to f m (left []) ≡ record { val = []; text = left [] }
  unfolding lines_to
  to_whole zero = refl
  to_whole (suc m) = refl

  pub to_lost : (m : ℕ) → lines_to f m lost ≡ record { val = []; text = lost }
  unfolding lines_to
  to_lost zero = refl
  to_lost (suc m) = refl

  pub to_none : (b : ℕ) (l : List ℕ) (m : ℕ) → m ≡ 0 → lines_to f m (left (b ∷ l)) ≡ record { val = []; text = lost }
  unfolding lines_to
  to_none b l m e = rw e refl

  pub to_more : (b : ℕ) (l : List ℕ) (m : ℕ) (u : Text) → 0 < m → u ≡ (read f (left (b ∷ l))).text
      → lines_to f m (left (b ∷ l)) ≡ more (read f (left (b ∷ l))).val (lines_to f (m - 1) u)
  unfolding lines_to
  to_more b l zero u h e = absurd (omega arith)
  to_more b l (suc m) u h e =
      let k : suc m - 1 ≡ m = omega arith in
      rw k (λ j. more (read f (left (b ∷ l))).val (lines_to f m (sym e j)))

  -- and as many lines as they are
  pub to_from : (m : ℕ) (t : Text) → (lines_to f m t).val ≡ (lines_from f (length (lines_to f m t).val) t).val
  unfolding lines_to lines_from
  to_from zero lost = refl
  to_from zero (left []) = refl
  to_from zero (left (b ∷ l)) = refl
  to_from (suc m) lost = refl
  to_from (suc m) (left []) = refl
  to_from (suc m) (left (b ∷ l)) =
      ap (λ (vs : List (Vals f)). (read f (left (b ∷ l))).val ∷ vs) (to_from m (read f (left (b ∷ l))).text)

  -- at or past the end
  pub at_end : (s : List ℕ) (k m : ℕ) → length s ≤ k
      → lines_to f m (rest s k) ≡ record { val = []; text = cond (eqb k (length s)) (left []) lost }
  at_end s k m h = go (eqb k (length s)) refl
    where
      go : (b : Bool) → eqb k (length s) ≡ b
          → lines_to f m (rest s k) ≡ record { val = []; text = cond b (left []) lost }
      go true e = let d = eqb-true k (length s) e in ap (λ (j : ℕ). lines_to f m (rest s j)) d
          ∙ ap (lines_to f m) (rest_end s) ∙ to_whole m
      go false e = let d = eqb-false k (length s) e in ap (lines_to f m) (rest_out s k (omega arith)) ∙ to_lost m

-- what the check of the put lines finds, where they are all that follows: how many, and whether each names a place and
-- each a layer
pub record Ends (s : List ℕ) (at : ℕ) (n : ℕ) (placed layered : Bool) : Type 0 where
  pub text : (lines_to put_line (length s) (rest s at)).text ≡ left []
  pub count : n ≡ length (lines_to put_line (length s) (rest s at)).val
  pub places : placed ≡ places_in (lines_to put_line (length s) (rest s at)).val
  pub layers : layered ≡ layers_in (lines_to put_line (length s) (rest s at)).val

pub and_assoc : (x y z : Bool) → (x && y) && z ≡ x && (y && z)
and_assoc true y z = refl
and_assoc false y z = refl

pub and_end : (x : Bool) → x && true ≡ x
and_end true = refl
and_end false = refl

module _ (x : Bool) (n : ℕ) (v : Vals put_line) (vs : List (Vals put_line)) where
  pub place_more : n ≡ place_in v → (x && ltb n 32) && places_in vs ≡ x && places_in (v ∷ vs)
  unfolding places_in
  place_more e = and_assoc x (ltb n 32) (places_in vs) ∙ (λ i. x && (ltb (e i) 32 && places_in vs))

  pub layer_more : n ≡ layer_in v → (x && ltb n 16) && layers_in vs ≡ x && layers_in (v ∷ vs)
  unfolding layers_in
  layer_more e = and_assoc x (ltb n 16) (layers_in vs) ∙ (λ i. x && (ltb (e i) 16 && layers_in vs))

module _ (x : Bool) where
  pub place_none : x && places_in [] ≡ x
  unfolding places_in
  place_none = and_end x

  pub layer_none : x && layers_in [] ≡ x
  unfolding layers_in
  layer_none = and_end x

-- the first of lines that name a place, and a layer
module _ (v : Vals put_line) (vs : List (Vals put_line)) where
  pub place_first : places_in (v ∷ vs) ≡ true → (place_in v < 32) × (places_in vs ≡ true)
  unfolding places_in
  place_first h = let b = both (ltb (place_in v) 32) (places_in vs) h in (ltb-true (place_in v) 32 b.0, b.1)

  pub layer_first : layers_in (v ∷ vs) ≡ true → (layer_in v < 16) × (layers_in vs ≡ true)
  unfolding layers_in
  layer_first h = let b = both (ltb (layer_in v) 16) (layers_in vs) h in (ltb-true (layer_in v) 16 b.0, b.1)

-- ---- puts: what they leave does not depend on the answer before them

pub puts_reply : (q : ℕ) (vs : List (Vals put_line)) (r r' : Answer) (fs : List Float) (ws : List ℕ)
    → ((puts_on q vs (after r fs ws)).floats ≡ (puts_on q vs (after r' fs ws)).floats)
    × ((puts_on q vs (after r fs ws)).words ≡ (puts_on q vs (after r' fs ws)).words)
unfolding puts_on
puts_reply q [] r r' fs ws = (refl, refl)
puts_reply q (v ∷ vs) r r' fs ws = (refl, refl)

pub puts_turn : (q : ℕ) (v : Vals put_line) (vs : List (Vals put_line)) (fs : List Float) (ws : List ℕ) (r : Answer)
    (fs' : List Float) (ws' : List ℕ)
    → after r fs' ws' ≡ put_step_lem q fs ws (place_in v) (kernel_in v) (layer_in v)
    → ((puts_on q vs (after done fs' ws')).floats ≡ (puts_on q (v ∷ vs) (after done fs ws)).floats)
    × ((puts_on q vs (after done fs' ws')).words ≡ (puts_on q (v ∷ vs) (after done fs ws)).words)
unfolding puts_on
puts_turn q v vs fs ws r fs' ws' e =
    let p = puts_reply q vs done r fs' ws' in
    (p.0 ∙ ap (λ (a : After). (puts_on q vs a).floats) e, p.1 ∙ ap (λ (a : After). (puts_on q vs a).words) e)

pub puts_none : (q : ℕ) (a : After) → puts_on q [] a ≡ a
unfolding puts_on
puts_none q a = refl

-- lines that end were not read past the end
pub ended_in : (f : Form) (s : List ℕ) (m b : ℕ) → (lines_to f m (rest s b)).text ≡ left [] → b ≤ length s
ended_in f s m b e = go (dec_lt (length s) b)
  where
    go : Dec (length s < b) → b ≤ length s
    go (yes l) =
        not_lost (sym (ap (λ (g : Got (List (Vals f))). g.text) (ap (lines_to f m) (rest_out s b l) ∙ to_lost f m)) ∙ e)
    go (no l) = omega arith
