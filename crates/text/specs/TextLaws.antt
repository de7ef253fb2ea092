-- What the text at a position is. Assumes nothing.
use Rattle.std.specs.Prelude.{◌≡◌, refl, List, [], ◌∷◌, Bool, true, false, ◌&&◌, cond, ℕ, zero, suc, ◌+◌, ◌*◌, ◌<◌, ◌≤◌, length, drop, get_or, leb, ltb}
use Rattle.std.proofs.Common.{sym, ap, ◌∙◌, add-one, arith, drop_of_length-le, drop-cons, le-leb}
use Rattle.std.proofs.lemmas.Bool.{false≢true, lt-leb}
use Rattle.std.proofs.Math.Seq.{drop-length}
use Rattle.text.specs.Text.{Text, lost, left, rest, digit, pattern_from, missing}

pub rest_in : (s : List ℕ) (k : ℕ) → k ≤ length s → rest s k ≡ left (drop k s)
unfolding rest
rest_in s k h = rw (le-leb k (length s) h)

pub rest_out : (s : List ℕ) (k : ℕ) → length s < k → rest s k ≡ lost
unfolding rest
rest_out s k h = rw (lt-leb k (length s) h)

pub rest-past : (s : List ℕ) → rest s (length s + 1) ≡ lost
rest-past s = rest_out s (length s + 1) (omega arith)

pub rest_end : (s : List ℕ) → rest s (length s) ≡ left []
rest_end s = rest_in s (length s) (omega arith) ∙ ap left (drop-length s)

pub rest_all : (s : List ℕ) → rest s 0 ≡ left s
rest_all s = rest_in s 0 (omega arith)

-- a byte is there: it, and the text after it
pub rest_cons : (s : List ℕ) (k : ℕ) → k < length s → rest s k ≡ left (get_or s k 0 ∷ drop (suc k) s)
rest_cons s k h = rest_in s k (omega arith) ∙ ap left (drop-cons s k 0 h)

pub rest-next : (s : List ℕ) (k : ℕ) → k < length s → rest s (k + 1) ≡ left (drop (suc k) s)
rest-next s k h = rw (add-one k) (rest_in s (suc k) (omega arith))

-- no byte is there: what holds of no text and of the empty text holds
either : (P : Text → Type 0) (b : Bool) → P lost → P (left []) → P (cond b (left []) lost)
either P true x y = y
either P false x y = x

pub rest-none : (P : Text → Type 0) (s : List ℕ) (k : ℕ) → length s ≤ k → P lost → P (left []) → P (rest s k)
unfolding rest
rest-none P s k h x y = rw (drop_of_length-le s h) (either P (leb k (length s)) x y)

-- whether k hexadecimal digits stand first in a text
unfoldable pub hexes : ℕ → Text → Bool
hexes zero t = true
hexes (suc k) lost = false
hexes (suc k) (left []) = false
hexes (suc k) (left (b ∷ l)) = ltb (digit b) 16 && hexes k (left l)

-- where they do not, no number is read
pub no_pattern : (k v : ℕ) (t : Text) → hexes k t ≡ false → pattern_from k v t ≡ missing
unfolding hexes pattern_from
no_pattern zero v t h = absurd (false≢true (sym h))
no_pattern (suc k) v lost h = refl
no_pattern (suc k) v (left []) h = refl
no_pattern (suc k) v (left (b ∷ l)) h = go (ltb (digit b) 16) h (no_pattern k (v * 16 + digit b) (left l))
  where
    go : (g : Bool) → g && hexes k (left l) ≡ false
        → (hexes k (left l) ≡ false → pattern_from k (v * 16 + digit b) (left l) ≡ missing)
        → cond g (pattern_from k (v * 16 + digit b) (left l)) missing ≡ missing
    go true h ih = ih h
    go false h ih = refl
