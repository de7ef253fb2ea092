-- A form reads back what it prints, and reads nothing else. Assumes nothing.
use Rattle.std.specs.Prelude.{◌≡◌, refl, List, [], ◌∷◌, ◌++◌, Bool, true, false, not, ◌&&◌, ◌||◌, ◌⊎◌, ℕ, ◌<◌, ◌≤◌, ◌^◌, T, eqb, leb, ltb, length, Float}
use Rattle.std.proofs.Common.{sym, ap, subst, ◌∙◌, append_assoc, append-nil, inl, inr, leb→le, ltb→lt, le-ltb}
use Rattle.std.specs.Float.{binary64}
use Rattle.std.specs.Float.Ieee.{to_bits, is_nan}
use Rattle.std.specs.Float.Ieee.Bits.{of_bits-to_bits, to_bits-lt, to_bits-of_bits}
use Rattle.base.specs.Floats.{bits}
use Rattle.text.specs.Text.{Text, lost, left, Got, got, strip, keep_if, digit, pattern, pattern_from, float, decimal}
use Rattle.text.specs.Print.{decimal_text, pattern_text, float_text}
use Rattle.text.specs.Form.{Form, end, word, number, real, either, Vals, map, choose, or_at, or, pair, read, print, Spells, Fit, NoNan, differ, other, no_hex, apart, stops, clear}
use Rattle.text.specs.TextLaws.{rest_in, rest_out}
use Rattle.text.specs.Tokens.{literal-back, literal_inv, not_lost, pattern-back, pattern_inv, NoDigit, decimal-back, decimal_inv}

-- ---- what is printed spells the values

pub printed : (f : Form) (v : Vals f) (r : List ℕ) → Fit f v → Spells f v (print f v ++ r) r
printed end v r h = refl
printed (word p f) v r h = (print f v ++ r, append_assoc p (print f v) r, printed f v r h)
printed (number most f) v r h =
    (print f v.1 ++ r, append_assoc (decimal_text v.0) (print f v.1) r, h.0, printed f v.1 r h.1)
printed (real f) v r h = (
  to_bits binary64 v.0,
  print f v.1 ++ r,
  append_assoc (float_text v.0) (print f v.1) r,
  to_bits-lt binary64 v.0 h.0,
  of_bits-to_bits binary64 v.0 h.0,
  printed f v.1 r h.1,
)
printed (either a b f) (inl v, w) r h = (
  print f w ++ r,
  subst (λ (l : List ℕ). Spells a v l (print f w ++ r))
      (sym (append_assoc (print a v) (print f w) r)) (printed a v (print f w ++ r) h.0),
  printed f w r h.1,
)
printed (either a b f) (inr v, w) r h = (
  print f w ++ r,
  subst (λ (l : List ℕ). Spells b v l (print f w ++ r))
      (sym (append_assoc (print b v) (print f w) r)) (printed b v (print f w ++ r) h.0),
  printed f w r h.1,
)

-- ---- without a NaN there is one spelling, the printed one

pub spelled : (f : Form) (v : Vals f) (l r : List ℕ) → NoNan f v → Spells f v l r → l ≡ print f v ++ r
spelled end v l r n s = s
spelled (word p f) v l r n s = s.1 ∙ ap (p ++◌) (spelled f v s.0 r n s.2) ∙ sym (append_assoc p (print f v) r)
spelled (number most f) v l r n s =
    s.1 ∙ ap (decimal_text v.0 ++◌) (spelled f v.1 s.0 r n s.3)
    ∙ sym (append_assoc (decimal_text v.0) (print f v.1) r)
spelled (real f) v l r n s =
    let q = s.4 in
    let e : s.0 ≡ to_bits binary64 v.0 = sym
    (to_bits-of_bits binary64 s.0 s.3 (subst (λ (x : Float). T (not (is_nan x))) (sym q) n.0))
    ∙ ap (to_bits binary64) q in
    s.2 ∙ (λ i. pattern_text (e i) ++ spelled f v.1 s.1 r n.1 s.5 i)
    ∙ sym (append_assoc (float_text v.0) (print f v.1) r)
spelled (either a b f) (inl v, w) l r n s =
    spelled a v l s.0 n.0 s.1 ∙ ap (print a v ++◌) (spelled f w s.0 r n.1 s.2)
    ∙ sym (append_assoc (print a v) (print f w) r)
spelled (either a b f) (inr v, w) l r n s =
    spelled b v l s.0 n.0 s.1 ∙ ap (print b v ++◌) (spelled f w s.0 r n.1 s.2)
    ∙ sym (append_assoc (print b v) (print f w) r)

-- ---- what spells the values is read as them

both : (a b : Bool) → T (a && b) → T a × T b
both true b t = (tt, t)
both false b t = absurd t

clear-number : (most : ℕ) (f : Form) → T (clear (number most f))
    → (9 ≤ most) × (most < 2 ^ 64) × T (stops f) × T (clear f)
clear-number most f c =
    let x = both (leb 9 most) (ltb most (2 ^ 64) && (stops f && clear f)) c in
    let y = both (ltb most (2 ^ 64)) (stops f && clear f) x.1 in
    let z = both (stops f) (clear f) y.1 in
    (leb→le 9 most x.0, ltb→lt most (2 ^ 64) y.0, z.0, z.1)

clear-either : (a b f : Form) → T (clear (either a b f)) → T (apart a b) × T (clear a) × T (clear b) × T (clear f)
clear-either a b f c =
    let x = both (apart a b) (clear a && (clear b && clear f)) c in
    let y = both (clear a) (clear b && clear f) x.1 in
    let z = both (clear b) (clear f) y.1 in
    (x.0, y.0, z.0, z.1)

or_second : {A : Type 0} (g h : Got A) → g.text ≡ lost → or g h ≡ h
or_second g h e = (λ i. or_at (e i) g h)

-- a form finds nothing where the text before it was lost
pub read_lost : (f : Form) → (read f lost).text ≡ lost
unfolding decimal float pattern_from
read_lost end = refl
read_lost (word p f) = read_lost f
read_lost (number most f) = read_lost f
read_lost (real f) = read_lost f
read_lost (either a b f) =
    ap (λ (t : Text). (read f t).text) (ap (λ (g : Got (Vals a ⊎ Vals b)). g.text)
    (or_second (map inl (read a lost)) (map inr (read b lost)) (read_lost a)) ∙ read_lost b)
    ∙ read_lost f

strip-differ : (p q m : List ℕ) → T (differ p q) → strip p (q ++ m) ≡ lost
strip-differ [] q m d = absurd d
strip-differ (a ∷ p) [] m d = absurd d
strip-differ (a ∷ p) (b ∷ q) m d = go (eqb b a) d (strip-differ p q m)
  where
    go : (t : Bool) → T (not t || differ p q) → (T (differ p q) → strip p (q ++ m) ≡ lost)
        → keep_if t (strip p (q ++ m)) ≡ lost
    go true d ih = ih d
    go false d ih = refl

other_lost : (p : List ℕ) (f : Form) (v : Vals f) (l r : List ℕ) → T (other p f) → Spells f v l r → strip p l ≡ lost
other_lost p end v l r o s = absurd o
other_lost p (word q f) v l r o s = ap (strip p) s.1 ∙ strip-differ p q s.0 o
other_lost p (number most f) v l r o s = absurd o
other_lost p (real f) v l r o s = absurd o
other_lost p (either a b f) (inl v, w) l r o s = other_lost p a v l s.0 (both (other p a) (other p b) o).0 s.1
other_lost p (either a b f) (inr v, w) l r o s = other_lost p b v l s.0 (both (other p a) (other p b) o).1 s.1

-- no float is found where the form begins with no digit of one
first_hex : (b : ℕ) (m : List ℕ) → 16 ≤ digit b → (float (left (b ∷ m))).text ≡ lost
unfolding float pattern_from
first_hex b m h = rw (le-ltb (digit b) 16 h) refl

hex_lost : (f : Form) (v : Vals f) (l r : List ℕ) → T (no_hex f) → Spells f v l r → (float (left l)).text ≡ lost
hex_lost end v l r o s = absurd o
hex_lost (word [] f) v l r o s = hex_lost f v l r o (subst (λ (m : List ℕ). Spells f v m r) (sym s.1) s.2)
hex_lost (word (b ∷ p) f) v l r o s =
    ap (λ (m : List ℕ). (float (left m)).text) s.1 ∙ first_hex b (p ++ s.0) (leb→le 16 (digit b) o)
hex_lost (number most f) v l r o s = absurd o
hex_lost (real f) v l r o s = absurd o
hex_lost (either a b f) (inl v, w) l r o s = hex_lost a v l s.0 (both (no_hex a) (no_hex b) o).0 s.1
hex_lost (either a b f) (inr v, w) l r o s = hex_lost b v l s.0 (both (no_hex a) (no_hex b) o).1 s.1

-- the one form finds nothing where the other stands
apart_lost : (f g : Form) (v : Vals g) (l r : List ℕ) → T (apart f g) → Spells g v l r → (read f (left l)).text ≡ lost
apart_lost end g v l r o s = absurd o
apart_lost (word p f) g v l r o s = ap (λ (t : Text). (read f t).text) (other_lost p g v l r o s) ∙ read_lost f
apart_lost (number most f) g v l r o s = absurd o
apart_lost (real f) g v l r o s = ap (λ (t : Text). (read f t).text) (hex_lost g v l r o s) ∙ read_lost f
apart_lost (either a b f) g v l r o s =
    ap (λ (t : Text). (read f t).text)
    (ap (λ (h : Got (Vals a ⊎ Vals b)). h.text)
    (or_second (map inl (read a (left l))) (map inr (read b (left l)))
    (apart_lost a g v l r (both (apart a g) (apart b g) o).0 s))
    ∙ apart_lost b g v l r (both (apart a g) (apart b g) o).1 s)
    ∙ read_lost f

no_digit : (f : Form) (v : Vals f) (l r : List ℕ) → T (stops f) → Spells f v l r → NoDigit l
no_digit end v l r o s = absurd o
no_digit (word [] f) v l r o s = no_digit f v l r o (subst (λ (m : List ℕ). Spells f v m r) (sym s.1) s.2)
no_digit (word (b ∷ p) f) v l r o s = subst NoDigit (sym s.1) (leb→le 10 (digit b) o)
no_digit (number most f) v l r o s = absurd o
no_digit (real f) v l r o s = absurd o
no_digit (either a b f) (inl v, w) l r o s = no_digit a v l s.0 (both (stops a) (stops b) o).0 s.1
no_digit (either a b f) (inr v, w) l r o s = no_digit b v l s.0 (both (stops a) (stops b) o).1 s.1

pair_is : {A B : Type 0} (k : Text → Got B) {g : Got A} {x : A} {y : B} {m r : List ℕ}
    → g ≡ record { val = x; text = left m } → k (left m) ≡ record { val = y; text = left r }
    → pair g k ≡ record { val = (x, y); text = left r }
pair_is k {x = x} e h = (λ i. pair (e i) k) ∙ (λ i. record { val = (x, (h i).val); text = (h i).text })

float_is : (n : ℕ) (x : Float) (l m : List ℕ) → l ≡ pattern_text n ++ m → n < 2 ^ 64 → bits n ≡ x
    → float (left l) ≡ record { val = x; text = left m }
unfolding float
float_is n x l m e h q =
    (λ i. record { val = bits (pattern (left (e i))).val; text = (pattern (left (e i))).text })
    ∙ (λ i. record { val = bits (pattern-back n m h i).val; text = (pattern-back n m h i).text })
    ∙ (λ i. record { val = q i; text = left m })

pub reads : (f : Form) (v : Vals f) (l r : List ℕ) → T (clear f) → Spells f v l r
    → read f (left l) ≡ record { val = v; text = left r }
reads end v l r c s = (λ i. record { val = tt; text = left (s i) })
reads (word p f) v l r c s = ap (read f) (ap (strip p) s.1 ∙ literal-back p s.0) ∙ reads f v s.0 r c s.2
reads (number most f) v l r c s =
    pair_is (read f)
    (ap (λ (x : List ℕ). decimal most (left x)) s.1
    ∙ decimal-back most v.0 s.0 s.2 (clear-number most f c).1
    (no_digit f v.1 s.0 r (clear-number most f c).2 s.3))
    (reads f v.1 s.0 r (clear-number most f c).3 s.3)
reads (real f) v l r c s =
    pair_is (read f) (float_is s.0 v.0 l s.1 s.2 s.3 s.4) (reads f v.1 s.1 r c s.5)
reads (either a b f) (inl v, w) l r c s =
    pair_is (read f) (λ i. or (map inl (reads a v l s.0 (clear-either a b f c).1 s.1 i))
    (map inr (read b (left l)))) (reads f w s.0 r (clear-either a b f c).3 s.2)
reads (either a b f) (inr v, w) l r c s =
    pair_is (read f)
    (or_second (map inl (read a (left l))) (map inr (read b (left l)))
    (apart_lost a b v l s.0 (clear-either a b f c).0 s.1)
    ∙ ap (map inr) (reads b v l s.0 (clear-either a b f c).2 s.1))
    (reads f w s.0 r (clear-either a b f c).3 s.2)

-- ---- what was read spells the values

abbrev SpellsAt : (f : Form) → Vals f → Text → List ℕ → Type 0
SpellsAt f v lost r = ⊥
SpellsAt f v (left l) r = Spells f v l r

there : (f : Form) (v : Vals f) (t : Text) (r : List ℕ) → SpellsAt f v t r
    → (m : List ℕ) × (t ≡ left m) × Spells f v m r
there f v lost r s = absurd s
there f v (left l) r s = (l, refl, s)

one_of : (a b f : Form) (g : Got (Vals a)) (h : Got (Vals b)) (t : Text) (w : Vals f) (l m r : List ℕ)
    → (g.text ≡ left m → Spells a g.val l m) → (h.text ≡ left m → Spells b h.val l m)
    → (or_at t (map inl g) (map inr h)).text ≡ left m → Spells f w m r
    → Spells (either a b f) ((or_at t (map inl g) (map inr h)).val, w) l r
one_of a b f g h lost w l m r p q e s = (m, q e, s)
one_of a b f g h (left k) w l m r p q e s = (m, p e, s)

spells_at : (f : Form) (t : Text) (r : List ℕ) → T (clear f) → (read f t).text ≡ left r → SpellsAt f (read f t).val t r
unfolding float
spells_at end lost r c e = not_lost e
spells_at (word p f) lost r c e = not_lost (sym (read_lost (word p f)) ∙ e)
spells_at (number most f) lost r c e = not_lost (sym (read_lost (number most f)) ∙ e)
spells_at (real f) lost r c e = not_lost (sym (read_lost (real f)) ∙ e)
spells_at (either a b f) lost r c e = not_lost (sym (read_lost (either a b f)) ∙ e)
spells_at end (left l) r c e = let d : l ≡ r = cc in d
spells_at (word p f) (left l) r c e =
    let x = there f (read f (strip p l)).val (strip p l) r (spells_at f (strip p l) r c e) in
    (x.0, literal_inv p l x.0 x.1, x.2)
spells_at (number most f) (left l) r c e =
    let d = decimal most (left l) in
    let x = there f (read f d.text).val d.text r (spells_at f d.text r (clear-number most f c).3 e) in
    let y = decimal_inv most d.val l x.0 (clear-number most f c).0 (clear-number most f c).1
    (λ i. record { val = d.val; text = x.1 i }) in
    (x.0, y.0, y.1, x.2)
spells_at (real f) (left l) r c e =
    let p = pattern (left l) in
    let x = there f (read f p.text).val p.text r (spells_at f p.text r c e) in
    let y = pattern_inv p.val l x.0 (λ i. record { val = p.val; text = x.1 i }) in
    (p.val, x.0, y.0, y.1, refl, x.2)
spells_at (either a b f) (left l) r c e =
    let o = or (map inl (read a (left l))) (map inr (read b (left l))) in
    let x = there f (read f o.text).val o.text r (spells_at f o.text r (clear-either a b f c).3 e) in
    one_of a b f (read a (left l)) (read b (left l)) (read a (left l)).text (read f o.text).val l x.0 r
    (λ h. spells_at a (left l) x.0 (clear-either a b f c).1 h)
    (λ h. spells_at b (left l) x.0 (clear-either a b f c).2 h) x.1 x.2

pub spells : (f : Form) (l r : List ℕ) → T (clear f) → (read f (left l)).text ≡ left r
    → Spells f (read f (left l)).val l r
spells f l r c e = spells_at f (left l) r c e

-- ---- the first word of a text

-- whether a token stands
abbrev pub stands : Text → Bool
stands lost = false
stands (left l) = true

-- whether a text begins with these bytes
abbrev pub begins : List ℕ → List ℕ → Bool
begins p l = stands (strip p l)

-- the form begins with the word p
abbrev pub Leads : List ℕ → Form → Type 0
Leads p end = ⊥
Leads p (word q f) = p ≡ q
Leads p (number most f) = ⊥
Leads p (real f) = ⊥
Leads p (either a b f) = ⊥

-- such a form finds nothing where the word does not stand
pub no_word : (p : List ℕ) (f : Form) (l : List ℕ) → Leads p f → strip p l ≡ lost → (read f (left l)).text ≡ lost
no_word p end l h e = absurd h
no_word p (word q f) l h e = (λ i. (read f (strip (sym h i) l)).text) ∙ (λ i. (read f (e i)).text) ∙ read_lost f
no_word p (number most f) l h e = absurd h
no_word p (real f) l h e = absurd h
no_word p (either a b f) l h e = absurd h

-- and one that begins with another word nothing where it does
pub other_word : (p : List ℕ) (f : Form) (l m : List ℕ) → T (other p f) → T (clear f) → strip p l ≡ left m
    → (read f (left l)).text ≡ lost
other_word p f l m o c e = go (read f (left l)).text refl
  where
    go : (t : Text) → (read f (left l)).text ≡ t → t ≡ lost
    go lost d = refl
    go (left r) d = not_lost (sym (other_lost p f (read f (left l)).val l r o (spells f l r c d)) ∙ e)

-- ---- a choice

-- the first form's thing or else the second's
pub choose-is : {A : Type 0} (a b : Form) (f : Vals a → A) (g : Vals b → A) (t : Text)
    → map (choose f g) (read (either a b end) t) ≡ or (map f (read a t)) (map g (read b t))
choose-is {A} a b f g t = go (read a t).text
  where
    go : (u : Text)
        → map (choose f g) (pair (or_at u (map inl (read a t)) (map inr (read b t))) (read end))
        ≡ or_at u (map f (read a t)) (map g (read b t))
    go lost = refl
    go (left l) = refl

-- ---- both ways

-- what is printed reads back, with any rest after it
pub back : (f : Form) (v : Vals f) (r : List ℕ) → T (clear f) → Fit f v
    → read f (left (print f v ++ r)) ≡ record { val = v; text = left r }
back f v r c h = reads f v (print f v ++ r) r c (printed f v r h)

-- and as a whole text
pub back_all : (f : Form) (v : Vals f) → T (clear f) → Fit f v
    → read f (left (print f v)) ≡ record { val = v; text = left [] }
back_all f v c h =
    reads f v (print f v) [] c (subst (λ (l : List ℕ). Spells f v l []) (append-nil (print f v)) (printed f v [] h))

-- ---- the first of two tokens at a position

pub first_is : {A : Type 0} (s : List ℕ) (v : A) (k : ℕ) (h : Got A) → k ≤ length s → got s v k ≡ or (got s v k) h
first_is s v k h p = sym (λ i. or_at (rest_in s k p i) (got s v k) h)

pub second_is : {A : Type 0} (s : List ℕ) (v : A) (k : ℕ) (h : Got A) → length s < k → h ≡ or (got s v k) h
second_is s v k h p = sym (λ i. or_at (rest_out s k p i) (got s v k) h)
