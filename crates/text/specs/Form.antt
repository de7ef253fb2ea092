-- A form: bytes, numbers and floats in a row, as a line's pattern in 01 ("(reweigh P h)"), with its reader and its
-- printer. Definitions only.
use Rattle.std.specs.Prelude.{ℕ, ◌-◌, ◌≤◌, ◌<◌, ◌^◌, ◌≡◌, Bool, true, false, not, ◌&&◌, ◌||◌, List, [], ◌∷◌, ◌++◌, ◌⊎◌, T, leb, ltb, eqb, Float}
use Prim.Native.String.{String}
use Rattle.std.proofs.Common.{inl, inr}
use Rattle.std.specs.Float.{binary64}
use Rattle.std.specs.Float.Ieee.{fits, is_nan}
use Rattle.base.specs.Floats.{bits}
use Rattle.text.specs.Text.{Text, lost, left, Got, bytes, literal, digit, float, decimal}
use Rattle.text.specs.Print.{decimal_text, pattern_text, float_text}

pub data Form : Type 0 where
  end : Form  -- nothing more
  word : List ℕ → Form → Form  -- these bytes, and then
  number : ℕ → Form → Form  -- a decimal number up to this, and then
  real : Form → Form  -- a float, and then
  either : Form → Form → Form → Form  -- the first form, or else the second, and then

-- what a form carries
abbrev pub Vals : Form → Type 0
Vals end = Unit {0}
Vals (word p f) = Vals f
Vals (number most f) = ℕ × Vals f
Vals (real f) = Float × Vals f
Vals (either a b f) = (Vals a ⊎ Vals b) × Vals f

-- what was read, as another thing
abbrev pub map : {A B : Type 0} → (A → B) → Got A → Got B
map f g = record { val = f g.val; text = g.text }

-- one function for the values of the one form, another for those of the other
abbrev pub choose : {A B C : Type 0} → (A → C) → (B → C) → (A ⊎ B) × Unit {0} → C
choose f g (inl a, u) = f a
choose f g (inr b, u) = g b

-- and the bytes p after it
abbrev pub followed_by : {A : Type 0} → List ℕ → Got A → Got A
followed_by p g = record { val = g.val; text = literal p g.text }

abbrev pub or_at : {A : Type 0} → Text → Got A → Got A → Got A
or_at lost g h = h
or_at (left l) g h = g

-- the first of two where it stands, else the second
abbrev pub or : {A : Type 0} → Got A → Got A → Got A
or g h = or_at g.text g h

-- one thing, and the other in the text after it
abbrev pub pair : {A B : Type 0} → Got A → (Text → Got B) → Got (A × B)
pair g k = record { val = (g.val, (k g.text).val); text = (k g.text).text }

-- the form where the text stands
abbrev pub read : (f : Form) → Text → Got (Vals f)
read end t = record { val = tt; text = t }
read (word p f) t = read f (literal p t)
read (number most f) t = pair (decimal most t) (read f)
read (real f) t = pair (float t) (read f)
read (either a b f) t = pair (or (map inl (read a t)) (map inr (read b t))) (read f)

-- the text of a form with these values
abbrev pub print : (f : Form) → Vals f → List ℕ
print end v = []
print (word p f) v = p ++ print f v
print (number most f) v = decimal_text v.0 ++ print f v.1
print (real f) v = float_text v.0 ++ print f v.1
print (either a b f) (inl v, w) = print a v ++ print f w
print (either a b f) (inr v, w) = print b v ++ print f w

-- l is the form with these values and then r, each float written by any pattern of it: so a NaN by any of its own,
-- another by the one it has
abbrev pub Spells : (f : Form) → Vals f → List ℕ → List ℕ → Type 0
Spells end v l r = l ≡ r
Spells (word p f) v l r = (m : List ℕ) × (l ≡ p ++ m) × Spells f v m r
Spells (number most f) v l r = (m : List ℕ) × (l ≡ decimal_text v.0 ++ m) × (v.0 ≤ most) × Spells f v.1 m r
Spells (real f) v l r =
    (n : ℕ) × (m : List ℕ) × (l ≡ pattern_text n ++ m) × (n < 2 ^ 64) × (bits n ≡ v.0) × Spells f v.1 m r
Spells (either a b f) (inl v, w) l r = (m : List ℕ) × Spells a v l m × Spells f w m r
Spells (either a b f) (inr v, w) l r = (m : List ℕ) × Spells b v l m × Spells f w m r

-- the numbers are in the form's bounds, the floats of the format
abbrev pub Fit : (f : Form) → Vals f → Type 0
Fit end v = Unit {0}
Fit (word p f) v = Fit f v
Fit (number most f) v = (v.0 ≤ most) × Fit f v.1
Fit (real f) v = T (fits binary64 v.0) × Fit f v.1
Fit (either a b f) (inl v, w) = Fit a v × Fit f w
Fit (either a b f) (inr v, w) = Fit b v × Fit f w

-- no value is a NaN
abbrev pub NoNan : (f : Form) → Vals f → Type 0
NoNan end v = Unit {0}
NoNan (word p f) v = NoNan f v
NoNan (number most f) v = NoNan f v.1
NoNan (real f) v = T (not (is_nan v.0)) × NoNan f v.1
NoNan (either a b f) (inl v, w) = NoNan a v × NoNan f w
NoNan (either a b f) (inr v, w) = NoNan b v × NoNan f w

-- two words that differ in some byte before either ends
abbrev pub differ : List ℕ → List ℕ → Bool
differ [] q = false
differ (a ∷ p) [] = false
differ (a ∷ p) (b ∷ q) = not (eqb b a) || differ p q

-- the form begins with a word other than p
abbrev pub other : List ℕ → Form → Bool
other p end = false
other p (word q f) = differ p q
other p (number most f) = false
other p (real f) = false
other p (either a b f) = other p a && other p b

-- the form begins with a byte that is no hexadecimal digit
abbrev pub no_hex : Form → Bool
no_hex end = false
no_hex (word [] f) = no_hex f
no_hex (word (b ∷ p) f) = leb 16 (digit b)
no_hex (number most f) = false
no_hex (real f) = false
no_hex (either a b f) = no_hex a && no_hex b

-- the two forms begin with different words, or the first with a float and the second with no digit of one
abbrev pub apart : Form → Form → Bool
apart end b = false
apart (word p f) b = other p b
apart (number most f) b = false
apart (real f) b = no_hex b
apart (either a a' f) b = apart a b && apart a' b

-- the form begins with a byte that is no digit
abbrev pub stops : Form → Bool
stops end = false
stops (word [] f) = stops f
stops (word (b ∷ p) f) = leb 10 (digit b)
stops (number most f) = false
stops (real f) = false
stops (either a b f) = stops a && stops b

-- a text is read in one way: a number is followed by no digit (and bounded by 64 bits), and of two forms each begins
-- with a word of its own, or the first with a float
abbrev pub clear : Form → Bool
clear end = true
clear (word p f) = clear f
clear (number most f) = leb 9 most && (ltb most (2 ^ 64) && (stops f && clear f))
clear (real f) = clear f
clear (either a b f) = apart a b && (clear a && (clear b && clear f))

-- ---- forms as they are written down

-- a value, and those after it
infixr 20 ◌&◌
abbrev pub ◌&◌ : {A B : Type 0} → A → B → A × B
◌&◌ a b = (a, b)

-- the bytes of a quoted text, and then
abbrev pub say : String → Form → Form
say s f = word (bytes s) f

-- "decimal, [..] up to 64 bits for advance and 32 elsewhere", and then
abbrev pub u64 : Form → Form
u64 f = number (2 ^ 64 - 1) f

abbrev pub u32 : Form → Form
u32 f = number (2 ^ 32 - 1) f

-- the one form, and then the other
abbrev pub followed : Form → Form → Form
followed end g = g
followed (word p f) g = word p (followed f g)
followed (number most f) g = number most (followed f g)
followed (real f) g = real (followed f g)
followed (either a b f) g = either a b (followed f g)

-- h h h, and then
abbrev pub three : Form → Form
three f = real (say " " (real (say " " (real f))))
