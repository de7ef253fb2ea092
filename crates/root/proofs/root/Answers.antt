-- `root::root` meets its contract. Assumes nothing.
use Rattle.std.proofs.Common.{true, ◌≡◌, ℕ, ◌+◌, ◌*◌, ◌/◌, ◌%◌, ◌^◌, ◌<◌, ◌≤◌, false, T, ◌⊎◌, sym, refl, ap, ◌∙◌, subst, inl, inr, not-le_of_lt, arith}
use lib.Bits.{bit_and}
use lib.Ieee.{Float, nan, of_bits, inf, binary64, to_bits, fits}
use lib.Ieee.Positive.{positive}
use Rattle.base.specs.Split.{units_at, Scaled}
use Rattle.base.specs.FloatLaws.{no_nan, the_rest, no_nan-below}
use Rattle.base.specs.UnitLaws.{bits-under, bits_above}
use Rattle.root.specs.Root.{square_root, Rounded}
use Rattle.root.specs.Cases.{of_nan, of_zero, of_negative, of_infinity}
use Rattle.root.proofs.Assemble.{low_bit, most, root_made}
use Rattle.root.proofs.root.Goals as goal

-- what owning an `f64` tells: the format holds it
held : (x : Float) → true ≡ fits binary64 x → T (fits binary64 x)
held x e = subst T e tt

-- the float that the library names so
not_a_number : of_bits binary64 9221120237041090560 ≡ nan
unfolding of_bits
not_a_number = refl

infinite : (x : Float) → T (fits binary64 x) → (x ≡ inf false) ⊎ T (positive x)
    → 9218868437227405312 ≤ to_bits binary64 x → x ≡ square_root binary64 x
infinite x f (inl e) h = e ∙ sym (ap (square_root binary64) e ∙ of_infinity)
infinite x f (inr p) h = absurd (not-le_of_lt (bits-under x f p) h)

not-inf : to_bits binary64 (inf false) < 9218868437227405312 → ⊥
unfolding to_bits
not-inf g = omega arith

above_zero : (x : Float) → (x ≡ inf false) ⊎ T (positive x) → to_bits binary64 x < 9218868437227405312 → T (positive x)
above_zero x (inl e) h = absurd (not-inf (subst (λ (v : Float). to_bits binary64 v < 9218868437227405312) e h))
above_zero x (inr p) h = p

rounded : (sig ex a : ℕ) → Rounded (sig * 2 ^ bit_and ex 1) a → Rounded (sig * 2 ^ (ex % 2)) a
rounded sig ex a = subst (λ (o : ℕ). Rounded (sig * 2 ^ o) a) (low_bit ex)

-- the pattern is below that of the infinity
small : (u sig ex a : ℕ) → Scaled u sig ex → Rounded (sig * 2 ^ bit_and ex 1) a
    → (ex / 2 + 485) * 4503599627370496 % 2 ^ 64 + a < 9218868437227405312
small u sig ex a s r = omega (arith, most u sig ex a s (rounded sig ex a r), s.top)

pub returns : goal.returns
returns c =
    root_made c.args.x (to_bits binary64 c.args.x) c.take-p.result.sig c.take-p.result.ex
    c.nearest-a.result (held c.args.x (sym c.well_formed.0.1)) refl c.if-b-ge9218868437227405312.false c.take-p.ensures.0 (rounded c.take-p.result.sig c.take-p.result.ex c.nearest-a.result c.nearest-a.ensures)

pub returns-then-x : goal.returns-then-x
returns-then-x c = of_nan c.args.x c.if-x.true

pub returns-then-x-2 : goal.returns-then-x-2
returns-then-x-2 c = of_zero c.args.x c.if-x-2.true

pub returns-then-x-3 : goal.returns-then-x-3
returns-then-x-3 c = not_a_number ∙ sym (of_negative c.args.x c.if-x-3.true)

pub float_to_bits-b : goal.float_to_bits-b
float_to_bits-b c = no_nan c.args.x c.if-x.false

pub returns-then-b-ge9218868437227405312 : goal.returns-then-b-ge9218868437227405312
returns-then-b-ge9218868437227405312 c =
    infinite c.args.x (held c.args.x (sym c.well_formed.0.1))
    (the_rest c.args.x c.if-x.false c.if-x-2.false c.if-x-3.false) c.if-b-ge9218868437227405312.true

pub take-p-requires : goal.take-p-requires
take-p-requires c = (
  bits_above c.args.x (held c.args.x (sym c.well_formed.0.1)) (above_zero c.args.x (the_rest c.args.x c.if-x.false c.if-x-2.false c.if-x-3.false) c.if-b-ge9218868437227405312.false),
  c.if-b-ge9218868437227405312.false,
)

pub float_from_bits-result : goal.float_from_bits-result
float_from_bits-result c =
    no_nan-below ((c.take-p.result.ex / 2 + 485) * 4503599627370496 % 2 ^ 64 + c.nearest-a.result)
    (omega (arith, small (units_at (to_bits binary64 c.args.x)) c.take-p.result.sig c.take-p.result.ex c.nearest-a.result c.take-p.ensures.0 c.nearest-a.ensures))
