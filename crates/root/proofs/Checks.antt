-- The check of a lane's guess, on plain numbers: hh, hl and ll are the products of g's halves; a, b and r are what is
-- left of d, of a * 2 ^ 25 and of b * 2 ^ 27 without them, and w is g - r, all modulo 2 ^ 64. Assumes nothing.
use Rattle.std.proofs.Common.{◌≡◌, ℕ, ◌+◌, ◌-◌, ◌*◌, ◌/◌, ◌%◌, ◌^◌, ◌<◌, ◌≤◌, ◌⊎◌, sym, subst, inl, inr, eq-zero-or-pos, arith}
use Rattle.root.specs.Root.{Rounded}
use Rattle.root.specs.Floors.{sq_suc}

pub below_or : (a b : ℕ) → (a < b) ⊎ (b ≤ a)
below_or a b = elim (eq-zero-or-pos (b - a)) [
  | inl e ↦ inr (omega arith)
  | inr h ↦ inl (omega arith)
]

-- ---- nothing is lost: a is small, and so is b or n, which is -b
step_a : (d hh a : ℕ) → hh ≤ 2 ^ 54 → a < 2 ^ 36 → (a + hh) % 2 ^ 64 ≡ d → d ≡ hh + a
step_a d hh a q s e = omega arith

up_b : (a hl b : ℕ) → hl ≤ 2 ^ 53 → a < 2 ^ 36 → b < 2 ^ 35 → (b + hl) % 2 ^ 64 ≡ a * 33554432 % 2 ^ 64
    → a * 33554432 ≡ hl + b
up_b a hl b x s u e = omega arith

down_b : (a hl b n : ℕ) → hl ≤ 2 ^ 53 → a < 2 ^ 36 → n ≤ 2 ^ 35 → b + n ≡ 2 ^ 64
    → (b + hl) % 2 ^ 64 ≡ a * 33554432 % 2 ^ 64 → a * 33554432 + n ≡ hl
down_b a hl b n x s u k e = omega arith

-- ---- b from 0 up
up_r : (b ll r : ℕ) → b < 2 ^ 35 → ll ≤ b * 134217728 → r < 2 ^ 64 → (r + ll) % 2 ^ 64 ≡ b * 134217728 % 2 ^ 64
    → r + ll ≡ b * 134217728
up_r b ll r u l s e = omega arith

under_r : (b ll r n : ℕ) → b < 2 ^ 35 → ll ≤ 2 ^ 52 → b * 134217728 + n ≡ ll → 0 < n → r < 2 ^ 64
    → (r + ll) % 2 ^ 64 ≡ b * 134217728 % 2 ^ 64 → r + n ≡ 2 ^ 64
under_r b ll r n u l k p s e = omega arith

-- r from 0 up: the root is g, or it is g + 1
near_w : (g r w : ℕ) → g < 2 ^ 53 → r ≤ g → w < 2 ^ 64 → (w + r) % 2 ^ 64 ≡ g → w / 2 ^ 63 ≡ 0
near_w g r w h l s e = omega arith

past_w : (g r w : ℕ) → g < 2 ^ 53 → g < r → r < 2 ^ 62 → w < 2 ^ 64 → (w + r) % 2 ^ 64 ≡ g
    → (w / 2 ^ 63 ≡ 1) × (w + r ≡ g + 2 ^ 64)
past_w g r w h l m s e = omega arith

past_r : (g r w k : ℕ) → g < 2 ^ 53 → r < 2 ^ 62 → w + r ≡ g + 2 ^ 64 → (w + k) % 2 ^ 64 < 2 ^ 63 → k ≤ 2 * g + 2
    → r ≤ 3 * g + 2
past_r g r w k h m e f l = omega arith

-- r below 0, where n is -r
under_g : (g r n : ℕ) → 2 ^ 52 ≤ g → g < 2 ^ 53 → n ≤ 2 ^ 63 → r + n ≡ 2 ^ 64 → (r + (g - 1)) % 2 ^ 64 < 2 ^ 63 → n < g
under_g g r n l h m e f = omega arith

under_w : (g r w n : ℕ) → g < 2 ^ 53 → n < g → r + n ≡ 2 ^ 64 → w < 2 ^ 64 → (w + r) % 2 ^ 64 ≡ g → w / 2 ^ 63 ≡ 0
under_w g r w n h m e s f = omega arith

-- ---- b below 0
down_r : (b n ll r : ℕ) → b + n ≡ 2 ^ 64 → 0 < n → n ≤ 2 ^ 35 → ll ≤ 2 ^ 52 → r < 2 ^ 64
    → (r + ll) % 2 ^ 64 ≡ b * 134217728 % 2 ^ 64 → r + (n * 134217728 + ll) ≡ 2 ^ 64
down_r b n ll r k p u l s e = omega arith

-- ---- what the flags say
pub record Fine (d g hh hl ll a b r w k : ℕ) : Type 0 where
  pub square : g * g ≡ hh * 4503599627370496 + 2 * hl * 67108864 + ll
  pub hh_most : hh ≤ 2 ^ 54
  pub hl_most : hl ≤ 2 ^ 53
  pub ll_most : ll ≤ 2 ^ 52
  pub b_most : b < 2 ^ 64
  pub r_most : r < 2 ^ 64
  pub w_most : w < 2 ^ 64
  pub a_is : (a + hh) % 2 ^ 64 ≡ d
  pub b_is : (b + hl) % 2 ^ 64 ≡ a * 33554432 % 2 ^ 64
  pub r_is : (r + ll) % 2 ^ 64 ≡ b * 134217728 % 2 ^ 64
  pub w_is : (w + r) % 2 ^ 64 ≡ g
  pub a_small : a < 2 ^ 36
  pub b_small : (b + 2 ^ 35) % 2 ^ 64 < 2 ^ 36
  pub r_near : (r + (g - 1)) % 2 ^ 64 < 2 ^ 63
  pub w_near : (w + k) % 2 ^ 64 < 2 ^ 63
  pub k_most : k ≤ 2 * g + 2

-- d * 2 ^ 52 is g * g and r more
above_g : (d g r : ℕ) → d * 2 ^ 52 ≡ g * g + r → r ≤ g → 0 < g → Rounded d g
above_g d g r e h p = record { above = omega arith; below = omega arith }

next_g : (d g r : ℕ) → d * 2 ^ 52 ≡ g * g + r → g < r → r ≤ 3 * g + 2 → Rounded d (g + 1)
next_g d g r e l h = let s = sq_suc g in record { above = omega arith; below = omega arith }

-- or n less
below_g : (d g n : ℕ) → d * 2 ^ 52 + n ≡ g * g → n < g → Rounded d g
below_g d g n e h = record { above = omega arith; below = omega arith }

-- ---- d * 2 ^ 52 and g * g, from what is left of them
more : (d g hh hl ll a b r : ℕ) → g * g ≡ hh * 4503599627370496 + 2 * hl * 67108864 + ll → d ≡ hh + a
    → a * 33554432 ≡ hl + b → r + ll ≡ b * 134217728 → d * 2 ^ 52 ≡ g * g + r
more d g hh hl ll a b r q e f k = omega arith

less : (d g hh hl ll a b n : ℕ) → g * g ≡ hh * 4503599627370496 + 2 * hl * 67108864 + ll → d ≡ hh + a
    → a * 33554432 ≡ hl + b → b * 134217728 + n ≡ ll → d * 2 ^ 52 + n ≡ g * g
less d g hh hl ll a b n q e f k = omega arith

much_less : (d g hh hl ll a n : ℕ) → g * g ≡ hh * 4503599627370496 + 2 * hl * 67108864 + ll → d ≡ hh + a
    → a * 33554432 + n ≡ hl → d * 2 ^ 52 + (n * 134217728 + ll) ≡ g * g
much_less d g hh hl ll a n q e f = omega arith

kept : (d g w : ℕ) → w / 2 ^ 63 ≡ 0 → Rounded d g → Rounded d (g + w / 2 ^ 63)
kept d g w e h = let k : g ≡ g + w / 2 ^ 63 = omega arith in subst (Rounded d) k h

next : (d g w : ℕ) → w / 2 ^ 63 ≡ 1 → Rounded d (g + 1) → Rounded d (g + w / 2 ^ 63)
next d g w e h = subst (λ (z : ℕ). Rounded d (g + z)) (sym e) h

module _ {d g hh hl ll a b r w k : ℕ} (f : Fine d g hh hl ll a b r w k) (g0 : 2 ^ 52 ≤ g) (g1 : g < 2 ^ 53) where
  -- g * g is n more than d * 2 ^ 52
  under : (n : ℕ) → n ≤ 2 ^ 63 → r + n ≡ 2 ^ 64 → d * 2 ^ 52 + n ≡ g * g → Rounded d (g + w / 2 ^ 63)
  under n m e s =
      let l = under_g g r n g0 g1 m e f.r_near in
      kept d g w (under_w g r w n g1 l e f.w_most f.w_is) (below_g d g n s l)

  over : r < 2 ^ 62 → d * 2 ^ 52 ≡ g * g + r → Rounded d (g + w / 2 ^ 63)
  over m s = elim (below_or g r) [
    | inl l ↦
        let p = past_w g r w g1 l m f.w_most f.w_is in
        next d g w p.0 (next_g d g r s l (past_r g r w k g1 m p.1 f.w_near f.k_most))
    | inr l ↦ kept d g w (near_w g r w g1 l f.w_most f.w_is) (above_g d g r s l (some g0))
  ]
    where
      some : 2 ^ 52 ≤ g → 0 < g
      some h = omega arith

  left : d ≡ hh + a
  left = step_a d hh a f.hh_most f.a_small f.a_is

  b-up : b < 2 ^ 35 → Rounded d (g + w / 2 ^ 63)
  b-up u =
      let e = up_b a hl b f.hl_most f.a_small u f.b_is in
      elim (below_or (b * 134217728) ll) [
        | inl l ↦ lower e (ll - b * 134217728) (gap l) (some l) (most f.ll_most)
        | inr l ↦
            let k = up_r b ll r u l f.r_most f.r_is in
            over (small u k) (more d g hh hl ll a b r f.square left e k)
      ]
    where
      gap : b * 134217728 < ll → b * 134217728 + (ll - b * 134217728) ≡ ll
      gap l = omega arith

      some : b * 134217728 < ll → 0 < ll - b * 134217728
      some l = omega arith

      most : ll ≤ 2 ^ 52 → ll - b * 134217728 ≤ 2 ^ 63
      most l = omega arith

      small : b < 2 ^ 35 → r + ll ≡ b * 134217728 → r < 2 ^ 62
      small v k = omega arith

      lower : a * 33554432 ≡ hl + b → (n : ℕ) → b * 134217728 + n ≡ ll → 0 < n → n ≤ 2 ^ 63 → Rounded d (g + w / 2 ^ 63)
      lower e n k p m =
          under n m (under_r b ll r n u f.ll_most k p f.r_most f.r_is)
          (less d g hh hl ll a b n f.square left e k)

  b-down : 2 ^ 35 ≤ b → Rounded d (g + w / 2 ^ 63)
  b-down u = lower (2 ^ 64 - b) (turned f.b_most) (some f.b_most) (few u f.b_most f.b_small)
    where
      turned : b < 2 ^ 64 → b + (2 ^ 64 - b) ≡ 2 ^ 64
      turned h = omega arith

      some : b < 2 ^ 64 → 0 < 2 ^ 64 - b
      some h = omega arith

      few : 2 ^ 35 ≤ b → b < 2 ^ 64 → (b + 2 ^ 35) % 2 ^ 64 < 2 ^ 36 → 2 ^ 64 - b ≤ 2 ^ 35
      few v h k = omega arith

      lower : (n : ℕ) → b + n ≡ 2 ^ 64 → 0 < n → n ≤ 2 ^ 35 → Rounded d (g + w / 2 ^ 63)
      lower n k p m =
          under (n * 134217728 + ll) (most f.ll_most) (down_r b n ll r k p m f.ll_most f.r_most f.r_is)
          (much_less d g hh hl ll a n f.square left (down_b a hl b n f.hl_most f.a_small m k f.b_is))
        where
          most : ll ≤ 2 ^ 52 → n * 134217728 + ll ≤ 2 ^ 63
          most l = omega arith

  pub sound : Rounded d (g + w / 2 ^ 63)
  sound = elim (below_or b (2 ^ 35)) [
    | inl u ↦ b-up u
    | inr u ↦ b-down u
  ]

-- ---- bounds that hold for every g from 2 ^ 52 on are within those of the g at hand
round-once : (x n : ℕ) → x ≡ n + 2 ^ 64 → n < 2 ^ 63 → x % 2 ^ 64 < 2 ^ 63
round-once x n e h = omega arith

few_r : (g r : ℕ) → g < 2 ^ 53 → r ≤ 13510798882111488 → (r + (g - 1)) % 2 ^ 64 < 2 ^ 63
few_r g r h m = omega arith

few_w : (g r w : ℕ) → g < 2 ^ 53 → r ≤ g → w < 2 ^ 64 → (w + r) % 2 ^ 64 ≡ g → (w + 2 * g) % 2 ^ 64 < 2 ^ 63
few_w g r w h m k e = let s : w + r ≡ g = omega arith in omega arith

some_w : (g r w : ℕ) → 2 ^ 52 ≤ g → g < 2 ^ 53 → r ≤ 13510798882111488 → w + r ≡ g + 2 ^ 64
    → (w + 2 * g) % 2 ^ 64 < 2 ^ 63
some_w g r w l h m e = round-once (w + 2 * g) (3 * g - r) (omega arith) (omega arith)

enough-up : (g r w : ℕ) → 2 ^ 52 ≤ g → g < 2 ^ 53 → r ≤ 13510798882111488 → w < 2 ^ 64 → (w + r) % 2 ^ 64 ≡ g
    → ((r + (g - 1)) % 2 ^ 64 < 2 ^ 63) × ((w + 2 * g) % 2 ^ 64 < 2 ^ 63)
enough-up g r w l h m k e = (
  few_r g r h m,
  elim (below_or g r) [
    | inl u ↦ some_w g r w l h m (past_w g r w h u (small m) k e).1
    | inr u ↦ few_w g r w h u k e
  ],
)
  where
    small : r ≤ 13510798882111488 → r < 2 ^ 62
    small u = omega arith

enough-down : (g r w n : ℕ) → 2 ^ 52 ≤ g → g < 2 ^ 53 → r + n ≡ 2 ^ 64 → 0 < n → n < 2 ^ 52 → w < 2 ^ 64
    → (w + r) % 2 ^ 64 ≡ g → ((r + (g - 1)) % 2 ^ 64 < 2 ^ 63) × ((w + 2 * g) % 2 ^ 64 < 2 ^ 63)
enough-down g r w n l h e p m k f = (round-once (r + (g - 1)) (g - 1 - n) (low l e m) (under h), few (over e p k f) h m)
  where
    low : 2 ^ 52 ≤ g → r + n ≡ 2 ^ 64 → n < 2 ^ 52 → r + (g - 1) ≡ g - 1 - n + 2 ^ 64
    low a b c = omega arith

    under : g < 2 ^ 53 → g - 1 - n < 2 ^ 63
    under a = omega arith

    over : r + n ≡ 2 ^ 64 → 0 < n → w < 2 ^ 64 → (w + r) % 2 ^ 64 ≡ g → w ≡ g + n
    over a b c d = omega arith

    few : w ≡ g + n → g < 2 ^ 53 → n < 2 ^ 52 → (w + 2 * g) % 2 ^ 64 < 2 ^ 63
    few a b c = omega arith

pub near-enough : (g r w : ℕ) → 2 ^ 52 ≤ g → g < 2 ^ 53 → r < 2 ^ 64 → w < 2 ^ 64 → (w + r) % 2 ^ 64 ≡ g
    → (r + 4503599627370495) % 2 ^ 64 < 2 ^ 54 → ((r + (g - 1)) % 2 ^ 64 < 2 ^ 63) × ((w + 2 * g) % 2 ^ 64 < 2 ^ 63)
near-enough g r w l h m k e f = elim (below_or r (2 ^ 63)) [
  | inl u ↦ enough-up g r w l h (up u f) k e
  | inr u ↦ enough-down g r w (2 ^ 64 - r) l h (gap m) (some m) (down u m f) k e
]
  where
    up : r < 2 ^ 63 → (r + 4503599627370495) % 2 ^ 64 < 2 ^ 54 → r ≤ 13510798882111488
    up u v = omega arith

    gap : r < 2 ^ 64 → r + (2 ^ 64 - r) ≡ 2 ^ 64
    gap u = omega arith

    some : r < 2 ^ 64 → 0 < 2 ^ 64 - r
    some u = omega arith

    down : 2 ^ 63 ≤ r → r < 2 ^ 64 → (r + 4503599627370495) % 2 ^ 64 < 2 ^ 54 → 2 ^ 64 - r < 2 ^ 52
    down u v x = omega arith
