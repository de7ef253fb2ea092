-- `root::lanes::check` meets its contract, by `Checks.antt`. Assumes nothing.
use Rattle.std.proofs.Common.{ℕ, ◌+◌, ◌*◌, ◌/◌, ◌^◌, ◌<◌, ◌≤◌, subst, lt_of_le_of_lt, mul-le-mul, arith}
use lib.Bits.{bit_and}
use Rattle.root.specs.Flags.{or_most}
use Rattle.root.proofs.Confirms.{square_cut, parts_small}
use Rattle.root.proofs.Checks.{sound}
use Rattle.root.proofs.lanes.check.Goals as goal

squares : (g : ℕ) → g < 2 ^ 53
    → (g / 67108864 * (g / 67108864) ≤ 2 ^ 54) × (g / 67108864 * bit_and g 67108863 ≤ 2 ^ 53)
    × (bit_and g 67108863 * bit_and g 67108863 ≤ 2 ^ 52)
squares g h = let p = parts_small g h in (mul-le-mul p.0 p.0, mul-le-mul p.0 p.1, mul-le-mul p.1 p.1)

least : (g w : ℕ) → 2 ^ 52 ≤ g → 2 ^ 52 ≤ g + w / 2 ^ 63
least g w h = omega arith

most : (g w : ℕ) → g < 2 ^ 53 → w < 2 ^ 64 → g + w / 2 ^ 63 ≤ 2 ^ 53
most g w h k = omega arith

pub returns : goal.returns
returns c =
    let g = c.args.g in
    let q = squares g c.requires.1 in
    let w = c.wrapping_sub_u64-short in
    let r = c.wrapping_sub_u64-rest in
    let b = c.wrapping_sub_u64-b in
    let a = c.wrapping_sub_u64-a in
    let b' = c.wrapping_add_u64 in
    let m = or_most a.result b'.result in record {
      bound = (least g w.result c.requires.0, most g w.result c.requires.1 w.type_inv, r.type_inv, w.type_inv, w.ensures.value);
      rounded = (λ x y z.
          sound
          record {
            square = square_cut g;
            hh_most = q.0;
            hl_most = q.1;
            ll_most = q.2;
            b_most = b.type_inv;
            r_most = r.type_inv;
            w_most = w.type_inv;
            a_is = a.ensures.value;
            b_is = b.ensures.value;
            r_is = r.ensures.value;
            w_is = w.ensures.value;
            a_small = lt_of_le_of_lt m.0 x;
            b_small = subst (λ (n : ℕ). n < 2 ^ 36) b'.ensures.value (lt_of_le_of_lt m.1 x);
            r_near = y;
            w_near = z;
            k_most = omega arith;
          }
          c.requires.0
          c.requires.1);
    }
