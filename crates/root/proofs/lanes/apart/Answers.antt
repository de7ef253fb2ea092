-- `root::lanes::apart` meets its contract: each word is at most both or-ed. Assumes nothing.
use Rattle.std.proofs.Common.{◌≡◌, ℕ, ◌^◌, ◌<◌, ◌≤◌, arith}
use Rattle.root.specs.Flags.{or_most}
use Rattle.root.proofs.lanes.apart.Goals as goal

small : (a b m : ℕ) → a ≡ b → a ≤ m → m < 2 ^ 62 → b < 2 ^ 63
small a b m e l h = omega arith

pub returns : goal.returns
returns c z =
    let a = c.wrapping_add_u64 in
    let b = c.wrapping_add_u64-2 in
    let m = or_most a.result b.result in
    (small a.result _ _ a.ensures.value m.0 z, small b.result _ _ b.ensures.value m.1 z)
