-- `root::nearest` meets its contract: a confirmed guess, or the digits. Assumes nothing.
use Rattle.std.proofs.Common.{◌≡◌, ℕ, ◌*◌, ◌%◌, ◌^◌, ◌<◌, ◌≤◌, sym, subst}
use Rattle.root.proofs.Assemble.{shifted}
use Rattle.root.proofs.nearest.Goals as goal

at : (sig odd : ℕ) → (2 ^ 52 ≤ sig) × (sig < 2 ^ 53) × (odd < 2)
    → (2 ^ 52 ≤ sig * 2 ^ odd) × (sig * 2 ^ odd < 2 ^ 54) × (sig * 2 ^ odd % 2 ^ 64 ≡ sig * 2 ^ odd)
at sig odd r = shifted sig odd r.0 r.1 r.2

pub confirm-requires : goal.confirm-requires
confirm-requires c =
    let s = at c.args.sig c.args.odd (c.requires.0, c.requires.1, c.requires.2) in
    (subst (λ (d : ℕ). d < 2 ^ 54) (sym s.2) s.1, c.guess.ensures.0, c.guess.ensures.1)

pub by_digits-requires : goal.by_digits-requires
by_digits-requires c =
    let s = at c.args.sig c.args.odd (c.requires.0, c.requires.1, c.requires.2) in
    (subst (λ (d : ℕ). 2 ^ 52 ≤ d) (sym s.2) s.0, subst (λ (d : ℕ). d < 2 ^ 54) (sym s.2) s.1)
