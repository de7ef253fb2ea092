-- `root::by_digits` meets its contract: half of the whole root of d * 2 ^ 54, rounded up at an odd one, is the root of
-- d * 2 ^ 52, rounded. Assumes nothing.
use Rattle.std.proofs.Common.{ℕ, ◌+◌, ◌/◌, sym, subst}
use Rattle.root.specs.Root.{Rounded}
use Rattle.root.specs.Floors.{of_floor}
use Rattle.root.proofs.Confirms.{rounded_of}
use Rattle.root.proofs.Assemble.{low_bit}
use Rattle.root.proofs.by_digits.Goals as goal

pub returns : goal.returns
returns c =
    subst (λ (x : ℕ). Rounded c.args.d (c.whole_root-w.result.root / 2 + x))
    (sym (low_bit c.whole_root-w.result.root))
    (rounded_of c.args.d c.whole_root-w.result.root c.requires.0
    (of_floor c.whole_root-w.ensures))
