-- `root::take` meets its contract: `split`'s parts, or those of a normal pattern. Assumes nothing.
use Rattle.std.proofs.Common.{ℕ, ◌+◌, ◌/◌, ◌^◌, sym, subst}
use Rattle.base.specs.Split.{Scaled, units_at}
use Rattle.root.proofs.Confirms.{guessed}
use Rattle.root.proofs.Patterns.{normal}
use Rattle.root.proofs.take.Goals as goal

pub returns : goal.returns
returns c =
    let b = c.args.b in (
      subst (λ (s : ℕ). Scaled (units_at b) s (b / 2 ^ 52 + 51)) (sym (guessed b))
          (normal b c.if-b-lt4503599627370496.false c.requires.1),
      c.part.ensures,
    )
