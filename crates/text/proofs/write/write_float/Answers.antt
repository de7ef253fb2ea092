-- A float written: the digits of its bits. Assumes nothing.
use mathlib.Core.Path.{refl, subst}
use Prim.Native.Nat.{ℕ, ◌+◌}
use Rattle.text.specs.Print.{Wrote, pattern_text}
use Rattle.text.proofs.write.write_float.Goals as goal

pub returns : goal.returns
returns c =
    let a = c.args in
    let w = c.write_pattern in record {
      value = refl;
      wrote = subst (λ (n : ℕ). Wrote a.out.now a.at (pattern_text n) (a.at + 16) w.new.out)
          c.to_pattern.ensures w.ensures;
    }
