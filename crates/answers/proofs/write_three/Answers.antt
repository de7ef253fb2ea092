-- The tokens, written one after the other. Assumes nothing.
use mathlib.Core.Path.{◌≡◌}
use Prim.Native.Nat.{◌+◌}
use native.Mathlib.Omega.{arith}
use Rattle.text.specs.Print.{float_text}
use Rattle.text.specs.WriteLaws.{then}
use Rattle.answers.proofs.Writes.{nothing, then-on}
use Rattle.answers.proofs.write_three.Goals as goal

pub returns : goal.returns
returns c =
    let l1 : c.write_real-b.result ≡ c.write_real-a.result + 1 + 16 = c.write_real-b.ensures.value in
    let l2 : c.write_real.result ≡ c.write_real-b.result + 1 + 16 = c.write_real.ensures.value in record {
      upper_bound = omega (arith, c.write_real-a.ensures.value, l1, l2);
      wrote = then-on c.args.p.now (float_text c.args.x) c.write_real-a.ensures.wrote
          (then c.write_real-b.ensures.wrote (then c.write_real.ensures.wrote nothing));
    }
