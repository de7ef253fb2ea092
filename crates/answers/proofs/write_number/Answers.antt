-- A number takes 20 digits at most. Assumes nothing.
use native.Mathlib.Omega.{arith}
use Rattle.text.specs.LengthLaws.{decimal-most}
use Rattle.answers.proofs.write_number.Goals as goal

pub write_number-requires : goal.write_number-requires
write_number-requires c = omega (arith, decimal-most c.args.n)

pub returns : goal.returns
returns c =
    let w = c.write_number in record {
      upper_bound = omega (arith, w.ensures.value, decimal-most c.args.n);
      wrote = w.ensures.wrote;
    }
