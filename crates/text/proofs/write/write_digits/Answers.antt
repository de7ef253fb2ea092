-- Digits written from the last: at each turn those before it, once written, make the run that all make.
-- Assumes nothing.
use Rattle.std.proofs.Common.{◌+◌, ◌%◌, refl, sym, ◌∙◌, arith}
use Rattle.text.specs.WriteLaws.{length_digits}
use Rattle.text.proofs.Writes.{no_digits, digits_step, glyph-ten}
use Rattle.text.proofs.write.write_digits.Goals as goal

pub loop-i-init : goal.loop-i-init
loop-i-init c = refl

pub loop-i-preserved : goal.loop-i-preserved
loop-i-preserved c =
    let a = c.args in
    let l = c.loop-i in
    rw (glyph-ten (l.m % 10) (omega arith))
    (digits_step l.out a.at 10 l.i l.m (omega arith) ∙ l.invariant)

pub returns-clause-wrote : goal.returns-clause-wrote
returns-clause-wrote c =
    let a = c.args in
    let l = c.loop-i in
    record {
      next = (λ i. a.at + sym (length_digits 10 a.k a.n) i);
      run = no_digits l.out a.at 10 l.i l.m (omega arith) ∙ l.invariant;
    }
