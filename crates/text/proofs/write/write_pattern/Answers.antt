-- Sixteen digits written from the last: at each turn those before it, once written, make the run that all make.
-- Assumes nothing.
use Rattle.std.proofs.Common.{◌+◌, refl, sym, ◌∙◌, arith}
use Rattle.text.specs.Print.{pattern_text}
use Rattle.text.specs.WriteLaws.{length_digits}
use Rattle.text.proofs.Writes.{no_digits, digits_step}
use Rattle.text.proofs.write.write_pattern.Goals as goal

pub loop-i-init : goal.loop-i-init
loop-i-init c = refl

pub loop-i-preserved : goal.loop-i-preserved
loop-i-preserved c =
    let a = c.args in
    let l = c.loop-i in
    rw c.glyph.ensures (digits_step l.out a.at 16 l.i l.m (omega arith) ∙ l.invariant)

pub returns : goal.returns
unfolding pattern_text
returns c =
    let a = c.args in
    let l = c.loop-i in
    record {
      next = (λ i. a.at + sym (length_digits 16 16 a.n) i);
      run = no_digits l.out a.at 16 l.i l.m (omega arith) ∙ l.invariant;
    }
