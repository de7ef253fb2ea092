-- `program::keep` meets its contract. Assumes nothing.
use mathlib.Core.Path.{refl}
use borrow.Author.Tests.{lt-ltb, le-ltb}
use Rattle.program.specs.Bytes.{line_with, count_with}
use Rattle.program.proofs.keep.Goals as goal

pub returns-then-n-ge256 : goal.returns-then-n-ge256
unfolding line_with count_with
returns-then-n-ge256 c = rw (le-ltb _ _ c.if-n-ge256.true) (record {
  opening_value = (refl, refl);
  line_after = (refl, refl);
})

pub returns : goal.returns
unfolding line_with count_with
returns c = rw (lt-ltb _ _ c.if-n-ge256.false) (record { opening_value = (refl, refl); line_after = (refl, refl) })
