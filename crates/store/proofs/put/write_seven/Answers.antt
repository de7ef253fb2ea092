-- `put::write_seven` meets its contract: the six floats, and one more behind them. Assumes nothing.
use native.Mathlib.Numerals.{add_six}
use native.Mathlib.Omega.{arith}
use Rattle.layout.specs.RunLaws.{sets-write}
use Rattle.store.specs.Puts.{seven}
use Rattle.store.proofs.put.write_seven.Goals as goal

pub returns : goal.returns
returns c =
    let a = c.args in
    rw (c.write_six.ensures, add_six)
    (sets-write (seven a.k a.error) a.floats.now a.at (omega arith))
