-- `readings::seen::places`: before the first place the words are as they were; at the end each place has room for its
-- pieces. Assumes nothing.
use Rattle.std.proofs.Common.{arith}
use Rattle.readings.specs.SeenLaws.{none_looked, all_looked, shown_fit}
use Rattle.readings.proofs.seen.places.Goals as goal

pub loop-i-init : goal.loop-i-init
loop-i-init c =
    let a = c.args in
    none_looked a.layers a.only a.words.now c.requires.1.long c.copy_from_slice.ensures.after

pub returns-clause-fit : goal.returns-clause-fit
returns-clause-fit c =
    let a = c.args in
    let l = c.loop-i in
    shown_fit a.layers a.only a.words.now _ (all_looked a.layers a.only a.words.now l.i l.invariant (omega arith))
    c.requires.1
