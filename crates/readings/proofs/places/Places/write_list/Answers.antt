-- `readings::lists::write_list`: nothing is written before the first place, and each place has room. Assumes nothing.
use Rattle.std.proofs.Common.{◌+◌, refl, arith}
use Rattle.layout.specs.Layout.{width}
use Rattle.readings.specs.Readings.{held_all_lem}
use Rattle.readings.specs.Counts.{held_pieces}
use Rattle.readings.specs.Lists.{none_listed, count_mono, count_next}
use Rattle.readings.proofs.places.Places.write_list.Goals as goal

pub loop-i-init : goal.loop-i-init
unfolding held_all_lem held_pieces
loop-i-init c = (refl, none_listed _ _)

pub write_place-requires : goal.write_place-requires
write_place-requires c =
    let l = c.loop-i in
    let m = count_mono width c.args.self.words.now (l.i + 1) 32 (omega arith) in
    let n = count_next width c.args.self.words.now l.i in
    (omega arith, omega (arith, l.invariant.0, l.invariant.1.long, c.requires))
