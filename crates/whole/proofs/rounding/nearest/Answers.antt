-- `whole::rounding::nearest` meets its contract. Assumes nothing.
use Rattle.std.proofs.Common.{Less, Equal, Greater}
use Rattle.std.proofs.lemmas.Cmp.{ranked}
use Rattle.whole.proofs.Shifts.{down, up, tie}
use Rattle.whole.proofs.rounding.nearest.Goals as goal

pub returns-in-Less : goal.returns-in-Less
returns-in-Less c = down c.args.sig c.args.k c.requires.0 c.requires.1 (ranked _ _ Less c.in-Less.ensures)

pub returns-in-Greater : goal.returns-in-Greater
returns-in-Greater c = up c.args.sig c.args.k c.requires.0 c.requires.1 (ranked _ _ Greater c.in-Greater.ensures)

pub returns-in-Equal : goal.returns-in-Equal
returns-in-Equal c = tie c.args.sig c.args.k c.requires.0 c.requires.1 (ranked _ _ Equal c.in-Equal.ensures)
