-- `page::lines::write_spaces`: the spaces that the run is filled with are a text. Assumes nothing.
use Rattle.std.proofs.Common.{refl}
use Rattle.page.proofs.Writes.{spaces_written}
use Rattle.page.proofs.lines.write_spaces.Goals as goal

pub returns : goal.returns
returns c = (refl, spaces_written c.args.n c.requires c.fill.ensures)
