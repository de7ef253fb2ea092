-- `block` meets its contract: the sums are a stretch of the track. Assumes nothing.
use Rattle.std.proofs.Common.{ap, ◌∙◌}
use Rattle.kernel.specs.Kernels.{kernel_at}
use Rattle.density.specs.Densitize.{densitize_of}
use Rattle.layout.specs.Runs.{write}
use Rattle.along.specs.AlongLaws.{zeros, lanes_are}
use Rattle.along.proofs.along.block.Goals as goal

pub returns : goal.returns
returns c =
    let a = c.args in
    c.copy.ensures
    ∙ ap (write a.out.now a.at)
    (lanes_are (densitize_of (kernel_at a.kernels.now) a.n) a.track.now a.m a.at _ _ _ _ c.requires.1
    c.load.ensures c.load-2.ensures c.load-3.ensures c.add_all.ensures)

pub add_all-requires : goal.add_all-requires
add_all-requires c = (c.requires.0, zeros _ c.requires.1)
