-- `write_pieces` has room at each kernel: its pieces are among those of the list. Assumes nothing.
use Rattle.std.proofs.Common.{◌≤◌, arith}
use Rattle.pieces.specs.PieceLaws.{at_most_16}
use Rattle.pieces.proofs.ListLaws.{next_within}
use Rattle.pieces.proofs.lists.write_pieces.Goals as goal

pub lay_pieces-requires : goal.lay_pieces-requires
lay_pieces-requires c =
    let m = next_within c.args.kernels.now c.args.radius c.loop-i.i _ c.loop-i-test.true c.kernel_at-k.ensures
    c.decompose.ensures.0 in
    let few : c.decompose.result.pieces.count ≤ 16 = rw c.decompose.ensures.0 (at_most_16 _ _) in
    (few, omega (arith, m))

pub overflow_add-pieces : goal.overflow_add-pieces
overflow_add-pieces c =
    let m = next_within c.args.kernels.now c.args.radius c.loop-i.i _ c.loop-i-test.true c.kernel_at-k.ensures
    c.decompose.ensures.0 in
    omega (arith, m)
