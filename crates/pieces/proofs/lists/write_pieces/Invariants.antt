use Rattle.std.proofs.Common.{◌≡◌}
use Rattle.pieces.specs.Lists.{piece_count, greatest_error, spread}
use Rattle.pieces.proofs.lists.write_pieces.Given as goal

abbrev pub invariant-loop-i : goal.invariant-loop-i
invariant-loop-i l = record {
  count : l.pieces ≡ piece_count l.kernels l.radius l.i;
  error : l.error ≡ greatest_error l.kernels l.radius l.i;
  run : l.out ≡ spread l.kernels l.radius l.i l.initial.out;
}
