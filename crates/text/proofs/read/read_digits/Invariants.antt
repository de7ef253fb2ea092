use Rattle.std.proofs.Common.{◌≡◌, ◌≤◌, drop}
use Rattle.text.specs.Text.{decimal_from}
use Rattle.text.proofs.read.read_digits.Given as goal

abbrev pub invariant-loop-k : goal.invariant-loop-k
invariant-loop-k l = record {
  in_bounds : l.value ≤ l.most;
  same : decimal_from l.most l.value (drop l.k l.s) ≡ decimal_from l.most l.first (drop l.at l.s);
}
