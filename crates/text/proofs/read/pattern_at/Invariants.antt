use Rattle.std.proofs.Common.{◌≡◌, ◌+◌, ◌-◌, ◌^◌, ◌<◌, true}
use Rattle.text.specs.Text.{rest, pattern, pattern_from}
use Rattle.text.specs.TextLaws.{hexes}
use Rattle.text.proofs.read.pattern_at.Given as goal

abbrev pub invariant-loop-b : goal.invariant-loop-b
invariant-loop-b l = record {
  small : l.v < 16 ^ l.b-index;
  digits : hexes (16 - l.b-index) (rest l.s (l.at + l.b-index)) ≡ true;
  same : pattern_from (16 - l.b-index) l.v (rest l.s (l.at + l.b-index)) ≡ pattern (rest l.s l.at);
}
