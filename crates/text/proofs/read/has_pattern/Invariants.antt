use Rattle.std.proofs.Common.{◌≡◌, ◌+◌, ◌-◌, ◌&&◌}
use Rattle.text.specs.Text.{rest}
use Rattle.text.specs.TextLaws.{hexes}
use Rattle.text.proofs.read.has_pattern.Given as goal

abbrev pub invariant-loop-b : goal.invariant-loop-b
invariant-loop-b l = l.all && hexes (16 - l.b-index) (rest l.s (l.at + l.b-index)) ≡ hexes 16 (rest l.s l.at)
