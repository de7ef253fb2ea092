-- One past the end no text stands. Assumes nothing.
use Rattle.text.specs.TextLaws.{rest-past}
use Rattle.text.proofs.read.nowhere.Goals as goal

pub returns-clause-at_value : goal.returns-clause-at_value
returns-clause-at_value g c = rest-past c.args.s.now
