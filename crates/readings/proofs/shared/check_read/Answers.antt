-- `readings::shared::check_read`: a store that passes has the words that are looked at. Assumes nothing.
use Rattle.std.proofs.Common.{refl, sym, ◌∙◌}
use Rattle.layout.specs.Layout.{width}
use Rattle.readings.specs.ReadLaws.{check_idle, check_work}
use Rattle.readings.proofs.shared.check_read.Goals.{else-needs-via-then-needs+else-unfinished}
use Rattle.readings.proofs.shared.check_read.Goals.{else-needs-via-else-needs}
use Rattle.readings.proofs.shared.check_read.Goals as goal

pub returns-then-unfinished-clause-refusal : goal.returns-then-unfinished-clause-refusal
returns-then-unfinished-clause-refusal c =
    check_work width _ _ _ c.check_seen.ensures.refusal _ _ _ c.in_ok-check_seen.was c.if-needs.true refl
    (sym c.if-unfinished.true ∙ (rw c.word.ensures at c.unfinished.ensures))

pub returns-clause-refusal : goal.returns-clause-refusal
returns-clause-refusal c = elim c.else-needs.branch [
  | else-needs-via-then-needs+else-unfinished w ↦ check_work width _ _ _ c.check_seen.ensures.refusal _ _ _
      c.in_ok-check_seen.was w.if-needs.true refl (sym w.if-unfinished.false ∙ (rw w.word.ensures at w.unfinished.ensures))
  | else-needs-via-else-needs w ↦ check_idle width _ _ _ c.check_seen.ensures.refusal _ c.in_ok-check_seen.was
      w.if-needs.false
]
