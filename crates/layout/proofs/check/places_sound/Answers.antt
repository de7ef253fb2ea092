-- `layout::check::places_sound`: one place that is not sound is enough. Assumes nothing.
use Rattle.std.proofs.Common.{sym, ◌∙◌, arith}
use Rattle.base.specs.LoopLaws.{every-not}
use Rattle.layout.specs.Soundness.{place_sound_at}
use Rattle.layout.proofs.check.places_sound.Goals as goal

pub returns-then-not-record_sound : goal.returns-then-not-record_sound
returns-then-not-record_sound c =
    let a = c.args in
    sym
    (every-not (place_sound_at a.q a.words.now) 32 c.loop-i.i (omega arith)
    (sym c.record_sound.ensures ∙ c.if-not-record_sound.true))
