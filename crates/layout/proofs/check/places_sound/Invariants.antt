use Rattle.std.proofs.Common.{◌≡◌, true}
use Rattle.base.specs.Loops.{every}
use Rattle.layout.specs.Soundness.{place_sound_at}
use Rattle.layout.proofs.check.places_sound.Given as goal

abbrev pub invariant-loop-i : goal.invariant-loop-i
invariant-loop-i l = every (place_sound_at l.q l.words) l.i ≡ true
