use mathlib.Core.Path.{◌≡◌}
use mathlib.Core.Bool.{true}
use Prim.Native.Nat.{◌-◌}
use Rattle.base.specs.Answers.{done, passed}
use Rattle.layout.specs.After.{after}
use Rattle.layout.specs.Layout.{width}
use Rattle.layout.specs.Soundness.{store_check}
use Rattle.text.specs.Text.{rest}
use Rattle.script.specs.Lines.{put_line}
use Rattle.reader.specs.ReadOf.{lines_from, places_in, layers_in, puts_on}
use Rattle.reader.proofs.read.load_puts.Given as goal

abbrev pub invariant-loop-i : goal.invariant-loop-i
invariant-loop-i l =
    let here = (lines_from put_line (l.n - l.i) (rest l.s l.k)).val in
    let all = (lines_from put_line l.n (rest l.s l.at)).val in
    record {
      sound : store_check width l.floats l.words ≡ passed;
      places : places_in here ≡ true;
      layers : layers_in here ≡ true;
      floats : (puts_on width here (after done l.floats l.words)).floats
          ≡ (puts_on width all (after done l.initial.floats l.initial.words)).floats;
      words : (puts_on width here (after done l.floats l.words)).words
          ≡ (puts_on width all (after done l.initial.floats l.initial.words)).words;
    }
