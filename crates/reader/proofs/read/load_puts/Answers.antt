-- At each turn the puts of the lines that are left leave what all leave, and the store has no fault. Assumes nothing.
use mathlib.Core.Path.{◌≡◌, refl, sym, ◌∙◌}
use Rattle.std.proofs.Common.{Ok}
use native.Mathlib.Nat.{sub-zero}
use Rattle.store.specs.Puts.{put_step_lem}
use Prim.Native.Nat.{◌+◌, ◌-◌, ◌<◌}
use native.Mathlib.Omega.{arith}
use Rattle.base.specs.Answers.{done}
use Rattle.layout.specs.After.{after}
use Rattle.layout.specs.Layout.{width}
use Rattle.store.specs.PutAnswer.{placed}
use Rattle.store.specs.SoundStores.{put_passes, step_stays}
use Rattle.text.specs.Text.{rest}
use Rattle.text.specs.Form.{read}
use Rattle.script.specs.Lines.{put_line}
use Rattle.reader.specs.ReadOf.{lines_from, place_in, layer_in, places_in, layers_in, puts_on}
use Rattle.reader.specs.ReadLaws.{from_next, from-none, place_first, layer_first, puts_turn, puts_none}
use Rattle.reader.proofs.read.load_puts.Goals as goal

pub put_sound-requires : goal.put_sound-requires
put_sound-requires c =
    let a = c.args in
    let l = c.loop-i in
    let p = c.read_put-entry in
    let t = rest a.s.now l.k in
    let v = (read put_line t).val in
    let e = from_next put_line a.n l.i t (rest a.s.now p.result.at)
    c.loop-i-test.true (λ j. (p.ensures j).text) in
    let vs = (lines_from put_line (a.n - (l.i + 1)) (rest a.s.now p.result.at)).val in
    let x = place_first v vs ((λ j. places_in (sym e j).val) ∙ l.invariant.places) in
    let y = layer_first v vs ((λ j. layers_in (sym e j).val) ∙ l.invariant.layers) in
    let px : p.result.value.put.place ≡ place_in v = λ j. (p.ensures j).val.put.place in
    let py : p.result.value.layer ≡ layer_in v = λ j. (p.ensures j).val.layer in
    let ix : p.result.value.put.place < 32 = omega (arith, x.0, px) in
    let iy : p.result.value.layer < 16 = omega (arith, y.0, py) in
    put_passes l.floats l.words p.result.value.put.place p.result.value.layer l.invariant.sound ix iy

pub loop-i-preserved : goal.loop-i-preserved
loop-i-preserved c =
    let a = c.args in
    let l = c.loop-i in
    let p = c.read_put-entry in
    let t = rest a.s.now l.k in
    let v = (read put_line t).val in
    let e = from_next put_line a.n l.i t (rest a.s.now p.result.at) c.loop-i-test.true
    (λ j. (p.ensures j).text) in
    let vs = (lines_from put_line (a.n - (l.i + 1)) (rest a.s.now p.result.at)).val in
    let x = place_first v vs ((λ j. places_in (sym e j).val) ∙ l.invariant.places) in
    let y = layer_first v vs ((λ j. layers_in (sym e j).val) ∙ l.invariant.layers) in
    let px : p.result.value.put.place ≡ place_in v = λ j. (p.ensures j).val.put.place in
    let py : p.result.value.layer ≡ layer_in v = λ j. (p.ensures j).val.layer in
    let ix : p.result.value.put.place < 32 = omega (arith, x.0, px) in
    let iy : p.result.value.layer < 16 = omega (arith, y.0, py) in
    let u = c.put_sound in
    let k = step_stays l.floats l.words p.result.value.put.place p.result.value.layer l.invariant.sound ix iy
    p.result.value.put.kernel {r = placed (Ok u.result)} u.ensures in
    let g = u.ensures
    ∙ (λ j.
    let q = (p.ensures j).val in put_step_lem width l.floats l.words q.put.place q.put.kernel q.layer) in
    let m = puts_turn width v vs l.floats l.words (placed (Ok u.result)) u.new.floats u.new.words g in record {
      sound = k;
      places = x.1;
      layers = y.1;
      floats = m.0 ∙ (λ j. (puts_on width (sym e j).val (after done l.floats l.words)).floats) ∙ l.invariant.floats;
      words = m.1 ∙ (λ j. (puts_on width (sym e j).val (after done l.floats l.words)).words) ∙ l.invariant.words;
    }

pub returns : goal.returns
returns c =
    let a = c.args in
    let l = c.loop-i in
    let e = from-none put_line a.n l.i (rest a.s.now l.k) c.loop-i-test.false in
    let o = after done l.floats l.words in record {
      floats_after = (λ j. (sym (puts_none width o) j).floats) ∙ (λ j. (puts_on width (sym e j).val o).floats)
          ∙ l.invariant.floats;
      words_after = (λ j. (sym (puts_none width o) j).words) ∙ (λ j. (puts_on width (sym e j).val o).words)
          ∙ l.invariant.words;
    }

pub loop-i-init : goal.loop-i-init
loop-i-init c = record {
  sound = c.requires.0;
  places = rw sub-zero c.requires.1;
  layers = rw sub-zero c.requires.2;
  floats = rw sub-zero refl;
  words = rw sub-zero refl;
}
