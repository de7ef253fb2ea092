-- The opening's runs, and then the puts. Assumes nothing.
use mathlib.Core.Path.{◌∙◌}
use Rattle.base.specs.Answers.{done}
use Rattle.layout.specs.After.{after}
use Rattle.layout.specs.Layout.{width}
use Rattle.layout.specs.Runs.{write}
use Rattle.layout.specs.Soundness.{store_check}
use Rattle.store.specs.Calls.{open_words}
use Rattle.script.specs.Lines.{face_line, put_line}
use Rattle.reader.specs.ReadOf.{lines_from, corners_in, places_in, layers_in, puts_on}
use Rattle.reader.specs.StepLaws.{loads}
use Rattle.reader.proofs.read.load.Goals as goal

pub load_floats-a-requires : goal.load_floats-a-requires
load_floats-a-requires c =
    let a = c.args in
    (loads a.floats.now a.words.now a.s.now a.head.radius a.head.verts a.head.faces a.n a.at
    c.requires).floats

pub load_words-b-requires : goal.load_words-b-requires
load_words-b-requires c =
    let a = c.args in
    (loads a.floats.now a.words.now a.s.now a.head.radius a.head.verts a.head.faces a.n a.at c.requires).words

pub load_puts-requires : goal.load_puts-requires
load_puts-requires c =
    let a = c.args in
    let l = loads a.floats.now a.words.now a.s.now a.head.radius a.head.verts a.head.faces a.n a.at
    c.requires in
    let x = c.load_floats-a.ensures in
    let y = c.load_words-b.ensures in
    let u = y.result_value ∙ (λ i. (lines_from face_line a.head.faces (x.result_value i)).text) in
    let v = y.words_after
    ∙ (λ i. write a.words.now 0
    (open_words width a.head.verts a.head.faces (corners_in (lines_from face_line a.head.faces (x.result_value i)).val))) in (
      (λ i. store_check width (x.floats_after i) (v i)) ∙ l.sound,
      (λ i. places_in (lines_from put_line a.n (u i)).val) ∙ l.places,
      (λ i. layers_in (lines_from put_line a.n (u i)).val) ∙ l.layers,
    )

pub returns : goal.returns
returns c =
    let a = c.args in
    let l = loads a.floats.now a.words.now a.s.now a.head.radius a.head.verts a.head.faces a.n a.at
    c.requires in
    let x = c.load_floats-a.ensures in
    let y = c.load_words-b.ensures in
    let u = y.result_value ∙ (λ i. (lines_from face_line a.head.faces (x.result_value i)).text) in
    let v = y.words_after
    ∙ (λ i. write a.words.now 0
    (open_words width a.head.verts a.head.faces (corners_in (lines_from face_line a.head.faces (x.result_value i)).val))) in
    let z = c.load_puts.ensures in record {
      floats_after = z.floats_after
          ∙ (λ i. (puts_on width (lines_from put_line a.n (u i)).val (after done (x.floats_after i) (v i))).floats)
          ∙ l.left_floats;
      words_after = z.words_after
          ∙ (λ i. (puts_on width (lines_from put_line a.n (u i)).val (after done (x.floats_after i) (v i))).words)
          ∙ l.left_words;
    }
