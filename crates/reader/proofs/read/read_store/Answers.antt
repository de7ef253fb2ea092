-- The positions that the first pass finds, its verdict, and the second pass. Assumes nothing.
use Rattle.std.proofs.Common.{length, ◌∙◌, arith}
use Rattle.std.proofs.lemmas.Grind.{common_steps}
use Rattle.layout.specs.Layout.{width}
use Rattle.text.specs.Form.{◌&◌}
use Rattle.script.specs.Lines.{put_line}
use Rattle.reader.specs.ReadOf.{script_check}
use Rattle.reader.specs.ReadLaws.{ended_in}
use Rattle.reader.specs.StepLaws.{Parsed, from_is}
use Rattle.reader.proofs.StepsOf.{limits_are, step_bad, step_refused, step_done}
use Rattle.reader.proofs.read.read_store.Goals as goal

pub returns-in_default : goal.returns-in_default
returns-in_default c =
    let a = c.args in
    let o = c.read_open-h in
    let h = o.result.value in
    let v = c.check_verts-a in
    let k = c.check_faces-b in
    let p : Parsed a.s.now h.radius h.verts h.faces o.result.at v.result k.result.at
    = record {
      head = λ j.
          let x = (o.ensures j).val in
          record { val = x.radius & x.verts & x.faces & tt; text = (o.ensures j).text };
      verts = v.ensures;
      faces = k.ensures.at_value;
    } in
    step_bad p width a.floats.now a.words.now c.in_default.ensures

pub returns-in_err-check_limits : goal.returns-in_err-check_limits
returns-in_err-check_limits c =
    let a = c.args in
    let o = c.read_open-h in
    let h = o.result.value in
    let v = c.check_verts-a in
    let k = c.check_faces-b in
    let p : Parsed a.s.now h.radius h.verts h.faces o.result.at v.result k.result.at
    = record {
      head = λ j.
          let x = (o.ensures j).val in
          record { val = x.radius & x.verts & x.faces & tt; text = (o.ensures j).text };
      verts = v.ensures;
      faces = k.ensures.at_value;
    } in
    let e = c.in-Some.ensures in
    let n = c.in-Some.puts in
    let g = limits_are p width a.floats.now a.words.now
    (k.ensures.below_value (ended_in put_line a.s.now (length a.s.now) _ e.text)) e.places e.layers c.check_limits.ensures in
    let x = c.in_err-check_limits.field-0.0 in
    let z = step_refused p width a.floats.now a.words.now x e.text (g ∙ c.in_err-check_limits.was) in
    grind (arith, common_steps, z)

pub load-requires : goal.load-requires
load-requires c =
    let a = c.args in
    let o = c.read_open-h in
    let h = o.result.value in
    let v = c.check_verts-a in
    let k = c.check_faces-b in
    let p : Parsed a.s.now h.radius h.verts h.faces o.result.at v.result k.result.at
    = record {
      head = λ j.
          let x = (o.ensures j).val in
          record { val = x.radius & x.verts & x.faces & tt; text = (o.ensures j).text };
      verts = v.ensures;
      faces = k.ensures.at_value;
    } in
    let e = c.in-Some.ensures in
    let n = c.in-Some.puts in
    let g = limits_are p width a.floats.now a.words.now
    (k.ensures.below_value (ended_in put_line a.s.now (length a.s.now) _ e.text)) e.places e.layers c.check_limits.ensures in
    (λ i. script_check width (from_is p n.count e.count i) (length a.floats.now) (length a.words.now))
    ∙ g ∙ c.in_ok-check_limits.was

pub returns : goal.returns
returns c =
    let a = c.args in
    let o = c.read_open-h in
    let h = o.result.value in
    let v = c.check_verts-a in
    let k = c.check_faces-b in
    let p : Parsed a.s.now h.radius h.verts h.faces o.result.at v.result k.result.at
    = record {
      head = λ j.
          let x = (o.ensures j).val in
          record { val = x.radius & x.verts & x.faces & tt; text = (o.ensures j).text };
      verts = v.ensures;
      faces = k.ensures.at_value;
    } in
    let e = c.in-Some.ensures in
    let n = c.in-Some.puts in
    let g = limits_are p width a.floats.now a.words.now
    (k.ensures.below_value (ended_in put_line a.s.now (length a.s.now) _ e.text)) e.places e.layers c.check_limits.ensures in
    step_done p width a.floats.now a.words.now n.count e.text (g ∙ c.in_ok-check_limits.was) e.count
    c.load.ensures.floats_after c.load.ensures.words_after
