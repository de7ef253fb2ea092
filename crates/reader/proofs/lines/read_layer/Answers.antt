-- The end without a layer where it stands, else the one with a layer. Assumes nothing.
use Rattle.std.proofs.Common.{◌-◌, ◌^◌, sym, ◌∙◌}
use Rattle.text.specs.Text.{rest, bytes, decimal}
use Rattle.text.specs.Form.{or, followed_by}
use Rattle.text.specs.FormLaws.{choose-is}
use Rattle.forms.specs.Forms.{put_end}
use Rattle.script.specs.Lines.{layer_end}
use Rattle.reader.proofs.lines.read_layer.Goals as goal

pub returns : goal.returns
returns c =
    let t = rest c.args.s.now c.args.at in
    let e = c.read_bytes.ensures in
    let w = c.read_bytes-2.ensures in
    let n = c.then-named.ensures
    ∙ (λ i. followed_by (bytes "))") ((c.read_u32.ensures ∙ (λ j. decimal (2 ^ 32 - 1) (w j))) i)) in
    c.or.ensures ∙ (λ i. or (record { val = 0; text = e i }) (n i))
    ∙ sym (choose-is put_end layer_end (λ none. 0) (λ n. n.0) t)
