-- Of the three readers of a mesh's lines, and that of calls, the one that the first word names. Assumes nothing.
use mathlib.Core.Path.{sym, ◌∙◌}
use Rattle.forms.specs.Forms.{open_form, to_open, vert_form, to_vert, face_form, to_face}
use Rattle.forms.specs.Words.{call_by_word}
use Rattle.forms.proofs.Steps.{read_as}
use Rattle.forms.proofs.read.read_line.Goals as goal

pub returns-then-begins : goal.returns-then-begins
returns-then-begins c =
    let e1 = sym c.begins.ensures ∙ c.if-begins.true in
    let s = c.args.s.now in
    let r = c.read_open in
    rw e1 (read_as open_form to_open s r.result.value r.result.at r.ensures)

pub returns-then-begins-2 : goal.returns-then-begins-2
returns-then-begins-2 c =
    let e1 = sym c.begins.ensures ∙ c.if-begins.false in
    let e2 = sym c.begins-2.ensures ∙ c.if-begins-2.true in
    let s = c.args.s.now in
    let r = c.read_vert in
    rw (e1, e2) (read_as vert_form to_vert s r.result.value r.result.at r.ensures)

pub returns-then-begins-3 : goal.returns-then-begins-3
returns-then-begins-3 c =
    let e1 = sym c.begins.ensures ∙ c.if-begins.false in
    let e2 = sym c.begins-2.ensures ∙ c.if-begins-2.false in
    let e3 = sym c.begins-3.ensures ∙ c.if-begins-3.true in
    let s = c.args.s.now in
    let r = c.read_face in
    rw (e1, e2, e3) (read_as face_form to_face s r.result.value r.result.at r.ensures)

pub returns : goal.returns
unfolding call_by_word
returns c =
    let e1 = sym c.begins.ensures ∙ c.if-begins.false in
    let e2 = sym c.begins-2.ensures ∙ c.if-begins-2.false in
    let e3 = sym c.begins-3.ensures ∙ c.if-begins-3.false in
    rw (e1, e2, e3) c.read_call.ensures
