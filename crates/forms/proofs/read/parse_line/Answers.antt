-- A line of any form, read to its end. Assumes nothing.
use mathlib.Core.Path.{sym, ◌∙◌}
use Rattle.forms.specs.Words.{by_word_lem}
use Rattle.forms.proofs.Steps.{ended_is, other-is}
use Rattle.forms.proofs.read.parse_line.Goals as goal

pub returns-then-r-s : goal.returns-then-r-s
returns-then-r-s c =
    let s = c.args.s.now in
    let r = c.read_line-r in
    let e = r.ensures ∙ sym (by_word_lem s) in
    ended_is s r.result.at r.result.value c.if-r-s.true ∙ e

pub returns-else-r-s : goal.returns-else-r-s
returns-else-r-s c =
    let s = c.args.s.now in
    let r = c.read_line-r in
    let e = r.ensures ∙ sym (by_word_lem s) in
    other-is s r.result.at r.result.value c.if-r-s.false ∙ e
