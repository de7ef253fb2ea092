-- The bytes that the text begins with, or none. Assumes nothing.
use Rattle.std.proofs.Common.{refl, sym, ◌∙◌}
use Rattle.text.specs.TextLaws.{rest-past, rest_in, rest_out}
use Rattle.text.proofs.Steps.{literal-there, not_begun, part_is}
use Rattle.text.proofs.read.read_bytes.Goals as goal
use Rattle.text.proofs.read.read_bytes.Goals.{else-at-s-via-then-at-s+else-starts_with, else-at-s-via-else-at-s}

pub returns-then-starts_with : goal.returns-then-starts_with
returns-then-starts_with c =
    literal-there c.args.p.now c.args.s.now c.args.at c.if-at-s.true (c.if-starts_with.ensures.bound refl)
    (sym c.if-starts_with.true ∙ c.starts_with.ensures.value)

pub returns-else-at-s : goal.returns-else-at-s
returns-else-at-s c =
    let s = c.args.s.now in
    rw (rest-past s)
    (elim c.else-at-s.branch [
      | else-at-s-via-then-at-s+else-starts_with w ↦
          let e = sym w.if-starts_with.false ∙ w.starts_with.ensures.value in
          let h = w.if-at-s.true in
          rw (rest_in s c.args.at h) (sym (not_begun c.args.p.now _ (rw part_is at e)))
      | else-at-s-via-else-at-s w ↦ let h = w.if-at-s.false in rw (rest_out s c.args.at h)
    ])
