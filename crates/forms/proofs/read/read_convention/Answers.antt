-- The three forms, the first that stands there. Assumes nothing.
use mathlib.Core.Path.{sym, ◌∙◌}
use Rattle.text.specs.Text.{rest}
use Rattle.text.specs.Form.{end, either, choose, or}
use Rattle.text.specs.FormLaws.{choose-is}
use Rattle.forms.specs.Forms.{raw_form, rho0_form, mass_form, to_raw, to_rho0, to_mass}
use Rattle.forms.proofs.read.read_convention.Goals as goal

pub returns : goal.returns
returns c =
    let t = rest c.args.s.now c.args.at in
    let r = c.or-scaled.ensures ∙ (λ i. or (c.read_rho0.ensures i) (c.read_mass.ensures i))
    ∙ sym (choose-is rho0_form mass_form to_rho0 to_mass t) in
    c.or.ensures ∙ (λ i. or (c.read_raw.ensures i) (r i))
    ∙ sym (choose-is raw_form (either rho0_form mass_form end) to_raw (choose to_rho0 to_mass) t)
