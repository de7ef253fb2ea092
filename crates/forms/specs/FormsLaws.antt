-- A line that is printed is parsed as itself, and what is parsed as a line is its text, up to the patterns of a NaN.
-- Assumes nothing.
use Rattle.std.specs.Prelude.{◌≡◌, refl, List, [], ◌∷◌, ◌⊎◌, ℕ, Some, length}
use Rattle.std.proofs.Common.{sym, ap, subst, ◌∙◌, append-nil, inl, inr, arith}
use Rattle.std.proofs.lemmas.Option.{none-some, same_Some}
use Rattle.base.specs.Floats.{+0}
use Rattle.text.specs.Text.{Text, lost, left, Got}
use Rattle.text.specs.Form.{end, either, Vals, read, Spells, Fit, NoNan}
use Rattle.text.specs.FormLaws.{back_all, spells, spelled}
use Rattle.density.specs.declared.convention.Convention.{Convention}
use Rattle.density.specs.declared.convention.Convention.TheVariants.{Raw, Rho0, Mass}
use Rattle.forms.specs.declared.line.Line.{Line}
use Rattle.forms.specs.declared.line.Line.TheVariants.{Open, Vert, Face, OnStore}
use Rattle.forms.specs.declared.line.Call.TheVariants.{Put as put_call}
use Rattle.forms.specs.declared.line.Call.TheVariants.{Clear, Reweigh, Advance, Density, Report}
use Rattle.forms.specs.Forms.{raw_form, rho0_form, mass_form, to_convention, line_form, to_line, array_of, if_ended, parse_line, Good, of_array, this, next, of_convention, of_line, print_line}

-- ---- a line's values are those of the line

to_of_convention : (c : Convention) → to_convention (of_convention c, tt) ≡ c
to_of_convention Raw = refl
to_of_convention (Rho0 b) = refl
to_of_convention (Mass t b) = refl

-- an array of three is that of its numbers
array_is : {A : Type 0} (d : A) (xs : List A) → length xs ≡ 3 → array_of (of_array d xs (tt {0})) ≡ xs
array_is d [] e = absurd (omega arith)
array_is d (x ∷ []) e = absurd (omega arith)
array_is d (x ∷ (y ∷ [])) e = absurd (omega arith)
array_is d (x ∷ (y ∷ (z ∷ []))) e = refl
array_is d (x ∷ (y ∷ (z ∷ (a ∷ l)))) e = absurd (omega arith)

to_of : (l : Line) → Good l → to_line (of_line l) ≡ l
to_of (Open h) g = refl
to_of (Vert p) g = ap Vert (array_is +0 p g)
to_of (Face k) g = ap Face (array_is 0 k g)
to_of (OnStore (put_call p)) g =
    let k = p.kernel in
    (λ i. OnStore (put_call (record {
      place = p.place;
      kernel = record { c = array_is +0 k.c g i; sigma = k.sigma; w = k.w; alpha = k.alpha };
    })))
to_of (OnStore (Clear p)) g = refl
to_of (OnStore (Reweigh p w)) g = refl
to_of (OnStore (Advance n)) g = refl
to_of (OnStore (Density c p)) g = (λ i. OnStore (Density (to_of_convention c i) (array_is +0 p g i)))
to_of (OnStore (Report c)) g = (λ i. OnStore (Report (to_of_convention c i)))

of_to_convention : (v : Vals raw_form ⊎ Vals (either rho0_form mass_form end)) → of_convention (to_convention (v, tt)) ≡ v
of_to_convention (inl v) = refl
of_to_convention (inr (inl v, u)) = refl
of_to_convention (inr (inr v, u)) = refl

of_to : (v : Vals line_form) → of_line (to_line v) ≡ v
of_to (inl v, _) = refl
of_to (inr (inl v, _), _) = refl
of_to (inr (inr (inl v, _), _), _) = refl
of_to (inr (inr (inr (inl v, _), _), _), _) = refl
of_to (inr (inr (inr (inr (inl v, _), _), _), _), _) = refl
of_to (inr (inr (inr (inr (inr (inl v, _), _), _), _), _), _) = refl
of_to (inr (inr (inr (inr (inr (inr (inl v, _), _), _), _), _), _), _) = refl
of_to (inr (inr (inr (inr (inr (inr (inr (inl v, _), _), _), _), _), _), _), _) =
    (λ i. next (next (next (next (next (next (next (this (of_to_convention v.0 i, v.1)))))))))
of_to (inr (inr (inr (inr (inr (inr (inr (inr v, _), _), _), _), _), _), _), _) =
    (λ i. next (next (next (next (next (next (next (next (of_to_convention v.0 i, v.1)))))))))

-- and the line of any values is good
good_to : (v : Vals line_form) → Good (to_line v)
good_to (inl v, _) = tt
good_to (inr (inl v, _), _) = refl
good_to (inr (inr (inl v, _), _), _) = refl
good_to (inr (inr (inr (inl v, _), _), _), _) = refl
good_to (inr (inr (inr (inr (inl v, _), _), _), _), _) = tt
good_to (inr (inr (inr (inr (inr (inl v, _), _), _), _), _), _) = tt
good_to (inr (inr (inr (inr (inr (inr (inl v, _), _), _), _), _), _), _) = tt
good_to (inr (inr (inr (inr (inr (inr (inr (inl v, _), _), _), _), _), _), _), _) = refl
good_to (inr (inr (inr (inr (inr (inr (inr (inr v, _), _), _), _), _), _), _), _) = tt

-- ---- the theorems

-- a line that is printed is parsed as itself
pub parse_print : (l : Line) → Good l → Fit line_form (of_line l) → parse_line (print_line l) ≡ Some l
unfolding parse_line
parse_print l g h =
    (λ i. if_ended (back_all line_form (of_line l) tt h i).text (to_line (back_all line_form (of_line l) tt h i).val))
    ∙ ap Some (to_of l g)

ended : (t : Text) (m l : Line) → if_ended t m ≡ Some l → (t ≡ left []) × (m ≡ l)
ended lost m l e = absurd (none-some _ e)
ended (left []) m l e = (refl, same_Some _ _ e)
ended (left (b ∷ t)) m l e = absurd (none-some _ e)

module _ (s : List ℕ) (l : Line) (e : parse_line s ≡ Some l) where
  abbrev found : Got (Vals line_form)
  found = read line_form (left s)

  whole : (found.text ≡ left []) × (to_line found.val ≡ l)
  unfolding parse_line
  whole = ended found.text (to_line found.val) l e

  pub parse_good : Good l
  parse_good = subst Good whole.1 (good_to found.val)

  -- what is parsed as a line spells it, each float by any of its patterns
  pub parse_spells : Spells line_form (of_line l) s []
  parse_spells =
      subst (λ (v : Vals line_form). Spells line_form v s []) (sym (of_to found.val) ∙ ap of_line whole.1)
      (spells line_form s [] tt whole.0)

  -- and is the line's text, unless a value of it is a NaN
  pub print_parse : NoNan line_form (of_line l) → s ≡ print_line l
  print_parse n = spelled line_form (of_line l) s [] n parse_spells ∙ append-nil (print_line l)
