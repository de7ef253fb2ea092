-- What 20 tells apart: bytes are read whole exactly where they spell lines, each float by any of its patterns; printed
-- lines do. Assumes nothing.
use Rattle.std.specs.Prelude.{◌≡◌, refl, true, List, [], ◌∷◌, ◌++◌, ◌⊎◌, ℕ, zero, suc, ◌≤◌, length, Float, None, Option, Some}
use Rattle.std.proofs.Common.{sym, ap, subst, ◌∙◌, inl, inr, arith, le_refl}
use Rattle.std.proofs.lemmas.Bool.{false≢true}
use Rattle.text.specs.Text.{Text, lost, left}
use Rattle.text.specs.Form.{Form, end, real, either, Vals, read, print, Spells, Fit, map, say, three, ◌&◌}
use Rattle.text.specs.FormLaws.{printed, reads, spells}
use Rattle.text.specs.LengthLaws.{at_least}
use Rattle.convert.specs.Lines.{given_form, missing_form, to_exponent, kernel_form, to_file, file_line, file_lines, filed, ended, all_lines}
use Rattle.convert.specs.declared.file.FileKernel.{FileKernel}

-- ---- a line's values, and back

abbrev pub of_exponent : Option Float → Vals given_form ⊎ Vals missing_form
of_exponent (Some alpha) = inl (alpha & tt)
of_exponent None = inr tt

abbrev pub of_file : FileKernel → Vals kernel_form
of_file f = f.x & f.y & f.z & f.sigma & f.w & of_exponent f.exponent & tt

to_of_exponent : (e : Option Float) → to_exponent (of_exponent e, tt) ≡ e
to_of_exponent (Some alpha) = refl
to_of_exponent None = refl

to_of : (f : FileKernel) → to_file (of_file f) ≡ f
to_of f =
    (λ i.
    record { x = f.x; y = f.y; z = f.z; sigma = f.sigma; w = f.w; exponent = to_of_exponent f.exponent i })

of_to_exponent : (v : Vals given_form ⊎ Vals missing_form) → of_exponent (to_exponent (v, tt)) ≡ v
of_to_exponent (inl v) = refl
of_to_exponent (inr v) = refl

of_to : (v : Vals kernel_form) → of_file (to_file v) ≡ v
of_to v =
    (λ i. v.0 & v.1.0 & v.1.1.0 & v.1.1.1.0 & v.1.1.1.1.0 & of_to_exponent v.1.1.1.1.1.0 i & tt)

-- ---- lines that are spelled, each float by any of its patterns
-- (`SpellsAll` of reader is of any form; to share proofs, the readers `file_lines` and `lines_to` would have to be one)

abbrev pub SpellsAll : List FileKernel → List ℕ → Type 0
SpellsAll [] s = s ≡ []
SpellsAll (f ∷ fs) s = (r : List ℕ) × Spells kernel_form (of_file f) s r × SpellsAll fs r

line_reads : (f : FileKernel) (l r : List ℕ) → Spells kernel_form (of_file f) l r
    → file_line (left l) ≡ record { val = f; text = left r }
unfolding file_line
line_reads f l r s = ap (map to_file) (reads kernel_form (of_file f) l r tt s)
    ∙ (λ i. record { val = to_of f i; text = left r })

-- the form after its first word
abbrev after_first : Form
after_first = three (say ") (sigma " (real
    (say ") (w " (real (say ") (alpha " (either given_form missing_form (say "))\n" end)))))))

-- a line has a byte
not-nothing : (f : FileKernel) (r : List ℕ) → Spells kernel_form (of_file f) [] r → ⊥
not-nothing f r s = let n = ap length s.1 in absurd (omega (arith, n))

shorter : (f : FileKernel) (l r : List ℕ) → Spells kernel_form (of_file f) l r → suc (length r) ≤ length l
shorter f l r s = omega (arith, ap length s.1, at_least after_first (of_file f) s.0 r s.2)

lines_read : (most : ℕ) (fs : List FileKernel) (l : List ℕ) → length l ≤ most → SpellsAll fs l
    → file_lines most (left l) ≡ record { val = fs; text = left [] }
unfolding file_lines
lines_read zero [] l n s = ap (λ (m : List ℕ). record { val = []; text = left m }) s
lines_read zero (f ∷ fs) [] n s = absurd (not-nothing f s.0 s.1)
lines_read zero (f ∷ fs) (b ∷ l) n s = absurd (omega (arith, n))
lines_read (suc most) [] l n s = ap (λ (m : List ℕ). file_lines (suc most) (left m)) s
lines_read (suc most) (f ∷ fs) [] n s = absurd (not-nothing f s.0 s.1)
lines_read (suc most) (f ∷ fs) (b ∷ l) n s =
    let e = line_reads f (b ∷ l) s.0 s.1 in
    let h = shorter f (b ∷ l) s.0 s.1 in
    let i' = lines_read most fs s.0 (omega (arith, h)) s.2 in
    (λ i. record { val = (e i).val ∷ (file_lines most (e i).text).val; text = (file_lines most (e i).text).text })
    ∙ (λ i. record { val = f ∷ (i' i).val; text = (i' i).text })

-- they are read, whole
pub file_reads : (fs : List FileKernel) (s : List ℕ) → SpellsAll fs s
    → file_lines (length s) (left s) ≡ record { val = fs; text = left [] }
file_reads fs s h = lines_read (length s) fs s (le_refl (length s)) h

-- ---- lines that are printed are spelled

abbrev pub print_lines : List FileKernel → List ℕ
print_lines [] = []
print_lines (f ∷ fs) = print kernel_form (of_file f) ++ print_lines fs

abbrev pub AllFit : List FileKernel → Type 0
AllFit [] = Unit {0}
AllFit (f ∷ fs) = Fit kernel_form (of_file f) × AllFit fs

pub print-spells : (fs : List FileKernel) → AllFit fs → SpellsAll fs (print_lines fs)
print-spells [] h = refl
print-spells (f ∷ fs) h = (print_lines fs, printed kernel_form (of_file f) (print_lines fs) h.0, print-spells fs h.1)

-- ---- what is read whole is spelled

-- no line is found in what is lost
lost_stays : (most : ℕ) → ended (file_lines most lost).text ≡ true → ⊥
unfolding file_lines
lost_stays zero e = false≢true e
lost_stays (suc most) e = false≢true e

one-spells : (most : ℕ) (l : List ℕ) (t : Text) → (read kernel_form (left l)).text ≡ t
    → ended (file_lines most t).text ≡ true
    → ((m : List ℕ) → ended (file_lines most (left m)).text ≡ true → SpellsAll (file_lines most (left m)).val m)
    → SpellsAll (to_file (read kernel_form (left l)).val ∷ (file_lines most t).val) l
one-spells most l lost h e ih = absurd (lost_stays most e)
one-spells most l (left r) h e ih = (
  r,
  subst (λ (v : Vals kernel_form). Spells kernel_form v l r) (sym (of_to (read kernel_form (left l)).val))
      (spells kernel_form l r tt h),
  ih r e,
)

lines_spell : (most : ℕ) (l : List ℕ) → ended (file_lines most (left l)).text ≡ true
    → SpellsAll (file_lines most (left l)).val l
unfolding file_lines file_line
lines_spell zero [] e = refl
lines_spell zero (b ∷ l) e = absurd (false≢true e)
lines_spell (suc most) [] e = refl
lines_spell (suc most) (b ∷ l) e =
    one-spells most (b ∷ l) (read kernel_form (left (b ∷ l))).text refl e (lines_spell most)

pub file_spells : (s : List ℕ) → all_lines s ≡ true → SpellsAll (filed s) s
file_spells s e = lines_spell (length s) s e
