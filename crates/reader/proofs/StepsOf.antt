-- What the reader's call does, by what its passes found. Assumes nothing.
use Rattle.std.specs.Result.{result_and}
use Rattle.std.specs.Prelude.{◌≡◌, List, [], ◌∷◌, Bool, ℕ, ◌+◌, ◌*◌, Float, Err}
use Rattle.std.proofs.Common.{sym, ◌∙◌}
use Rattle.std.proofs.Math.Dec.{ltb, leb}
use Rattle.std.proofs.Math.ListN.{length}
use Rattle.base.specs.Answers.{counted, refused, Checked, passed}
use Rattle.base.specs.declared.refusal.Refusal.{Refusal}
use Rattle.base.specs.declared.refusal.Refusal.TheVariants.{BadLine}
use Rattle.mesh.specs.Checks.{vertex_limit, face_limit, all_below}
use Rattle.layout.specs.Layout.{coords_from, corners_from}
use Rattle.layout.specs.After.{After, after, guarded}
use Rattle.text.specs.Text.{Text, lost, left, rest, Got}
use Rattle.text.specs.Form.{Vals}
use Rattle.script.specs.Lines.{face_line, put_line}
use Rattle.reader.specs.ReadOf.{lines_from, lines_to, corners_in, Script, played, form_check, places_in, layers_in, script_check, load_step}
use Rattle.reader.specs.ReadLaws.{coords_count, corners_count}
use Rattle.reader.specs.StepLaws.{verdict, check_is, saying, script_from, Parsed, read_is, from_is}

module _ {s : List ℕ} {r : Float} {v f h a b : ℕ} (p : Parsed s r v f h a b) where
  abbrev P : Got (List (Vals put_line))
  P = lines_to put_line (length s) (rest s b)

  abbrev script : Script
  script = saying r v f (rest s h) (rest s a) P.val

  -- ---- what the call does by them
  module _ (q : ℕ) (fs : List Float) (ws : List ℕ) where
    abbrev effect : Checked → After
    effect c = guarded c fs ws (after (counted (v ∷ f ∷ length script.puts ∷ [])) (played q fs ws script).floats
        (played q fs ws script).words)

    step_is : (t : Text) → P.text ≡ t → load_step q fs ws s
        ≡ effect (result_and (form_check t) (script_check q script (length fs) (length ws)))
    unfolding load_step
    step_is t e =
        (λ i. let d = (read_is p i).val in
        guarded (result_and (form_check (read_is p i).text) (script_check q d (length fs) (length ws))) fs ws
        (after (counted (d.verts ∷ d.faces ∷ length d.puts ∷ [])) (played q fs ws d).floats
        (played q fs ws d).words))
        ∙ (λ i. effect (result_and (form_check (e i)) (script_check q script (length fs) (length ws))))

    pub tests_are : script_check q script (length fs) (length ws)
        ≡ verdict (ltb vertex_limit v) (ltb face_limit f) (all_below v (corners_in (lines_from face_line f (rest s a)).val))
        (leb (coords_from + 3 * v) (length fs)) (leb (corners_from q + 3 * f) (length ws)) (places_in P.val)
        (layers_in P.val)
    tests_are = check_is q script (coords_count v (rest s h)) (corners_count f (rest s a)) (length fs) (length ws)

    -- by what the passes found: whether all corners are below v, each put names a place, and each a layer
    pub limits_are : {below placed layered : Bool} {c : Checked}
        → below ≡ all_below v (corners_in (lines_from face_line f (rest s a)).val) → placed ≡ places_in P.val
        → layered ≡ layers_in P.val
        → c ≡ verdict (ltb vertex_limit v) (ltb face_limit f) below (leb (coords_from + 3 * v) (length fs))
        (leb (corners_from q + 3 * f) (length ws)) placed layered
        → script_check q script (length fs) (length ws) ≡ c
    limits_are x y z e =
        tests_are
        ∙ (λ i. verdict (ltb vertex_limit v) (ltb face_limit f) (sym x i) (leb (coords_from + 3 * v) (length fs))
        (leb (corners_from q + 3 * f) (length ws)) (sym y i) (sym z i))
        ∙ sym e

    -- 13
    pub step_bad : P.text ≡ lost → after (refused BadLine) fs ws ≡ load_step q fs ws s
    step_bad e = sym (step_is lost e)

    -- 2, 3, 4, 6, 16
    pub step_refused : (x : Refusal) → P.text ≡ left [] → script_check q script (length fs) (length ws) ≡ Err x
        → after (refused x) fs ws ≡ load_step q fs ws s
    step_refused x e g = sym (step_is (left []) e ∙ (λ i. effect (g i)))

    pub step_done : (n : ℕ) {fs' : List Float} {ws' : List ℕ} → P.text ≡ left []
        → script_check q script (length fs) (length ws) ≡ passed → n ≡ length P.val
        → fs' ≡ (played q fs ws (script_from s r v f n h)).floats → ws' ≡ (played q fs ws (script_from s r v f n h)).words
        → after (counted (v ∷ f ∷ n ∷ [])) fs' ws' ≡ load_step q fs ws s
    step_done n e g m x y =
        let k = from_is p n m in
        (λ i. after (counted (v ∷ f ∷ m i ∷ [])) ((x ∙ (λ j. (played q fs ws (k j)).floats)) i)
        ((y ∙ (λ j. (played q fs ws (k j)).words)) i))
        ∙ sym (step_is (left []) e ∙ (λ i. effect (g i)))
