-- 02, L10: the reader "refuses the whole where one line would be refused, and leaves what that opening and those puts,
-- line by line, would". The checks that it makes ahead pass exactly where neither the opening nor any put after it is
-- refused; and what it then leaves is a sound store of the script's mesh and radius, with the last put of each place.
-- Assumes nothing.
use Rattle.std.specs.Result.{result_and}
use Rattle.std.specs.Prelude.{◌≡◌, Bool, true, false, ◌&&◌, cond, ℕ, ◌*◌, eqb, ltb, length, Float, Ok, Err}
use Rattle.std.proofs.Math.Path.{refl, ap}
use Rattle.std.proofs.Common.{sym, ◌∙◌, arith}
use mathlib.Core.List.{List, [], ◌∷◌, ◌++◌}
use borrow.Author.Tests.{ltb-true, eqb-true}
use Rattle.base.specs.Answers.{counted, Checked, passed}
use Rattle.base.specs.RefusalLaws.{not-zero}
use Rattle.base.specs.declared.refusal.Refusal.{Refusal}
use Rattle.base.specs.declared.refusal.Refusal.TheVariants.{NoPlace, NoLayer}
use Rattle.kernel.specs.declared.kernel.Kernel.{Kernel}
use Rattle.pieces.specs.Pieces.{decomposed}
use Rattle.pieces.specs.FitEnd.{fit_of}
use Rattle.layout.specs.Layout.{width, place_limit, layer_limit, radius_of, verts_of, faces_of}
use Rattle.layout.specs.Soundness.{store_check, place_check, layer_check}
use Rattle.layout.specs.SoundLaws.{both, passed-both}
use Rattle.layout.specs.After.{After, after, guarded}
use Rattle.store.specs.Calls.{open_check, open_step}
use Rattle.store.specs.OpenLaws.{Meshes, open_passes}
use Rattle.store.specs.Puts.{placed_with, put_floats, put_words, put_step_lem}
use Rattle.text.specs.Form.{Vals}
use Rattle.script.specs.Lines.{put_line}
use Rattle.reader.specs.ReadOf.{Script, read_of, place_in, kernel_in, layer_in, put_on, puts_on, played, form_check, places_in, layers_in, puts_check, script_check, load_step}
use Rattle.reader.specs.Spelling.{by_threes}
use Rattle.reader.specs.Leaves.{Held, none, given, Stands, opened-stands, put_stands, stands-sound}

-- ---- line by line

-- a call is not refused
abbrev pub Taken : After → Type 0
Taken a = a.reply.refusal ≡ 0

-- what was done so far is not refused, nor is any of these puts, each on what the one before it left
abbrev pub EachTaken : ℕ → List (Vals put_line) → After → Type 0
EachTaken q [] a = Taken a
EachTaken q (v ∷ vs) a = Taken a × EachTaken q vs (put_on q v a)

-- what each place holds after a put, and after these: by the last of them that names the place
abbrev pub held_by : Vals put_line → (ℕ → Held) → ℕ → Held
held_by v held i = cond (eqb (place_in v) i) (given (kernel_in v) (layer_in v)) (held i)

abbrev pub held_after : List (Vals put_line) → (ℕ → Held) → ℕ → Held
held_after [] held = held
held_after (v ∷ vs) held = held_after vs (held_by v held)

-- ---- one call

-- a call that is not refused has passed its checks
unrefused_passed : (c : Checked) (fs : List Float) (ws : List ℕ) (good : After) → Taken (guarded c fs ws good) → c ≡ passed
unrefused_passed (Ok _) fs ws good t = refl
unrefused_passed (Err r) fs ws good t = not-zero r t

test_passed : (b : Bool) (r : Refusal) → cond b passed (Err r) ≡ passed → b ≡ true
test_passed true r e = refl
test_passed false r e = absurd (let z : ◌≡◌ {A = ℕ} 0 1 = cc in omega arith)

put_taken : (fs : List Float) (ws : List ℕ) (p : ℕ) (k : Kernel) (layer : ℕ)
    → store_check width fs ws ≡ passed → ltb p place_limit ≡ true → ltb layer layer_limit ≡ true
    → put_step_lem width fs ws p k layer
    ≡ after (placed_with (decomposed k (radius_of fs)).count ((decomposed k (radius_of fs)).count * faces_of ws)
    (fit_of k (radius_of fs)))
    (put_floats fs p k (decomposed k (radius_of fs))) (put_words width ws p (decomposed k (radius_of fs)) layer)
unfolding put_step_lem place_check layer_check
put_taken fs ws p k layer e hp hl = rw (e, hp, hl) refl

put_named : (fs : List Float) (ws : List ℕ) (p : ℕ) (k : Kernel) (layer : ℕ)
    → Taken (put_step_lem width fs ws p k layer) → (ltb p place_limit ≡ true) × (ltb layer layer_limit ≡ true)
unfolding put_step_lem place_check layer_check
put_named fs ws p k layer t =
    let c = place_check width fs ws p in
    let x = passed-both c (layer_check layer) (unrefused_passed (result_and c (layer_check layer)) fs ws _ t) in
    let y = passed-both (store_check width fs ws) (cond (ltb p place_limit) passed (Err NoPlace)) x.0 in
    (test_passed (ltb p place_limit) NoPlace y.1, test_passed (ltb layer layer_limit) NoLayer x.1)

-- ---- puts

first_taken : (q : ℕ) (vs : List (Vals put_line)) (a : After) → EachTaken q vs a → Taken a
first_taken q [] a t = t
first_taken q (v ∷ vs) a t = t.0

-- each names a place and a layer, where none is refused
all_named : (vs : List (Vals put_line)) (a : After) → EachTaken width vs a → (places_in vs ≡ true) × (layers_in vs ≡ true)
unfolding places_in layers_in
all_named [] a t = (refl, refl)
all_named (v ∷ vs) a t =
    let x = put_named a.floats a.words (place_in v) (kernel_in v) (layer_in v)
    (first_taken width vs (put_on width v a) t.1) in
    let y = all_named vs (put_on width v a) t.1 in
    ((λ i. x.0 i && y.0 i), (λ i. x.1 i && y.1 i))

module _ (r : Float) (xs : List Float) (ks : List ℕ) (m : Meshes (length xs) ks) where
  -- none is refused where each names a place and a layer, and the store stands as it should
  pub all_taken : (vs : List (Vals put_line)) (held : ℕ → Held) (a : After)
      → Stands r xs ks held a.floats a.words → Taken a → places_in vs ≡ true → layers_in vs ≡ true
      → EachTaken width vs a × Stands r xs ks (held_after vs held) (puts_on width vs a).floats (puts_on width vs a).words
  unfolding places_in layers_in puts_on
  all_taken [] held a s t p l = (t, s)
  all_taken (v ∷ vs) held a s t p l =
      let x = both (ltb (place_in v) place_limit) (places_in vs) p in
      let y = both (ltb (layer_in v) layer_limit) (layers_in vs) l in
      let e = put_taken a.floats a.words (place_in v) (kernel_in v) (layer_in v) (stands-sound s m) x.0 y.0 in
      let i = ltb-true (place_in v) place_limit x.0 in
      let h = put_stands s (place_in v) i (kernel_in v) (layer_in v) (ltb-true (layer_in v) layer_limit y.0) in
      let t' = ap (λ (b : After). b.reply.refusal) e in
      let z = all_taken vs (held_by v held) (put_on width v a) (rw e h) t' x.1 y.1 in
      ((t, z.0), z.1)

-- ---- the whole script
module _ (d : Script) (fs : List Float) (ws : List ℕ) where
  abbrev opening : After
  opening = open_step width fs ws d.radius d.coords d.corners

  opened : open_check width (length d.coords) d.corners (length fs) (length ws) ≡ passed
      → Taken opening × Stands d.radius d.coords d.corners (λ i. none) opening.floats opening.words
  unfolding open_step
  opened e =
      let o = open_passes width (length d.coords) d.corners (length fs) (length ws) e in
      rw e (refl, opened-stands d.radius d.coords d.corners fs ws o.floats o.words)

  pub checked : script_check width d (length fs) (length ws) ≡ passed
      → EachTaken width d.puts opening
      × Stands d.radius d.coords d.corners (held_after d.puts (λ i. none)) (played width fs ws d).floats
      (played width fs ws d).words
  checked e =
      let c = open_check width (length d.coords) d.corners (length fs) (length ws) in
      let x = passed-both c (puts_check d.puts) e in
      let y = passed-both (cond (places_in d.puts) passed (Err NoPlace))
      (cond (layers_in d.puts) passed (Err NoLayer)) x.1 in
      let m = (open_passes width (length d.coords) d.corners (length fs) (length ws) x.0).mesh in
      let o = opened x.0 in
      all_taken d.radius d.coords d.corners m d.puts (λ i. none) opening o.1 o.0
      (test_passed (places_in d.puts) NoPlace y.0) (test_passed (layers_in d.puts) NoLayer y.1)

  pub unrefused : EachTaken width d.puts opening → script_check width d (length fs) (length ws) ≡ passed
  unfolding open_step
  unrefused t =
      let o = unrefused_passed (open_check width (length d.coords) d.corners (length fs) (length ws)) fs ws _
      (first_taken width d.puts opening t) in
      let n = all_named d.puts opening t in
      rw (o, n.0, n.1) refl

-- ---- the reader
module _ (fs : List Float) (ws : List ℕ) (s : List ℕ) where
  abbrev script : Script
  script = (read_of s).val

  abbrev after-script : After
  after-script = played width fs ws script

  abbrev all_done : After
  all_done =
      after (counted (script.verts ∷ script.faces ∷ length script.puts ∷ [])) after-script.floats
      after-script.words

  -- it refuses nothing else than bad lines and what the script's checks refuse
  pub passing : form_check (read_of s).text ≡ passed → script_check width script (length fs) (length ws) ≡ passed
      → Taken (load_step width fs ws s)
  unfolding load_step
  passing f c = rw (f, c) refl

  has-passed : Taken (load_step width fs ws s)
      → (form_check (read_of s).text ≡ passed) × (script_check width script (length fs) (length ws) ≡ passed)
  unfolding load_step
  has-passed t = go (form_check (read_of s).text) (script_check width script (length fs) (length ws)) refl refl
    where
      go : (a b : Checked) → form_check (read_of s).text ≡ a → script_check width script (length fs) (length ws) ≡ b
          → (form_check (read_of s).text ≡ passed) × (script_check width script (length fs) (length ws) ≡ passed)
      go (Ok _) (Ok _) e g = (e, g)
      go (Ok _) (Err r) e g = not-zero _ (simp (e, g) at t)
      go (Err r) (Ok _) e g = not-zero _ (simp (e, g) at t)
      go (Err r) (Err q) e g = not-zero _ (simp (e, g) at t)

  -- a text that is not refused is played, line by line
  pub plays : Taken (load_step width fs ws s) → load_step width fs ws s ≡ all_done
  unfolding load_step
  plays t = let x = has-passed t in rw (x.0, x.1) refl

  -- "leaves what that opening and those puts, line by line, would"
  pub leaves : Taken (load_step width fs ws s)
      → Stands script.radius script.coords script.corners (held_after script.puts (λ i. none))
      (load_step width fs ws s).floats (load_step width fs ws s).words
  leaves t = rw (plays t) (checked script fs ws (has-passed t).1).1

  -- the vertices and faces that it answers are those that the store then has
  pub counts : Taken (load_step width fs ws s)
      → (verts_of (load_step width fs ws s).words ≡ script.verts)
      × (faces_of (load_step width fs ws s).words ≡ script.faces)
  counts t =
      let x = leaves t in
      let y = by_threes s in
      (x.verts ∙ omega (arith, y.0), x.faces ∙ omega (arith, y.1))

  -- "refuses the whole where one line would be refused", and nowhere else
  pub refuses_where : form_check (read_of s).text ≡ passed
      → (Taken (load_step width fs ws s) → EachTaken width script.puts (opening script fs ws))
      × (EachTaken width script.puts (opening script fs ws) → Taken (load_step width fs ws s))
  refuses_where f = ((λ t. (checked script fs ws (has-passed t).1).0), (λ t. passing f (unrefused script fs ws t)))

-- ---- "The reader takes puts in any order": where two that name different places are exchanged, each place holds the
-- same

-- what a place holds is its own affair
held_at : (vs : List (Vals put_line)) (held other : ℕ → Held) (i : ℕ) → held i ≡ other i
    → held_after vs held i ≡ held_after vs other i
held_at [] held other i e = e
held_at (v ∷ vs) held other i e =
    held_at vs (held_by v held) (held_by v other) i (ap (cond (eqb (place_in v) i) (given (kernel_in v) (layer_in v))) e)

pub any_order : (us : List (Vals put_line)) (v w : Vals put_line) (vs : List (Vals put_line)) (held : ℕ → Held) (i : ℕ)
    → (place_in v ≡ place_in w → ⊥) → held_after (us ++ (v ∷ w ∷ vs)) held i ≡ held_after (us ++ (w ∷ v ∷ vs)) held i
any_order (u ∷ us) v w vs held i d = any_order us v w vs (held_by u held) i d
any_order [] v w vs held i d =
    held_at vs (held_by w (held_by v held)) (held_by v (held_by w held)) i
    (go (eqb (place_in v) i) (eqb (place_in w) i) refl refl)
  where
    go : (a b : Bool) → eqb (place_in v) i ≡ a → eqb (place_in w) i ≡ b
        → cond b (given (kernel_in w) (layer_in w)) (cond a (given (kernel_in v) (layer_in v)) (held i))
        ≡ cond a (given (kernel_in v) (layer_in v)) (cond b (given (kernel_in w) (layer_in w)) (held i))
    go true true x y = absurd (d (eqb-true (place_in v) i x ∙ sym (eqb-true (place_in w) i y)))
    go true false x y = refl
    go false true x y = refl
    go false false x y = refl
