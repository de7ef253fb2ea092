-- What the reader's call does, by what its passes found. Assumes nothing.
use Rattle.std.specs.Result.{result_and}
use Rattle.std.specs.Prelude.{◌≡◌, refl, List, [], ◌∷◌, Bool, true, false, ◌&&◌, ◌||◌, cond, ℕ, ◌+◌, ◌*◌, ◌/◌, ◌%◌, ◌≤◌, Float, Err}
use Rattle.std.proofs.Common.{sym, ap, ◌∙◌}
use native.Mathlib.Omega.{arith}
use Rattle.std.proofs.Math.Dec.{ltb, leb}
use Rattle.std.proofs.Math.ListN.{length}
use Rattle.base.specs.Answers.{counted, done, Checked, passed}
use Rattle.base.specs.declared.refusal.Refusal.TheVariants.{Oversize, LooseCorner, ShortStore, NoPlace, NoLayer}
use Rattle.layout.specs.Runs.{write}
use Rattle.mesh.specs.Checks.{vertex_limit, face_limit, all_below, mesh_check}
use Rattle.layout.specs.Layout.{width, coords_from, corners_from}
use Rattle.layout.specs.Soundness.{store_check}
use Rattle.store.specs.OpenLaws.{open_passes}
use Rattle.store.specs.SoundStores.{open_stays}
use Rattle.layout.specs.After.{after}
use Rattle.store.specs.Calls.{open_check, open_floats, open_words, open_step}
use Rattle.text.specs.Text.{Text, left, rest, got, Got}
use Rattle.text.specs.TextLaws.{rest_all}
use Rattle.text.specs.Form.{Vals, read, ◌&◌}
use Rattle.script.specs.Lines.{open_line, vert_line, face_line, put_line}
use Rattle.reader.specs.ReadOf.{lines_from, lines_to, coords_in, corners_in, Script, read_of, puts_on, played, places_in, layers_in, puts_check, script_check}
use Rattle.reader.specs.ReadLaws.{coords_count, corners_count, to_from, puts_reply}
use Rattle.layout.specs.SoundLaws.{passed-both}

-- ---- the refusals 2, 3, 4, 6 and 16 by their tests
abbrev pub verdict : Bool → Bool → Bool → Bool → Bool → Bool → Bool → Checked
verdict big₁ big₂ below room₁ room₂ placed layered =
    cond big₁ (Err Oversize) (cond big₂ (Err Oversize)
    (cond below
    (cond room₁ (cond room₂ (cond placed (cond layered passed (Err NoLayer)) (Err NoPlace)) (Err ShortStore))
    (Err ShortStore))
    (Err LooseCorner)))

verdict-is : (a b c d e f g : Bool)
    → result_and (result_and (cond (a || b) (Err Oversize) (cond c passed (Err LooseCorner)))
    (cond (d && e) passed (Err ShortStore)))
    (result_and (cond f passed (Err NoPlace)) (cond g passed (Err NoLayer)))
    ≡ verdict a b c d e f g
verdict-is true b c d e f g = refl
verdict-is false true c d e f g = refl
verdict-is false false false d e f g = refl
verdict-is false false true false e f g = refl
verdict-is false false true true false f g = refl
verdict-is false false true true true false g = refl
verdict-is false false true true true true g = refl

-- of a script whose coordinates and corners come by threes
module _ (q : ℕ) (d : Script) (ex : length d.coords ≡ 3 * d.verts) (ek : length d.corners ≡ 3 * d.faces) where
  pub check_is : (a b : ℕ) → script_check q d a b
      ≡ verdict (ltb vertex_limit d.verts) (ltb face_limit d.faces) (all_below d.verts d.corners)
      (leb (coords_from + 3 * d.verts) a) (leb (corners_from q + 3 * d.faces) b) (places_in d.puts)
      (layers_in d.puts)
  unfolding open_check mesh_check
  check_is a b =
      let x : (3 * d.verts) % 3 ≡ 0 = omega arith in
      let y : (3 * d.faces) % 3 ≡ 0 = omega arith in
      let z : (3 * d.verts) / 3 ≡ d.verts = omega arith in
      let w : (3 * d.faces) / 3 ≡ d.faces = omega arith in
      rw (ex, ek, x, y, z, w) (verdict-is (ltb vertex_limit d.verts) (ltb face_limit d.faces)
      (all_below d.verts d.corners) (leb (coords_from + 3 * d.verts) a) (leb (corners_from q + 3 * d.faces) b)
      (places_in d.puts) (layers_in d.puts))

  -- an opening that is not refused leaves these runs, and so its puts these
  pub opened_as : (fs : List Float) (ws : List ℕ)
      → open_check q (length d.coords) d.corners (length fs) (length ws) ≡ passed
      → open_step q fs ws d.radius d.coords d.corners
      ≡ after (counted (length d.coords / 3 ∷ length d.corners / 3 ∷ []))
      (write fs 0 (open_floats d.radius d.coords)) (write ws 0 (open_words q d.verts d.faces d.corners))
  unfolding open_step
  opened_as fs ws o =
      let x : length d.coords / 3 ≡ d.verts = omega (arith, ex) in
      let y : length d.corners / 3 ≡ d.faces = omega (arith, ek) in
      rw o (λ i. after (counted (length d.coords / 3 ∷ length d.corners / 3 ∷ []))
      (write fs 0 (open_floats d.radius d.coords)) (write ws 0 (open_words q (x i) (y i) d.corners)))

  pub played_as : (fs : List Float) (ws : List ℕ) → script_check q d (length fs) (length ws) ≡ passed
      → let o = puts_on q d.puts (after done (write fs 0 (open_floats d.radius d.coords))
      (write ws 0 (open_words q d.verts d.faces d.corners))) in
      (o.floats ≡ (played q fs ws d).floats) × (o.words ≡ (played q fs ws d).words)
  played_as fs ws h =
      let p = puts_reply q d.puts done (counted (length d.coords / 3 ∷ length d.corners / 3 ∷ []))
      (write fs 0 (open_floats d.radius d.coords))
      (write ws 0 (open_words q d.verts d.faces d.corners)) in
      let e = sym (opened_as fs ws (passed-both
      (open_check q (length d.coords) d.corners (length fs) (length ws)) _ h).0) in
      (p.0 ∙ (λ i. (puts_on q d.puts (e i)).floats), p.1 ∙ (λ i. (puts_on q d.puts (e i)).words))

-- ---- what the passes find

-- the script of the opening's values, and of the lines in three texts
abbrev pub saying : Float → ℕ → ℕ → Text → Text → List (Vals put_line) → Script
saying r v f t₁ t₂ vs =
    record {
      radius = r;
      verts = v;
      faces = f;
      coords = coords_in (lines_from vert_line v t₁).val;
      corners = corners_in (lines_from face_line f t₂).val;
      puts = vs;
    }

-- what the second pass reads, with n lines of puts, from position h on
unfoldable pub script_from : List ℕ → Float → ℕ → ℕ → ℕ → ℕ → Script
script_from s r v f n h =
    let xs = lines_from vert_line v (rest s h) in
    let ks = lines_from face_line f xs.text in
    saying r v f (rest s h) xs.text (lines_from put_line n ks.text).val

-- puts that pass their check
pub put_tests : (vs : List (Vals put_line)) → puts_check vs ≡ passed → (places_in vs ≡ true) × (layers_in vs ≡ true)
put_tests vs e = go (places_in vs) (layers_in vs) refl refl e
  where
    go : (p l : Bool) → places_in vs ≡ p → layers_in vs ≡ l
        → result_and (cond p passed (Err NoPlace)) (cond l passed (Err NoLayer)) ≡ passed
        → (places_in vs ≡ true) × (layers_in vs ≡ true)
    go true true x y z = (x, y)
    go true false x y z = absurd (let o : ◌≡◌ {A = ℕ} 0 1 = cc in omega arith)
    go false l x y z = absurd (let o : ◌≡◌ {A = ℕ} 0 1 = cc in omega arith)

-- what the second pass is given, and what it is to leave
module _ (fs : List Float) (ws s : List ℕ) (r : Float) (v f n h : ℕ) where
  abbrev X : Got (List (Vals vert_line))
  X = lines_from vert_line v (rest s h)

  abbrev K : Got (List (Vals face_line))
  K = lines_from face_line f X.text

  abbrev PS : List (Vals put_line)
  PS = (lines_from put_line n K.text).val

  abbrev F : List Float
  F = write fs 0 (open_floats r (coords_in X.val))

  abbrev W : List ℕ
  W = write ws 0 (open_words width v f (corners_in K.val))

  pub record Loads : Type 0 where
    pub floats : coords_from + 3 * v ≤ length fs
    pub words : corners_from width + 3 * f ≤ length ws
    pub sound : store_check width F W ≡ passed
    pub places : places_in PS ≡ true
    pub layers : layers_in PS ≡ true
    pub left_floats : (puts_on width PS (after done F W)).floats ≡ (played width fs ws (script_from s r v f n h)).floats
    pub left_words : (puts_on width PS (after done F W)).words ≡ (played width fs ws (script_from s r v f n h)).words

  pub loads : script_check width (script_from s r v f n h) (length fs) (length ws) ≡ passed → Loads
  unfolding script_from
  loads e =
      let d = saying r v f (rest s h) X.text PS in
      let ex = coords_count v (rest s h) in
      let ek = corners_count f X.text in
      let b = passed-both (open_check width (length d.coords) d.corners (length fs) (length ws))
      (puts_check PS) e in
      let o = open_passes width (length d.coords) d.corners (length fs) (length ws) b.0 in
      let t = put_tests PS b.1 in
      let p = played_as width d ex ek fs ws e in
      record {
        floats = omega (arith, ex, o.floats);
        words = omega (arith, ek, o.words);
        sound = open_stays fs ws r d.coords d.corners v f ex ek b.0;
        places = t.0;
        layers = t.1;
        left_floats = p.0;
        left_words = p.1;
      }

-- the positions that the first pass found: after the opening, the vertices, the faces
pub record Parsed (s : List ℕ) (r : Float) (v f h a b : ℕ) : Type 0 where
  pub head : got s (r & v & f & tt) h ≡ read open_line (rest s 0)
  pub verts : rest s a ≡ (lines_from vert_line v (rest s h)).text
  pub faces : rest s b ≡ (lines_from face_line f (rest s a)).text

module _ {s : List ℕ} {r : Float} {v f h a b : ℕ} (p : Parsed s r v f h a b) where
  abbrev P : Got (List (Vals put_line))
  P = lines_to put_line (length s) (rest s b)

  abbrev pub script : Script
  script = saying r v f (rest s h) (rest s a) (lines_to put_line (length s) (rest s b)).val

  abbrev said : Text → Text → Text → Got Script
  said t₁ t₂ t₃ =
      record {
        val = saying r v f t₁ t₂ (lines_to put_line (length s) t₃).val;
        text = (lines_to put_line (length s) t₃).text;
      }

  opening : read open_line (left s) ≡ got s (r & v & f & tt) h
  opening = ap (read open_line) (sym (rest_all s)) ∙ sym p.head

  pub read_is : read_of s ≡ record { val = script; text = P.text }
  unfolding read_of
  read_is =
      (λ i. let o = opening i in
      let xs = lines_from vert_line o.val.1.0 o.text in
      let ks = lines_from face_line o.val.1.1.0 xs.text in
      let ps = lines_to put_line (length s) ks.text in
      record {
        val = saying o.val.0 o.val.1.0 o.val.1.1.0 o.text xs.text ps.val;
        text = ps.text;
      })
      ∙ (λ i. said (rest s h) (sym p.verts i) (lines_from face_line f (sym p.verts i)).text)
      ∙ (λ i. said (rest s h) (rest s a) (sym p.faces i))

  -- the second pass reads the same, once it knows how many puts there are
  pub from_is : (n : ℕ) → n ≡ length P.val → script_from s r v f n h ≡ script
  unfolding script_from
  from_is n m =
      (λ i. saying r v f (rest s h) (sym p.verts i)
      (lines_from put_line n (lines_from face_line f (sym p.verts i)).text).val)
      ∙ (λ i. saying r v f (rest s h) (rest s a) (lines_from put_line n (sym p.faces i)).val)
      ∙ (λ i. saying r v f (rest s h) (rest s a) (lines_from put_line (m i) (rest s b)).val)
      ∙ (λ i. saying r v f (rest s h) (rest s a) (sym (to_from put_line (length s) (rest s b)) i))
