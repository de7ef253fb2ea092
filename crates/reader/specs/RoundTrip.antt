-- 02, L10: "The writer's lines thus give the same mesh, radius, kernels and layers": what the writer writes of a sound
-- store is read, and read as that store's radius, counts, coordinates, corners and filled places. Assumes nothing.
use Rattle.base.specs.Answers.{passed}
use Rattle.std.specs.Prelude.{◌≡◌, Bool, cond, T, eqb, length, get_or, take, drop, Float}
use Rattle.std.proofs.Math.Path.{refl, subst}
use Rattle.std.proofs.Common.{sym, ap, ◌∙◌, add-one, arith, drop-cons}
use Rattle.std.proofs.Math.Bool.{true, false}
use mathlib.Core.List.{List, [], ◌∷◌, ◌++◌, append_assoc, append-nil}
use Prim.Native.Nat.{ℕ, zero, suc, ◌+◌, ◌*◌, ◌≤◌, ◌<◌}
use Rattle.std.proofs.Math.Nat.{add-zero}
use Rattle.std.proofs.Math.Numerals.{add-two, add-three}
use Rattle.std.specs.Float.{nan, binary64}
use Rattle.std.specs.Float.Ieee.{fits}
use Rattle.kernel.specs.declared.kernel.Kernel.{Kernel}
use Rattle.layout.specs.Layout.{place_limit, radius_of, kernel_from, centre_floats, weight_of, alpha_of, coords_from, corners_from, corners_of, verts_of, faces_of, status_of, layer_of}
use Rattle.layout.specs.Soundness.{store_check}
use Rattle.layout.specs.SoundLaws.{Fine, fine}
use Rattle.text.specs.Text.{left}
use Rattle.text.specs.Form.{Form, Vals, print, Spells, Fit, ◌&◌}
use Rattle.text.specs.FormLaws.{printed}
use Rattle.script.specs.Lines.{open_line, vert_line, face_line, put_line}
use Rattle.script.specs.Written.{printed_lines, vert_at, face_at, put_at, vert_rows, face_rows, put_row, put_rows, lines_of, written}
use Rattle.reader.specs.ReadOf.{coords_in, corners_in, place_in, kernel_in, layer_in, Script, read_of}
use Rattle.reader.specs.Spelling.{SpellsAll, SpellsScript, taken}

-- ---- what a store says

-- the puts of its filled places, n of them looked at from i on, by rising place
abbrev pub puts_from : ℕ → List Float → List ℕ → ℕ → ℕ → List (Vals put_line)
puts_from q fs ws zero i = []
puts_from q fs ws (suc n) i =
    cond (eqb (status_of q ws i) 0) (puts_from q fs ws n (suc i)) (put_at q fs ws i ∷ puts_from q fs ws n (suc i))

-- "the same mesh, radius, kernels and layers"
abbrev pub script_of : ℕ → List Float → List ℕ → Script
script_of q fs ws =
    record {
      radius = radius_of fs;
      verts = verts_of ws;
      faces = faces_of ws;
      coords = take (3 * verts_of ws) (drop coords_from fs);
      corners = corners_of q ws;
      puts = puts_from q fs ws place_limit 0;
    }

-- what such a put says: the place, and the kernel and the layer as the store keeps them
abbrev pub kernel_of : List Float → ℕ → Kernel
kernel_of fs i =
    record { c = centre_floats fs i; sigma = get_or fs (4 + 7 * i) nan; w = weight_of fs i; alpha = alpha_of fs i }

pub put_says : (q : ℕ) (fs : List Float) (ws : List ℕ) (i : ℕ)
    → (place_in (put_at q fs ws i) ≡ i) × (kernel_in (put_at q fs ws i) ≡ kernel_of fs i)
    × (layer_in (put_at q fs ws i) ≡ layer_of q ws i)
put_says q fs ws i =
    let at : (j k : ℕ) → kernel_from i + j ≡ k → get_or fs (kernel_from i + j) nan ≡ get_or fs k nan
    = λ j k e. ap (λ (n : ℕ). get_or fs n nan) e in (
      refl,
      (λ j.
          record {
            c = get_or fs (1 + 7 * i) nan ∷ at 1 (2 + 7 * i) (omega arith) j ∷ at 2 (3 + 7 * i) (omega arith) j ∷ [];
            sigma = at 3 (4 + 7 * i) (omega arith) j;
            w = at 4 (5 + 7 * i) (omega arith) j;
            alpha = at 5 (6 + 7 * i) (omega arith) j;
          }),
      refl,
    )

-- the floats of a run are of the format, as those of a lent run are
pub record Floats (fs : List Float) : Type 0 where
  pub each : (j : ℕ) → T (fits binary64 (get_or fs j nan))

-- ---- lines that were printed spell their values

abbrev pub values_of : (f : Form) → (ℕ → Vals f) → ℕ → ℕ → List (Vals f)
values_of f v zero i = []
values_of f v (suc n) i = v i ∷ values_of f v n (suc i)

pub values-long : (f : Form) (v : ℕ → Vals f) (n i : ℕ) → length (values_of f v n i) ≡ n
values-long f v zero i = refl
values-long f v (suc n) i = ap suc (values-long f v n (suc i))

pub printed_spell : (f : Form) (v : ℕ → Vals f) (n i : ℕ) (r : List ℕ) → ((j : ℕ) → j < i + n → Fit f (v j))
    → SpellsAll f (values_of f v n i) (printed_lines f v n i ++ r) r
printed_spell f v zero i r h = refl
printed_spell f v (suc n) i r h =
    let t = printed_lines f v n (suc i) ++ r in (
      t,
      subst (λ (l : List ℕ). Spells f (v i) l t) (sym (append_assoc (print f (v i)) (printed_lines f v n (suc i)) r))
          (printed f (v i) t (h i (omega arith))),
      printed_spell f v n (suc i) r (λ j l. h j (omega arith)),
    )

-- ---- three words after three words
module _ {A : Type 0} (d : A) (l : List A) where
  pub three-more : (n k : ℕ) → k + 2 < length l
      → take (3 * suc n) (drop k l) ≡ get_or l k d ∷ get_or l (k + 1) d ∷ get_or l (k + 2) d ∷ take (3 * n) (drop (k + 3) l)
  three-more n k h =
      let e : 3 * suc n ≡ suc (suc (suc (3 * n))) = omega arith in
      rw (
        e,
        add-one k,
        add-two k,
        add-three k,
        drop-cons l k d (omega arith),
        drop-cons l (suc k) d (omega arith),
        drop-cons l (suc (suc k)) d (omega arith),
      ) refl

-- ---- a sound store
module _ (q : ℕ) (fs : List Float) (ws : List ℕ) (e : store_check q fs ws ≡ passed) (g : Floats fs) where
  abbrev s : Fine q fs ws
  s = fine q fs ws e

  corner-fits : (k j : ℕ) → k ≡ corners_from q + j → j < 3 * faces_of ws → get_or ws k 0 ≤ 4294967295
  corner-fits k j h l = rw h (omega (arith, s.mesh.corners j l, s.mesh.verts))

  low : {n m : ℕ} → n ≤ m → m ≤ 4294967295 → n ≤ 4294967295
  low h l = omega arith

  vert-fits : (i : ℕ) → Fit vert_line (vert_at fs i)
  vert-fits i = let k = coords_from + 3 * i in g.each k & g.each (k + 1) & g.each (k + 2) & tt

  face-fits : (i : ℕ) → i < faces_of ws → Fit face_line (face_at q ws i)
  face-fits i h =
      let k = corners_from q + 3 * i in
      corner-fits k (3 * i) refl (omega arith) & corner-fits (k + 1) (3 * i + 1) (omega arith) (omega arith)
      & corner-fits (k + 2) (3 * i + 2) (omega arith) (omega arith) & tt

  put-fits : (i : ℕ) → i < 32 → Fit put_line (put_at q fs ws i)
  put-fits i h =
      let k = kernel_from i in
      let l = s.places.layer i h in
      let place : i ≤ 4294967295 = omega arith in
      let layer : layer_of q ws i ≤ 4294967295 = omega arith in
      place & g.each k & g.each (k + 1) & g.each (k + 2) & g.each (k + 3) & g.each (k + 4) & g.each (k + 5)
      & (layer & tt) & tt

  puts-spell : (n i : ℕ) (r : List ℕ) → i + n ≤ 32
      → SpellsAll put_line (puts_from q fs ws n i) (put_rows q fs ws n i ++ r) r
  unfolding put_row put_rows
  puts-spell zero i r h = refl
  puts-spell (suc n) i r h = go (eqb (status_of q ws i) 0) (puts-spell n (suc i) r (omega arith))
    where
      go : (b : Bool) → SpellsAll put_line (puts_from q fs ws n (suc i)) (put_rows q fs ws n (suc i) ++ r) r
          → SpellsAll put_line (cond b (puts_from q fs ws n (suc i)) (put_at q fs ws i ∷ puts_from q fs ws n (suc i)))
          ((cond b [] (print put_line (put_at q fs ws i)) ++ put_rows q fs ws n (suc i)) ++ r) r
      go true ih = ih
      go false ih =
          let t = put_rows q fs ws n (suc i) ++ r in (
            t,
            subst (λ (l : List ℕ). Spells put_line (put_at q fs ws i) l t)
                (sym (append_assoc (print put_line (put_at q fs ws i)) (put_rows q fs ws n (suc i)) r))
                (printed put_line (put_at q fs ws i) t (put-fits i (omega arith))),
            ih,
          )

  coords-are : (n i : ℕ) → coords_from + 3 * (i + n) ≤ length fs
      → coords_in (values_of vert_line (vert_at fs) n i) ≡ take (3 * n) (drop (coords_from + 3 * i) fs)
  coords-are zero i h = refl
  coords-are (suc n) i h =
      let k : coords_from + 3 * suc i ≡ coords_from + 3 * i + 3 = omega arith in
      sym (three-more nan fs n (coords_from + 3 * i) (omega arith)
      ∙ (λ j. (vert_at fs i).0 ∷ (vert_at fs i).1.0 ∷ (vert_at fs i).1.1.0 ∷
      ((ap (λ (m : ℕ). take (3 * n) (drop m fs)) (sym k)) ∙ sym (coords-are n (suc i) (omega arith))) j))

  corners_are : (n i : ℕ) → corners_from q + 3 * (i + n) ≤ length ws
      → corners_in (values_of face_line (face_at q ws) n i) ≡ take (3 * n) (drop (corners_from q + 3 * i) ws)
  corners_are zero i h = refl
  corners_are (suc n) i h =
      let k : corners_from q + 3 * suc i ≡ corners_from q + 3 * i + 3 = omega arith in
      sym (three-more 0 ws n (corners_from q + 3 * i) (omega arith)
      ∙ (λ j. (face_at q ws i).0 ∷ (face_at q ws i).1.0 ∷ (face_at q ws i).1.1.0 ∷
      ((ap (λ (m : ℕ). take (3 * n) (drop m ws)) (sym k)) ∙ sym (corners_are n (suc i) (omega arith))) j))

  -- what is written is a text of the store's script
  pub written-spells : SpellsScript (written q fs ws) (script_of q fs ws)
  unfolding lines_of vert_rows face_rows
  written-spells =
      let o : Vals open_line = radius_of fs & verts_of ws & faces_of ws & tt in
      let c = put_rows q fs ws place_limit 0 in
      let b = printed_lines face_line (face_at q ws) (faces_of ws) 0 ++ c in
      let a = printed_lines vert_line (vert_at fs) (verts_of ws) 0 ++ b in
      record {
        vertices = values_of vert_line (vert_at fs) (verts_of ws) 0;
        triangles = values_of face_line (face_at q ws) (faces_of ws) 0;
        mesh = a;
        rest = b;
        tail = c;
        opening =
            printed open_line o a (g.each 0 & low s.mesh.verts (omega arith) & low s.mesh.faces (omega arith)
            & tt);
        vert_lines = printed_spell vert_line (vert_at fs) (verts_of ws) 0 b (λ j l. vert-fits j);
        face_lines = printed_spell face_line (face_at q ws) (faces_of ws) 0 c (λ j l. face-fits j (omega arith));
        put_lines =
            subst (λ (l : List ℕ). SpellsAll put_line (puts_from q fs ws place_limit 0) l []) (append-nil c)
            (puts-spell place_limit 0 [] (omega arith));
        verts = values-long vert_line (vert_at fs) (verts_of ws) 0;
        faces = values-long face_line (face_at q ws) (faces_of ws) 0;
        coords = coords-are (verts_of ws) 0 (omega (arith, s.mesh.floats));
        corners = rw add-zero at (corners_are (faces_of ws) 0 (omega (arith, s.mesh.words)));
      }

  -- so it is read, and read as that
  pub read-written : read_of (written q fs ws) ≡ record { val = script_of q fs ws; text = left [] }
  read-written = taken (written q fs ws) (script_of q fs ws) written-spells
