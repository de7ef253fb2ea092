-- 02, L10: the reader takes exactly the texts that are "one whole opening and then puts": an opening line, as many
-- vertex lines and face lines as it names, and put lines, one behind the other, each float by any pattern of it. Any
-- other bytes are refused with 13. Assumes nothing.
use Rattle.base.specs.Answers.{passed}
use Rattle.std.specs.Prelude.{◌≡◌, Bool, true, false, T, length}
use Rattle.std.proofs.Math.Path.{refl, sym, ap}
use Rattle.std.proofs.Common.{subst, ◌∙◌, arith, length-append}
use mathlib.Core.List.{List, [], ◌∷◌}
use Prim.Native.Nat.{ℕ, zero, suc, ◌*◌, ◌%◌, ◌≤◌, ◌<◌}
use Rattle.text.specs.Text.{Text, lost, left, Got}
use Rattle.text.specs.Form.{Form, end, word, number, real, either, Vals, read, Spells, clear, ◌&◌}
use Rattle.text.specs.FormLaws.{reads, spells, read_lost}
use Rattle.text.specs.LengthLaws.{at_least}
use Rattle.text.specs.Tokens.{not_lost}
use Rattle.mesh.specs.Checks.{ragged}
use Rattle.script.specs.Lines.{open_line, vert_line, face_line, put_line}
use Rattle.reader.specs.ReadOf.{more, lines_from, to_next, lines_to, coords_in, corners_in, Script, read_of, form_check}
use Rattle.reader.specs.ReadLaws.{coords_count, corners_count}

-- ---- the texts

-- l is a line for each of the values, one behind the other, and then r
abbrev pub SpellsAll : (f : Form) → List (Vals f) → List ℕ → List ℕ → Type 0
SpellsAll f [] l r = l ≡ r
SpellsAll f (v ∷ vs) l r = (m : List ℕ) × Spells f v l m × SpellsAll f vs m r

-- s is a text of the script d
pub record SpellsScript (s : List ℕ) (d : Script) : Type 0 where
  -- the values of the vertex lines and of the face lines
  pub vertices : List (Vals vert_line)
  pub triangles : List (Vals face_line)
  -- what stands behind the opening, the vertices and the faces
  pub mesh : List ℕ
  pub rest : List ℕ
  pub tail : List ℕ
  pub opening : Spells open_line (d.radius & d.verts & d.faces & tt) s mesh
  pub vert_lines : SpellsAll vert_line vertices mesh rest
  pub face_lines : SpellsAll face_line triangles rest tail
  pub put_lines : SpellsAll put_line d.puts tail []
  -- as many as the opening names
  pub verts : length vertices ≡ d.verts
  pub faces : length triangles ≡ d.faces
  pub coords : coords_in vertices ≡ d.coords
  pub corners : corners_in triangles ≡ d.corners

-- ---- lines of one form

module _ (f : Form) (c : T (clear f)) where
  -- n lines are read as their values
  pub reads_all : (vs : List (Vals f)) (l r : List ℕ) → SpellsAll f vs l r
      → lines_from f (length vs) (left l) ≡ record { val = vs; text = left r }
  unfolding lines_from
  reads_all [] l r s = (λ i. record { val = []; text = left (s i) })
  reads_all (v ∷ vs) l r s =
      (λ i. more (reads f v l s.0 c s.1 i).val (lines_from f (length vs) (reads f v l s.0 c s.1 i).text))
      ∙ ap (more v) (reads_all vs s.0 r s.2)

  -- what n lines were read from spells them
  pub spells_all : (n : ℕ) (t : Text) (r : List ℕ) → (lines_from f n t).text ≡ left r
      → (l : List ℕ) × (t ≡ left l) × SpellsAll f (lines_from f n t).val l r
  unfolding lines_from
  spells_all zero t r e = (r, e, refl)
  spells_all (suc n) lost r e = not_lost (sym (read_lost f) ∙ (spells_all n (read f lost).text r e).1)
  spells_all (suc n) (left l) r e =
      let x = spells_all n (read f (left l)).text r e in
      (l, refl, (x.0, spells f l x.0 c x.1, x.2))

  pub all_read : (n : ℕ) (t : Text) → length (lines_from f n t).val ≡ n
  unfolding lines_from
  all_read zero t = refl
  all_read (suc n) t = ap suc (all_read n (read f t).text)

-- lines that stand one behind the other take no bytes from what is behind them
pub all_least : (f : Form) (vs : List (Vals f)) (l r : List ℕ) → SpellsAll f vs l r → length r ≤ length l
all_least f [] l r s = omega (arith, ap length s)
all_least f (v ∷ vs) l r s = omega (arith, at_least f v l s.0 s.1, all_least f vs s.0 r s.2)

-- ---- lines to the text's end, of a form that begins with a byte

abbrev pub begun : Form → Bool
begun end = false
begun (word [] f) = begun f
begun (word (b ∷ p) f) = true
begun (number most f) = false
begun (real f) = false
begun (either a b f) = false

-- such a line has a byte at least
shorter : (f : Form) → T (begun f) → (v : Vals f) (l r : List ℕ) → Spells f v l r → length r < length l
shorter end h v l r s = absurd h
shorter (word [] f) h v l r s = omega (arith, ap length s.1, shorter f h v s.0 r s.2)
shorter (word (b ∷ p) f) h v l r s =
    omega (arith, ap length s.1 ∙ length-append (b ∷ p) s.0, at_least f v s.0 r s.2)
shorter (number most f) h v l r s = absurd h
shorter (real f) h v l r s = absurd h
shorter (either a b f) h v l r s = absurd h

module _ (f : Form) (c : T (clear f)) (w : T (begun f)) where
  pub no_more : (vs : List (Vals f)) (l r : List ℕ) → SpellsAll f vs l r → length vs ≤ length l
  no_more [] l r s = omega arith
  no_more (v ∷ vs) l r s = omega (arith, shorter f w v l s.0 s.1, no_more vs s.0 r s.2)

  goes_on : (next : Text → Got (List (Vals f))) (l : List ℕ) → 0 < length l
      → to_next f next (left l) ≡ more (read f (left l)).val (next (read f (left l)).text)
  goes_on next [] h = absurd (omega arith)
  goes_on next (a ∷ l) h = refl

  pub reads_to : (n : ℕ) (vs : List (Vals f)) (l : List ℕ) → length vs ≤ n → SpellsAll f vs l []
      → lines_to f n (left l) ≡ record { val = vs; text = left [] }
  unfolding lines_to
  reads_to zero [] l h s = (λ i. lines_to f zero (left (s i)))
  reads_to (suc n) [] l h s = (λ i. lines_to f (suc n) (left (s i)))
  reads_to zero (v ∷ vs) l h s = absurd (omega arith)
  reads_to (suc n) (v ∷ vs) l h s =
      let k = shorter f w v l s.0 s.1 in
      goes_on (lines_to f n) l (omega arith)
      ∙ ((λ i. more (reads f v l s.0 c s.1 i).val (lines_to f n (reads f v l s.0 c s.1 i).text))
      ∙ ap (more v) (reads_to n vs s.0 (omega arith) s.2))

  pub spells_to : (n : ℕ) (t : Text) (r : List ℕ) → (lines_to f n t).text ≡ left r
      → (l : List ℕ) × (t ≡ left l) × (r ≡ []) × SpellsAll f (lines_to f n t).val l []
  unfolding lines_to
  spells_to zero lost r e = not_lost e
  spells_to (suc n) lost r e = not_lost e
  spells_to zero (left []) r e = ([], refl, (let d : [] ≡ r = cc in sym d), refl)
  spells_to (suc n) (left []) r e = ([], refl, (let d : [] ≡ r = cc in sym d), refl)
  spells_to zero (left (a ∷ l)) r e = not_lost e
  spells_to (suc n) (left (a ∷ l)) r e =
      let x = spells_to n (read f (left (a ∷ l))).text r e in
      (a ∷ l, refl, x.2, (x.0, spells f (a ∷ l) x.0 c x.1, x.3))

-- ---- the whole text

-- `read_of` from the puts' lines on, from the faces' on, from the vertices' on, and whole
module _ (s : List ℕ) where
  abbrev atPuts : Vals open_line → List (Vals vert_line) → List (Vals face_line) → Got (List (Vals put_line)) → Got Script
  atPuts o vs fs p =
      record {
        val =
            record {
              radius = o.0;
              verts = o.1.0;
              faces = o.1.1.0;
              coords = coords_in vs;
              corners = corners_in fs;
              puts = p.val;
            };
        text = p.text;
      }

  abbrev atFaces : Vals open_line → List (Vals vert_line) → Got (List (Vals face_line)) → Got Script
  atFaces o vs f = atPuts o vs f.val (lines_to put_line (length s) f.text)

  abbrev atVerts : Vals open_line → Got (List (Vals vert_line)) → Got Script
  atVerts o v = atFaces o v.val (lines_from face_line o.1.1.0 v.text)

  abbrev atOpening : Got (Vals open_line) → Got Script
  atOpening o = atVerts o.val (lines_from vert_line o.val.1.0 o.text)

-- a text of a script is read as the script
pub taken : (s : List ℕ) (d : Script) → SpellsScript s d → read_of s ≡ record { val = d; text = left [] }
unfolding read_of
taken s d x =
    let o : Vals open_line = d.radius & d.verts & d.faces & tt in
    let v = rw x.verts at (reads_all vert_line tt x.vertices x.mesh x.rest x.vert_lines) in
    let f = rw x.faces at (reads_all face_line tt x.triangles x.rest x.tail x.face_lines) in
    let h : length d.puts ≤ length s
    = omega (
      arith,
      no_more put_line tt tt d.puts x.tail [] x.put_lines,
      all_least face_line x.triangles x.rest x.tail x.face_lines,
      all_least vert_line x.vertices x.mesh x.rest x.vert_lines,
      at_least open_line o s x.mesh x.opening,
    ) in
    ap (atOpening s) (reads open_line o s x.mesh tt x.opening)
    ∙ (ap (atVerts s o) v
    ∙ (ap (atFaces s o x.vertices) f
    ∙ (ap (atPuts s o x.vertices x.triangles)
    (reads_to put_line tt tt (length s) d.puts x.tail h x.put_lines)
    ∙ (λ i. record {
      val =
          record {
            radius = d.radius;
            verts = d.verts;
            faces = d.faces;
            coords = x.coords i;
            corners = x.corners i;
            puts = d.puts;
          };
      text = left [];
    }))))

-- and what is read as a script is a text of it
pub spelt : (s r : List ℕ) → (read_of s).text ≡ left r → (r ≡ []) × SpellsScript s (read_of s).val
unfolding read_of
spelt s r e =
    let o = read open_line (left s) in
    let v = lines_from vert_line o.val.1.0 o.text in
    let f = lines_from face_line o.val.1.1.0 v.text in
    let z = spells_to put_line tt tt (length s) f.text r e in
    let y = spells_all face_line tt o.val.1.1.0 v.text z.0 z.1 in
    let x = spells_all vert_line tt o.val.1.0 o.text y.0 y.1 in (
      z.2,
      record {
        vertices = v.val;
        triangles = f.val;
        mesh = x.0;
        rest = y.0;
        tail = z.0;
        opening = spells open_line s x.0 tt x.1;
        vert_lines = x.2;
        face_lines = y.2;
        put_lines = z.3;
        verts = all_read vert_line tt o.val.1.0 o.text;
        faces = all_read face_line tt o.val.1.1.0 v.text;
        coords = refl;
        corners = refl;
      },
    )

-- both ways
pub accepts : (s : List ℕ) (d : Script)
    → (read_of s ≡ record { val = d; text = left [] } → SpellsScript s d)
    × (SpellsScript s d → read_of s ≡ record { val = d; text = left [] })
accepts s d = (
  (λ e. subst (SpellsScript s) (ap (λ (g : Got Script). g.val) e)
      (spelt s [] (ap (λ (g : Got Script). g.text) e)).1),
  taken s d,
)

-- "13 is [..] also for bytes that aren't one whole opening and then puts", and for no others
pub well_formed : (s : List ℕ)
    → (form_check (read_of s).text ≡ passed → (d : Script) × SpellsScript s d)
    × ((d : Script) → SpellsScript s d → form_check (read_of s).text ≡ passed)
well_formed s = (go (read_of s).text refl, (λ d x. (λ i. form_check (taken s d x i).text)))
  where
    go : (t : Text) → (read_of s).text ≡ t → form_check t ≡ passed → (d : Script) × SpellsScript s d
    go lost e h = absurd (let z : ◌≡◌ {A = ℕ} 0 1 = cc in omega arith)
    go (left r) e h = ((read_of s).val, (spelt s r e).1)

-- ---- coordinates and corners come by threes, three of each line, so that 1 is never
pub by_threes : (s : List ℕ)
    → (length (read_of s).val.coords ≡ 3 * (read_of s).val.verts)
    × (length (read_of s).val.corners ≡ 3 * (read_of s).val.faces)
unfolding read_of
by_threes s =
    let o = read open_line (left s) in
    let v = lines_from vert_line o.val.1.0 o.text in
    (coords_count o.val.1.0 o.text, corners_count o.val.1.1.0 v.text)

pub never-ragged : (s : List ℕ) → ragged (length (read_of s).val.coords) (read_of s).val.corners ≡ false
never-ragged s =
    let d = (read_of s).val in
    let v : 3 * d.verts % 3 ≡ 0 = omega arith in
    let f : 3 * d.faces % 3 ≡ 0 = omega arith in
    rw ((by_threes s).0, (by_threes s).1, v, f) refl
