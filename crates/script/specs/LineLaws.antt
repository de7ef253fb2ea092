-- The bytes of each line, and rows one after the other. Assumes nothing.
use Rattle.std.specs.Prelude.{◌≡◌, List, [], ◌∷◌, ◌++◌, Float, length}
use Rattle.std.proofs.Math.Path.{refl}
use Rattle.std.proofs.Common.{sym, ap, ◌∙◌, append_assoc, eq-eqb, ne_eqb, le-leb, length-append}
use Rattle.std.proofs.lemmas.Bool.{lt-leb}
use Rattle.base.specs.Answers.{counted, refused, printout}
use Rattle.base.specs.declared.refusal.Refusal.TheVariants.{ShortText}
use Rattle.layout.specs.Runs.{write}
use Rattle.text.specs.Text.{bytes}
use Prim.Native.Nat.{ℕ, zero, suc, ◌+◌, ◌-◌, ◌*◌, ◌<◌, ◌≤◌}
use Rattle.std.proofs.Math.Numerals.{add-one}
use native.Mathlib.Omega.{arith}
use Rattle.std.proofs.lemmas.List.Edits.{sets}
use Rattle.std.proofs.Math.Seq.{length-sets}
use Rattle.text.specs.Print.{Wrote, decimal_length}
use Rattle.text.specs.LengthLaws.{decimal-length, length-pattern}
use Rattle.text.specs.WriteLaws.{sets_append}
use Rattle.text.specs.Form.{Form, Vals, print, ◌&◌}
use Rattle.script.specs.Lines.{open_line, vert_line, face_line, put_line}
use Rattle.layout.specs.Layout.{place_limit, radius_of, status_of, layer_of}
use Rattle.script.specs.Written.{printed_lines, vert_at, face_at, put_in, put_at, put_row, put_rows, vert_rows, face_rows, lines_of, text_answer}

pub open_bytes : (r : Float) (v f : ℕ) → length (print open_line (r & v & f & tt))
    ≡ 51 + decimal_length v + decimal_length f
open_bytes r v f = simp (length-append, decimal-length, length-pattern) (omega arith)

pub vert_bytes : (x y z : Float) → length (print vert_line (x & y & z & tt)) ≡ 58
vert_bytes x y z = simp (length-append, length-pattern) (omega arith)

pub face_bytes : (a b c : ℕ) → length (print face_line (a & b & c & tt))
    ≡ 10 + decimal_length a + decimal_length b + decimal_length c
face_bytes a b c = simp (length-append, decimal-length) (omega arith)

pub put_bytes : (fs : List Float) (p l : ℕ)
    → length (print put_line (put_in fs p l)) ≡ 142 + decimal_length p + decimal_length l
put_bytes fs p l = simp (length-append, decimal-length, length-pattern) (omega arith)

-- ---- rows

pub printed-more : (f : Form) (v : ℕ → Vals f) (n i : ℕ) → i < n
    → printed_lines f v (n - i) i ≡ print f (v i) ++ printed_lines f v (n - (i + 1)) (i + 1)
printed-more f v n i h = let e : n - i ≡ suc (n - (i + 1)) = omega arith in rw (e, add-one i) refl

pub printed-none : (f : Form) (v : ℕ → Vals f) (n i : ℕ) → n ≤ i → printed_lines f v (n - i) i ≡ []
printed-none f v n i h = let e : n - i ≡ 0 = omega arith in rw e refl

module _ (fs : List Float) (n i : ℕ) where
  pub verts_more : i < n → vert_rows fs (n - i) i ≡ print vert_line (vert_at fs i) ++ vert_rows fs (n - (i + 1)) (i + 1)
  unfolding vert_rows
  verts_more h = printed-more vert_line (vert_at fs) n i h

  pub verts_none : n ≤ i → vert_rows fs (n - i) i ≡ []
  unfolding vert_rows
  verts_none h = printed-none vert_line (vert_at fs) n i h

module _ (q : ℕ) (ws : List ℕ) (n i : ℕ) where
  pub faces_more : i < n → face_rows q ws (n - i) i
      ≡ print face_line (face_at q ws i) ++ face_rows q ws (n - (i + 1)) (i + 1)
  unfolding face_rows
  faces_more h = printed-more face_line (face_at q ws) n i h

  pub faces_none : n ≤ i → face_rows q ws (n - i) i ≡ []
  unfolding face_rows
  faces_none h = printed-none face_line (face_at q ws) n i h

  -- the bytes of the faces that are left
  pub faces_left : i < n → length (face_rows q ws (n - i) i)
      ≡ length (print face_line (face_at q ws i)) + length (face_rows q ws (n - (i + 1)) (i + 1))
  faces_left h =
      ap length (faces_more h) ∙ length-append (print face_line (face_at q ws i)) (face_rows q ws (n - (i + 1)) (i + 1))

  pub no_faces_left : n ≤ i → length (face_rows q ws (n - i) i) ≡ 0
  no_faces_left h = ap length (faces_none h)

module _ (q : ℕ) (fs : List Float) (ws : List ℕ) (n i : ℕ) where
  pub puts_more : i < n → put_rows q fs ws (n - i) i ≡ put_row q fs ws i ++ put_rows q fs ws (n - (i + 1)) (i + 1)
  unfolding put_rows
  puts_more h = let e : n - i ≡ suc (n - (i + 1)) = omega arith in rw (e, add-one i) refl

  pub puts_none : n ≤ i → put_rows q fs ws (n - i) i ≡ []
  unfolding put_rows
  puts_none h = let e : n - i ≡ 0 = omega arith in rw e refl

  -- the bytes of the places that are left
  pub puts_left : i < n → length (put_rows q fs ws (n - i) i)
      ≡ length (put_row q fs ws i) + length (put_rows q fs ws (n - (i + 1)) (i + 1))
  puts_left h =
      ap length (puts_more h) ∙ length-append (put_row q fs ws i) (put_rows q fs ws (n - (i + 1)) (i + 1))

  pub no_puts_left : n ≤ i → length (put_rows q fs ws (n - i) i) ≡ 0
  no_puts_left h = ap length (puts_none h)

module _ (q : ℕ) (fs : List Float) (ws : List ℕ) (i : ℕ) where
  pub row_empty : status_of q ws i ≡ 0 → put_row q fs ws i ≡ []
  unfolding put_row
  row_empty h = rw (eq-eqb _ _ h) refl

  pub row_filled : (status_of q ws i ≡ 0 → ⊥) → put_row q fs ws i ≡ print put_line (put_at q fs ws i)
  unfolding put_row
  row_filled h = rw (ne_eqb _ _ h) refl

-- all vertices' lines
pub verts_bytes : (fs : List Float) (n i : ℕ) → length (vert_rows fs n i) ≡ 58 * n
unfolding vert_rows
verts_bytes fs zero i = refl
verts_bytes fs (suc n) i =
    length-append (print vert_line (vert_at fs i)) (printed_lines vert_line (vert_at fs) n (suc i))
    ∙ (let e = verts_bytes fs n (suc i) in let h = vert_bytes (vert_at fs i).0 (vert_at fs i).1.0
    (vert_at fs i).1.1.0 in omega arith)

pub row_bytes : (q : ℕ) (fs : List Float) (ws : List ℕ) (i : ℕ) → (status_of q ws i ≡ 0 → ⊥)
    → length (put_row q fs ws i) ≡ 142 + decimal_length i + decimal_length (layer_of q ws i)
row_bytes q fs ws i h = ap length (row_filled q fs ws i h) ∙ put_bytes fs i (layer_of q ws i)

-- all lines
pub lines_bytes : (q : ℕ) (fs : List Float) (ws : List ℕ) (v f : ℕ)
    → length (lines_of q fs ws v f) ≡ 51 + decimal_length v + decimal_length f + 58 * v + length (face_rows q ws f 0)
    + length (put_rows q fs ws place_limit 0)
unfolding lines_of
lines_bytes q fs ws v f =
    omega (
      arith,
      length-append (print open_line (radius_of fs & v & f & tt))
          (vert_rows fs v 0 ++ (face_rows q ws f 0 ++ put_rows q fs ws place_limit 0)),
      length-append (vert_rows fs v 0) (face_rows q ws f 0 ++ put_rows q fs ws place_limit 0),
      length-append (face_rows q ws f 0) (put_rows q fs ws place_limit 0),
      open_bytes (radius_of fs) v f,
      verts_bytes fs v 0,
    )

-- the opening of a put line, and then r
pub put_joined : (d x y z r : List ℕ)
    → (bytes "(put " ++ (d ++ (bytes " (c " ++ (x ++ (bytes " " ++ (y ++ (bytes " " ++ z))))))) ++ r
    ≡ bytes "(put " ++ (d ++ (bytes " (c " ++ (x ++ (bytes " " ++ (y ++ (bytes " " ++ (z ++ r)))))))
put_joined d x y z r = simp append_assoc refl

pub wrote_none : {o t : List ℕ} (at : ℕ) → t ≡ [] → Wrote o at t at o
wrote_none {o} at e = record { next = omega (arith, ap length e); run = ap (sets o at) (sym e) }

-- ---- the answers

pub too_few : (t bs : List ℕ) → length bs < length t → printout (refused ShortText) bs ≡ text_answer t bs
unfolding text_answer
too_few t bs h = rw (lt-leb (length t) (length bs) h) refl

pub enough : (t bs : List ℕ) {bs' : List ℕ} {n : ℕ} → n ≡ length t → n ≤ length bs → bs' ≡ write bs 0 t
    → printout (counted (n ∷ [])) bs' ≡ text_answer t bs
unfolding text_answer
enough t bs e h r = rw (le-leb (length t) (length bs) (omega arith)) (λ i. printout (counted (e i ∷ [])) (r i))

-- ---- a text under way: the rest of it, t₁, at at₁ of the run o₁ makes what the whole, t, makes at `at` of o

pub record Todo (o : List ℕ) (at : ℕ) (t o₁ : List ℕ) (at₁ : ℕ) (t₁ : List ℕ) : Type 0 where
  pub long : length o₁ ≡ length o
  pub same : sets o₁ at₁ t₁ ≡ sets o at t
  pub ends : at₁ + length t₁ ≡ at + length t

pub todo_all : (o : List ℕ) (at : ℕ) (t : List ℕ) → Todo o at t o at t
todo_all o at t = record { long = refl; same = refl; ends = refl }

module _ {o : List ℕ} {at : ℕ} {t o₁ : List ℕ} {at₁ : ℕ} {t₁ : List ℕ} where
  pub todo_next : {u t₂ o₂ : List ℕ} {r : ℕ} → Todo o at t o₁ at₁ t₁ → t₁ ≡ u ++ t₂ → Wrote o₁ at₁ u r o₂
      → Todo o at t o₂ r t₂
  todo_next {u} {t₂} {o₂} {r} d e w =
      record {
        long = ap length w.run ∙ length-sets o₁ at₁ u ∙ d.long;
        same = (λ i. sets (w.run i) (w.next i) t₂) ∙ sym (sets_append u t₂ o₁ at₁) ∙ ap (sets o₁ at₁) (sym e)
            ∙ d.same;
        ends = omega (arith, w.next, d.ends, ap length e, length-append u t₂);
      }

  pub todo_room : (u t₂ : List ℕ) → Todo o at t o₁ at₁ t₁ → t₁ ≡ u ++ t₂ → at + length t ≤ length o
      → at₁ + length u ≤ length o₁
  todo_room u t₂ d e h = omega (arith, d.long, d.ends, ap length e, length-append u t₂)

  pub todo_done : Todo o at t o₁ at₁ t₁ → t₁ ≡ [] → Wrote o at t at₁ o₁
  todo_done d e =
      record {
        next = omega (arith, d.ends, ap length e);
        run = ap (sets o₁ at₁) (sym e) ∙ d.same;
      }
