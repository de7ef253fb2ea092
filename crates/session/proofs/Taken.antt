-- What a line does, case by case. Assumes nothing.
use Prim.Native.Nat.{ℕ, suc, ◌+◌, ◌*◌, ◌<◌}
use mathlib.Core.Path.{◌≡◌, refl, subst}
use mathlib.Core.Bool.{Bool, true, false, ◌&&◌, ◌||◌}
use mathlib.Core.List.{List, [], ◌∷◌}
use native.Mathlib.Omega.{arith}
use lib.Dec.{leb, ltb}
use Rattle.std.proofs.Common.{length, take, drop, ◌++◌, ◌≤◌, sym, ◌∙◌, drop-drop, append_assoc}
use Rattle.std.proofs.lemmas.List.Edits.{sets, sets-eq}
use Rattle.std.specs.Prelude.{Option, Some, None}
use lib.Ieee.{Float}
use borrow.Author.Tests.{ltb-true}
use Rattle.std.specs.Prelude.{◌⊎◌}
use Rattle.std.proofs.Common.{inl, inr}
use denote.Enum.Declared.{tag_of}
use Rattle.forms.specs.contracts.line.Line.{the_type}
use Rattle.forms.specs.declared.line.Call.{Call}
use Rattle.forms.specs.declared.line.Head.{Head}
use Rattle.forms.specs.declared.line.Line.{Line}
use Rattle.forms.specs.declared.line.Line.TheVariants.{Open, Vert, Face, OnStore}
use Rattle.session.specs.declared.opening.Opening.{Opening}
use Rattle.calls.specs.Calls.{bad_text}
use Rattle.session.specs.Session.{Session, Small, vert_bound, face_bound, verts_due, due, begun, vert_read, face_read}
use Rattle.session.specs.Session.{session, said, given_up, on_store, settled, in_opening, outside, respond}

-- numbers stored over a part of a run
pub stored : {A : Type 0} (l x : List A) (k m : ℕ) → m ≡ length x → k + m ≤ length l
    → take k l ++ (x ++ drop m (drop k l)) ≡ sets l k x
stored l x k m e h =
    let room : k + length x ≤ length l = omega arith in
    (λ i. take k l ++ (x ++ drop-drop m k l i))
    ∙ (λ i. take k l ++ (x ++ drop (k + e i) l))
    ∙ sym (append_assoc (take k l) x (drop (k + length x) l))
    ∙ sym (sets-eq x l k room)

-- a line that is due has its room in the run that is read
pub vert_room : (o : Opening) → Small o × (verts_due o ≡ true) → o.verts_read < vert_bound
vert_room o (s, h) = omega (arith, s.0, ltb-true o.verts_read o.head.verts h)

pub face_room : (o : Opening) → Small o × ((verts_due o ≡ false) × (due o ≡ true)) → o.faces_read < face_bound
face_room o (s, (h, d)) =
    let due-face = subst (λ (b : Bool). b || ltb o.faces_read o.head.faces ≡ true) h d in
    omega (arith, s.1, ltb-true o.faces_read o.head.faces due-face)

-- ---- a line of it
pub vert_kept : (s : Session) (p : List Float) {o : Opening} {xs : List Float} →
    verts_due s.opening ≡ true → o ≡ vert_read s.opening →
    xs ≡ sets s.coords (3 * s.opening.verts_read) p →
    in_opening s (Vert p) ≡ settled (session o s.floats s.words xs s.corners)
unfolding in_opening
vert_kept s p h e u = rw (h, e, u) refl

pub vert_late : (s : Session) (p : List Float) → verts_due s.opening ≡ false → in_opening s (Vert p) ≡ given_up s
unfolding in_opening
vert_late s p h = rw (h) refl

pub face_kept : (s : Session) (k : List ℕ) {p : Opening} {ks : List ℕ} →
    verts_due s.opening ≡ false → p ≡ face_read s.opening →
    ks ≡ sets s.corners (3 * s.opening.faces_read) k →
    in_opening s (Face k) ≡ settled (session p s.floats s.words s.coords ks)
unfolding in_opening
face_kept s k h e u = rw (h, e, u) refl

pub face_early : (s : Session) (k : List ℕ) → verts_due s.opening ≡ true → in_opening s (Face k) ≡ given_up s
unfolding in_opening
face_early s k h = rw (h) refl

-- ---- any other line
pub opening_begun : (s : Session) (head : Head) {o : Opening} →
    leb head.verts vert_bound && leb head.faces face_bound ≡ true → o ≡ begun head →
    outside s (Open head) ≡ settled (session o s.floats s.words s.coords s.corners)
unfolding outside
opening_begun s head h e = rw (h, e) refl

pub opening_over : (s : Session) (head : Head) →
    leb head.verts vert_bound && leb head.faces face_bound ≡ false → outside s (Open head) ≡ said s bad_text
unfolding outside
opening_over s head h = rw (h) refl

pub responds_due : (s : Session) (l : Line) → due s.opening ≡ true → respond s (Some l) ≡ in_opening s l
unfolding respond
responds_due s l h = rw (h) refl

pub responds_else : (s : Session) (l : Line) → due s.opening ≡ false → respond s (Some l) ≡ outside s l
unfolding respond
responds_else s l h = rw (h) refl

pub gives_up : (s : Session) → due s.opening ≡ true → respond s None ≡ given_up s
unfolding respond
gives_up s h = rw (h) refl

pub stays : (s : Session) → due s.opening ≡ false → respond s None ≡ said s bad_text
unfolding respond
stays s h = rw (h) refl

-- ---- the lines that a `match` leaves to its last arm, by their places in the enum

-- neither a vert nor a face line
pub no_mesh : (s : Session) (l : Line) → (tag_of the_type l ≡ 0) ⊎ (tag_of the_type l ≡ 3) → in_opening s l ≡ given_up s
unfolding in_opening
no_mesh s (Open head) h = refl
no_mesh s (Vert p) (inl h) = absurd (omega arith)
no_mesh s (Vert p) (inr h) = absurd (omega arith)
no_mesh s (Face k) (inl h) = absurd (omega arith)
no_mesh s (Face k) (inr h) = absurd (omega arith)
no_mesh s (OnStore c) h = refl

-- neither an open line nor a call
pub no_call : (s : Session) (l : Line) → (tag_of the_type l ≡ 1) ⊎ (tag_of the_type l ≡ 2) → outside s l ≡ said s bad_text
unfolding outside
no_call s (Open head) (inl h) = absurd (omega arith)
no_call s (Open head) (inr h) = absurd (omega arith)
no_call s (Vert p) h = refl
no_call s (Face k) h = refl
no_call s (OnStore c) (inl h) = absurd (omega arith)
no_call s (OnStore c) (inr h) = absurd (omega arith)

pub a_call : (s : Session) (c : Call) → outside s (OnStore c) ≡ on_store s c
unfolding outside
a_call s c = refl
