-- 01, "Remainder", program `bench`: what it prints for a line, and what it holds afterwards. Definitions only.
use Rattle.std.specs.Prelude.{ℕ, ◌+◌, ◌*◌, ◌≤◌, ◌≡◌, Bool, cond, ◌&&◌, ◌||◌, List, [], ◌∷◌, leb, ltb, take, Float, Option, Some, None}
use Rattle.std.proofs.lemmas.List.Edits.{sets}
use Rattle.base.specs.Floats.{+0}
use Rattle.layout.specs.Layout.{width}
use Rattle.layout.specs.After.{After}
use Rattle.store.specs.Calls.{open_step}
use Rattle.text.specs.Print.{Wrote}
use Rattle.forms.specs.declared.line.Call.{Call}
use Rattle.forms.specs.declared.line.Head.{Head}
use Rattle.forms.specs.declared.line.Line.{Line}
use Rattle.forms.specs.declared.line.Line.TheVariants.{Open, Vert, Face, OnStore}
use Rattle.calls.specs.Texts.{open_text}
use Rattle.calls.specs.Calls.{bad_text, call_of}
use Rattle.session.specs.declared.opening.Opening.{Opening}

-- "V ≤ 500, F ≤ 1,000"
abbrev pub vert_bound : ℕ
vert_bound = 500

abbrev pub face_bound : ℕ
face_bound = 1000

-- ---- an opening under way: its first line, and how many of its vert and face lines were read

-- "The vert lines, then the face lines"
abbrev pub verts_due : Opening → Bool
verts_due o = ltb o.verts_read o.head.verts

abbrev pub due : Opening → Bool
due o = verts_due o || ltb o.faces_read o.head.faces

abbrev pub begun : Head → Opening
begun head = record { head = head; verts_read = 0; faces_read = 0 }

-- no line of it is due: none is under way
abbrev pub idle : Opening
idle = begun (record { radius = +0; verts = 0; faces = 0 })

abbrev pub vert_read : Opening → Opening
vert_read o = record { head = o.head; verts_read = o.verts_read + 1; faces_read = o.faces_read }

abbrev pub face_read : Opening → Opening
face_read o = record { head = o.head; verts_read = o.verts_read; faces_read = o.faces_read + 1 }

-- its counts are the program's
abbrev pub Small : Opening → Type 0
Small o = (o.head.verts ≤ vert_bound) × (o.head.faces ≤ face_bound)

-- ---- what the program holds between two lines: an opening under way, the store's runs, and the mesh that is read
pub record Session : Type 0 where
  pub opening : Opening
  pub floats : List Float
  pub words : List ℕ
  pub coords : List Float
  pub corners : List ℕ

abbrev pub session : Opening → List Float → List ℕ → List Float → List ℕ → Session
session o fs ws xs ks = record { opening = o; floats = fs; words = ws; coords = xs; corners = ks }

-- and what it printed
pub record Said : Type 0 where
  pub next : Session
  pub text : List ℕ

abbrev pub said : Session → List ℕ → Said
said s text = record { next = s; text = text }

-- what a function does that holds s: it is f's, so that s' is held afterwards, and f's text is written from the start
-- of out, up to n
abbrev pub Does : (Session → Said) → Session → Session → List ℕ → ℕ → List ℕ → Type 0
Does f s s' out n out' = (s' ≡ (f s).next) × Wrote out 0 (f s).text n out'

-- "gives up that opening, the store staying as before"
abbrev pub given_up : Session → Said
given_up s = said (session idle s.floats s.words s.coords s.corners) bad_text

-- the opening so far: once no line of it is due, the store is opened with its mesh
abbrev pub opens : Session → Opening → After
opens s o =
    open_step width s.floats s.words o.head.radius
    (take (3 * o.head.verts) s.coords) (take (3 * o.head.faces) s.corners)

unfoldable pub settled : Session → Said
settled s =
    let o = s.opening in
    let a = opens s o in
    cond (due o) (said s []) (said (session o a.floats a.words s.coords s.corners) (open_text a.reply))

-- the next vertex and the next face
abbrev pub with_vert : Session → List Float → Session
with_vert s p =
    let o = s.opening in
    session (vert_read o) s.floats s.words (sets s.coords (3 * o.verts_read) p) s.corners

abbrev pub with_face : Session → List ℕ → Session
with_face s k =
    let o = s.opening in
    session (face_read o) s.floats s.words s.coords (sets s.corners (3 * o.faces_read) k)

-- a line where one of an opening is due: "another line among them .. gives up that opening"
unfoldable pub in_opening : Session → Line → Said
in_opening s (Open head) = given_up s
in_opening s (Vert p) = cond (verts_due s.opening) (settled (with_vert s p)) (given_up s)
in_opening s (Face k) = cond (verts_due s.opening) (given_up s) (settled (with_face s k))
in_opening s (OnStore c) = given_up s

-- a call, the rest staying
abbrev pub on_store : Session → Call → Said
on_store s c =
    let r = call_of s.floats s.words c in
    said (session s.opening r.floats r.words s.coords s.corners) r.text

-- any other line; "a count above the program's .. prints (no 13)"
unfoldable pub outside : Session → Line → Said
outside s (Open head) =
    cond (leb head.verts vert_bound && leb head.faces face_bound)
    (settled (session (begun head) s.floats s.words s.coords s.corners))
    (said s bad_text)
outside s (Vert p) = said s bad_text
outside s (Face k) = said s bad_text
outside s (OnStore c) = on_store s c

-- what the program does with a line, or with one of no form
unfoldable pub respond : Session → Option Line → Said
respond s None = cond (due s.opening) (given_up s) (said s bad_text)
respond s (Some l) = cond (due s.opening) (in_opening s l) (outside s l)
