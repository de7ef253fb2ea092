-- What is said once a line is taken in, case by case. Assumes nothing.
use Prim.Native.Nat.{ℕ}
use mathlib.Core.Path.{◌≡◌, refl, sym, subst, ◌∙◌}
use mathlib.Core.Bool.{true, false}
use mathlib.Core.List.{List, []}
use native.Mathlib.Omega.{arith}
use Rattle.text.specs.Print.{Wrote}
use Rattle.calls.specs.Texts.{open_text}
use Rattle.session.specs.declared.opening.Opening.{Opening}
use Rattle.session.specs.Session.{Session, Said, Small, due, idle, session, said, opens, settled}

-- what is held and written, where another thing is said that is the same
pub saying : {s : Session} {x y : Said} {o o' : List ℕ} {r : ℕ} →
    x ≡ y → s ≡ y.next → Wrote o 0 y.text r o' → (s ≡ x.next) × Wrote o 0 x.text r o'
saying {o} {o' = o'} {r} e a w =
    (a ∙ (λ i. (sym e i).next), subst (λ (t : List ℕ). Wrote o 0 t r o') (λ i. (sym e i).text) w)

-- ---- an opening so far
pub settled-due : (s : Session) → due s.opening ≡ true → settled s ≡ said s []
unfolding settled
settled-due s h = rw (h) refl

pub settled-done : (s : Session) → due s.opening ≡ false →
    let a = opens s s.opening in
    settled s ≡ said (session s.opening a.floats a.words s.coords s.corners) (open_text a.reply)
unfolding settled
settled-done s h = rw (h) refl

pub small_as : {o p : Opening} → p ≡ o → Small o → Small p
small_as u s = subst (λ (q : Opening). Small q) (sym u) s

pub small-idle : Small idle
small-idle = (omega arith, omega arith)
