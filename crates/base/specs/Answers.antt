-- What a call answers: the number of its refusal in 01 or 02, and its values. Definitions only.
use Rattle.std.specs.Prelude.{ℕ, cond, List, [], ◌∷◌, leb, Float, Result, Ok, Err}
use Rattle.base.specs.Refusals.{number}
use Rattle.base.specs.declared.refusal.Refusal.{Refusal}
use Rattle.base.specs.declared.refusal.Refusal.TheVariants.{ShortList}

-- the number of the refusal, 0 where the call is not refused; the whole numbers and the floats that it answers
pub record Answer : Type 0 where
  pub refusal : ℕ
  pub counts : List ℕ
  pub floats : List Float

abbrev pub accepted : List Float → Answer
accepted xs = record { refusal = 0; counts = []; floats = xs }

abbrev pub counted : List ℕ → Answer
counted ns = record { refusal = 0; counts = ns; floats = [] }

-- no value
abbrev pub done : Answer
done = counted []

abbrev pub refused : Refusal → Answer
refused r = record { refusal = number r; counts = []; floats = [] }

-- what a check of a call's arguments finds: nothing, or the one refusal that is answered. Of two checks one after the
-- other, `result_and`, the first refusal is answered alone
abbrev pub Checked : Type 0
Checked = Result (Unit {0}) Refusal

abbrev pub passed : Checked
passed = Ok tt

-- what a call answers that gives a value or is refused, by what is answered of the value
abbrev pub answer_by : {A : Type 0} → (A → Answer) → Result A Refusal → Answer
answer_by f (Ok x) = f x
answer_by f (Err r) = refused r

-- that of a call whose value is a float
abbrev pub measured_as : Result Float Refusal → Answer
measured_as = answer_by (λ x. accepted (x ∷ []))

-- of one whose value is a number, as of the bytes that it wrote
abbrev pub counted_as : Result ℕ Refusal → Answer
counted_as = answer_by (λ n. counted (n ∷ []))

-- and of one that only does something
abbrev pub done_as : Checked → Answer
done_as = answer_by (λ _. done)

-- the answer of a call whose arguments are so checked
abbrev pub granted : Checked → Answer → Answer
granted c a = answer_by (λ _. a) c

-- and where it answers floats alone
abbrev pub answered : Checked → List Float → Answer
answered c xs = granted c (accepted xs)

-- an answer, and the words of a run that is lent to be written as they are then
pub record Outcome : Type 0 where
  pub reply : Answer
  pub out : List Float

abbrev pub outcome : Answer → List Float → Outcome
outcome r xs = record { reply = r; out = xs }

-- "a refused call changes nothing": what follows where a check passes; else its refusal, the run as it was
abbrev pub guarded_run : Checked → List Float → Outcome → Outcome
guarded_run (Ok _) xs good = good
guarded_run (Err r) xs good = outcome (refused r) xs

-- an answer, and the bytes of a lent run as they are then
pub record Printout : Type 0 where
  pub reply : Answer
  pub bytes : List ℕ

abbrev pub printout : Answer → List ℕ → Printout
printout r bs = record { reply = r; bytes = bs }

-- the same of bytes: what follows where a check passes; else its refusal, the bytes as they were
abbrev pub guarded_bytes : Checked → List ℕ → Printout → Printout
guarded_bytes (Ok _) bs good = good
guarded_bytes (Err r) bs good = printout (refused r) bs

-- row 9: "run to be written under 6 floats per piece (or kernel) written"; both are counts of floats
abbrev pub room_check : ℕ → ℕ → Checked
room_check floats room = cond (leb floats room) passed (Err ShortList)
