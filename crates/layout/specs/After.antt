-- What a call on a store leaves: its answer and the two runs. Definitions only.
use Rattle.std.specs.Prelude.{List, ℕ, Float, Ok, Err}
use Rattle.base.specs.Answers.{Answer, refused, Checked}

-- its reply, the float run fs and the u32 run ws
pub record After : Type 0 where
  pub reply : Answer
  pub floats : List Float
  pub words : List ℕ

abbrev pub after : Answer → List Float → List ℕ → After
after r fs ws = record { reply = r; floats = fs; words = ws }

-- "a refused call changes nothing"
abbrev pub guarded : Checked → List Float → List ℕ → After → After
guarded (Ok _) fs ws good = good
guarded (Err r) fs ws good = after (refused r) fs ws
