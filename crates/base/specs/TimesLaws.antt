-- How far a counting loop from 0 has come: nothing at first, and one turn more at each step. With them `n` turns so far
-- is an invariant of such a loop, and no proof file but that is needed. Assumes nothing.
use Rattle.std.specs.Prelude.{◌≡◌, ℕ, ◌+◌}
use Rattle.std.proofs.Math.Path.{refl}
use Rattle.std.proofs.Common.{zero-add}
use Rattle.std.proofs.Math.Numerals.{add-one}
use Rattle.base.specs.Loops.{times}
use Rattle.base.specs.LoopLaws.{times-suc}

pub times_none : {S : Type 0} (f : ℕ → S → S) (s : S) → times f 0 0 s ≡ s
unfolding times
times_none f s = refl

pub times_next : {S : Type 0} (f : ℕ → S → S) (k : ℕ) (s : S) → times f (k + 1) 0 s ≡ f k (times f k 0 s)
times_next f k s = rw add-one (rw zero-add at (times-suc f k 0 s))

-- both, for an attribute `using`
pub ruleset turns = (times_none, times_next)
