-- Corners below a count of vertices, as the functions that go over them ask. Assumes nothing.
use Rattle.std.specs.Prelude.{ℕ, ◌≤◌, ◌<◌, List, length, get_or}
use Rattle.std.proofs.Common.{arith}

-- every corner is below v
pub record Below (v : ℕ) (ks : List ℕ) : Type 0 where
  pub corner : (j : ℕ) → j < length ks → get_or ks j 0 < v

pub below-greater : {v n : ℕ} {ks : List ℕ} → Below v ks → v ≤ n → Below n ks
below-greater b h = record { corner = λ j l. omega (arith, b.corner j l) }
