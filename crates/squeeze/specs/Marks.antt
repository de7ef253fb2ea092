-- Marks and ranks as the code keeps them in local arrays: internal, no part of what a caller must believe. Definitions
-- only.
use Rattle.std.specs.Prelude.{◌≡◌, cond, List, ℕ, zero, suc, ◌+◌, ◌*◌, ◌/◌, ◌%◌, ◌^◌, ◌≤◌, ◌<◌, length, get_or, Float}
use Rattle.std.specs.Int.Count.{ones}
use Rattle.mesh.specs.Checks.{vertex_limit}
use Rattle.mesh.specs.Corners.{Below}
use Rattle.squeeze.specs.Squeeze.{used}

-- the words of an array of marks, 32 vertices to each
abbrev pub word_limit : ℕ
word_limit = 32768

-- digit b of x
abbrev pub digit : ℕ → ℕ → ℕ
digit x b = x / 2 ^ b % 2

-- digit b of word j is 1 exactly where a corner names vertex 32 j + b
pub record Marked (ks ms : List ℕ) : Type 0 where
  pub long : length ms ≡ word_limit
  pub bit : (j b : ℕ) → j < word_limit → b < 32 → digit (get_or ms j 0) b ≡ cond (used ks (32 * j + b)) 1 0
  pub fits : (j : ℕ) → get_or ms j 0 < 4294967296

-- the digits that are set in the words below j
unfoldable pub ones_to : List ℕ → ℕ → ℕ
ones_to ms zero = 0
ones_to ms (suc j) = ones_to ms j + ones (get_or ms j 0)

-- word j of rs, of the first n, counts the marks of the words before it
pub record Ranked (ms rs : List ℕ) (n : ℕ) : Type 0 where
  pub at : (j : ℕ) → j < n → get_or rs j 0 ≡ ones_to ms j

-- the new number of vertex k, by marks and ranks
abbrev pub number_of : List ℕ → List ℕ → ℕ → ℕ
number_of ms rs k = get_or rs (k / 32) 0 + ones (get_or ms (k / 32) 0 % 2 ^ (k % 32))

-- a mesh of v vertices
pub record MeshOf (xs : List Float) (ks : List ℕ) (v : ℕ) : Type 0 where
  pub coords : length xs ≡ 3 * v
  pub verts : v ≤ vertex_limit
  pub below : Below v ks
