-- 02, L14, one statement: `Renumbering`, at the end. "Tools number the same vertices differently, and navigators
-- compare results across them." Definitions only.
use Rattle.std.specs.Prelude.{◌≡◌, List, map, ℕ, ◌+◌, ◌*◌, ◌/◌, ◌<◌, length, get_or, Float}
use Rattle.std.specs.Float.{nan}
use Rattle.layout.specs.Layout.{width}
use Rattle.layout.specs.After.{After}
use Rattle.store.specs.Calls.{open_step}
use Rattle.machine.specs.Machine.{open_row}
use Rattle.machine.specs.Calls.{Call, heard_of, numberless}
use Rattle.machine.specs.Beginnings.{leaving}

-- p numbers v vertices anew, and b takes each new number back
pub record Permutation (v : ℕ) (p b : ℕ → ℕ) : Type 0 where
  pub within : (i : ℕ) → i < v → p i < v
  pub within_back : (i : ℕ) → i < v → b i < v
  pub back : (i : ℕ) → i < v → b (p i) ≡ i
  pub forth : (i : ℕ) → i < v → p (b i) ≡ i

-- "two meshes differ only by a permutation of vertices, with corners renumbered to match": the mesh of coordinates ys
-- and corners ls is that of xs and ks with vertex i as its vertex p i
pub record Renumbered (p b : ℕ → ℕ) (xs : List Float) (ks : List ℕ) (ys : List Float) (ls : List ℕ) : Type 0 where
  pub numbers : Permutation (length xs / 3) p b
  pub long : length ys ≡ length xs
  pub coords : (i j : ℕ) → i < length xs / 3 → j < 3 → get_or ys (3 * p i + j) nan ≡ get_or xs (3 * i + j) nan
  pub corners : ls ≡ map p ks

-- ---- what two openings answered and left; q is the count of words to a place
pub record Agree (q : ℕ) (a b : After) : Type 0 where
  pub opening : a.reply ≡ b.reply
  -- "the same list of put, clear, reweigh, advance and reading calls is made on each, then all answers and all that
  -- readings write agree bit for bit, NaN as one": of every list, squeezes in it and what they answer too. Lines of the
  -- stores that are written in between show the numbers, and are the only thing left out
  pub calls : (cs : List Call) → heard_of numberless q (leaving a) cs ≡ heard_of numberless q (leaving b) cs

-- ---- "both openings are accepted with the same radius": r, in runs fs, ws and gs, us, whatever was in them. "demand
-- 3's premises hold for each store": they are in `heard_of`, whose first call gets what the accepted opening left;
-- nothing else is asked
abbrev pub Renumbering : Type 0
Renumbering =
    (p b : ℕ → ℕ) (xs : List Float) (ks : List ℕ) (ys : List Float) (ls : List ℕ) → Renumbered p b xs ks ys ls
    → (r : Float) (fs : List Float) (ws : List ℕ) (gs : List Float) (us : List ℕ)
    → open_row width xs ks (length fs) (length ws) ≡ 0 → open_row width ys ls (length gs) (length us) ≡ 0
    → Agree width (open_step width fs ws r xs ks) (open_step width gs us r ys ls)
