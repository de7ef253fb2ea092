-- Faces that have a corner in a range, and lists and spans of faces that leave out none of them. What the internal
-- contracts speak of; definitions only.
use Rattle.std.specs.Prelude.{◌≡◌, ℕ, zero, suc, ◌+◌, ◌*◌, ◌/◌, ◌%◌, ◌<◌, ◌≤◌, Bool, false, ◌&&◌, List, length, nat_le}
use Rattle.std.specs.Prelude.{slice_index}

-- x is one of first .. last
abbrev pub inside : ℕ → ℕ → ℕ → Bool
inside first last x = nat_le first x && nat_le x last

-- none of the corners from .. to - 1 is one of first .. last
pub record NoneWithin (ks : List ℕ) (first last from to : ℕ) : Type 0 where
  pub none : (j : ℕ) → from ≤ j → j < to → inside first last (slice_index ks j) ≡ false

-- x lies within a span, which has the least and the greatest of some corners, both divided by 16: the least in its
-- lower 16 bits, the greatest in the upper
abbrev pub Spans : ℕ → ℕ → Type 0
Spans span x = (span % 65536 ≤ x / 16) × (x / 16 ≤ span / 65536)

-- each of the first n corners lies within the span of its stretch, of 1,024 faces; for 2,097,152 faces there are 2,048
-- stretches, and after them one without a face
pub record Spanned (ks spans : List ℕ) (n : ℕ) : Type 0 where
  pub long : length spans ≡ 2049
  pub at : (j : ℕ) → j < n → Spans (slice_index spans (j / 3072)) (slice_index ks j)

-- the face after the m-th of the listed blocks of `size` faces; before the first of them, that is `from`
unfoldable pub behind : ℕ → ℕ → List ℕ → ℕ → ℕ
behind size from ps zero = from
behind size from ps (suc m) = slice_index ps m + size

-- of the faces from .. to - 1, a list of m blocks of `size` faces, one after the other, leaves out none that has a
-- corner among first .. last
pub record Listed (ks : List ℕ) (first last size from to : ℕ) (ps : List ℕ) (m : ℕ) : Type 0 where
  pub rising : (q : ℕ) → q < m → behind size from ps q ≤ slice_index ps q
  pub short : (q : ℕ) → q < m → slice_index ps q + size ≤ to
  pub between : (q : ℕ) → q < m → NoneWithin ks first last (3 * behind size from ps q) (3 * slice_index ps q)
  pub stops : behind size from ps m ≤ to
  pub rest : NoneWithin ks first last (3 * behind size from ps m) (3 * to)
