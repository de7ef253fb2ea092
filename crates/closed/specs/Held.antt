-- The numbers of the faces' edges, and the words of a batch that hold them. What the internal contracts speak of;
-- definitions only.
use Rattle.std.specs.Prelude.{ℕ, ◌+◌, ◌*◌, ◌/◌, ◌≤◌, ◌<◌, ◌≡◌, List, [], ◌∷◌, length, get_or, drop}
use Rattle.closed.specs.declared.gather.Batch.{Batch}
use Rattle.edges.specs.Numbers.{code}
use Rattle.sort.specs.Order.{is, copies, All, Within}

-- how many directed edges of the faces have the number c
unfoldable pub tally : ℕ → List ℕ → ℕ
tally c [] = 0
tally c (x ∷ []) = 0
tally c (x ∷ y ∷ []) = 0
tally c (x ∷ y ∷ z ∷ ks) = is (code x y) c + is (code y z) c + is (code z x) c + tally c ks

-- of words in order, the first m of n are those below `end`
pub record Cut (end : ℕ) (xs : List ℕ) (n m : ℕ) : Type 0 where
  pub fewer : m ≤ n
  pub above : All (λ (x : ℕ). end ≤ x) xs m n
  pub under : (j : ℕ) → j + 1 ≡ m → get_or xs j 0 < end

-- a batch of the range from low on: every word is a number of the range, and there is room for the words
pub record Sound (low : ℕ) (b : Batch) (xs : List ℕ) : Type 0 where
  pub long : length xs ≡ 61440
  pub room : b.count ≤ 61440
  pub first : low ≤ 1099511627776
  pub last : b.end ≤ 1099511627776
  pub within : Within (2 * low) (2 * b.end) xs b.count

-- of the faces before corner i, a batch holds every number 2k or 2k + 1 with k one of low .. end - 1;
-- where no such k is left, so many numbers had k = low that the range could not be cut down to fewer
pub record Gathered (ks : List ℕ) (low : ℕ) (b : Batch) (xs : List ℕ) (i : ℕ) : Type 0 where
  pub sound : Sound low b xs
  pub same : (c : ℕ) → 2 * low ≤ c → c < 2 * b.end → copies c xs b.count + tally c (drop i ks) ≡ tally c ks
  pub stuck : b.end ≤ low → 3 ≤ tally (2 * low) ks + tally (2 * low + 1) ks

-- at most half the words of a batch: all that are below a lesser end
pub record Halved (low : ℕ) (b : Batch) (xs : List ℕ) (h : Batch) (ys : List ℕ) : Type 0 where
  pub sound : Sound low h ys
  pub half : h.count ≤ b.count / 2
  pub less : h.end < b.end
  pub same : (c : ℕ) → c < 2 * h.end → copies c ys h.count ≡ copies c xs b.count
  pub stuck : h.end ≤ low → 3 ≤ copies (2 * low) xs b.count + copies (2 * low + 1) xs b.count

-- the first n words are whole pairs 2k, 2k + 1, each once
pub record Paired (xs : List ℕ) (n : ℕ) : Type 0 where
  pub both : (k : ℕ) → copies (2 * k) xs n ≡ copies (2 * k + 1) xs n
  pub single : (k : ℕ) → copies (2 * k) xs n ≤ 1

-- of an edge and its reverse, one of which has the number x, not both numbers are among the first n words once
abbrev pub Unpaired : List ℕ → ℕ → ℕ → Type 0
Unpaired xs n x = copies (2 * (x / 2)) xs n ≡ 1 → copies (2 * (x / 2) + 1) xs n ≡ 1 → ⊥

-- each edge whose k is below n occurs at most once, and its reverse as often
pub record Matched (ks : List ℕ) (n : ℕ) : Type 0 where
  pub both : (k : ℕ) → k < n → tally (2 * k) ks ≡ tally (2 * k + 1) ks
  pub single : (k : ℕ) → k < n → tally (2 * k) ks ≤ 1

-- some edge occurs, or its reverse does, and not once each
pub record Unmatched (ks : List ℕ) : Type 0 where
  pub k : ℕ
  pub some : 1 ≤ tally (2 * k) ks + tally (2 * k + 1) ks
  pub odd : tally (2 * k) ks ≡ 1 → tally (2 * k + 1) ks ≡ 1 → ⊥
