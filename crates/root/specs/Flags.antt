-- Flags that are or-ed into one word: each is at most that word, so where it is 0 each is. Assumes nothing.
use Rattle.std.specs.Prelude.{◌≡◌, ℕ, ◌+◌, ◌≤◌, bit_and, bit_or}
use Rattle.std.proofs.Common.{arith}
use Rattle.std.specs.Int.Bits.{or_add_and}
use Rattle.std.proofs.lemmas.Nat.{and_le_l, and_le_r}

pub or_most : (a b : ℕ) → (a ≤ bit_or a b) × (b ≤ bit_or a b)
or_most a b = split (or_add_and a b) (and_le_l a b) (and_le_r a b)
  where
    split : bit_or a b + bit_and a b ≡ a + b → bit_and a b ≤ a → bit_and a b ≤ b → (a ≤ bit_or a b) × (b ≤ bit_or a b)
    split s l m = (omega arith, omega arith)

pub or-zero : (a b : ℕ) → bit_or a b ≡ 0 → (a ≡ 0) × (b ≡ 0)
or-zero a b h = split (or_most a b) h
  where
    split : (a ≤ bit_or a b) × (b ≤ bit_or a b) → bit_or a b ≡ 0 → (a ≡ 0) × (b ≡ 0)
    split m z = (omega (arith, m.0), omega (arith, m.1))
