-- 02, L5: "Each reading takes a set of layers and sees only places in it". Definitions only.
use Rattle.base.specs.Answers.{Checked, passed}
use Rattle.std.specs.Prelude.{Bool, cond, List, ℕ, zero, suc, ◌/◌, ◌%◌, ◌^◌, ltb, eqb, replicate, Err}
use Rattle.base.specs.declared.refusal.Refusal.TheVariants.{NoLayer}
use Rattle.layout.specs.Layout.{place_limit, state_from, layer_of}
use Rattle.layout.specs.Runs.{write}

-- a set of layers is a number of 32 bits, bit l for layer l
abbrev pub in_set : ℕ → ℕ → Bool
in_set layers l = eqb (layers / 2 ^ l % 2) 1

-- the set of all sixteen
abbrev pub all_layers : ℕ
all_layers = 65535

-- "16 when a layer is above 15": a bit from 16 on names such a layer
unfoldable pub layers_check : ℕ → Checked
layers_check layers = cond (ltb layers 65536) passed (Err NoLayer)

-- the words with the places below k that do not pass the test as clear leaves a place: empty
unfoldable pub hiding : ℕ → (ℕ → Bool) → List ℕ → ℕ → List ℕ
hiding q test ws zero = ws
hiding q test ws (suc k) =
    cond (test k) (hiding q test ws k) (write (hiding q test ws k) (state_from q k) (replicate q 0))

-- the words as a reading of these layers sees them: its other places are empty
unfoldable pub in_layers : ℕ → ℕ → List ℕ → List ℕ
in_layers q layers ws = hiding q (λ i. in_set layers (layer_of q ws i)) ws place_limit
