-- Which places a reading sees, as one test of each place. Definitions only.
use Rattle.std.specs.Prelude.{Bool, true, ◌&&◌, cond, List, ℕ}
use Rattle.layout.specs.Layout.{place_limit, layer_of}
use Rattle.layout.specs.Layers.{in_set, hiding}
use Rattle.readings.specs.Finished.{complete_at}

-- place i: its layer is in the set, and where only complete places are wanted, it is complete
abbrev pub shown : ℕ → ℕ → Bool → List ℕ → ℕ → Bool
shown q layers only ws i = cond only (complete_at q ws i) true && in_set layers (layer_of q ws i)

-- the words with each other place empty
unfoldable pub showing : ℕ → ℕ → Bool → List ℕ → List ℕ
showing q layers only ws = hiding q (λ i. shown q layers only ws i) ws place_limit
