-- What filling a table writes. Definitions only.
use Rattle.std.specs.Prelude.{ℕ, ◌<◌, ◌≡◌, List}
use Rattle.base.specs.Loops.{table}

-- `after` is `before` with `value` in its first n places: it is the table, laid over `before`, of each function that is
-- what `value` gives there
unfoldable pub Tabled : {A : Type 0} → (ℕ → A → Type 0) → ℕ → List A → List A → Type 0
Tabled {A} value n before after =
    (f : ℕ → A) → ((i : ℕ) (x : A) → i < n → value i x → x ≡ f i) → after ≡ table f n before
