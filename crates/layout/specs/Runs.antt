-- Lists as lent runs. Definitions only.
use Rattle.std.specs.Prelude.{List, ◌++◌, ℕ, length, take, drop}

-- xs with vs standing from index `at`
unfoldable pub write {ℓ} : {A : Type ℓ} → List A → ℕ → List A → List A
write xs at vs = take at xs ++ (vs ++ drop (length vs) (drop at xs))
