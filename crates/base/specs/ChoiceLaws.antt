-- What holds of both sides of a choice holds of the choice. Assumes nothing.
use Rattle.std.specs.Prelude.{Bool, true, false, cond}

pub cond_of : {S : Type 0} (P : S → Type 0) (t : Bool) {a b : S} → P a → P b → P (cond t a b)
cond_of P true x y = x
cond_of P false x y = y
