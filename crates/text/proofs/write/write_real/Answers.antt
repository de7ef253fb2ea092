-- The bytes, and then the token. Assumes nothing.
use native.Mathlib.Omega.{arith}
use Rattle.text.specs.WriteLaws.{then}
use Rattle.text.proofs.write.write_real.Goals as goal

pub returns : goal.returns
returns c =
    let b = c.write_bytes-a.ensures in
    let e = c.write_float.ensures in record { value = omega (arith, b.next, e.value); wrote = then b e.wrote }
