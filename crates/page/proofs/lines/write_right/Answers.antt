-- `page::lines::write_right`: the spaces, the sign and the digits, one after the other. Assumes nothing.
use native.Mathlib.Omega.{arith}
use Rattle.page.proofs.Writes.{right_written}
use Rattle.page.proofs.lines.write_right.Goals as goal

pub returns : goal.returns
returns c =
    let a = c.args in
    let d = c.decimal_length-k in (
      omega (arith, c.write_spaces-a.ensures.0, c.write_bytes-b.ensures.next, c.write_digits.ensures.value),
      right_written a.wide a.sign.now a.n d.result d.ensures.0 c.write_spaces-a.ensures.1 c.write_bytes-b.ensures
          c.write_digits.ensures.wrote,
    )
