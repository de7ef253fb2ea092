-- What 02 and its readings say of the numbers in a store's lines, row by row. Assumes nothing.
use Rattle.std.specs.Prelude.{◌≡◌, refl, []}
use Rattle.std.specs.Float.{nan}
use Rattle.std.specs.Float.Ieee.{of_bits, to_bits}
use Rattle.text.specs.Text.{lost, left, bytes, float, decimal, pattern_from}
use Rattle.text.specs.Print.{digits, pattern_text, float_text}
use Rattle.text.specs.Form.{read, ◌&◌}
use Rattle.script.specs.Lines.{face_line}

-- "a NaN is printed as 7FF8000000000000 and read from any of its patterns"
pub nan-written : float_text nan ≡ bytes "7FF8000000000000"
unfolding to_bits pattern_text digits
nan-written = refl

pub nan-read : float (left (bytes "FFF0000000000001")) ≡ record { val = nan; text = left [] }
unfolding float pattern_from of_bits
nan-read = refl

-- "decimal, without leading zeros, up to .. 32": the greatest, the one after it, and a leading zero
pub greatest : read face_line (left (bytes "(face 0 4294967295 10)\n"))
    ≡ record { val = 0 & 4294967295 & 10 & tt; text = left [] }
unfolding decimal
greatest = refl

pub too_great : (read face_line (left (bytes "(face 0 4294967296 10)\n"))).text ≡ lost
unfolding decimal
too_great = refl

pub leading_zero : (read face_line (left (bytes "(face 0 01 10)\n"))).text ≡ lost
unfolding decimal
leading_zero = refl
