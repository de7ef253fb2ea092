-- How many digits, by comparison with the powers of ten. Assumes nothing.
use native.Mathlib.Omega.{arith}
use Rattle.text.specs.LengthLaws.{one-digit, some-digits}
use Rattle.text.proofs.write.short_length.Goals as goal

pub returns-then-n-lt10 : goal.returns-then-n-lt10
returns-then-n-lt10 c = (one-digit _ (omega arith), omega arith)

pub returns-then-n-lt100 : goal.returns-then-n-lt100
returns-then-n-lt100 c = (some-digits 1 _ (omega arith) (omega arith) (omega arith), omega arith)

pub returns-then-n-lt1000 : goal.returns-then-n-lt1000
returns-then-n-lt1000 c = (some-digits 2 _ (omega arith) (omega arith) (omega arith), omega arith)

pub returns-then-n-lt10000 : goal.returns-then-n-lt10000
returns-then-n-lt10000 c = (some-digits 3 _ (omega arith) (omega arith) (omega arith), omega arith)

pub returns-then-n-lt100000 : goal.returns-then-n-lt100000
returns-then-n-lt100000 c = (some-digits 4 _ (omega arith) (omega arith) (omega arith), omega arith)

pub returns-then-n-lt1000000 : goal.returns-then-n-lt1000000
returns-then-n-lt1000000 c = (some-digits 5 _ (omega arith) (omega arith) (omega arith), omega arith)

pub returns-then-n-lt10000000 : goal.returns-then-n-lt10000000
returns-then-n-lt10000000 c = (some-digits 6 _ (omega arith) (omega arith) (omega arith), omega arith)

pub returns-then-n-lt100000000 : goal.returns-then-n-lt100000000
returns-then-n-lt100000000 c = (some-digits 7 _ (omega arith) (omega arith) (omega arith), omega arith)

pub returns-then-n-lt1000000000 : goal.returns-then-n-lt1000000000
returns-then-n-lt1000000000 c = (some-digits 8 _ (omega arith) (omega arith) (omega arith), omega arith)

pub returns-else-n-lt1000000000 : goal.returns-else-n-lt1000000000
returns-else-n-lt1000000000 c = (some-digits 9 _ (omega arith) (omega arith) (omega arith), omega arith)
