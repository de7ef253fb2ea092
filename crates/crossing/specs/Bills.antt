-- What crosses to C of a bill: the number, then steps and floats, 0 where it is refused. Definitions only.
use Rattle.std.specs.Prelude.{get_or}
use Rattle.base.specs.Answers.{Answer}
use Rattle.crossing.specs.declared.bills.CauchyBill.{CauchyBill}

abbrev pub bill_from : Answer → CauchyBill
bill_from a = record { no = a.refusal; steps = get_or a.counts 0 0; floats = get_or a.counts 1 0 }
