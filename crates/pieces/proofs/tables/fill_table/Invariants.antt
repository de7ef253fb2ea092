use Rattle.std.proofs.Common.{◌≡◌, ℕ, ◌<◌}
use Rattle.base.specs.Loops.{table_at, table}
use Rattle.base.specs.LoopLaws.{Left}
use Rattle.pieces.proofs.tables.fill_table.Given as goal

abbrev pub invariant-loop-i : goal.invariant-loop-i
invariant-loop-i g l = (f : ℕ → _) → ((i : ℕ) (x : _) → i < l.count → goal.F-post g l.value i x → x ≡ f i)
    → Left (table_at f) l.count l.i l.table (table f l.count l.initial.table)
