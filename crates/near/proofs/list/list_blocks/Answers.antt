-- `near::list::list_blocks` meets its contract: a turn puts a block on the list. Assumes nothing.
use Rattle.std.proofs.Common.{◌≡◌, ℕ, ◌+◌, ◌*◌, ◌≤◌, Bool, true, false, cond, refl, arith}
use Rattle.std.specs.Int.{from_bool}
use Rattle.near.specs.NearLaws.{within_part, listed-one}
use Rattle.near.proofs.list.list_blocks.Goals as goal

-- a number of a `bool`
one-or-none : (t : Bool) → from_bool t ≡ cond t 1 0
one-or-none true = refl
one-or-none false = refl

at-most-one : (t : Bool) → from_bool t ≤ 1
at-most-one true = omega arith
at-most-one false = omega arith

pub loop-k-preserved : goal.loop-k-preserved
loop-k-preserved g c =
    let l = c.loop-k in
    let a = c.any_within in
    let size : ℕ = g.row.SIZE in
    let next : c.args.from + size * (l.k + 1) ≡ c.args.from + size * l.k + size = omega arith in (
      omega (arith, l.invariant.0, c.from-n.ensures, at-most-one a.result),
      λ b k. rw (next, c.from-n.ensures, one-or-none a.result)
          (listed-one (l.invariant.1 b k) (omega arith) a.result
          (λ e. within_part (a.ensures e) (omega arith) (omega arith))),
    )
