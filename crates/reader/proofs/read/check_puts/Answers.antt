-- At each turn what is left of the lines says what all of them say. Assumes nothing.
use Rattle.std.proofs.Common.{◌≡◌, ◌-◌, length, inl, inr, arith}
use Rattle.text.specs.Text.{rest}
use Rattle.reader.proofs.PutTurns.{put_turn_lem, so_far_first, so_far_next, puts_found}
use Rattle.reader.proofs.read.check_puts.Goals as goal

pub loop-count-init : goal.loop-count-init
loop-count-init c = so_far_first c.args.s.now c.args.at

pub loop-count-preserved : goal.loop-count-preserved
loop-count-preserved c =
    let s = c.args.s.now in
    let l = c.loop-count in
    let p = c.read_put-entry in
    let e = p.ensures in
    so_far_next c.loop-count-test.true l.invariant
    (put_turn_lem s l.k (length s - l.count) (rest s p.result.at) l.placed l.layered p.result.value.put.place
    p.result.value.layer c.if-k-s.false (omega arith) (λ i. (e i).text) (λ i. (e i).val.put.place)
    (λ i. (e i).val.layer))

pub returns-then-k-s : goal.returns-then-k-s
returns-then-k-s c = puts_found c.loop-count.invariant (inl c.if-k-s.true) c.if_ended.result c.if_ended.ensures

pub returns : goal.returns
returns c =
    let n : c.loop-count.count ≡ length c.args.s.now = omega arith in
    puts_found (rw n at c.loop-count.invariant) (inr (omega arith)) c.if_ended-2.result c.if_ended-2.ensures
