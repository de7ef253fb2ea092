-- `closed::gather::take_faces` meets its contract: what lies between two listed faces is not near the range. Assumes
-- nothing.
use mathlib.Core.Path.{sym, ◌∙◌}
use native.Mathlib.Omega.{arith}
use Rattle.near.specs.NearLaws.{spanned_missed, behind-none, behind-one, listed-less}
use Rattle.closed.specs.HeldLaws.{face_put, gathered_at, skipped, gathered_next, gathered_past}
use Rattle.closed.proofs.gather.take_faces.Goals as goal

pub bounds-faces-from : goal.bounds-faces-from
bounds-faces-from c =
    let p = c.requires in
    let f = c.args.faces.now in
    omega (arith, f.spanned.long, p.fact_1.1, f.corners.few)

pub returns-then-misses : goal.returns-then-misses
returns-then-misses c =
    let p = c.requires in
    let a = c.args in (
      omega arith,
      skipped c.args.faces.now.corners.below (omega arith) p.fact_1.1
          (spanned_missed a.from a.count a.faces.now.spanned p.fact_1.2 p.fact_1.0 p.fact_1.1
          (λ x. c.misses.ensures c.if-misses.true x)) p.fact_2,
    )

pub list_near-near-requires : goal.list_near-near-requires
list_near-near-requires c =
    let p = c.requires.fact_1 in
    (p.0, omega (arith, p.0), p.1, c.args.faces.now.corners.few)

pub make_room-room-requires : goal.make_room-room-requires
make_room-room-requires c =
    let p = c.requires in
    record { fact_1 = omega (arith, c.list_near-near.ensures.0, p.fact_1.0); fact_2 = p.fact_2.sound }

pub loop-k-init : goal.loop-k-init
loop-k-init c =
    let m = c.make_room-room.ensures in
    let l = c.list_near-near.ensures.1 in
    let p = c.requires in
    let g = m.2 _ _ p.fact_2 in
    (omega (arith, m.0), listed-less l (omega (arith, m.1)), rw (behind-none 1 _ _) g)

pub put_at-n-requires : goal.put_at-n-requires
put_at-n-requires c =
    let l = c.loop-k in
    let s = c.loop-k.invariant.2.sound in
    let e = l.invariant.1.short l.k (omega arith) in
    let p = c.requires.fact_1 in
    (omega (arith, e, p.2), c.args.faces.now.corners.few, omega (arith, s.long), s.first, s.last)

pub loop-k-preserved : goal.loop-k-preserved
loop-k-preserved c =
    let l = c.loop-k in
    let p = c.requires in
    let f = c.put_at-n.ensures in
    let e = l.invariant.1.short l.k (omega arith) in
    let g = gathered_next l.k c.args.faces.now.corners.below p.fact_1.1 l.invariant.1 l.invariant.2 (omega arith) in (
      omega (arith, f.more),
      l.invariant.1,
      rw (behind-one 1 _ _ _) (gathered_at (face_put g (omega (arith, e, p.fact_1.1)) (omega arith) f) (omega arith)),
    )

pub returns : goal.returns
returns c =
    let l = c.loop-k in
    let p = c.requires in (
      c.make_room-room.ensures.1,
      gathered_past l.k c.args.faces.now.corners.below p.fact_1.1 l.invariant.1 l.invariant.2 (omega arith),
    )

pub shape_of-words : goal.shape_of-words
shape_of-words c =
    c.loop-k.invariant.2.sound.long ∙ sym c.requires.fact_2.sound.long
