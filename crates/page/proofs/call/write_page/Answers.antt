-- `page::call::write_page` meets its contract. Assumes nothing.
use mathlib.Core.Path.{◌≡◌, refl, ◌∙◌}
use native.Mathlib.Omega.{arith}
use Prim.Native.Nat.{◌+◌, ◌<◌}
use Rattle.layout.specs.Layout.{width}
use Rattle.page.specs.Page.{held_rows}
use Rattle.page.specs.PageLaws.{each_printable, rows_mono}
use Rattle.page.proofs.Writes.{nothing, long, as_write, more_written, more_total, more_count, page_written}
use Rattle.page.proofs.call.write_page.Goals as goal

pub loop-i-init : goal.loop-i-init
unfolding held_rows
loop-i-init c = (refl, nothing, refl, omega arith, omega arith)

pub place_line-s-requires : goal.place_line-s-requires
place_line-s-requires c =
    let a = c.args in
    let l = c.loop-i in
    let h : l.i < 32 = omega arith in
    let k = more_count width a.places.floats.now a.places.words.now l.i in
    let m = rows_mono width a.places.floats.now a.places.words.now (l.i + 1) 32 (omega arith) in
    rw c.status_at.ensures record {
      place = (a.places.floats_held, h, a.places.pieces_fit l.i h);
      printable = each_printable width a.places.floats.now a.places.words.now 32 l.i h c.requires.printable;
      room = omega (arith, k, m, l.invariant.0, long l.invariant.1, c.requires.room);
      sums = (omega (arith, l.invariant.3), omega (arith, l.invariant.4));
    }

pub loop-i-preserved : goal.loop-i-preserved
loop-i-preserved c =
    let a = c.args in
    let l = c.loop-i in
    let r = c.place_line-s in
    let at = rw c.status_at.ensures at r.ensures.at_value.0 in
    let written = rw c.status_at.ensures at r.ensures.at_value.1 in
    let total = rw c.status_at.ensures at r.ensures.less_value.0 in
    let k = more_count width a.places.floats.now a.places.words.now l.i in (
      omega (arith, k, l.invariant.0, at),
      more_written width a.places.floats.now a.places.words.now l.i l.invariant.1 written,
      more_total width a.places.floats.now a.places.words.now l.i _ _ l.invariant.2 total,
      omega (arith, l.invariant.3, r.ensures.less_value.1),
      omega (arith, l.invariant.4, r.ensures.less_value.2),
    )

pub returns : goal.returns
returns c =
    let a = c.args in
    let l = c.loop-i in
    let e : l.i ≡ 32 = omega arith in
    let w = c.write_total in
    let v = rw e at l.invariant.1 in
    let t = c.total.ensures.0 ∙ rw e at l.invariant.2 in
    let n = rw e at l.invariant.0 in
    as_write _ _ _ _ (page_written (held_rows width a.places.floats.now a.places.words.now 32) _ t v w.ensures.1)
    (omega (arith, w.ensures.0, n, c.requires.room))
