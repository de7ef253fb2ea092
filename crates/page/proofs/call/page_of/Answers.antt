-- `page::call::page_of` meets its contract. Assumes nothing.
use mathlib.Core.Path.{◌≡◌, sym, ◌∙◌}
use native.Mathlib.Omega.{arith}
use mathlib.Core.Bool.{true}
use Prim.Native.Nat.{◌+◌, ◌*◌}
use Rattle.layout.specs.Layout.{width}
use Rattle.page.specs.Page.{held_rows, all_printable}
use Rattle.page.specs.PageLaws.{rows_count, rows_fair, unprintable_is}
use Rattle.page.proofs.Pages.{short_is, written_is}
use Rattle.page.proofs.call.page_of.Goals as goal

pub returns-then-not-all_printable : goal.returns-then-not-all_printable
returns-then-not-all_printable c = unprintable_is _ _ (sym c.all_printable.ensures ∙ c.if-not-all_printable.true)

pub returns-then-need-out : goal.returns-then-need-out
returns-then-need-out c =
    let a = c.args in
    let rs = held_rows width a.places.floats.now a.places.words.now 32 in
    let e : all_printable rs ≡ true
    = sym c.all_printable.ensures ∙ c.if-not-all_printable.false in
    let k = rows_count width a.places.floats.now a.places.words.now 32 in
    let n = c.filled in
    short_is rs _ e (rows_fair width a.places.floats.now a.places.words.now a.places.pieces_fit 32 (omega arith) e)
    (omega (arith, k, n.ensures.0, n.ensures.1)) (65 * n.result + 65) (omega (arith, k, n.ensures.0))
    c.if-need-out.true

pub write_page-requires : goal.write_page-requires
write_page-requires c =
    let a = c.args in
    let k = rows_count width a.places.floats.now a.places.words.now 32 in record {
      printable = sym c.all_printable.ensures ∙ c.if-not-all_printable.false;
      room = omega (arith, k, c.filled.ensures.0, c.if-need-out.false);
    }

pub returns : goal.returns
returns c =
    let a = c.args in
    let rs = held_rows width a.places.floats.now a.places.words.now 32 in
    let e : all_printable rs ≡ true
    = sym c.all_printable.ensures ∙ c.if-not-all_printable.false in
    let k = rows_count width a.places.floats.now a.places.words.now 32 in
    let n = c.filled in
    written_is rs _ e (rows_fair width a.places.floats.now a.places.words.now a.places.pieces_fit 32 (omega arith) e)
    (omega (arith, k, n.ensures.0, n.ensures.1)) (65 * n.result + 65) (omega (arith, k, n.ensures.0)) _
    c.if-need-out.false c.write_page.ensures
