-- `reports::listing::list_pieces` meets its contract. Assumes nothing.
use mathlib.Core.Path.{sym, ◌∙◌}
use Rattle.layout.specs.Layout.{width}
use Rattle.readings.specs.Readings.{applied, held_all_lem}
use Rattle.readings.specs.Lists.{all_length}
use Rattle.readings.specs.ReadLaws.{listing_in, listing_out}
use Rattle.reports.proofs.listing.list_pieces.Goals as goal

pub returns : goal.returns
returns c =
    let a = c.args in
    let h = held_all_lem width a.seen.floats.now a.seen.words.now 32 in
    rw (← c.scale.ensures)
    (listing_in c.scale.result h a.out.now c.pieces-count.result
    (c.pieces-count.ensures.0 ∙ sym (all_length width a.seen.floats.now a.seen.words.now 32))
    c.write_list.new.out c.if-count-out.false c.write_list.ensures)

pub returns-then-count-out : goal.returns-then-count-out
returns-then-count-out c =
    let a = c.args in
    let h = held_all_lem width a.seen.floats.now a.seen.words.now 32 in
    listing_out (applied a.v h) h a.out.now c.pieces-count.result
    (c.pieces-count.ensures.0 ∙ sym (all_length width a.seen.floats.now a.seen.words.now 32)) c.if-count-out.true
