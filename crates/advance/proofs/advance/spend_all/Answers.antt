-- `advance::advance::spend_all` meets its contract. Assumes nothing.
use Rattle.advance.proofs.Fronts.{whole}
use Rattle.advance.proofs.advance.spend_all.Goals as goal

pub returns : goal.returns
returns c =
    let f = c.split_at_mut-places.ensures in
    let w = c.split_at_mut-states.ensures in
    whole c.args.floats.now c.args.words.now c.requires _ _ f.back w.back _ _ _ _ _ _ _ _ f.value f.front_len w.value
    w.front_len c.word-coords.ensures c.word-corners.ensures c.run_places.ensures
