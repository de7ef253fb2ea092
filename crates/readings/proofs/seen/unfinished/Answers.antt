-- `readings::seen::unfinished`: the words that are seen are those of a sound store. Assumes nothing.
use Rattle.readings.specs.SeenLaws.{seen_ready}
use Rattle.readings.proofs.seen.unfinished.Goals as goal

pub left-requires : goal.left-requires
left-requires c = seen_ready _ _ _ _ c.seen_places-seen.ensures.seen c.requires
