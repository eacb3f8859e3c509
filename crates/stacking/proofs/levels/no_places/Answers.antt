-- The value at each level of a list of equal numbers.
use Rattle.std.proofs.lemmas.List.{get_or-replicate}
use Rattle.stacking.proofs.levels.no_places.Goals as goal

pub returns : goal.returns
returns c level inside = get_or-replicate 100 level 255 0 inside
