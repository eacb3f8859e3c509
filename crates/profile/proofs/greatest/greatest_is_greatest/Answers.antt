-- The law, by induction over the list.
use Rattle.std.proofs.Common.{ap}
use Rattle.profile.specs.Greatest.{greatest}
use Rattle.profile.proofs.GreatestLemmas.{greatest-none, greatest-is, is-greatest}
use Rattle.profile.proofs.greatest.greatest_is_greatest.Goals as goal

pub returns-clause-element : goal.returns-clause-element
returns-clause-element g c = λ key xs x. (greatest-is key xs x, is-greatest key xs x)

pub returns-clause-none : goal.returns-clause-none
returns-clause-none g c = λ key xs. (greatest-none key xs, λ empty. ap (greatest key) empty)
