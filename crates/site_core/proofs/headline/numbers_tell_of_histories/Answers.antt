-- By the steps of the history.
use Rattle.site_core.proofs.CountLemmas.{numbers_tell}
use Rattle.site_core.proofs.headline.numbers_tell_of_histories.Goals as goal

pub returns : goal.returns
returns c = numbers_tell
