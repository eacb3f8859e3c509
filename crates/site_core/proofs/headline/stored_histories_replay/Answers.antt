-- By the events of the history.
use Rattle.site_core.proofs.StoredHistoryLemmas.{replays_are_one, replays_are_legal, histories_can_be_stored, replays_go_on}
use Rattle.site_core.proofs.headline.stored_histories_replay.Goals as goal

pub returns-clause-one : goal.returns-clause-one
returns-clause-one c = replays_are_one

pub returns-clause-legal : goal.returns-clause-legal
returns-clause-legal c = replays_are_legal

pub returns-clause-stored : goal.returns-clause-stored
returns-clause-stored c = histories_can_be_stored

pub returns-clause-more : goal.returns-clause-more
returns-clause-more c = replays_go_on
