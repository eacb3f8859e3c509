-- A row above a level exists exactly if the row that prevails is above it.
use Rattle.std.proofs.Common.{rules, ◌≡◌, ◌∙◌, true}
use Rattle.meaning.specs.View.{point_state, active_since}
use Rattle.meaning.specs.Prevailing.{has_its_transaction}
use Rattle.meaning.proofs.Higher.{higher_counts}
use Rattle.meaning.proofs.view.View.has_higher.Goals as goal

pub returns-then-has_its_transaction : goal.returns-then-has_its_transaction
returns-then-has_its_transaction c =
    let has : has_its_transaction c.args.purpose (active_since (point_state c.args.self.now) c.args.connector) ≡ true = search rules in
    c.any_higher.ensures
    ∙ higher_counts c.args.purpose (point_state c.args.self.now) c.args.connector c.args.asked c.args.instant c.args.level has
