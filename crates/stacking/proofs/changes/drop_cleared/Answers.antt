-- A `retain` whose closure only tests leaves what `filter` does.
use Rattle.std.proofs.Common.{not, rules}
use Rattle.std.proofs.lemmas.Fn.{filter_same}
use Rattle.profile.specs.declared.row.Row.{Row}
use Rattle.profile.specs.Changes.{matches}
use Rattle.stacking.proofs.changes.drop_cleared.Goals as goal

pub returns-clause-rows : goal.returns-clause-rows
returns-clause-rows c = filter_same _ (λ (row : Row). not (matches c.args.criteria.now row)) _ (λ x b f' k. search rules) _ _ c.retain.ensures.filtered
