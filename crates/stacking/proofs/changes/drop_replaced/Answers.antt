-- A `retain` whose closure only tests leaves what `filter` does.
use Rattle.std.proofs.Common.{not, rules}
use Rattle.std.proofs.lemmas.Fn.{filter_same}
use Rattle.profile.specs.declared.row.Row.{Row}
use Rattle.profile.specs.Changes.{is_replaced_by}
use Rattle.stacking.proofs.changes.drop_replaced.Goals as goal

pub returns-clause-rows : goal.returns-clause-rows
returns-clause-rows c = filter_same _ (λ (row : Row). not (is_replaced_by c.args.new.now row)) _ (λ x b f' k. search rules) _ _ c.retain.ensures.filtered
