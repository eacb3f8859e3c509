-- `retain` with a closure that only tests is a filter.
use Rattle.std.proofs.Common.{not, rules}
use Rattle.std.proofs.lemmas.Fn.{filter_same}
use Rattle.site_core.specs.declared.waiting_starts.WaitingStart.{WaitingStart}
use Rattle.site_core.specs.WaitingStart.{is_at_connector}
use Rattle.site_core.proofs.waiting_starts.drop_at.Goals as goal

pub returns-clause-starts : goal.returns-clause-starts
returns-clause-starts c =
    filter_same _ (λ (start : WaitingStart). not (is_at_connector c.args.connector start)) _
    (λ x b f' k. search rules) _ _ c.retain.ensures.filtered
