-- `retain` with a closure that only tests is a filter.
use Rattle.std.proofs.Common.{rules}
use Rattle.std.proofs.lemmas.Fn.{filter_same}
use Rattle.site_core.specs.Delivery.{remains_beside}
use Rattle.site_core.proofs.deliveries.keep_beside.Goals as goal

pub returns : goal.returns
returns c =
    filter_same _ (remains_beside c.args.rows.now c.args.new) _
    (λ x b f' k. search rules) _ _ c.retain.ensures.filtered
