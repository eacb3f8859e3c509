-- `retain` with a closure that only tests is a filter.
use Rattle.std.proofs.Common.{not, rules}
use Rattle.std.proofs.lemmas.Fn.{filter_same}
use Rattle.site_core.specs.declared.waiting_starts.WaitingStart.{WaitingStart}
use Rattle.site_core.specs.WaitingStart.{is_of_call}
use Rattle.site_core.proofs.waiting_starts.WaitingStarts.reject.Goals as goal

pub returns : goal.returns
returns c =
    let kept = filter_same _ (λ (start : WaitingStart). not (is_of_call c.args.call start)) _
    (λ x b f' k. search rules) _ _ c.retain.ensures.filtered in
    rw (← c.self.view_is) kept
