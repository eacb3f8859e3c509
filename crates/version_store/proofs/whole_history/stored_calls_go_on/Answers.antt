-- By the machine's laws from any state on: first from the opening to the base, then from the base
-- on.
use Rattle.std.proofs.Common.{◌≡◌, ◌+◌, subst, arith}
use Rattle.site_core.specs.State.{opening, no_numbers}
use Rattle.site_core.specs.CallOrder.{AreKeptFrom}
use Rattle.version_store.specs.WholeHistory.{confirmed_before}
use Rattle.version_store.proofs.HistoryLemmas.{opening_is_machine}
use Rattle.version_store.proofs.whole_history.stored_calls_go_on.Goals as goal

pub returns : goal.returns
returns c = λ store is place.
    let laws = c.histories_go_on_from_any_state.ensures in
    let many = confirmed_before store is place in
    let none : 0 + many ≡ many = omega arith in
    let kept : AreKeptFrom store.base place many = subst (AreKeptFrom store.base place) none
    (laws.consecutive (opening is.site) is.earlier store.base (opening_is_machine is.site)
    is.reached place 0 (laws.opening is.site no_numbers place)) in
    (kept, laws.order store.base is.played store.present is.base_machine is.legal place many kept)
