-- The invariant at the opening.
use Rattle.std.proofs.Common.{◌≡◌, arith, subst}
use Rattle.site_core.specs.State.{opening}
use Rattle.version_store.specs.Store.{StoreState, IsStore, HasRoom, opening_store}
use Rattle.version_store.proofs.HistoryLemmas.{store_opens}
use Rattle.version_store.proofs.history.History.new.Goals as goal

abbrev new : (c : goal.After-none-2) → StoreState
new c = record {
  base = c.in_ok-base.base;
  based = c.none.result;
  events = c.into_events.result.items;
  present = c.in_ok-present.present;
  made = c.none-2.result;
}

pub invariant_of-result : goal.invariant_of-result
invariant_of-result c =
    let present : c.in_ok-present.present ≡ opening c.args.site = c.in_ok-present.ensures in
    let base : c.in_ok-base.base ≡ c.in_ok-present.present = c.in_ok-base.ensures in
    let events = c.into_events.ensures.events in
    let opened : opening_store c.args.site ≡ new c =
    cc (present, base, events, c.none.ensures, c.none-2.ensures) in (
      subst IsStore opened (store_opens c.machine_laws.ensures c.args.site),
      subst HasRoom opened (omega arith),
      c.into_events.ensures.room,
    )
