-- One more delivery is compared.
use Rattle.std.proofs.Common.{◌<◌, length, sym, arith}
use Rattle.std.proofs.lemmas.List.Edits.{map_over_more}
use Rattle.std.proofs.lemmas.Option.{get_or_from_slice_get, slice_get-get_or}
use Rattle.site_core.specs.Delivery.{rejected_by}
use Rattle.site_core.proofs.deliveries.reject_all.Goals as goal

pub loop-delivery-preserved : goal.loop-delivery-preserved
loop-delivery-preserved c =
    let within : c.loop-delivery.delivery-index < length c.args.deliveries.now.items = omega (arith, c.deref_mut-delivery-items.ensures.len) in
    let inside : c.loop-delivery.delivery-index < length c.loop-delivery.delivery-items = omega (arith, c.loop-delivery.auto.delivery-items) in
    let items = c.loop-delivery.delivery-items in
    let index = c.loop-delivery.delivery-index in
    rw c.reject_by.ensures (map_over_more (rejected_by c.args.call) _ items index _ within c.loop-delivery.invariant
    (sym (get_or_from_slice_get items index _ _ (slice_get-get_or items index _ inside))))
