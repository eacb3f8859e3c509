-- The deliveries so far are rejected if they came with the call, and the others as they were.
use Rattle.std.proofs.Common.{◌≡◌, ◌++◌, map, take, drop}
use Rattle.site_core.specs.Delivery.{rejected_by}
use Rattle.site_core.proofs.deliveries.reject_all.Given as goal

abbrev pub invariant-loop-delivery : goal.invariant-loop-delivery
invariant-loop-delivery l =
    l.delivery-items ≡ map (rejected_by l.fn.call) (take l.delivery-index l.fn.deliveries.items) ++ drop l.delivery-index l.fn.deliveries.items
