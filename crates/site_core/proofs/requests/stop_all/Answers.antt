-- One more request is stopped.
use Rattle.std.proofs.Common.{◌<◌, length, arith}
use Rattle.std.proofs.lemmas.List.Edits.{map_over_more}
use Rattle.site_core.specs.Requests.{stopped_request}
use Rattle.site_core.proofs.requests.stop_all.Goals as goal

pub loop-request-preserved : goal.loop-request-preserved
loop-request-preserved c =
    let within : c.loop-request.request-index < length c.args.requests.now.items = omega (arith, c.deref_mut-request-items.ensures.len) in
    rw (c.stop.ensures, ← c.request-item.is) (map_over_more stopped_request c.args.requests.now.items c.loop-request.request-items c.loop-request.request-index c.request-item.result within c.loop-request.invariant c.request-item.is)
