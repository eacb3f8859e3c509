-- The requests so far are stopped, and the others as they were.
use Rattle.std.proofs.Common.{◌≡◌, ◌++◌, map, take, drop}
use Rattle.site_core.specs.Requests.{stopped_request}
use Rattle.site_core.proofs.requests.stop_all.Given as goal

abbrev pub invariant-loop-request : goal.invariant-loop-request
invariant-loop-request l =
    l.request-items ≡ map stopped_request (take l.request-index l.fn.requests.items) ++ drop l.request-index l.fn.requests.items
