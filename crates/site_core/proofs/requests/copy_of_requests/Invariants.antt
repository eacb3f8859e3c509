-- The copies so far are those of the requests so far.
use Rattle.std.proofs.Common.{◌≡◌, take}
use Rattle.site_core.proofs.requests.copy_of_requests.Given as goal

abbrev pub invariant-loop-request : goal.invariant-loop-request
invariant-loop-request l = l.copies.items ≡ take l.request-index l.requests
