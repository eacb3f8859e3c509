-- The request of the number is the one at the first place that has it.
use Rattle.std.proofs.Common.{Some, option_map, ap, sym}
use Rattle.site_core.specs.State.{Kept}
use Rattle.site_core.proofs.RequestLemmas.{none_of, first_of}
use Rattle.site_core.proofs.requests.request_asked.Goals as goal

pub returns-in_default : goal.returns-in_default
returns-in_default c =
    sym (ap (option_map (λ (kept : Kept). (kept.place, kept.ask))) (none_of c.args.number c.args.requests.now c.in_default.ensures))

pub returns : goal.returns
returns c =
    let first = first_of c.args.number c.args.requests.now c.in-Some.place
    c.index-requests-place.result c.in-Some.ensures c.index-requests-place.is in
    rw first.is_kept (ap (λ (kept : Kept). Some (kept.place, kept.ask)) c.request.view_is)
