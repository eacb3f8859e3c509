-- The nearest place is the first, unless it is past the last instant.
use Rattle.std.proofs.Common.{rules, ◌<◌, ◌≤◌}
use Rattle.ocpp_scalars.specs.Limits.{last_second}
use Rattle.recurrence.proofs.PlaceLemmas.{places_first, places_past, places_none}
use Rattle.recurrence.proofs.place.first_place.Goals as goal

pub returns-in_err-next : goal.returns-in_err-next
returns-in_err-next c =
    let up : c.args.last ≤ last_second = search rules in
    rw c.from_residual.ensures (places_none c.args.profile.now c.args.base c.args.instant c.args.last c.in_err-next.ensures.place up)

pub returns-then-le : goal.returns-then-le
returns-then-le c =
    let up : c.in_ok-next.next ≤ c.args.last = search rules in
    places_first _ _ _ _ _ c.in_ok-next.ensures.place up

pub returns-else-le : goal.returns-else-le
returns-else-le c =
    let past : c.args.last < c.in_ok-next.next = search rules in
    places_past _ _ _ _ _ c.in_ok-next.ensures.place past
