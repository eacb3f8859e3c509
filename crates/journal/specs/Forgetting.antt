-- Requests for schedules change nothing else: a history leads to the same state without them.
use Rattle.std.specs.Prelude.{not, List, filter}
use Rattle.site_core.specs.State.{MachineState}
use Rattle.site_core.specs.History.{Event, Legal}
use Rattle.version_store.specs.Recording.{forget, is_of_request}

abbrev pub without_requests : List Event → List Event
without_requests events = filter (λ (event : Event). not (is_of_request event.step)) events

abbrev pub ForgettingKeepsChanges : Type 0
ForgettingKeepsChanges =
    (old new : MachineState) (events : List Event) → Legal old events new
    → Legal (forget old) (without_requests events) (forget new)
