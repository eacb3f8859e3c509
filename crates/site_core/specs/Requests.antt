-- The kept requests: finding one by its number, answering it, and handing it out.
use Rattle.std.specs.Prelude.{ℕ, ◌==◌, if◌then◌else◌, List, [], ◌∷◌, map, Option, Some, None, Err, unwrap_or}
use Rattle.ocpp_scalars.specs.declared.refusal.Refusal.TheVariants.{Stopped}
use Rattle.site_core.specs.State.{Kept, ScheduleAnswer}

-- the request of a number: the first, if there were several
abbrev pub request_of : ℕ → List Kept → Option Kept
request_of number [] = None
request_of number (kept ∷ others) =
    if kept.number == number then Some kept else request_of number others

abbrev pub with_answer : Kept → ScheduleAnswer → Kept
with_answer kept answer = record kept { answer = Some answer }

-- after the request of a number got this answer
abbrev pub answered : ℕ → ScheduleAnswer → List Kept → List Kept
answered number answer [] = []
answered number answer (kept ∷ others) =
    if kept.number == number then with_answer kept answer ∷ others
    else kept ∷ answered number answer others

-- after the request of a number was removed
abbrev pub without : ℕ → List Kept → List Kept
without number [] = []
without number (kept ∷ others) =
    if kept.number == number then others else kept ∷ without number others

-- a request without an answer is answered Stopped
abbrev pub stopped_request : Kept → Kept
stopped_request kept = with_answer kept (unwrap_or kept.answer (Err Stopped))

abbrev pub all_stopped : List Kept → List Kept
all_stopped requests = map stopped_request requests
