-- The state of a simulated charge point, the effect of a message of the central system, and the
-- next call.
use Rattle.std.specs.Prelude.{ℕ, ℤ, ◌+◌, true, false, List, [], ◌∷◌, Option, Some, None, if◌then◌else◌}
use Rattle.std.specs.Str.{bytes_eq}
use Rattle.std.specs.Fmt.{decimal}
use Rattle.profile.specs.declared.unit.Unit.{Unit}
use Rattle.point_book.specs.Book.{BookState, empty_book}
use Rattle.messages.specs.declared.action.Action.{Action}
use Rattle.messages.specs.declared.action.Action.TheVariants as actions
use Rattle.messages.specs.ResponseText.{response_text}
use Rattle.sim_point_core.specs.declared.sim_step.SimStep.{SimStep}
use Rattle.sim_point_core.specs.declared.point_call.PointCall.{PointCall}
use Rattle.sim_point_core.specs.declared.point_call.InFlight.{InFlight}
use Rattle.sim_point_core.specs.declared.request.Request.{Request}
use Rattle.sim_point_core.specs.declared.request.Request.TheVariants.{Nothing, Respond, Act, Reply}
use Rattle.sim_point_core.specs.Request.{request_of}
use Rattle.sim_point_core.specs.Answer.{Answered, answered}
use Rattle.sim_point_core.specs.PointCall.{first_call, book_replied}
use Rattle.sim_point_core.specs.RemoteStart.{start_kept, status_answer}
use Rattle.sim_point_core.specs.CallText.{call_text}

pub record SimState : Type 0 where
  -- the unit of its limits
  pub unit : Unit
  -- its ceilings, profiles and active transactions, each with the meter of its start
  pub book : BookState
  -- the remaining steps
  pub steps : List SimStep
  -- its own call that isn't answered yet, if there is one, with its number
  pub in_flight : Option InFlight
  -- the number of its next call
  pub next_number : ℕ

-- a point without profiles, transactions and calls
abbrev pub new_point : Unit → ℕ → List ℕ → List SimStep → SimState
new_point unit ceiling ceilings steps = record {
  unit = unit;
  book = empty_book ceiling ceilings;
  steps = steps;
  in_flight = None;
  next_number = 0;
}

-- ---- a message of the central system

-- the answer, if there is one, and the state after it
pub record Heard : Type 0 where
  pub answer : Option (List ℕ)
  pub after : SimState

-- an action's answer, with the book after it
abbrev pub acted : SimState → List ℕ → Answered → Heard
acted old id does =
    record {
      answer = Some (response_text id does.response);
      after = record old { book = does.book };
    }

-- An accepted start becomes the next step.
abbrev pub heard_start : SimState → List ℕ → Option SimStep → Heard
heard_start old id None = record { answer = Some (status_answer id false); after = old }
heard_start old id (Some start) = record {
  answer = Some (status_answer id true);
  after = record old { steps = start ∷ old.steps };
}

abbrev pub heard_action : SimState → ℕ → List ℕ → Action → Heard
heard_action old now id (actions.RemoteStartTransaction request) =
    heard_start old id (start_kept old.unit old.book request)
heard_action old now id action = acted old id (answered old.unit old.book now action)

-- A reply ends the call in flight if its id is that call's number in decimal (OCPP-J 1.6, 4.1.4).
-- Any other reply is ignored.
abbrev pub replied_to : SimState → Option InFlight → List ℕ → Option ℤ → SimState
replied_to old None id transaction = old
replied_to old (Some call) id transaction =
    if bytes_eq id (decimal call.number)
    then record old { book = book_replied old.book call.call transaction; in_flight = None }
    else old

abbrev pub replied : SimState → List ℕ → Option ℤ → SimState
replied old id transaction = replied_to old old.in_flight id transaction

abbrev pub heard_request : SimState → ℕ → Request → Heard
heard_request old now Nothing = record { answer = None; after = old }
heard_request old now (Respond id response) =
    record { answer = Some (response_text id response); after = old }
heard_request old now (Act id action) = heard_action old now id action
heard_request old now (Reply id transaction) =
    record { answer = None; after = replied old id transaction }

-- the effect of a message at a moment
abbrev pub heard : SimState → ℕ → List ℕ → Heard
heard old now text = heard_request old now (request_of text)

-- ---- the point's own calls

-- the message of the call that is sent, if there is one, and the state after it
pub record Called : Type 0 where
  pub text : Option (List ℕ)
  pub after : SimState

abbrev pub called_first : SimState → Option (PointCall × List SimStep) → Called
called_first old None = record { text = None; after = record old { steps = [] } }
called_first old (Some (call, steps)) = record {
  text = Some (call_text old.next_number call);
  after = record old {
    steps = steps;
    in_flight = Some (record { number = old.next_number; call = call });
    next_number = old.next_number + 1;
  };
}

-- a point makes one call at a time (OCPP-J 1.6, 4.1.1)
abbrev pub called_unless : SimState → ℕ → Option InFlight → Called
called_unless old now (Some call) = record { text = None; after = old }
called_unless old now None = called_first old (first_call old.book now old.steps)

abbrev pub called : SimState → ℕ → Called
called old now = called_unless old now old.in_flight
