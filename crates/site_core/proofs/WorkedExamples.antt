-- A history worked by hand. A profile is installed between two requests, and both answers are handed
-- out in the other order: each is for the book that the point had at its request. Limits are in
-- tenths.
use Rattle.std.specs.Prelude.{ℕ, List, [], ◌∷◌, length, Some, None, Result, Ok, Err}
use Rattle.std.proofs.Common.{◌≡◌, ap, refl}
use Rattle.std.proofs.Math.IntN.{pos}
use Rattle.ocpp_scalars.specs.declared.refusal.Refusal.{Refusal}
use Rattle.profile.specs.declared.kind.Kind.TheVariants.{Absolute}
use Rattle.profile.specs.declared.purpose.Purpose.TheVariants.{TxDefaultProfile}
use Rattle.profile.specs.declared.row.Row.{Row}
use Rattle.profile.specs.declared.unit.Unit.TheVariants.{A}
use Rattle.meaning.specs.declared.ask.Ask.{Ask}
use Rattle.meaning.specs.Composite.{CompositeSchedule}
use Rattle.meaning.specs.Limit.{limit_asked}
use Rattle.meaning.specs.ByCases.Ask.{ask_with}
use Rattle.meaning.specs.Theory.ExactAnswers.{answered as exact_answered}
use Rattle.site_rules.specs.Site.{SiteState}
use Rattle.point_book.specs.Book.{BookState, empty_book, state_of}
use Rattle.point_book.specs.Changes.{book_installed}
use Rattle.site_core.specs.declared.step.Step.TheVariants as steps
use Rattle.site_core.specs.declared.step.Take.{Take}
use Rattle.site_core.specs.declared.reply.Reply.{Reply}
use Rattle.site_core.specs.declared.reply.Reply.TheVariants.{Accepted, Answered, Compiled}
use Rattle.site_core.specs.State.{MachineState, opening}
use Rattle.site_core.specs.Right.{IsCompiledFor}
use Rattle.site_core.specs.ChargePoint.{Installs}
use Rattle.site_core.specs.Step.{Made, Steps, done_at, with_request}
use Rattle.site_core.specs.Requests.{answered, without}
use Rattle.site_core.specs.History.{Event, Legal, taken_event, answered_event}

-- 2025-01-01T00:00:00Z
abbrev midnight : ℕ
midnight = 1735689600

-- one point, of the identity A, with a ceiling of 63.0 A and one connector of 32.0 A
abbrev site : SiteState
site = record {
  unit = A;
  points = record {
    id = 65 ∷ [];
    ceiling = 630;
    ceilings =
        320 ∷ [];
  } ∷ [];
}

-- the request to it, made twice: connector 1 from midnight on, for a minute
abbrev take : Take
take = record {
  point = 65 ∷ [];
  connector = 1;
  start = midnight;
  duration = 60;
  unit =
      None;
  seen = 0;
}

abbrev ask : Ask
ask = ask_with 1 midnight 60 refl refl refl

-- the profile installed between them: 10.0 A at connector 1
abbrev row : Row
row = record {
  connector = 1;
  moment = midnight;
  profile = record {
    id = pos 1;
    transaction = None;
    stack_level = 0;
    purpose = TxDefaultProfile;
    kind = Absolute;
    valid_from = None;
    valid_to = None;
    schedule = record {
      duration = None;
      start = Some midnight;
      unit = A;
      periods =
          record { start = 0; limit = 100; number_phases = None } ∷ [];
      min_charging_rate = None;
    };
    low = refl;
    own_transaction = refl;
    own_start = refl;
  };
}

abbrev before : BookState
before = empty_book 630 (320 ∷ [])

abbrev after : BookState
after = book_installed before row

-- a minute at one limit
abbrev at_limit : ℕ → CompositeSchedule
at_limit limit = record { duration = 60; periods = record { start = 0; limit = limit } ∷ [] }

-- ---- the states, one after each event

abbrev taken : MachineState
taken = with_request (opening site) before ask 0

abbrev installed : MachineState
installed = (done_at taken 0 Accepted (Some (Installs row))).after

abbrev taken_again : MachineState
taken_again = with_request installed after ask 0

abbrev second_compiled : MachineState
second_compiled = record taken_again {
  requests =
      answered 2 (Ok (at_limit 100)) taken_again.requests;
}

abbrev both_compiled : MachineState
both_compiled = record second_compiled {
  requests =
      answered 1 (Ok (at_limit 320)) second_compiled.requests;
}

abbrev second_handed : MachineState
second_handed = record both_compiled { requests = without 2 both_compiled.requests }

abbrev both_handed : MachineState
both_handed = record second_handed { requests = [] }

abbrev events : List Event
events =
    taken_event take 1 before ask
    ∷ (record { step = steps.Install (65 ∷ []) row; reply = Accepted }
    ∷ (taken_event take 2 after ask
    ∷ (record { step = steps.Compile 2; reply = Compiled }
    ∷ (record { step = steps.Compile 1; reply = Compiled }
    ∷ (answered_event 2 after ask (Ok (at_limit 100))
    ∷ (answered_event 1 before ask (Ok (at_limit 320)) ∷ []))))))

-- the answers are the exact schedules
first_right : IsCompiledFor before ask (Ok (at_limit 320))
first_right = exact_answered (limit_asked (state_of before) 1 midnight) 60
    (at_limit 320) ask.some refl

second_right : IsCompiledFor after ask (Ok (at_limit 100))
second_right = exact_answered (limit_asked (state_of after) 1 midnight) 60
    (at_limit 100) ask.some refl

pub two_requests : Legal (opening site) events both_handed
two_requests = (
  taken,
  refl,
  (
    installed,
    refl,
    (
      taken_again,
      refl,
      (
        second_compiled,
        record {
          kept = _;
          is_kept = refl;
          answer = Ok (at_limit 100);
          right = second_right;
          made =
              refl;
        },
        (
          both_compiled,
          record {
            kept = _;
            is_kept = refl;
            answer = Ok (at_limit 320);
            right =
                first_right;
            made = refl;
          },
          (
            second_handed,
            refl,
            (
              both_handed,
              refl,
              refl,
            ),
          ),
        ),
      ),
    ),
  ),
)

-- the number of profiles in the book of an answer
abbrev rows_answered : Reply → ℕ
rows_answered (Answered book asked answer) = length book.rows
rows_answered other = 0

abbrev rows_made : Result Made Refusal → ℕ
rows_made (Ok made) = rows_answered made.reply
rows_made (Err refusal) = 0

zero_is_not_one : ◌≡◌ {A = ℕ} 0 1 → ⊥
zero_is_not_one e = cc

-- if the newer book were handed out for the older request, that last event wouldn't be a step
pub no_newer_book : (state : MachineState) → ¬ Steps second_handed (steps.Answer 1)
    (Answered after ask (Ok (at_limit 100))) state
no_newer_book state is = zero_is_not_one (ap rows_made is)
