-- The state of the central system between two steps.
use Rattle.std.specs.Prelude.{ℕ, ◌≡◌, ◌≤◌, ◌==◌, Bool, false, List, [], map, length, slice_index_or, Option, None, Some, option_map, if◌then◌else◌}
use Rattle.profile.specs.declared.row.Row.{Row}
use Rattle.meaning.specs.declared.ask.Ask.{Ask}
pub use Rattle.sweep_compiler.specs.Right.{ScheduleAnswer}
use Rattle.site_rules.specs.Site.{PointEntry, SiteState, place_of}
use Rattle.point_book.specs.Book.{BookState, empty_book}
use Rattle.sweep_compiler.specs.Verdict.{AuditRequest}
use Rattle.site_core.specs.declared.numbers.Numbers.{Numbers}
use Rattle.site_core.specs.Limits.{max_number, max_transaction, max_requests}
use Rattle.site_core.specs.Outbox.{OutboxState, opening_outbox, sending_link}
use Rattle.site_core.specs.declared.waiting_starts.WaitingStart.{WaitingStart}
use Rattle.site_core.specs.Audit.{AuditState, unjudged}
use Rattle.site_core.specs.declared.deliveries.ProfileState.{ProfileState}
use Rattle.site_core.specs.declared.deliveries.ProfileState.TheVariants.{Unsure}
use Rattle.site_core.specs.Delivery.{delivery_of, profile_state_by}
use Rattle.site_core.specs.ChargePoint.{ChargePointState, opening_point}

-- a request for a composite schedule that is kept until its answer is handed out
pub record Kept : Type 0 where
  pub number : ℕ
  -- the place of its point in the site file
  pub place : ℕ
  -- the point's book when the request was taken
  pub book : BookState
  -- its connector, start and duration
  pub ask : Ask
  -- none before it is compiled
  pub answer : Option ScheduleAnswer

pub record MachineState : Type 0 where
  -- the site, which no step changes
  pub site : SiteState
  -- the version, request, transaction and link numbers that were drawn last
  pub numbers : Numbers
  -- the state of each point, in the order of the site file
  pub points : List ChargePointState
  -- the requests that are kept, in the order of their numbers
  pub requests : List Kept
  -- once it is stopped, it makes no more steps except Compile, Answer and Finish
  pub is_stopped : Bool

-- before the first step, with these numbers drawn last
abbrev pub opening_at : SiteState → Numbers → MachineState
opening_at site numbers = record {
  site = site;
  numbers = numbers;
  points = map opening_point site.points;
  requests = [];
  is_stopped = false;
}

abbrev pub no_numbers : Numbers
no_numbers = record { version = 0; request = 0; transaction = 0; link = 0 }

abbrev pub opening : SiteState → MachineState
opening site = opening_at site no_numbers

-- The default of a look-up of the point at a place of the site file. Each place has its point, so
-- this one is never read.
abbrev pub no_point : ChargePointState
no_point = record {
  book = empty_book 0 [];
  outbox = opening_outbox;
  audit = None;
  waiting = [];
  deliveries = [];
  booted = None;
  lost_before = 0;
}

abbrev pub point_in : List ChargePointState → ℕ → ChargePointState
point_in points place = slice_index_or points place no_point

abbrev pub point_at : MachineState → ℕ → ChargePointState
point_at state place = point_in state.points place

-- the point's book, and the calls to it
abbrev pub book_at : MachineState → ℕ → BookState
book_at state place = (point_at state place).book

abbrev pub outbox_at : MachineState → ℕ → OutboxState
outbox_at state place = (point_at state place).outbox

-- its audit, once it was audited
abbrev pub audit_at : MachineState → ℕ → Option AuditState
audit_at state place = (point_at state place).audit

-- the present link of the point at a place, and of the point of an identity; an unknown point has
-- none
abbrev pub link_at : MachineState → Option ℕ → Option ℕ
link_at state None = None
link_at state (Some place) = (outbox_at state place).link

abbrev pub link_of : MachineState → List ℕ → Option ℕ
link_of state point = link_at state (place_of state.site point)

-- whether there is a number, of a link or of a place, and it is this one
abbrev pub is_this_number : ℕ → Option ℕ → Bool
is_this_number number None = false
is_this_number number (Some other) = other == number

-- The link over which a call can be sent now to the point at a place, and to the point of an
-- identity, if there is such a call. An unknown point has none, and nothing is sent once the
-- central system is stopped.
abbrev pub link_to_send_at : MachineState → Option ℕ → Option ℕ
link_to_send_at state None = None
link_to_send_at state (Some place) = sending_link (outbox_at state place)

abbrev pub link_to_send : MachineState → List ℕ → Option ℕ
link_to_send state point =
    if state.is_stopped then None else link_to_send_at state (place_of state.site point)

-- the number of unconfirmed calls of the point; an unknown point has none
abbrev pub outbox_len_at : MachineState → Option ℕ → ℕ
outbox_len_at state None = 0
outbox_len_at state (Some place) = length (outbox_at state place).calls

abbrev pub outbox_len : MachineState → List ℕ → ℕ
outbox_len state point = outbox_len_at state (place_of state.site point)

-- the audit of the point of an identity, once it was audited; an unknown point has none
abbrev pub audit_in : MachineState → Option ℕ → Option AuditState
audit_in state None = None
audit_in state (Some place) = audit_at state place

abbrev pub audit_of : MachineState → List ℕ → Option AuditState
audit_of state point = audit_in state (place_of state.site point)

-- the starts that wait at the point of an identity; an unknown point has none
abbrev pub waiting_in : MachineState → Option ℕ → List WaitingStart
waiting_in state None = []
waiting_in state (Some place) = (point_at state place).waiting

abbrev pub waiting_of : MachineState → List ℕ → List WaitingStart
waiting_of state point = waiting_in state (place_of state.site point)

-- when the point of an identity last booted; an unknown point never did
abbrev pub booted_in : MachineState → Option ℕ → Option ℕ
booted_in state None = None
booted_in state (Some place) = (point_at state place).booted

abbrev pub booted_of : MachineState → List ℕ → Option ℕ
booted_of state point = booted_in state (place_of state.site point)

-- the state of a row's profile at its point
abbrev pub profile_state_at : ChargePointState → Row → ProfileState
profile_state_at point row =
    profile_state_by point.outbox.calls point.lost_before (delivery_of point.deliveries row)

-- of the point of an identity; of an unknown point nothing is sure
abbrev pub profile_state_in : MachineState → Option ℕ → Row → ProfileState
profile_state_in state None row = Unsure
profile_state_in state (Some place) row = profile_state_at (point_at state place) row

abbrev pub profile_state_of : MachineState → List ℕ → Row → ProfileState
profile_state_of state point row = profile_state_in state (place_of state.site point) row

-- the request of the audit of the point at a place, and of an identity, with the book of that time,
-- while the audit has no verdict; an unknown point has none
abbrev pub audit_job_at : MachineState → Option ℕ → ℕ → Option AuditRequest
audit_job_at state None call = None
audit_job_at state (Some place) call =
    option_map (λ (audit : AuditState). audit.asked) (unjudged call (audit_at state place))

abbrev pub audit_job : MachineState → List ℕ → ℕ → Option AuditRequest
audit_job state point call = audit_job_at state (place_of state.site point) call

-- ---- the invariant

-- the connectors of a point by the site file, and by its book
abbrev pub connectors_in_file : PointEntry → ℕ
connectors_in_file point = length point.ceilings

abbrev pub connectors_in_book : ChargePointState → ℕ
connectors_in_book point = length point.book.ceilings

-- each point of the site is kept, with as many connectors
abbrev pub ArePointsOf : SiteState → List ChargePointState → Type 0
ArePointsOf site points = map connectors_in_book points ≡ map connectors_in_file site.points

-- no number is above its limit
pub record AreNumbers (numbers : Numbers) : Type 0 where
  pub version : numbers.version ≤ max_number
  pub request : numbers.request ≤ max_number
  pub transaction : numbers.transaction ≤ max_transaction
  pub link : numbers.link ≤ max_number

pub record IsMachine (state : MachineState) : Type 0 where
  pub points : ArePointsOf state.site state.points
  pub numbers : AreNumbers state.numbers
  pub few : length state.requests ≤ max_requests
