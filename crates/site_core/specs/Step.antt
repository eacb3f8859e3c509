-- One step of the central system: its reply and its changes, or the first cause of its refusal. A
-- step changes only what it names, and a refused step changes nothing.
use Rattle.std.specs.Prelude.{ℕ, ℤ, pos, ◌≡◌, ◌≤◌, ◌+◌, not, nat_lt, nat_le, ◌==◌, ◌||◌, Bool, true, false, List, [], ◌∷◌, ◌++◌, length, Option, Some, None, is_some, option_map, IfSome, Result, Ok, Err, IfOk, slice_set, if◌then◌else◌}
use Rattle.std.specs.List.{list_any}
use Rattle.ocpp_scalars.specs.ResultSteps.{◌>>=◌}
use Rattle.ocpp_scalars.specs.declared.refusal.Refusal.{Refusal}
use Rattle.ocpp_scalars.specs.declared.refusal.Refusal.TheVariants.{UnknownPoint, UnknownConnector, OutboxFull, BadDuration, TooManyOpen, VersionsExhausted, TransactionsExhausted, Behind, OutOfMemory, UnknownRequest, AlreadyAnswered, StrangerInput, Superseded, NothingInFlight, AuditOpen, WrongUnit, NotTxProfile}
use Rattle.ocpp_scalars.specs.declared.refusal.Refusal.TheVariants as refusals
use Rattle.profile.specs.declared.charging_profile.Profile.{Profile}
use Rattle.profile.specs.declared.row.Row.{Row}
use Rattle.profile.specs.declared.criteria.Criteria.{Criteria}
use Rattle.profile.specs.Changes.{matches}
use Rattle.profile.specs.Purpose.{is_tx}
use Rattle.profile.specs.Unit.{unit_eq}
use Rattle.transactions.specs.declared.begin.Begin.{Begin}
use Rattle.transactions.specs.declared.active_table.Began.{Began}
use Rattle.transactions.specs.declared.active_table.Began.TheVariants.{Fresh, Repeat}
use Rattle.transactions.specs.ActiveTable.{began, connector_of}
use Rattle.meaning.specs.declared.ask.Ask.{Ask}
use Rattle.meaning.specs.Limits.{max_duration}
use Rattle.messages.specs.declared.call.Call.{Call}
use Rattle.messages.specs.declared.response.PointStatus.{PointStatus}
use Rattle.site_rules.specs.Site.{SiteState, place_of}
use Rattle.site_rules.specs.Admission.{admission_refusal}
use Rattle.point_book.specs.Book.{BookState}
use Rattle.point_book.specs.Changes.{first_cause, install_refusal}
use Rattle.sweep_compiler.specs.Judged.{Judgement}
use Rattle.site_core.specs.declared.numbers.Numbers.{Numbers}
use Rattle.site_core.specs.declared.step.Step.{Step}
use Rattle.site_core.specs.declared.step.Step.TheVariants as steps
use Rattle.site_core.specs.declared.step.Take.{Take}
use Rattle.site_core.specs.declared.reply.Counted.{Counted}
use Rattle.site_core.specs.declared.reply.Reply.{Reply}
use Rattle.site_core.specs.declared.reply.Reply.TheVariants.{Accepted, Unknown, Started, Repeated, Ended, NoSuch, Taken, Compiled, Answered, NotYet, Finished, Attached, Sent, Nothing, Confirmed, LinkLost, Audited, VerdictKept, Status, Called, Booted}
use Rattle.site_core.specs.declared.outcome.Refused.{Refused}
use Rattle.site_core.specs.declared.via.Via.{Via}
use Rattle.site_core.specs.declared.via.Via.TheVariants.{Name, Link, Audit}
use Rattle.site_core.specs.Audit.{AuditState, is_open_among, unjudged, audit_outcome}
use Rattle.site_core.specs.Equal.{same_request}
use Rattle.site_core.specs.Limits.{max_number, max_transaction, max_requests}
use Rattle.site_core.specs.Outbox.{OutboxState, is_full, is_exhausted, first_unconfirmed, sendable, is_number_in_flight}
use Rattle.site_core.specs.ChargePoint.{ChargePointState, Deed, Installs, Clears, Starts, Stops, Attaches, Loses, Sends, Confirms, Audits, Judges, RemoteStarts, Boots, point_after}
use Rattle.site_core.specs.WaitingStart.{ended_start, profile_for}
use Rattle.site_core.specs.State.{MachineState, Kept, ScheduleAnswer, point_at, book_at, outbox_at, is_this_number}
use Rattle.site_core.specs.Requests.{request_of, answered, without, all_stopped}
use Rattle.site_core.specs.Ask.{ask_at}
use Rattle.site_core.specs.Right.{IsCompiledFor}

-- ---- facts about replies

-- a reply that counts no change, Take or answer
abbrev pub no_count : Counted
no_count = record { changes = 0; takes = 0; answers = 0 }

-- the facts about a reply
pub record Facts : Type 0 where
  -- whether its step is an event, given whether the central system was stopped before; an answer
  -- without a change is none
  pub is_event : Bool → Bool
  -- the numbers that were drawn last, after its step
  pub drawn : Numbers → Numbers
  pub counts : Counted
  -- whether its step needs memory
  pub wants_memory : Bool
  -- its book and `Ask`, if it has them
  pub asks : Option (BookState × Ask)

-- nothing changes
abbrev pub answer_alone : Facts
answer_alone = record {
  is_event = λ was_stopped. false;
  drawn = λ numbers. numbers;
  counts = no_count;
  wants_memory = false;
  asks = None;
}

-- an event that draws no number and needs no memory
abbrev pub quiet_event : Facts
quiet_event = record answer_alone { is_event = λ was_stopped. true }

-- each change of a point's book makes a new version of the store
abbrev pub with_version : Numbers → Numbers
with_version numbers = record numbers { version = numbers.version + 1 }

abbrev pub change_of_book : Facts
change_of_book = record quiet_event {
  drawn = with_version;
  counts = record no_count { changes = 1 };
  wants_memory = true;
}

abbrev pub facts : Reply → Facts
facts Accepted = change_of_book
facts Unknown = answer_alone
facts (Started number) = record change_of_book {
  drawn = λ numbers. record (with_version numbers) { transaction = numbers.transaction + 1 };
}
facts (Repeated number) = answer_alone
facts Ended = change_of_book
facts NoSuch = answer_alone
facts (Taken number book ask) = record quiet_event {
  drawn = λ numbers. record numbers { request = numbers.request + 1 };
  counts = record no_count { takes = 1 };
  wants_memory = true;
  asks = Some (book, ask);
}
facts Compiled = quiet_event
facts (Answered book ask answer) = record quiet_event {
  counts = record no_count { answers = 1 };
  asks = Some (book, ask);
}
facts NotYet = answer_alone
facts Finished = record quiet_event { is_event = λ was_stopped. not was_stopped }
facts (Attached link) = record quiet_event {
  drawn = λ numbers. record numbers { link = numbers.link + 1 };
}
facts (Sent call) = record quiet_event { wants_memory = true }
facts Nothing = answer_alone
facts Confirmed = quiet_event
facts LinkLost = quiet_event
facts (Audited call unit) = record quiet_event { wants_memory = true }
facts VerdictKept = quiet_event
facts (Status status) = answer_alone
facts (Called number) = record quiet_event { wants_memory = true }
facts (Booted first) = quiet_event

-- whether a step with its reply is an event
abbrev pub is_event : MachineState → Reply → Bool
is_event old reply = (facts reply).is_event old.is_stopped

abbrev pub counted : Reply → Counted
counted reply = (facts reply).counts

abbrev pub drawn : Reply → Numbers → Numbers
drawn reply numbers = (facts reply).drawn numbers

-- The steps that need memory: an install, a clear, an audit and a remote start with their calls, a
-- transaction and its end, a request that is kept, and a call that is copied to be sent.
abbrev pub wants_memory : Reply → Bool
wants_memory reply = (facts reply).wants_memory

-- a book in a reply has the connector of the `Ask` beside it
abbrev pub HasAskedConnector : Reply → Type 0
HasAskedConnector reply = IfSome (facts reply).asks (λ (asked : BookState × Ask).
    asked.1.connector ≤ length asked.0.ceilings)

-- whether a reply is one of a step's
abbrev pub is_reply_to : Step → Reply → Bool
is_reply_to (steps.Install point row) Accepted = true
is_reply_to (steps.Clear point criteria) Accepted = true
is_reply_to (steps.Clear point criteria) Unknown = true
is_reply_to (steps.Start point connector begin) (Started number) = true
is_reply_to (steps.Start point connector begin) (Repeated number) = true
is_reply_to (steps.Stop point number) Ended = true
is_reply_to (steps.Stop point number) NoSuch = true
is_reply_to (steps.Take take) (Taken number book ask) = true
is_reply_to (steps.Compile number) Compiled = true
is_reply_to (steps.Answer number) (Answered book ask answer) = true
is_reply_to (steps.Answer number) NotYet = true
is_reply_to steps.Finish Finished = true
is_reply_to (steps.Attach point) (Attached link) = true
is_reply_to (steps.Send point link) (Sent call) = true
is_reply_to (steps.Send point link) Nothing = true
is_reply_to (steps.Confirm point link number accepted) Confirmed = true
is_reply_to (steps.Lost point link) LinkLost = true
is_reply_to (steps.Audit point connector duration) (Audited call unit) = true
is_reply_to (steps.Judge point number judged) VerdictKept = true
is_reply_to (steps.Status point) (Status status) = true
is_reply_to (steps.RemoteStart point connector id_tag profile) (Called number) = true
is_reply_to (steps.Boot point moment) (Booted first) = true
is_reply_to step reply = false

-- ---- steps at a point are decided first, from the site, the numbers drawn last and the point

-- this reply, unless there is a cause of refusal
abbrev pub unless : {X : Type 0} → Option Refusal → X → Result X Refusal
unless (Some refusal) x = Err refusal
unless None x = Ok x

abbrev pub version_refusal : Numbers → Option Refusal
version_refusal numbers = if numbers.version == max_number then Some VersionsExhausted else None

-- the reason why no call can be added for a point, if there is one
abbrev pub refusal_to_add : OutboxState → Option Refusal
refusal_to_add outbox =
    if is_full outbox then Some OutboxFull
    else if is_exhausted outbox then Some VersionsExhausted
    else None

abbrev pub refusal_to_call : Numbers → ChargePointState → Option Refusal
refusal_to_call numbers point = first_cause (refusal_to_add point.outbox) (version_refusal numbers)

-- Install (OCPP 1.6, 5.16): checked by the rules of the site, and then by the point's book. It also
-- adds a call to the point, as a clear does.
abbrev pub refusal_to_install : SiteState → Numbers → List ℕ → Row → ChargePointState
    → Option Refusal
refusal_to_install site numbers id row point =
    first_cause (admission_refusal site id row.connector row.profile)
    (first_cause (install_refusal point.book row) (refusal_to_call numbers point))

abbrev pub installs : SiteState → Numbers → List ℕ → Row → ChargePointState → Result Reply Refusal
installs site numbers id row point = unless (refusal_to_install site numbers id row point) Accepted

-- Clear (OCPP 1.6, 5.5): if no profile matches, the reply is Unknown, and nothing changes
abbrev pub clears : Numbers → Criteria → ChargePointState → Result Reply Refusal
clears numbers criteria point =
    if list_any (matches criteria) point.book.rows
    then unless (refusal_to_call numbers point) Accepted
    else Ok Unknown

-- Start (OCPP 1.6, 4.8): transactions are numbered over the whole site. A retransmitted start
-- changes nothing. A transaction is at a connector of the point from 1 on.
abbrev pub next_transaction : Numbers → ℤ
next_transaction numbers = pos (numbers.transaction + 1)

abbrev pub transaction_number_refusal : Numbers → Option Refusal
transaction_number_refusal numbers =
    if numbers.transaction == max_transaction then Some TransactionsExhausted else None

abbrev pub refusal_to_start : Numbers → Option Refusal
refusal_to_start numbers =
    first_cause (version_refusal numbers) (transaction_number_refusal numbers)

abbrev pub starts_as : Began → Numbers → Result Reply Refusal
starts_as (Repeat number) numbers = Ok (Repeated number)
starts_as Fresh numbers = unless (refusal_to_start numbers) (Started (next_transaction numbers))

abbrev pub is_at_no_connector : ChargePointState → ℕ → Bool
is_at_no_connector point connector =
    (connector == 0) || nat_lt (length point.book.ceilings) connector

abbrev pub starts : Numbers → ℕ → Begin → ChargePointState → Result Reply Refusal
starts numbers connector begin point =
    if is_at_no_connector point connector then Err UnknownConnector
    else starts_as (began point.book.transactions connector begin) numbers

-- Stop (OCPP 1.6, 4.10): only a transaction that is active at the point ends
abbrev pub stops : Numbers → ℤ → ChargePointState → Result Reply Refusal
stops numbers number point =
    if is_some (connector_of point.book.transactions number)
    then unless (version_refusal numbers) Ended
    else Ok NoSuch

-- Attach (OCPP-J 1.6, 3): the point gets a new link, which replaces the one before
abbrev pub refusal_to_attach : Numbers → Option Refusal
refusal_to_attach numbers = if numbers.link == max_number then Some VersionsExhausted else None

abbrev pub attaches : Numbers → ChargePointState → Result Reply Refusal
attaches numbers point = unless (refusal_to_attach numbers) (Attached (numbers.link + 1))

-- Send (OCPP-J 1.6, 4): the first call goes out, unless one is in flight
abbrev pub sends_call : Option Call → Reply
sends_call None = Nothing
sends_call (Some call) = Sent call

abbrev pub sends : ChargePointState → Result Reply Refusal
sends point = Ok (sends_call (sendable point.outbox))

-- Confirm: the call in flight, which must have this number, is removed
abbrev pub confirms : ℕ → ChargePointState → Result Reply Refusal
confirms number point =
    if is_number_in_flight point.outbox number then Ok Confirmed else Err NothingInFlight

-- Lost: the point has no link any more, and a call in flight waits again
abbrev pub loses : ChargePointState → Result Reply Refusal
loses point = Ok LinkLost

-- Audit: the point's own schedule of a connector is requested, 0 being the whole point, unless it
-- still has to answer the audit before. The request is in the site's unit.
abbrev pub is_no_duration : ℕ → Bool
is_no_duration duration = (duration == 0) || nat_lt max_duration duration

abbrev pub refusal_to_audit : ℕ → ℕ → ChargePointState → Option Refusal
refusal_to_audit connector duration point =
    if nat_lt (length point.book.ceilings) connector then Some UnknownConnector
    else if is_no_duration duration then Some BadDuration
    else if is_open_among point.outbox.calls point.audit then Some AuditOpen
    else refusal_to_add point.outbox

abbrev pub audits : SiteState → ℕ → ℕ → ChargePointState → Result Reply Refusal
audits site connector duration point =
    unless (refusal_to_audit connector duration point) (Audited point.outbox.next site.unit)

-- Judge: the audit of this number has no verdict yet, and is the one that was judged
abbrev pub judges_audit : Judgement → Option AuditState → Result Reply Refusal
judges_audit judged None = Err UnknownRequest
judges_audit judged (Some audit) =
    if same_request audit.asked judged.audit then Ok VerdictKept else Err StrangerInput

abbrev pub judges : ℕ → Judgement → ChargePointState → Result Reply Refusal
judges number judged point = judges_audit judged (unjudged number point.audit)

-- Status: the version of the store, the number of the point's unconfirmed calls, and its audit
abbrev pub status_of : Numbers → ChargePointState → PointStatus
status_of numbers point = record {
  version = numbers.version;
  outbox = length point.outbox.calls;
  audit = audit_outcome point.audit;
}

abbrev pub tells_status : Numbers → ChargePointState → Result Reply Refusal
tells_status numbers point = Ok (Status (status_of numbers point))

-- RemoteStart (OCPP 1.6, 5.11): the point is asked to start a transaction at a connector from 1 on.
-- A profile that comes with it must be a TxProfile in the site's unit.
abbrev pub refusal_of_profile : SiteState → Option Profile → Option Refusal
refusal_of_profile site None = None
refusal_of_profile site (Some profile) =
    if not (unit_eq profile.schedule.unit site.unit) then Some WrongUnit
    else if not (is_tx profile.purpose) then Some NotTxProfile
    else None

abbrev pub refusal_to_remote_start : SiteState → ℕ → Option Profile → ChargePointState
    → Option Refusal
refusal_to_remote_start site connector profile point =
    if is_at_no_connector point connector then Some UnknownConnector
    else first_cause (refusal_of_profile site profile) (refusal_to_add point.outbox)

abbrev pub remote_starts : SiteState → ℕ → Option Profile → ChargePointState
    → Result Reply Refusal
remote_starts site connector profile point =
    unless (refusal_to_remote_start site connector profile point) (Called point.outbox.next)

-- Boot (OCPP 1.6, 4.2): the point has restarted. The reply has the first call that it hasn't
-- confirmed: it may have lost what came before.
abbrev pub boots : ChargePointState → Result Reply Refusal
boots point = Ok (Booted (first_unconfirmed point.outbox))

-- ---- and then done

-- the profile with which a transaction begins at a connector
abbrev pub profile_at_start : ChargePointState → ℕ → Begin → Option Profile
profile_at_start point connector begin =
    profile_for begin.id_tag (ended_start point.outbox point.waiting connector)

-- The deed of a step at its point, which follows from the point, the step and its reply. No other
-- step with its reply does anything at a point.
abbrev pub deed : ChargePointState → Step → Reply → Option Deed
deed point (steps.Install id row) Accepted = Some (Installs row)
deed point (steps.Clear id criteria) Accepted = Some (Clears criteria)
deed point (steps.Start id connector begin) (Started number) =
    Some (Starts connector begin number (profile_at_start point connector begin))
deed point (steps.Stop id number) Ended =
    option_map Stops (connector_of point.book.transactions number)
deed point (steps.Attach id) (Attached link) = Some (Attaches link)
deed point (steps.Send id link) (Sent call) = Some Sends
deed point (steps.Confirm id link number accepted) Confirmed = Some (Confirms number accepted)
deed point (steps.Lost id link) LinkLost = Some Loses
deed point (steps.Audit id connector duration) (Audited call unit) =
    Some (Audits connector duration unit)
deed point (steps.Judge id number judged) VerdictKept = Some (Judges judged.verdict)
deed point (steps.RemoteStart id connector id_tag profile) (Called number) =
    Some (RemoteStarts connector id_tag profile)
deed point (steps.Boot id moment) (Booted first) = Some (Boots moment)
deed point step reply = None

-- ---- the whole state

-- the reply to a step that was made, and the state after it
pub record Made : Type 0 where
  pub reply : Reply
  pub after : MachineState

-- this reply, without a change
abbrev pub unchanged : MachineState → Reply → Made
unchanged old reply = record { reply = reply; after = old }

-- ---- where a step is made

-- The place of a point of the site; by a link, only if that is the point's present one. An unknown
-- point has no link and no audit.
abbrev pub found_place : MachineState → Via → Option ℕ → Result ℕ Refusal
found_place old Name None = Err UnknownPoint
found_place old Name (Some place) = Ok place
found_place old (Link link) None = Err Superseded
found_place old (Link link) (Some place) =
    if is_this_number link (outbox_at old place).link then Ok place else Err Superseded
found_place old Audit None = Err UnknownRequest
found_place old Audit (Some place) = Ok place

-- the same, unless the central system is stopped
abbrev pub place_for : MachineState → List ℕ → Via → Result ℕ Refusal
place_for old point via =
    if old.is_stopped then Err refusals.Stopped
    else found_place old via (place_of old.site point)

-- the whole state after a step with a deed at the point at a place, or without one
abbrev pub done_at : MachineState → ℕ → Reply → Option Deed → Made
done_at old place reply None = unchanged old reply
done_at old place reply (Some deed) = record {
  reply = reply;
  after = record old {
    points = slice_set old.points place (point_after (point_at old place) deed);
    numbers = drawn reply old.numbers;
  };
}

abbrev pub made_at : MachineState → Step → ℕ → Reply → Made
made_at old step place reply = done_at old place reply (deed (point_at old place) step reply)

-- ---- requests for composite schedules (OCPP 1.6, 5.7)

-- Take: the request is kept with the point's present book. `seen` is the version that its client
-- saw.
abbrev pub refusal_to_take : MachineState → Take → Option Refusal
refusal_to_take old take =
    if nat_le max_requests (length old.requests) then Some TooManyOpen
    else if old.numbers.request == max_number then Some VersionsExhausted
    else if nat_lt old.numbers.version take.seen then Some (Behind take.seen old.numbers.version)
    else None

abbrev pub with_request : MachineState → BookState → Ask → ℕ → MachineState
with_request old book ask place = record old {
  numbers = record old.numbers { request = old.numbers.request + 1 };
  requests = old.requests ++ (record {
    number = old.numbers.request + 1;
    place = place;
    book = book;
    ask = ask;
    answer = None;
  }) ∷ [];
}

abbrev pub taking : MachineState → ℕ → Ask → Made
taking old place ask = record {
  reply = Taken (old.numbers.request + 1) (book_at old place) ask;
  after = with_request old (book_at old place) ask place;
}

abbrev pub takes : MachineState → Take → Result Made Refusal
takes old take = do
  place ← place_for old take.point Name
  ask ← ask_at old.site.unit (book_at old place) take
  unless (refusal_to_take old take) (taking old place ask)

-- Compile: the request, which had no answer, has this one now
abbrev pub compiles_kept : MachineState → ℕ → ScheduleAnswer → Option Kept → Result Made Refusal
compiles_kept old number answer None = Err UnknownRequest
compiles_kept old number answer (Some kept) =
    if is_some kept.answer then Err AlreadyAnswered
    else Ok (record {
      reply = Compiled;
      after = record old { requests = answered number answer old.requests };
    })

abbrev pub compiles : MachineState → ℕ → ScheduleAnswer → Result Made Refusal
compiles old number answer = compiles_kept old number answer (request_of number old.requests)

-- Answer: the answer is handed out with its book and its `Ask`, and the request is removed
abbrev pub answers_with : MachineState → Kept → Option ScheduleAnswer → Made
answers_with old kept None = unchanged old NotYet
answers_with old kept (Some answer) = record {
  reply = Answered kept.book kept.ask answer;
  after = record old { requests = without kept.number old.requests };
}

abbrev pub answers_kept : MachineState → Option Kept → Result Made Refusal
answers_kept old None = Err UnknownRequest
answers_kept old (Some kept) = Ok (answers_with old kept kept.answer)

abbrev pub answers : MachineState → ℕ → Result Made Refusal
answers old number = answers_kept old (request_of number old.requests)

-- Finish: no more changes or Takes follow. A second one changes nothing.
abbrev pub finishes : MachineState → Made
finishes old =
    if old.is_stopped then unchanged old Finished
    else record {
      reply = Finished;
      after = record old { requests = all_stopped old.requests; is_stopped = true };
    }

-- ---- all steps

-- a step at a point: the point that it names, the way to it, and the decision there
pub record PointStep : Type 0 where
  pub point : List ℕ
  pub via : Via
  pub decided : SiteState → Numbers → ChargePointState → Result Reply Refusal

abbrev pub at_point : List ℕ → (SiteState → Numbers → ChargePointState → Result Reply Refusal)
    → PointStep
at_point point decided = record { point = point; via = Name; decided = decided }

abbrev pub over_link : List ℕ → ℕ → (ChargePointState → Result Reply Refusal) → PointStep
over_link point link decided =
    record { point = point; via = Link link; decided = λ site numbers. decided }

abbrev pub of_audit : List ℕ → (ChargePointState → Result Reply Refusal) → PointStep
of_audit point decided =
    record { point = point; via = Audit; decided = λ site numbers. decided }

-- what a step is about: a point, or the requests that are kept
pub data Work : Type 0 where
  AtPoint : (at : PointStep) → Work
  Takes : (take : Take) → Work
  Compiling : (number : ℕ) → Work
  Answering : (number : ℕ) → Work
  Finishing : Work

abbrev pub work : Step → Work
work (steps.Install point row) =
    AtPoint (at_point point (λ site numbers. installs site numbers point row))
work (steps.Clear point criteria) =
    AtPoint (at_point point (λ site numbers. clears numbers criteria))
work (steps.Start point connector begin) =
    AtPoint (at_point point (λ site numbers. starts numbers connector begin))
work (steps.Stop point number) = AtPoint (at_point point (λ site numbers. stops numbers number))
work (steps.Take take) = Takes take
work (steps.Compile number) = Compiling number
work (steps.Answer number) = Answering number
work steps.Finish = Finishing
work (steps.Attach point) = AtPoint (at_point point (λ site numbers. attaches numbers))
work (steps.Send point link) = AtPoint (over_link point link sends)
work (steps.Confirm point link number accepted) =
    AtPoint (over_link point link (confirms number))
work (steps.Lost point link) = AtPoint (over_link point link loses)
work (steps.Audit point connector duration) =
    AtPoint (at_point point (λ site numbers. audits site connector duration))
work (steps.Judge point number judged) = AtPoint (of_audit point (judges number judged))
work (steps.Status point) = AtPoint (at_point point (λ site numbers. tells_status numbers))
work (steps.RemoteStart point connector id_tag profile) =
    AtPoint (at_point point (λ site numbers. remote_starts site connector profile))
work (steps.Boot point moment) = AtPoint (at_point point (λ site numbers. boots))

-- a step at a point is decided, and then done
abbrev pub made_there : MachineState → Step → PointStep → Result Made Refusal
made_there old step at = do
  place ← place_for old at.point at.via
  reply ← at.decided old.site old.numbers (point_at old place)
  Ok (made_at old step place reply)

-- The effect of a step. The answer is the compiler's, and only a Compile uses it.
abbrev pub worked : ScheduleAnswer → MachineState → Step → Work → Result Made Refusal
worked answer old step (AtPoint at) = made_there old step at
worked answer old step (Takes take) = takes old take
worked answer old step (Compiling number) = compiles old number answer
worked answer old step (Answering number) = answers old number
worked answer old step Finishing = Ok (finishes old)

abbrev pub stepped : ScheduleAnswer → MachineState → Step → Result Made Refusal
stepped answer old step = worked answer old step (work step)

-- the answer for every step other than a Compile, which ignores it
abbrev pub no_answer : ScheduleAnswer
no_answer = Err OutOfMemory

-- Compile, with an answer that a compiler may give for the book and the `Ask` of the request
pub record Compiles (old : MachineState) (number : ℕ) (reply : Reply) (new : MachineState)
    : Type 0 where
  pub kept : Kept
  pub is_kept : request_of number old.requests ≡ Some kept
  pub answer : ScheduleAnswer
  pub right : IsCompiledFor kept.book kept.ask answer
  pub made : compiles old number answer ≡ Ok (record { reply = reply; after = new })

-- a step leads from one state to another, with this reply
abbrev pub Works : MachineState → Step → Work → Reply → MachineState → Type 0
Works old step (Compiling number) reply new = Compiles old number reply new
Works old step other reply new =
    worked no_answer old step other ≡ Ok (record { reply = reply; after = new })

abbrev pub Steps : MachineState → Step → Reply → MachineState → Type 0
Steps old step reply new = Works old step (work step) reply new

-- ---- the outlook of a step

-- whether it would be an event, or why it would be refused
abbrev pub outlook_of : MachineState → Result Made Refusal → Result Bool Refusal
outlook_of old (Ok made) = Ok (is_event old made.reply)
outlook_of old (Err refusal) = Err refusal

-- the outlook of a step, as if memory always lasted
abbrev pub outlook : MachineState → Step → Result Bool Refusal
outlook old step = outlook_of old (stepped no_answer old step)

-- ---- refusals

abbrev pub cause_of : Result Made Refusal → Option Refusal
cause_of (Ok made) = None
cause_of (Err refusal) = Some refusal

-- the refusal of a step: the first cause in the order above
abbrev pub first_refusal : MachineState → Step → Option Refusal
first_refusal old step = cause_of (stepped no_answer old step)

-- Send over this link sends nothing to the point of this identity: if it is made, it replies
-- Nothing and changes nothing.
abbrev pub SendsNothing : MachineState → List ℕ → ℕ → Type 0
SendsNothing old point link =
    IfOk (stepped no_answer old (steps.Send point link)) (λ made. made ≡ unchanged old Nothing)

-- the refusal of a step: its first cause, or else, if it needs memory, OutOfMemory
abbrev pub IsRefusalOf : Result Made Refusal → Refusal → Type 0
IsRefusalOf (Err cause) refusal = refusal ≡ cause
IsRefusalOf (Ok made) refusal = (wants_memory made.reply ≡ true) × (refusal ≡ OutOfMemory)

-- A step is refused: nothing has changed, and the step comes back.
pub record IsRefused (old : MachineState) (step : Step) (refused : Refused) (new : MachineState)
    : Type 0 where
  pub cause : IsRefusalOf (stepped no_answer old step) refused.refusal
  pub unchanged : new ≡ old
  pub back : refused.step ≡ step

-- ---- the laws of replies

-- each step has only replies of its own
abbrev pub RepliesAreTheirSteps : Type 0
RepliesAreTheirSteps =
    (old : MachineState) (step : Step) (reply : Reply) (new : MachineState)
    → Steps old step reply new → is_reply_to step reply ≡ true

-- an answer without an event needs no memory
abbrev pub OnlyEventsWantMemory : Type 0
OnlyEventsWantMemory =
    (old : MachineState) (reply : Reply) → wants_memory reply ≡ true → is_event old reply ≡ true
