-- The answer to a CALL whose step was made or refused.
use Rattle.std.specs.Prelude.{Option, Some, None, Result, Ok, Err}
use Rattle.ocpp_scalars.specs.declared.refusal.Refusal.{Refusal}
use Rattle.profile.specs.declared.unit.Unit.{Unit}
use Rattle.meaning.specs.declared.ask.Ask.{Ask}
use Rattle.messages.specs.declared.action_kind.ActionKind.{ActionKind}
use Rattle.messages.specs.declared.action_kind.ActionKind.TheVariants as kinds
use Rattle.messages.specs.declared.call_fault.CallFault.TheVariants as faults
use Rattle.messages.specs.declared.response.Response.{Response}
use Rattle.messages.specs.declared.response.Response.TheVariants as responses
use Rattle.site_core.specs.declared.reply.Reply.{Reply}
use Rattle.site_core.specs.declared.reply.Reply.TheVariants.{Accepted, Unknown, Started, Repeated, Ended, NoSuch, Taken, Compiled, Answered, NotYet, Finished, Attached, Sent, Nothing, Confirmed, LinkLost, Audited, VerdictKept, Status, Called, Booted}
use Rattle.site_core.specs.State.{ScheduleAnswer}

-- a refused SetChargingProfile, GetCompositeSchedule, RemoteStartTransaction, AuditPoint or
-- PointStatus is answered by its .conf, any other refused CALL by a CALLERROR
abbrev pub refused_response : ActionKind → Refusal → Response
refused_response kinds.SetChargingProfile refusal = responses.Rejected refusal
refused_response kinds.GetCompositeSchedule refusal = responses.Rejected refusal
refused_response kinds.RemoteStartTransaction refusal = responses.Rejected refusal
refused_response kinds.AuditPoint refusal = responses.Rejected refusal
refused_response kinds.PointStatus refusal = responses.Rejected refusal
refused_response _ refusal = responses.Error (faults.Refused refusal)

-- the answer to a request for a composite schedule, on a site of this unit
abbrev pub schedule_response : Unit → ActionKind → Ask → ScheduleAnswer → Response
schedule_response unit kind ask (Ok schedule) = responses.Schedule
    (record { connector = ask.connector; start = ask.start; unit = unit; schedule = schedule })
schedule_response unit kind ask (Err refusal) = refused_response kind refusal

-- A reply as a response to a CALL of this kind. A retransmitted start is answered as the first one
-- was. There is no response to a request that is taken or compiled, a stop of the central system, a
-- change of a link or of a call, a kept verdict, or a boot.
abbrev pub reply_response : Unit → ActionKind → Reply → Option Response
reply_response unit kind Accepted = Some responses.Accepted
reply_response unit kind Unknown = Some responses.Unknown
reply_response unit kind (Started transaction) = Some (responses.StartTransaction transaction)
reply_response unit kind (Repeated transaction) = Some (responses.StartTransaction transaction)
reply_response unit kind Ended = Some responses.Empty
reply_response unit kind NoSuch = Some responses.Empty
reply_response unit kind (Answered book ask answer) = Some (schedule_response unit kind ask answer)
reply_response unit kind (Taken number book ask) = None
reply_response unit kind Compiled = None
reply_response unit kind NotYet = None
reply_response unit kind Finished = None
reply_response unit kind (Attached link) = None
reply_response unit kind (Sent call) = None
reply_response unit kind Nothing = None
reply_response unit kind Confirmed = None
reply_response unit kind LinkLost = None
reply_response unit kind (Audited call asked) = Some responses.Accepted
reply_response unit kind VerdictKept = None
reply_response unit kind (Status status) = Some (responses.PointStatus status)
reply_response unit kind (Called call) = Some responses.Accepted
reply_response unit kind (Booted first) = None

-- the response to a CALL of this kind, from the outcome of its step
abbrev pub response_of : Unit → ActionKind → Result Reply Refusal → Option Response
response_of unit kind (Ok reply) = reply_response unit kind reply
response_of unit kind (Err refusal) = Some (refused_response kind refusal)
