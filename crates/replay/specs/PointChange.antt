-- The change that a line of a script makes at its point.
use Rattle.std.specs.Prelude.{Result, Ok, Err}
use Rattle.ocpp_scalars.specs.declared.refusal.Refusal.{Refusal}
use Rattle.site_core.specs.declared.reply.Reply.{Reply}
use Rattle.site_core.specs.declared.reply.Reply.TheVariants as replies
use Rattle.replay.specs.declared.script.point_change.PointChange.{PointChange}
use Rattle.replay.specs.declared.script.point_change.PointChange.TheVariants.{Nothing, Profiles, Transaction, Audit, RemoteStart, Confirmed}

-- The change by a step for the message of a line, from its reply. An install, a clear that removes
-- profiles, an audit and a remote start each add a call to the point. A start or stop may remove
-- TxProfiles or install one. A verdict comes with the reply that confirms the audit's call.
abbrev pub change_by : Reply → PointChange
change_by replies.Accepted = Profiles
change_by replies.Unknown = Nothing
change_by (replies.Started number) = Transaction
change_by (replies.Repeated number) = Nothing
change_by replies.Ended = Transaction
change_by replies.NoSuch = Nothing
change_by (replies.Taken number book ask) = Nothing
change_by replies.Compiled = Nothing
change_by (replies.Answered book ask answer) = Nothing
change_by replies.NotYet = Nothing
change_by replies.Finished = Nothing
change_by (replies.Attached link) = Nothing
change_by (replies.Sent call) = Nothing
change_by replies.Nothing = Nothing
change_by replies.Confirmed = Confirmed
change_by replies.LinkLost = Nothing
change_by (replies.Audited call asked) = Audit
change_by replies.VerdictKept = Nothing
change_by (replies.Status status) = Nothing
change_by (replies.Called number) = RemoteStart
change_by (replies.Booted first) = Nothing

-- a refused step changes nothing
abbrev pub change_of : Result Reply Refusal → PointChange
change_of (Ok reply) = change_by reply
change_of (Err refusal) = Nothing
