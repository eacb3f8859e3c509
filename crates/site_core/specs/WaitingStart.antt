-- Starts that an operator requested from a charge point (OCPP 1.6, 5.11). Each waits beside the
-- point's book until a transaction begins at its connector, and may have a profile for it.
use Rattle.std.specs.Prelude.{ℕ, ◌==◌, Bool, true, false, not, ◌||◌, List, [], ◌∷◌, ◌++◌, filter, Option, Some, None, option_and_then, slice_get, if◌then◌else◌}
use Rattle.std.specs.List.{position}
use Rattle.std.specs.Str.{str_eq_ignore_ascii_case}
use Rattle.profile.specs.declared.charging_profile.Profile.{Profile}
use Rattle.site_core.specs.declared.waiting_starts.WaitingStart.{WaitingStart}
use Rattle.site_core.specs.Outbox.{OutboxState, is_unconfirmed, is_number_in_flight}

-- ---- at a connector

abbrev pub is_at_connector : ℕ → WaitingStart → Bool
is_at_connector connector start = start.connector == connector

abbrev pub waiting_at : List WaitingStart → ℕ → Option WaitingStart
waiting_at starts connector =
    option_and_then (slice_get starts) (position (is_at_connector connector) starts)

abbrev pub without_waiting : List WaitingStart → ℕ → List WaitingStart
without_waiting starts connector = filter (λ start. not (is_at_connector connector start)) starts

-- a new one takes the place of the one at its connector
abbrev pub with_waiting : List WaitingStart → WaitingStart → List WaitingStart
with_waiting starts new = without_waiting starts new.connector ++ new ∷ []

-- ---- the point's reply

abbrev pub is_of_call : ℕ → WaitingStart → Bool
is_of_call number start = start.call == number

-- After the point replied to the call of a number. If it doesn't accept, the start that came with
-- that call is dropped; other calls came with none.
abbrev pub after_reply : ℕ → Bool → List WaitingStart → List WaitingStart
after_reply number true starts = starts
after_reply number false starts = filter (λ start. not (is_of_call number start)) starts

-- ---- a transaction that begins

-- whether the call of a number has gone out: it is confirmed, or in flight
abbrev pub has_gone_out : OutboxState → ℕ → Bool
has_gone_out outbox number =
    not (is_unconfirmed outbox.calls number) || is_number_in_flight outbox number

abbrev pub if_gone_out : OutboxState → Option WaitingStart → Option WaitingStart
if_gone_out outbox None = None
if_gone_out outbox (Some start) = if has_gone_out outbox start.call then Some start else None

-- The start that a transaction at a connector ends, whatever its idTag: the one that waits there,
-- unless its call still waits, too.
abbrev pub ended_start : OutboxState → List WaitingStart → ℕ → Option WaitingStart
ended_start outbox starts connector = if_gone_out outbox (waiting_at starts connector)

-- The profile with which the transaction of an idTag begins: that of the start, if it is for this
-- idTag. ASCII letters of either case are equal (chapter 7, IdToken: CiString20Type).
abbrev pub profile_for : List ℕ → Option WaitingStart → Option Profile
profile_for id_tag None = None
profile_for id_tag (Some start) =
    if str_eq_ignore_ascii_case start.id_tag id_tag then start.profile else None

-- the starts that still wait
abbrev pub without_ended : Option WaitingStart → List WaitingStart → List WaitingStart
without_ended None starts = starts
without_ended (Some ended) starts = without_waiting starts ended.connector
