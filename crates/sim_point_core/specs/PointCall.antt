-- The calls that a charge point makes in its steps, and the changes of their replies in its book.
use Rattle.std.specs.Prelude.{ℕ, ℤ, pos, nat_lt, nat_le, ◌&&◌, Bool, List, [], ◌∷◌, length, Option, Some, None, option_map, if◌then◌else◌}
use Rattle.profile.specs.declared.charging_profile.Profile.{Profile}
use Rattle.transactions.specs.declared.begin.Begin.{Begin}
use Rattle.transactions.specs.declared.transaction.Transaction.{Transaction}
use Rattle.transactions.specs.ActiveTable.{active_at}
use Rattle.point_book.specs.Book.{BookState}
use Rattle.point_book.specs.Changes.{book_started, book_stopped}
use Rattle.sim_point_core.specs.declared.sim_step.SimStep.{SimStep}
use Rattle.sim_point_core.specs.declared.sim_step.SimStep.TheVariants as steps
use Rattle.sim_point_core.specs.declared.point_call.PointCall.{PointCall}
use Rattle.sim_point_core.specs.declared.point_call.PointCall.TheVariants.{Heartbeat, StartTransaction, StopTransaction}

-- ---- the call that a step makes

abbrev pub has_connector : BookState → ℕ → Bool
has_connector book connector = nat_lt 0 connector && nat_le connector (length book.ceilings)

-- the start of a transaction at a connector of the point
abbrev pub start_of : BookState → ℕ → Begin → Option Profile → Option PointCall
start_of book connector begin profile =
    if has_connector book connector then Some (StartTransaction connector begin profile) else None

-- the stop of a transaction, with its number and the meter of its start (OCPP 1.6, 4.10)
abbrev pub stop_of : ℕ → Transaction → PointCall
stop_of now transaction = StopTransaction transaction.id transaction.begin.meter_start now

-- The call that a step makes at a moment (OCPP 1.6, 4.6, 4.8 and 4.10). A remote start has its
-- profile, and 0 as meterStart (5.11). A start at a connector that the point lacks makes no call,
-- and neither does a stop without an active transaction.
abbrev pub call_of : BookState → ℕ → SimStep → Option PointCall
call_of book now steps.Heartbeat = Some Heartbeat
call_of book now (steps.Start connector tag meter) =
    start_of book connector (record { id_tag = tag; meter_start = meter; timestamp = now }) None
call_of book now (steps.RemoteStart connector tag profile) =
    start_of book connector (record { id_tag = tag; meter_start = pos 0; timestamp = now }) profile
call_of book now (steps.Stop connector) =
    option_map (stop_of now) (active_at book.transactions connector)

-- the first call that steps make, with the steps after its own; those before it are skipped
abbrev pub call_or : Option PointCall → List SimStep → Option (PointCall × List SimStep)
    → Option (PointCall × List SimStep)
call_or (Some call) steps later = Some (call, steps)
call_or None steps later = later

abbrev pub first_call : BookState → ℕ → List SimStep → Option (PointCall × List SimStep)
first_call book now [] = None
first_call book now (step ∷ steps) =
    call_or (call_of book now step) steps (first_call book now steps)

-- ---- the change of its reply

-- If the reply to a StartTransaction brings a number, the transaction of that number begins, at the
-- moment of the call (OCPP 1.6, 4.8) and with its profile (5.11). A reply without a number begins
-- nothing, and the profile is dropped. Any reply to a StopTransaction ends the transaction (4.10).
abbrev pub book_replied : BookState → PointCall → Option ℤ → BookState
book_replied book Heartbeat transaction = book
book_replied book (StartTransaction connector begin profile) None = book
book_replied book (StartTransaction connector begin profile) (Some transaction) =
    book_started book connector begin transaction profile
book_replied book (StopTransaction transaction meter_stop timestamp) reply =
    book_stopped book transaction
