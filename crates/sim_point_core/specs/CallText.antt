-- The texts of a charge point's calls, byte for byte (OCPP 1.6, chapter 6; OCPP-J 1.6, 4.2.1): keys
-- in the order of the standard's tables, no blanks.
use Rattle.std.specs.Prelude.{ℕ, ℤ, List, [], ◌∷◌, Some, codes}
use Rattle.std.specs.Fmt.{decimal, signed_decimal}
use Rattle.json.specs.Print.{quoted}
use Rattle.ocppj_frame.specs.Write as frames
use Rattle.transactions.specs.declared.begin.Begin.{Begin}
use Rattle.messages.specs.ObjectText.{object_text, time_text}
use Rattle.sim_point_core.specs.declared.point_call.PointCall.{PointCall}
use Rattle.sim_point_core.specs.declared.point_call.PointCall.TheVariants.{Heartbeat, StartTransaction, StopTransaction}

abbrev pub action_name : PointCall → List ℕ
action_name Heartbeat = codes "Heartbeat"
action_name (StartTransaction connector begin profile) = codes "StartTransaction"
action_name (StopTransaction transaction meter_stop timestamp) = codes "StopTransaction"

-- StartTransaction.req
unfoldable pub start_text : ℕ → Begin → List ℕ
start_text connector begin = object_text (
    (codes "connectorId", Some (decimal connector))
    ∷ (codes "idTag", Some (quoted begin.id_tag))
    ∷ (codes "meterStart", Some (signed_decimal begin.meter_start))
    ∷ (codes "timestamp", Some (time_text begin.timestamp))
    ∷ [])

-- StopTransaction.req
unfoldable pub stop_text : ℤ → ℤ → ℕ → List ℕ
stop_text transaction meter_stop timestamp = object_text (
    (codes "transactionId", Some (signed_decimal transaction))
    ∷ (codes "timestamp", Some (time_text timestamp))
    ∷ (codes "meterStop", Some (signed_decimal meter_stop))
    ∷ [])

-- Heartbeat.req has no fields
abbrev pub payload_text : PointCall → List ℕ
payload_text Heartbeat = object_text []
payload_text (StartTransaction connector begin profile) = start_text connector begin
payload_text (StopTransaction transaction meter_stop timestamp) =
    stop_text transaction meter_stop timestamp

-- the text of a call, whose message id is its number in decimal
abbrev pub call_text : ℕ → PointCall → List ℕ
call_text number call = frames.call_text (decimal number) (action_name call) (payload_text call)
