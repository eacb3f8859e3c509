-- The error code and the description of a CALLERROR, by the fault of the CALL (OCPP-J 1.6, 4.2.3).
use Rattle.std.specs.Prelude.{Bool, true, false, ℕ, List, [], codes}
use Rattle.ocpp_scalars.specs.declared.refusal.Refusal.{Refusal}
use Rattle.ocpp_scalars.specs.declared.refusal.Refusal.TheVariants as refusals
use Rattle.ocpp_scalars.specs.Refusal.{refusal_name}
use Rattle.messages.specs.declared.call_fault.CallFault.{CallFault}
use Rattle.messages.specs.declared.call_fault.CallFault.TheVariants.{FormationViolation, NotImplemented, OccurenceConstraintViolation, TypeConstraintViolation, PropertyConstraintViolation, Refused}
use Rattle.messages.specs.FieldName.{fault_field_text}

-- The code of a refused ClearChargingProfile, StartTransaction or StopTransaction, and of any CALL
-- if memory runs out. A ClearChargingProfile is never refused for its connector.
abbrev pub refused_code : Refusal → List ℕ
refused_code refusals.UnknownConnector = codes "PropertyConstraintViolation"
refused_code _ = codes "InternalError"

abbrev pub fault_code : CallFault → List ℕ
fault_code FormationViolation = codes "FormationViolation"
fault_code NotImplemented = codes "NotImplemented"
fault_code (OccurenceConstraintViolation name) = codes "OccurenceConstraintViolation"
fault_code (TypeConstraintViolation name) = codes "TypeConstraintViolation"
fault_code (PropertyConstraintViolation name) = codes "PropertyConstraintViolation"
fault_code (Refused refusal) = refused_code refusal

-- The description: the name of the field at fault, or of the refusal.
abbrev pub fault_description : CallFault → List ℕ
fault_description FormationViolation = []
fault_description NotImplemented = []
fault_description (OccurenceConstraintViolation name) = fault_field_text name
fault_description (TypeConstraintViolation name) = fault_field_text name
fault_description (PropertyConstraintViolation name) = fault_field_text name
fault_description (Refused refusal) = refusal_name refusal

-- A failed allocation says nothing about the CALL.
abbrev pub is_memory : CallFault → Bool
is_memory (Refused refusals.OutOfMemory) = true
is_memory _ = false
