-- A refusal as the fault of a line. Lack of memory isn't a line's fault.
use Rattle.ocpp_scalars.specs.declared.refusal.Refusal.{Refusal}
use Rattle.ocpp_scalars.specs.declared.refusal.Refusal.TheVariants as refusals
use Rattle.journal.specs.declared.restore_fault.RestoreFault.{RestoreFault}
use Rattle.journal.specs.declared.restore_fault.RestoreFault.TheVariants.{Refused, OutOfMemory}

abbrev pub fault_of_refusal : Refusal → RestoreFault
fault_of_refusal refusals.OutOfMemory = OutOfMemory
fault_of_refusal refusal = Refused refusal
