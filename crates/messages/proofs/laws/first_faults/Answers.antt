-- `FirstFaults` proves the law.
use Rattle.messages.specs.Action.{action_of_kind}
use Rattle.messages.specs.FieldFaults.{field_faults}
use Rattle.messages.proofs.FirstFaults.{action_first, action_law, fault_law}
use Rattle.messages.proofs.laws.first_faults.Goals as goal

pub returns-clause-action : goal.returns-clause-action
returns-clause-action c kind payload = action_law (action_of_kind kind payload) (field_faults kind payload) (action_first kind payload)

pub returns-clause-fault : goal.returns-clause-fault
returns-clause-fault c kind payload = fault_law (action_of_kind kind payload) (field_faults kind payload) (action_first kind payload)
