-- Added for the prover: the profile is the value of its key.
use Rattle.std.proofs.Common.{codes}
use Rattle.messages.proofs.FieldsText.{one_later_field}
use Rattle.messages.proofs.call_text.push_profile_field.Goals as goal

pub returns-in_ok-push_profile : goal.returns-in_ok-push_profile
returns-in_ok-push_profile c =
    rw c.in-Some.is (one_later_field _ (codes "chargingProfile") _ _ _
    c.in_ok-push_str.ensures.bytes c.in_ok-push_profile.ensures)
