-- The decision on credentials, case by case. The clauses of `admit` say the same by `IsAdmitted`.
use Rattle.std.specs.Prelude.{ℕ, Bool, true, List, Option, Some, None, if◌then◌else◌}
use Rattle.std.specs.String.{string_bytes}
use Rattle.std.specs.Str.{bytes_eq}
use Rattle.site_keys.specs.declared.role.Role.{Role}
use Rattle.site_keys.specs.declared.role.Role.TheVariants.{Point, Operator}
use Rattle.site_keys.specs.declared.admission.Admission.{Admission}
use Rattle.site_keys.specs.declared.admission.Admission.TheVariants.{Admitted, Unauthorized, Forbidden}
use Rattle.site_keys.specs.Key.{KeyState}
use Rattle.site_keys.specs.ByCases.Key.{has_right_key}
use Rattle.site_keys.specs.ByCases.Credentials.{CredentialsState}

pub data Decision : Type 0 where
  admitted : List ℕ → Decision
  unauthorized : Decision
  forbidden : Decision

abbrev pub decision : Admission → Decision
decision (Admitted user) = admitted (string_bytes user)
decision Unauthorized = unauthorized
decision Forbidden = forbidden

abbrev pub is_own : Role → List ℕ → List ℕ → Bool
is_own Point identity user = bytes_eq user identity
is_own Operator identity user = true

abbrev pub decided_of_user : Role → List ℕ → List ℕ → Decision
decided_of_user role identity user = if is_own role identity user then admitted user else forbidden

abbrev pub decided_of : List KeyState → Role → List ℕ → Option CredentialsState → Decision
decided_of keys role identity None = unauthorized
decided_of keys role identity (Some sent) =
    if has_right_key role sent.user sent.password keys then decided_of_user role identity sent.user
    else unauthorized
