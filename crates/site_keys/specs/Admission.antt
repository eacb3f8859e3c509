-- Admission of clients by their credentials.
use Rattle.std.specs.Prelude.{ℕ, ◌≡◌, ◌↔◌, List, Option, IsSomeAnd}
use Rattle.std.specs.String.{string_bytes}
use Rattle.site_keys.specs.declared.role.Role.{Role}
use Rattle.site_keys.specs.declared.role.Role.TheVariants.{Point, Operator}
use Rattle.site_keys.specs.declared.admission.Admission.{Admission}
use Rattle.site_keys.specs.declared.admission.Admission.TheVariants.{Admitted, Unauthorized, Forbidden}
use Rattle.site_keys.specs.Key.{KeyState, HasRightKey}
use Rattle.site_keys.specs.Credentials.{IsBasic}

-- the header has this user, and a password that opens a key of this role
pub record IsRight (keys : List KeyState) (role : Role) (header : Option (List ℕ)) (user : List ℕ)
    : Type 0 where
  pub password : List ℕ
  pub sent : IsSomeAnd header (λ bytes. IsBasic bytes user password)
  pub opens : HasRightKey keys role user password

-- a point connects only as itself: its user is its identity (OCPP-J 1.6, 6.2); an operator connects
-- whatever the identity
abbrev pub IsOwn : Role → List ℕ → List ℕ → Type 0
IsOwn Point identity user = user ≡ identity
IsOwn Operator identity user = Unit {0}

-- a client is admitted as this user
pub record IsAdmitted (keys : List KeyState) (role : Role) (identity : List ℕ)
    (header : Option (List ℕ)) (user : List ℕ) : Type 0 where
  pub right : IsRight keys role header user
  pub own : IsOwn role identity user

-- the credentials are right, but the user may not use this identity
pub record IsForbidden (keys : List KeyState) (role : Role) (identity : List ℕ)
    (header : Option (List ℕ)) : Type 0 where
  pub user : List ℕ
  pub right : IsRight keys role header user
  pub other : ¬ IsOwn role identity user

-- the header has no right credentials
pub record IsUnauthorized (keys : List KeyState) (role : Role) (header : Option (List ℕ))
    : Type 0 where
  pub none : (user : List ℕ) → ¬ IsRight keys role header user

abbrev pub IsAdmittedAs : Admission → List ℕ → Type 0
IsAdmittedAs (Admitted name) user = string_bytes name ≡ user
IsAdmittedAs Unauthorized user = ⊥
IsAdmittedAs Forbidden user = ⊥

-- everything that an admission says
pub record Decides (admission : Admission) (keys : List KeyState) (role : Role) (identity : List ℕ)
    (header : Option (List ℕ)) : Type 0 where
  pub admitted : (user : List ℕ)
      → IsAdmittedAs admission user ↔ IsAdmitted keys role identity header user
  pub forbidden : (admission ≡ Forbidden) ↔ IsForbidden keys role identity header
  pub unauthorized : (admission ≡ Unauthorized) ↔ IsUnauthorized keys role header
