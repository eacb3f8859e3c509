-- The connectors at which a profile may be installed.
use Rattle.std.specs.Prelude.{ℕ, ◌≡◌, ◌≢◌, ◌<◌, nat_lt, ◌==◌, not, ◌&&◌, List, [], ◌∷◌, length, Option, Some, None, if◌then◌else◌}
use Rattle.std.specs.List.{AllByRecursion}
use Rattle.ocpp_scalars.specs.declared.refusal.Refusal.{Refusal}
use Rattle.ocpp_scalars.specs.declared.refusal.Refusal.TheVariants.{UnknownPoint, UnknownConnector, MaxNotAtZero, TxAtZero, WrongUnit}
use Rattle.ocpp_scalars.specs.Causes.{Cause, ◌because◌}
use Rattle.profile.specs.declared.purpose.Purpose.TheVariants.{ChargePointMaxProfile, TxProfile}
use Rattle.profile.specs.Purpose.{is_charge_point_max, is_tx}
use Rattle.profile.specs.Unit.{unit_eq}
use Rattle.profile.specs.declared.unit.Unit.{Unit}
use Rattle.profile.specs.declared.charging_profile.Profile.{Profile}
use Rattle.site_rules.specs.Site.{PointEntry, SiteState, HasConnector, entry_of}

-- no point of the site has the identity
abbrev pub HasNoPoint : SiteState → List ℕ → Type 0
HasNoPoint site id = AllByRecursion (λ (point : PointEntry). id ≢ point.id) site.points

-- The causes why a profile may not be installed at a connector of a point of the site, in the order
-- of their checks. Connector 0 is the whole point: a ChargePointMaxProfile is installed only there,
-- a TxProfile never (OCPP 1.6, 3.13.1 and 5.16.4). A schedule's unit is the site's (our choice).
abbrev pub admission_causes : SiteState → List ℕ → ℕ → Profile → List Cause
admission_causes site id connector profile =
    (UnknownPoint because HasNoPoint site id)
    ∷ (UnknownConnector because ¬ HasConnector site id connector)
    ∷ (MaxNotAtZero because (profile.purpose ≡ ChargePointMaxProfile) × (0 < connector))
    ∷ (TxAtZero because (profile.purpose ≡ TxProfile) × (connector ≡ 0))
    ∷ (WrongUnit because profile.schedule.unit ≢ site.unit)
    ∷ []

-- the same by one test after another, for the point found
abbrev pub refusal_at : Unit → Option PointEntry → ℕ → Profile → Option Refusal
refusal_at unit None connector profile = Some UnknownPoint
refusal_at unit (Some point) connector profile =
    if nat_lt (length point.ceilings) connector then Some UnknownConnector
    else if is_charge_point_max profile.purpose && nat_lt 0 connector then Some MaxNotAtZero
    else if is_tx profile.purpose && (connector == 0) then Some TxAtZero
    else if not (unit_eq profile.schedule.unit unit) then Some WrongUnit
    else None

-- the refusal of a profile at a connector of a point of the site: by the law `admissions` the first
-- of these causes
abbrev pub admission_refusal : SiteState → List ℕ → ℕ → Profile → Option Refusal
admission_refusal site id connector profile =
    refusal_at site.unit (entry_of site id) connector profile
