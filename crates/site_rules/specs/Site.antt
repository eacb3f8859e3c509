-- A site: its rate unit and its charge points.
use Rattle.std.specs.Prelude.{ℕ, ◌≤◌, ◌≡◌, List, length, Option, Some, string_bytes, slice_get, option_and_then}
use Rattle.std.specs.List.{position}
use Rattle.std.specs.Str.{bytes_eq}
use Rattle.std.specs.declared.string.String.{String}
use Rattle.profile.specs.declared.unit.Unit.{Unit}
use Rattle.site_rules.specs.declared.point.PointLimits.{PointLimits}
use Rattle.site_rules.specs.declared.point.SitePoint.{SitePoint}

pub record PointEntry : Type 0 where
  -- its identity (OCPP-J 1.6, 3.1.1)
  pub id : List ℕ
  -- its ceiling, in tenths
  pub ceiling : ℕ
  -- the ceilings of connectors 1, 2, .., in tenths
  pub ceilings : List ℕ

pub record SiteState : Type 0 where
  -- the unit of all limits
  pub unit : Unit
  -- its charge points, in the order of the site file
  pub points : List PointEntry

-- the index of the point with an identity, from 0
abbrev pub place_of : SiteState → List ℕ → Option ℕ
place_of site id = position (λ (point : PointEntry). bytes_eq id point.id) site.points

-- the point with an identity
abbrev pub entry_of : SiteState → List ℕ → Option PointEntry
entry_of site id = option_and_then (slice_get site.points) (place_of site id)

-- the point at this index has this identity
pub record IsPlaceOf (site : SiteState) (id : List ℕ) (place : ℕ) : Type 0 where
  pub point : PointEntry
  pub here : slice_get site.points place ≡ Some point
  pub same : point.id ≡ id

-- there is a point of this identity, and it has this connector or the connector is 0, the whole
-- point
pub record HasConnector (site : SiteState) (id : List ℕ) (connector : ℕ) : Type 0 where
  pub point : PointEntry
  pub here : entry_of site id ≡ Some point
  pub within : connector ≤ length point.ceilings

-- a borrowed point
abbrev pub point_entry : SitePoint → PointEntry
point_entry point =
    record { id = point.id.now; ceiling = point.ceiling; ceilings = point.ceilings.now }

-- a point as a site keeps it
abbrev pub kept_entry : {A : Type 0} → String A × PointLimits → PointEntry
kept_entry kept =
    record { id = string_bytes kept.0; ceiling = kept.1.ceiling; ceilings = kept.1.ceilings.items }
