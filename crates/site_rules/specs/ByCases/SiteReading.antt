-- The site of a site file, or its first fault in the order of the checks. By the law `site_files`
-- the site is that of `SiteFile`, and the fault that of `SiteFaults`.
use Rattle.std.specs.Prelude.{ℕ, nat_le, nat_lt, Bool, true, false, not, ◌&&◌, List, [], ◌∷◌, ◌++◌, length, codes, Option, Some, None, is_some, Result, Ok, Err, if◌then◌else◌}
use Rattle.std.specs.List.{list_all}
use Rattle.std.specs.Str.{is_utf8}
use Rattle.ocpp_scalars.specs.declared.number.NumberFault.{NumberFault}
use Rattle.ocpp_scalars.specs.ByCases.Number.{tenths_of}
use Rattle.ocpp_scalars.specs.ResultSteps.{◌>>=◌}
use Rattle.ocppj_frame.specs.declared.field.Field.{Field}
use Rattle.ocppj_frame.specs.declared.field.Field.TheVariants.{Absent, WrongKind, WrongValue, Value}
use Rattle.ocppj_frame.specs.Field.{text_field_of, tenths_field_of, list_field_of}
use Rattle.ocppj_frame.specs.Tree.{Tree, is_object, as_number}
use Rattle.ocppj_frame.specs.Read.{tree_of_text}
use Rattle.profile.specs.Names.{unit_named}
use Rattle.site_rules.specs.declared.fault.SiteFault.{SiteFault}
use Rattle.site_rules.specs.declared.fault.SiteFault.TheVariants as faults
use Rattle.site_rules.specs.Limits.{max_site_bytes, max_points, max_connectors, max_point_id_characters}
use Rattle.site_rules.specs.Site.{PointEntry, SiteState, place_of}
use Rattle.site_rules.specs.SiteFile.{is_id_byte}

-- a field's value; the fault is the same if it is absent, or has a wrong kind or value
abbrev pub or_fault : {A : Type 0} → SiteFault → Field A → Result A SiteFault
or_fault fault Absent = Err fault
or_fault fault WrongKind = Err fault
or_fault fault WrongValue = Err fault
or_fault fault (Value x) = Ok x

abbrev pub some_or : {A : Type 0} → SiteFault → Option A → Result A SiteFault
some_or fault None = Err fault
some_or fault (Some x) = Ok x

abbrev pub object_if : {A : Type 0} → SiteFault → A → Bool → Result A SiteFault
object_if fault tree true = Ok tree
object_if fault tree false = Err fault

abbrev pub object_or : SiteFault → Tree → Result Tree SiteFault
object_or fault tree = object_if fault tree (is_object tree)

-- a list of at least one entry and at most `most`
abbrev pub few_or : SiteFault → ℕ → List Tree → Result (List Tree) SiteFault
few_or fault most entries =
    if nat_le 1 (length entries) && nat_le (length entries) most then Ok entries else Err fault

abbrev pub is_point_id : List ℕ → Bool
is_point_id id =
    nat_le 1 (length id) && nat_le (length id) max_point_id_characters && list_all is_id_byte id

abbrev pub id_or_wrong : Field (List ℕ) → Field (List ℕ)
id_or_wrong Absent = Absent
id_or_wrong WrongKind = WrongKind
id_or_wrong WrongValue = WrongValue
id_or_wrong (Value id) = if is_point_id id then Value id else WrongValue

-- an identity that no earlier point has
abbrev pub unused_id : SiteState → List ℕ → Result (List ℕ) SiteFault
unused_id earlier id = if is_some (place_of earlier id) then Err faults.SameId else Ok id

abbrev pub ceiling_or : Result ℕ NumberFault → Result ℕ SiteFault
ceiling_or (Ok ceiling) = Ok ceiling
ceiling_or (Err fault) = Err faults.BadConnectors

abbrev pub ceiling_by : Option (List ℕ) → Result ℕ SiteFault
ceiling_by None = Err faults.BadConnectors
ceiling_by (Some text) = ceiling_or (tenths_of text)

-- a connector's ceiling, in tenths
abbrev pub ceiling_of : Tree → Result ℕ SiteFault
ceiling_of entry = ceiling_by (as_number entry)

abbrev pub ceilings_of : List Tree → Result (List ℕ) SiteFault
ceilings_of [] = Ok []
ceilings_of (entry ∷ entries) =
    ceiling_of entry >>= (λ (ceiling : ℕ).
    ceilings_of entries >>= (λ (ceilings : List ℕ).
    Ok (ceiling ∷ ceilings)))

-- the ceilings of a point's connectors
unfoldable pub connectors_of : Tree → Result (List ℕ) SiteFault
connectors_of fields = do
  list ← or_fault faults.BadConnectors (list_field_of (codes "connectors") fields)
  entries ← few_or faults.BadConnectors max_connectors list
  ceilings_of entries

-- the point that an entry of `points` describes, after the earlier points of the site
unfoldable pub point_of : SiteState → Tree → Result PointEntry SiteFault
point_of earlier tree = do
  fields ← object_or faults.BadPoints tree
  named ← or_fault faults.BadId (id_or_wrong (text_field_of (codes "id") fields))
  id ← unused_id earlier named
  ceiling ← or_fault faults.BadCeiling (tenths_field_of (codes "ceiling") fields)
  ceilings ← connectors_of fields
  Ok (record { id = id; ceiling = ceiling; ceilings = ceilings })

-- the site with one more point
abbrev pub with_point : SiteState → PointEntry → SiteState
with_point site point = record { unit = site.unit; points = site.points ++ point ∷ [] }

-- the site with the points that the entries describe, one after another
abbrev pub with_points : SiteState → List Tree → Result SiteState SiteFault
with_points site [] = Ok site
with_points site (tree ∷ trees) =
    point_of site tree >>= (λ (point : PointEntry). with_points (with_point site point) trees)

unfoldable pub site_of_tree : Tree → Result SiteState SiteFault
site_of_tree tree = do
  fields ← object_or faults.NotAnObject tree
  name ← or_fault faults.BadUnit (text_field_of (codes "unit") fields)
  unit ← some_or faults.BadUnit (unit_named name)
  list ← or_fault faults.BadPoints (list_field_of (codes "points") fields)
  entries ← few_or faults.BadPoints max_points list
  with_points (record { unit = unit; points = [] }) entries

abbrev pub site_by : Option Tree → Result SiteState SiteFault
site_by None = Err faults.NotJson
site_by (Some tree) = site_of_tree tree

-- the site of a site file, or its first fault
unfoldable pub site_of : List ℕ → Result SiteState SiteFault
site_of bytes =
    if nat_lt max_site_bytes (length bytes) then Err faults.TooLarge
    else if not (is_utf8 bytes) then Err faults.NotUtf8
    else site_by (tree_of_text bytes)

-- a failed allocation isn't a fault of the file
abbrev pub is_memory : SiteFault → Bool
is_memory faults.OutOfMemory = true
is_memory _ = false
