-- A site file read part by part, value by value. For private clauses.
use Rattle.std.specs.Prelude.{ℕ, ◌≡◌, ◌==◌, ◌≤◌, ◌+◌, min, false, List, [], ◌∷◌, ◌++◌, length, codes, Option, Some, None, option_map, option_and_then, unwrap_or, IfSome, Vec, Result, Ok, Err, if◌then◌else◌}
use Rattle.std.specs.Option.{option_map_or}
use Rattle.std.specs.Result.{result_ok}
use Rattle.std.specs.Str.{bytes_eq}
use Rattle.std.specs.declared.alloc.Global.{Global}
use Rattle.json.specs.Token.{Token}
use Rattle.json.specs.Json.{items, members, parse_map, value}
use Rattle.serde_json.specs.Data as json
use Rattle.serde_json.specs.Read.{converted, of_json, of_items, of_members}
use Rattle.ocpp_scalars.specs.ByCases.Number.{tenths_of}
use Rattle.ocpp_scalars.specs.ResultSteps.{◌>>=◌}
use Rattle.ocppj_frame.specs.Field.{of_kind, of_scalar, unless_null}
use Rattle.ocppj_frame.specs.Read.{name_of_key, tree_of_string}
use Rattle.ocppj_frame.specs.Tree as parts
use Rattle.ocppj_frame.specs.Tree.{Tree, null, boolean, text, number, list, object, Trees, no_entries, Fields, no_fields, field, field_at, as_list, as_number, as_text, is_object}
use Rattle.profile.specs.declared.unit.Unit.TheVariants.{A}
use Rattle.profile.specs.Names.{unit_named}
use Rattle.site_rules.specs.declared.fault.SiteFault.{SiteFault}
use Rattle.site_rules.specs.declared.fault.SiteFault.TheVariants as faults
use Rattle.site_rules.specs.declared.reading.glance.Glance.{Glance}
use Rattle.site_rules.specs.declared.reading.glance.Glance.TheVariants as glances
use Rattle.site_rules.specs.declared.reading.entry.PointFields.{PointFields}
use Rattle.site_rules.specs.declared.reading.entries.FoundPoints.{FoundPoints}
use Rattle.site_rules.specs.declared.reading.whole.SiteFields.{SiteFields}
use Rattle.site_rules.specs.Limits.{max_connectors, max_points}
use Rattle.site_rules.specs.Site.{PointEntry, SiteState}
use Rattle.site_rules.specs.ByCases.SiteReading.{or_fault, some_or, few_or, id_or_wrong, unused_id, ceiling_of, with_point, with_points}

-- the fields with one of this name; the same if there is no name
abbrev pub with_named : Option (List ℕ) → Tree → Fields → Fields
with_named None value others = others
with_named (Some name) value others = field name value others

-- The tree of a value, with null in place of each malformed number, and without the fields whose
-- key isn't a text. If `tree_of` has a tree, it is the same.
abbrev mutual
  pub mended_tree : json.Data → Tree
  mended_tree json.null = null
  mended_tree (json.boolean b) = boolean b
  mended_tree (json.number n) = null
  mended_tree (json.string bytes) = unwrap_or (tree_of_string bytes) null
  mended_tree (json.array ds) = list (mended_trees ds)
  mended_tree (json.object ms) = object (mended_fields ms)

  pub mended_trees : json.Items → Trees
  mended_trees json.no_items = no_entries
  mended_trees (json.item d ds) = parts.entry (mended_tree d) (mended_trees ds)

  pub mended_fields : json.Members → Fields
  mended_fields json.no_members = no_fields
  mended_fields (json.member key d ms) =
      with_named (name_of_key key) (mended_tree d) (mended_fields ms)

-- the tree that the tokens begin with, and the tokens after it
abbrev pub tree_at : ℕ → List Token → Option (Tree × List Token)
tree_at depth tokens = parse_map mended_tree (converted of_json (value depth tokens))

-- the trees up to the end of a list, in at most n iterations
abbrev pub trees_at : ℕ → ℕ → List Token → Option (Trees × List Token)
trees_at depth n tokens =
    parse_map mended_trees (converted of_items (items (value depth) n tokens))

-- the fields up to the end of an object, in at most n iterations, after those found so far
abbrev pub fields_at : ℕ → ℕ → json.Members → List Token → Option (Fields × List Token)
fields_at depth n found tokens =
    parse_map mended_fields
    (converted (λ ms. of_members ms found) (members (value depth) n tokens))

-- a tree without the contents of a list or an object, and without the value of a boolean
abbrev pub shown : Tree → Tree
shown null = null
shown (boolean b) = boolean false
shown (text bytes) = text bytes
shown (number bytes) = number bytes
shown (list ts) = list no_entries
shown (object fs) = object no_fields

abbrev pub glance_tree : Glance → Tree
glance_tree glances.Null = null
glance_tree glances.Bool = boolean false
glance_tree (glances.Text t) = text t.now
glance_tree (glances.Number t) = number t.now
glance_tree glances.List = list no_entries
glance_tree glances.Object = object no_fields

-- the tokens begin with a tree, and the glance is of that tree
pub record IsGlanceAt (depth : ℕ) (tokens rest : List Token) (glance : Glance) : Type 0 where
  pub tree : Tree
  pub here : tree_at depth tokens ≡ Some (tree, rest)
  pub seen : glance_tree glance ≡ shown tree

-- the ceilings of a point's connectors and one more; `None` if it isn't a ceiling, or there are too
-- many
abbrev pub with_ceiling : Option (List ℕ) → Tree → Option (List ℕ)
with_ceiling None tree = None
with_ceiling (Some ceilings) tree =
    if length ceilings == max_connectors then None
    else option_map (λ ceiling. ceilings ++ ceiling ∷ []) (result_ok (ceiling_of tree))

abbrev pub with_ceilings : Option (List ℕ) → List Tree → Option (List ℕ)
with_ceilings kept [] = kept
with_ceilings kept (tree ∷ trees) = with_ceilings (with_ceiling kept tree) trees

abbrev pub unless_empty : Option (List ℕ) → Option (List ℕ)
unless_empty None = None
unless_empty (Some []) = None
unless_empty (Some (c ∷ cs)) = Some (c ∷ cs)

abbrev pub ceilings_in : List Tree → Option (List ℕ)
ceilings_in trees = unless_empty (with_ceilings (Some []) trees)

-- the ceilings in the field `connectors`, if it is valid
abbrev pub connectors_in : Tree → Option (List ℕ)
connectors_in tree = option_and_then ceilings_in (as_list tree)

-- no more ceilings were kept than a point may have
abbrev pub HasFewCeilings : Option (Vec ℕ Global) → Type 0
HasFewCeilings kept = IfSome kept (λ ceilings. length ceilings.items ≤ max_connectors)

-- the fields with this tree at this name
abbrev pub IsPut : List ℕ → Tree → Fields → Fields → Type 0
IsPut name tree fields more =
    (other : List ℕ)
    → field_at other more ≡ (if bytes_eq name other then Some tree else field_at other fields)

-- the fields with this tree at the name of this key; the same if the key has no name
abbrev pub IsPutBy : Option (List ℕ) → Tree → Fields → Fields → Type 0
IsPutBy None tree fields more = (other : List ℕ) → field_at other more ≡ field_at other fields
IsPutBy (Some name) tree fields more = IsPut name tree fields more

-- the value of a field; an absent one counts as null
abbrev pub field_or_null : List ℕ → Fields → Tree
field_or_null name fields = unwrap_or (field_at name fields) null

-- the fields read from an entry of `points` that is an object
pub record ArePointFields (point : PointFields) (fields : Fields) : Type 0 where
  pub id : glance_tree point.id ≡ shown (field_or_null (codes "id") fields)
  pub ceiling : glance_tree point.ceiling ≡ shown (field_or_null (codes "ceiling") fields)
  pub connectors : option_map (λ ceilings. ceilings.items) point.connectors
      ≡ connectors_in (field_or_null (codes "connectors") fields)

abbrev pub HasFew : Option PointFields → Type 0
HasFew entry = IfSome entry (λ point. HasFewCeilings point.connectors)

-- a tree follows the name, and has been read too
pub record IsPointFieldMore (depth : ℕ) (tokens rest : List Token) (name : List ℕ)
    (point more : PointFields) : Type 0 where
  pub tree : Tree
  pub here : tree_at depth tokens ≡ Some (tree, rest)
  pub fields : (before after : Fields) → ArePointFields point before
      → IsPut name tree before after
      → ArePointFields more after

-- the same after a key, which may have no name
pub record IsPointMemberMore (depth : ℕ) (tokens rest : List Token) (key : List ℕ)
    (point more : PointFields) : Type 0 where
  pub tree : Tree
  pub here : tree_at depth tokens ≡ Some (tree, rest)
  pub fields : (before after : Fields) → ArePointFields point before
      → IsPutBy (name_of_key key) tree before after
      → ArePointFields more after

-- the fields read from any entry
pub data IsEntry : Option PointFields → Tree → Type 0 where
  no_object : (tree : Tree) → is_object tree ≡ false → IsEntry None tree
  an_object : (point : PointFields) (fields : Fields) → ArePointFields point fields
      → IsEntry (Some point) (object fields)

-- the point of these fields, after the earlier points of the site
unfoldable pub point_by : SiteState → Tree → Tree → Option (List ℕ) → Result PointEntry SiteFault
point_by earlier id ceiling connectors = do
  named ← or_fault faults.BadId (id_or_wrong (of_kind as_text (unless_null id)))
  unused ← unused_id earlier named
  tenths ← or_fault faults.BadCeiling (of_scalar as_number tenths_of (unless_null ceiling))
  ceilings ← some_or faults.BadConnectors connectors
  Ok (record { id = unused; ceiling = tenths; ceilings = ceilings })

abbrev pub entry_point : SiteState → Option PointFields → Result PointEntry SiteFault
entry_point earlier None = Err faults.BadPoints
entry_point earlier (Some point) =
    point_by earlier (glance_tree point.id) (glance_tree point.ceiling)
    (option_map (λ ceilings. ceilings.items) point.connectors)

-- the points with that of one more entry, up to the first fault
abbrev pub with_entry : Result SiteState SiteFault → Option PointFields → Result SiteState SiteFault
with_entry points entry =
    points >>= (λ (site : SiteState).
    entry_point site entry >>= (λ (point : PointEntry).
    Ok (with_point site point)))

-- no points, in a unit that the site's unit replaces later
abbrev pub no_points : SiteState
no_points = record { unit = A; points = [] }

-- the points found in the first entries of `points`
pub record AreFound (found : FoundPoints) (entries : List Tree) : Type 0 where
  pub count : found.count ≡ min (length entries) (max_points + 1)
  pub points : length entries ≤ max_points → found.points ≡ with_points no_points entries

abbrev pub few_points : List Tree → Result SiteState SiteFault
few_points entries =
    few_or faults.BadPoints max_points entries >>= (λ (few : List Tree). with_points no_points few)

-- the points in the field `points`
abbrev pub points_in : Tree → Result SiteState SiteFault
points_in tree = option_map_or few_points (as_list tree) (Err faults.BadPoints)

-- the fields read from a site file that is an object
pub record AreSiteFields (site : SiteFields) (fields : Fields) : Type 0 where
  pub unit : glance_tree site.unit ≡ shown (field_or_null (codes "unit") fields)
  pub points : site.points ≡ points_in (field_or_null (codes "points") fields)

-- a tree follows the name, and has been read too
pub record IsSiteFieldMore (depth : ℕ) (tokens rest : List Token) (name : List ℕ)
    (site more : SiteFields) : Type 0 where
  pub tree : Tree
  pub here : tree_at depth tokens ≡ Some (tree, rest)
  pub fields : (before after : Fields) → AreSiteFields site before
      → IsPut name tree before after
      → AreSiteFields more after

-- the same after a key, which may have no name
pub record IsSiteMemberMore (depth : ℕ) (tokens rest : List Token) (key : List ℕ)
    (site more : SiteFields) : Type 0 where
  pub tree : Tree
  pub here : tree_at depth tokens ≡ Some (tree, rest)
  pub fields : (before after : Fields) → AreSiteFields site before
      → IsPutBy (name_of_key key) tree before after
      → AreSiteFields more after

unfoldable pub site_by_fields : Tree → Result SiteState SiteFault → Result SiteState SiteFault
site_by_fields named points = do
  name ← or_fault faults.BadUnit (of_kind as_text (unless_null named))
  unit ← some_or faults.BadUnit (unit_named name)
  site ← points
  Ok (record { unit = unit; points = site.points })
