-- The form of a site file, and the site that it describes.
use Rattle.std.specs.Prelude.{ℕ, ◌≤◌, nat_le, ◌==◌, ◌≡◌, ◌≢◌, ⊤, Bool, true, ◌&&◌, ◌||◌, List, [], ◌∷◌, length, codes, Some, Ok}
use Rattle.std.specs.List.{AllByRecursion, AllZip}
use Rattle.std.specs.Str.{IsUtf8}
use Rattle.ocpp_scalars.specs.Ascii.{upper_z, lower_z, digit_zero, digit_nine, dot, underscore, minus, tilde}
use Rattle.ocpp_scalars.specs.ByCases.Number.{tenths_of}
use Rattle.ocppj_frame.specs.declared.field.Field.TheVariants.{Value}
use Rattle.ocppj_frame.specs.Field.{text_field_of, tenths_field_of, list_field_of}
use Rattle.ocppj_frame.specs.Tree.{Tree, number, is_object}
use Rattle.ocppj_frame.specs.Read.{tree_of_text}
use Rattle.profile.specs.declared.unit.Unit.{Unit}
use Rattle.profile.specs.Names.{unit_named}
use Rattle.site_rules.specs.Limits.{max_site_bytes, max_points, max_connectors, max_point_id_characters}
use Rattle.site_rules.specs.Site.{PointEntry, SiteState}

abbrev pub upper_a : ℕ
upper_a = 65

abbrev pub lower_a : ℕ
lower_a = 97

-- A letter, a digit, `.`, `_`, `-` or `~`: the characters that a URL needn't escape (RFC 3986,
-- 2.3). A point's identity is the last segment of the URL that it connects to (OCPP-J 1.6, 3.1.1).
abbrev pub is_id_byte : ℕ → Bool
is_id_byte b =
    (nat_le upper_a b && nat_le b upper_z) || (nat_le lower_a b && nat_le b lower_z)
    || (nat_le digit_zero b && nat_le b digit_nine)
    || (b == dot) || (b == underscore) || (b == minus) || (b == tilde)

pub record IsPointId (id : List ℕ) : Type 0 where
  pub some : 1 ≤ length id
  pub short : length id ≤ max_point_id_characters
  pub bytes : AllByRecursion (λ b. is_id_byte b ≡ true) id

-- the field `id` of a point
pub record HasId (tree : Tree) (id : List ℕ) : Type 0 where
  pub text : text_field_of (codes "id") tree ≡ Value id
  pub allowed : IsPointId id

-- a connector's ceiling: a number of tenths
pub record IsCeiling (tree : Tree) (tenths : ℕ) : Type 0 where
  pub text : List ℕ
  pub is_number : tree ≡ number text
  pub worth : tenths_of text ≡ Ok tenths

-- the field `ceiling` of a point
abbrev pub HasCeiling : Tree → ℕ → Type 0
HasCeiling tree tenths = tenths_field_of (codes "ceiling") tree ≡ Value tenths

-- the field `connectors` of a point: the ceilings of its connectors 1, 2, ..
pub record HasConnectors (tree : Tree) (ceilings : List ℕ) : Type 0 where
  pub list : List Tree
  pub entries : list_field_of (codes "connectors") tree ≡ Value list
  pub some : 1 ≤ length list
  pub few : length list ≤ max_connectors
  pub each : AllZip IsCeiling list ceilings

-- an object of the list `points`, and the point that it describes
pub record IsPoint (tree : Tree) (point : PointEntry) : Type 0 where
  pub object : is_object tree ≡ true
  pub id : HasId tree point.id
  pub ceiling : HasCeiling tree point.ceiling
  pub connectors : HasConnectors tree point.ceilings

-- no two points have one identity
abbrev pub AreApart : List PointEntry → Type 0
AreApart [] = ⊤
AreApart (point ∷ later) =
    AllByRecursion (λ (other : PointEntry). other.id ≢ point.id) later × AreApart later

-- the field `unit` of a site
pub record HasUnit (tree : Tree) (unit : Unit) : Type 0 where
  pub name : List ℕ
  pub text : text_field_of (codes "unit") tree ≡ Value name
  pub names : unit_named name ≡ Some unit

-- the field `points` of a site
pub record HasPoints (tree : Tree) (list : List Tree) : Type 0 where
  pub entries : list_field_of (codes "points") tree ≡ Value list
  pub some : 1 ≤ length list
  pub few : length list ≤ max_points

-- A UTF-8 text whose tree is an object with the unit and the list of points, in their order. Other
-- fields are ignored, and a field that is null counts as absent.
pub record IsSiteFile (bytes : List ℕ) (site : SiteState) : Type 0 where
  pub short : length bytes ≤ max_site_bytes
  pub utf8 : IsUtf8 bytes
  pub tree : Tree
  pub json : tree_of_text bytes ≡ Some tree
  pub object : is_object tree ≡ true
  pub unit : HasUnit tree site.unit
  pub list : List Tree
  pub points : HasPoints tree list
  pub each : AllZip IsPoint list site.points
  pub apart : AreApart site.points
