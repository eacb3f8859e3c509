-- The fault of a site file that is reported: the first, in the order of its parts.
use Rattle.std.specs.Prelude.{ℕ, ◌<◌, ◌≤◌, ◌≡◌, ◌≢◌, false, true, List, ◌∷◌, ◌++◌, length, Some, None}
use Rattle.std.specs.List.{AllByRecursion, AllZip}
use Rattle.std.specs.Str.{IsUtf8}
use Rattle.ocppj_frame.specs.Tree.{Tree, is_object}
use Rattle.ocppj_frame.specs.Read.{tree_of_text}
use Rattle.profile.specs.declared.unit.Unit.{Unit}
use Rattle.site_rules.specs.declared.fault.SiteFault.{SiteFault}
use Rattle.site_rules.specs.declared.fault.SiteFault.TheVariants.{TooLarge, NotUtf8, NotJson, NotAnObject, BadUnit, BadPoints, BadId, SameId, BadCeiling, BadConnectors}
use Rattle.site_rules.specs.Limits.{max_site_bytes}
use Rattle.site_rules.specs.Site.{PointEntry}
use Rattle.site_rules.specs.SiteFile.{HasId, HasCeiling, HasConnectors, IsPoint, AreApart, HasUnit, HasPoints}

-- no earlier point has the identity
abbrev pub IsUnused : List PointEntry → List ℕ → Type 0
IsUnused earlier id = AllByRecursion (λ (point : PointEntry). id ≢ point.id) earlier

-- an entry of `points` after those of the points so far, and its first fault
pub data IsPointFault : List PointEntry → Tree → SiteFault → Type 0 where
  no_object : (earlier : List PointEntry) (tree : Tree) → is_object tree ≡ false
      → IsPointFault earlier tree BadPoints
  no_id : (earlier : List PointEntry) (tree : Tree) → is_object tree ≡ true
      → ((id : List ℕ) → ¬ HasId tree id)
      → IsPointFault earlier tree BadId
  same_id : (earlier : List PointEntry) (tree : Tree) (id : List ℕ) → is_object tree ≡ true
      → HasId tree id → ¬ IsUnused earlier id
      → IsPointFault earlier tree SameId
  no_ceiling : (earlier : List PointEntry) (tree : Tree) (id : List ℕ) → is_object tree ≡ true
      → HasId tree id → IsUnused earlier id → ((ceiling : ℕ) → ¬ HasCeiling tree ceiling)
      → IsPointFault earlier tree BadCeiling
  no_connectors :
      (earlier : List PointEntry) (tree : Tree) (id : List ℕ) (ceiling : ℕ)
      → is_object tree ≡ true
      → HasId tree id → IsUnused earlier id → HasCeiling tree ceiling
      → ((ceilings : List ℕ) → ¬ HasConnectors tree ceilings)
      → IsPointFault earlier tree BadConnectors

-- the tree of a file, and its first fault; the entries before the one with the fault describe
-- points
pub data IsTreeFault : Tree → SiteFault → Type 0 where
  other_tree : (tree : Tree) → is_object tree ≡ false → IsTreeFault tree NotAnObject
  no_unit : (tree : Tree) → is_object tree ≡ true → ((unit : Unit) → ¬ HasUnit tree unit)
      → IsTreeFault tree BadUnit
  no_points : (tree : Tree) (unit : Unit) → is_object tree ≡ true → HasUnit tree unit
      → ((list : List Tree) → ¬ HasPoints tree list)
      → IsTreeFault tree BadPoints
  of_point : (tree : Tree) (unit : Unit) (before : List Tree) (entry : Tree) (after : List Tree)
      → (points : List PointEntry) (fault : SiteFault) → is_object tree ≡ true → HasUnit tree unit
      → HasPoints tree (before ++ entry ∷ after) → AllZip IsPoint before points → AreApart points
      → IsPointFault points entry fault
      → IsTreeFault tree fault

-- a file, and its first fault
pub data IsSiteFault : List ℕ → SiteFault → Type 0 where
  too_large : (bytes : List ℕ) → max_site_bytes < length bytes → IsSiteFault bytes TooLarge
  no_text :
      (bytes : List ℕ) → length bytes ≤ max_site_bytes → ¬ IsUtf8 bytes → IsSiteFault bytes NotUtf8
  no_tree : (bytes : List ℕ) → length bytes ≤ max_site_bytes → IsUtf8 bytes
      → tree_of_text bytes ≡ None
      → IsSiteFault bytes NotJson
  of_tree : (bytes : List ℕ) (tree : Tree) (fault : SiteFault) → length bytes ≤ max_site_bytes
      → IsUtf8 bytes → tree_of_text bytes ≡ Some tree → IsTreeFault tree fault
      → IsSiteFault bytes fault
