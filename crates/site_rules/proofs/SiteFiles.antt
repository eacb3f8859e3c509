-- The site read from a site file is the one that it describes, both ways.
use Rattle.std.proofs.Common.{◌≡◌, ℕ, ◌≤◌, nat_lt, Bool, true, false, not, List, [], ◌∷◌, ◌++◌, length, codes, Option, Some, None, is_some, Result, Ok, Err, refl, ap, sym, subst, ◌∙◌, append_assoc, arith}
use Rattle.std.specs.Prelude.{◌↔◌, if◌then◌else◌}
use Rattle.std.specs.List.{AllZip}
use Rattle.std.specs.Str.{is_utf8}
use Rattle.std.proofs.lemmas.Str.{IsUtf8-from_is_utf8}
use Rattle.std.proofs.lemmas.List.{append-nil}
use Rattle.std.proofs.lemmas.Bool.Decides.{nat_tests}
use Rattle.ocppj_frame.specs.Field.{text_field_of, tenths_field_of, list_field_of}
use Rattle.ocppj_frame.specs.Read.{tree_of_text}
use Rattle.ocppj_frame.specs.Tree.{Tree, is_object}
use Rattle.profile.specs.declared.unit.Unit.{Unit}
use Rattle.profile.specs.Names.{unit_named}
use Rattle.site_rules.specs.declared.fault.SiteFault.{SiteFault}
use Rattle.site_rules.specs.declared.fault.SiteFault.TheVariants as faults
use Rattle.site_rules.specs.Limits.{max_site_bytes, max_points, max_connectors}
use Rattle.site_rules.specs.Site.{PointEntry, SiteState, place_of}
use Rattle.site_rules.specs.SiteFile.{HasId, IsCeiling, HasConnectors, IsPoint, AreApart, HasUnit, HasPoints, IsSiteFile}
use Rattle.site_rules.specs.SiteFaults.{IsUnused}
use Rattle.site_rules.specs.ByCases.SiteReading.{or_fault, some_or, object_if, object_or, few_or, id_or_wrong, unused_id, connectors_of, point_of, with_point, with_points, site_of_tree, site_by, site_of}
use Rattle.site_rules.proofs.ApartLemmas.{IsNew, AreNewAfter, unused-place, place-unused, apart-new, new-first}
use Rattle.site_rules.proofs.ReadingSteps.{went_on, goes_on, value-or, some-or, object-or, few-or, few-is, id-or_wrong, allowed-id, unused-id, ceilings-are, are-ceilings}
use Rattle.ocpp_scalars.specs.ResultSteps.{◌>>=◌}
use Rattle.site_rules.proofs.SiteLemmas.{site_of-text}

-- ---- the fields

pub id-read : (tree : Tree) (id : List ℕ) → or_fault faults.BadId (id_or_wrong (text_field_of (codes "id") tree)) ≡ Ok id → HasId tree id
id-read tree id h =
    let found = id-or_wrong (text_field_of (codes "id") tree) id (value-or faults.BadId _ id h) in
    record { text = found.0; allowed = found.1 }

pub id-found : (tree : Tree) (id : List ℕ) → HasId tree id → or_fault faults.BadId (id_or_wrong (text_field_of (codes "id") tree)) ≡ Ok id
id-found tree id h = ap (or_fault faults.BadId) (allowed-id _ id h.text h.allowed)

pub connectors-read : (tree : Tree) (ceilings : List ℕ) → connectors_of tree ≡ Ok ceilings → HasConnectors tree ceilings
unfolding connectors_of
connectors-read tree ceilings h =
    let list = went_on (or_fault faults.BadConnectors (list_field_of (codes "connectors") tree)) _ ceilings h in
    let few = went_on (few_or faults.BadConnectors max_connectors list.0) _ ceilings list.2 in
    let size = few-or faults.BadConnectors max_connectors list.0 few.0 few.1 in
    record {
      list = list.0;
      entries = value-or faults.BadConnectors _ list.0 list.1;
      some = size.0;
      few = size.1;
      each = subst (λ (trees : List Tree). AllZip IsCeiling trees ceilings) (sym size.2) (ceilings-are few.0 ceilings few.2);
    }

pub connectors-found : (tree : Tree) (ceilings : List ℕ) → HasConnectors tree ceilings → connectors_of tree ≡ Ok ceilings
unfolding connectors_of
connectors-found tree ceilings h =
    goes_on (or_fault faults.BadConnectors (list_field_of (codes "connectors") tree)) _ h.list (Ok ceilings) (ap (or_fault faults.BadConnectors) h.entries)
    (goes_on (few_or faults.BadConnectors max_connectors h.list) _ h.list (Ok ceilings) (few-is faults.BadConnectors max_connectors h.list h.some h.few) (are-ceilings h.list ceilings h.each))

pub unused-found : (site : SiteState) (id : List ℕ) → IsUnused site.points id → unused_id site id ≡ Ok id
unused-found site id h = rw (place-unused site id h) refl

-- ---- a point

abbrev pub PointOf : SiteState → Tree → PointEntry → Type 0
PointOf site tree point = IsPoint tree point × IsNew site.points point

pub point-read : (site : SiteState) (tree : Tree) (point : PointEntry) → point_of site tree ≡ Ok point → PointOf site tree point
unfolding point_of
point-read site tree point h =
    let object = went_on (object_or faults.BadPoints tree) _ point h in
    let fields = object-or faults.BadPoints tree object.0 object.1 in
    let named = went_on (or_fault faults.BadId (id_or_wrong (text_field_of (codes "id") object.0))) _ point object.2 in
    let unused = went_on (unused_id site named.0) _ point named.2 in
    let new = unused-id site named.0 unused.0 unused.1 in
    let ceiling = went_on (or_fault faults.BadCeiling (tenths_field_of (codes "ceiling") object.0)) _ point unused.2 in
    let ceilings = went_on (connectors_of object.0) _ point ceiling.2 in
    let found : PointEntry = record { id = unused.0; ceiling = ceiling.0; ceilings = ceilings.0 } in
    let same : found ≡ point = cc (ceilings.2) in
    let at : PointOf site object.0 found = (
      record {
        object = ap is_object (sym fields.1) ∙ fields.0;
        id = subst (λ (i : List ℕ). HasId object.0 i) new.1 (id-read object.0 named.0 named.1);
        ceiling = value-or faults.BadCeiling _ ceiling.0 ceiling.1;
        connectors = connectors-read object.0 ceilings.0 ceilings.1;
      },
      unused-place site unused.0 (ap (λ (i : List ℕ). is_some (place_of site i)) (sym new.1) ∙ new.0),
    ) in
    subst (λ (t : Tree). PointOf site t point) (sym fields.1) (subst (λ (p : PointEntry). PointOf site object.0 p) same at)

pub point-found : (site : SiteState) (tree : Tree) (point : PointEntry) → PointOf site tree point → point_of site tree ≡ Ok point
unfolding point_of
point-found site tree point h =
    let p = h.0 in
    goes_on (object_or faults.BadPoints tree) _ tree (Ok point) (ap (object_if faults.BadPoints tree) p.object)
    (goes_on (or_fault faults.BadId (id_or_wrong (text_field_of (codes "id") tree))) _ point.id (Ok point) (id-found tree point.id p.id)
    (goes_on (unused_id site point.id) _ point.id (Ok point) (unused-found site point.id h.1)
    (goes_on (or_fault faults.BadCeiling (tenths_field_of (codes "ceiling") tree)) _ point.ceiling (Ok point) (ap (or_fault faults.BadCeiling) p.ceiling)
    (goes_on (connectors_of tree) _ point.ceilings (Ok point) (connectors-found tree point.ceilings p.connectors) refl))))

-- ---- the points

record ReadOn (site : SiteState) (trees : List Tree) (final : SiteState) : Type 0 where
  points : List PointEntry
  is : final ≡ record { unit = site.unit; points = site.points ++ points }
  each : AllZip IsPoint trees points
  new : AreNewAfter site.points points

abbrev pub of_points : Unit → List PointEntry → SiteState
of_points unit points = record { unit = unit; points = points }

points-read : (trees : List Tree) (site final : SiteState) → with_points site trees ≡ Ok final → ReadOn site trees final
points-read [] site final h =
    let same : site ≡ final = cc in
    record { points = []; is = sym same ∙ ap (of_points site.unit) (sym (append-nil site.points)); each = tt; new = tt }
points-read (tree ∷ trees) site final h =
    let first = went_on (point_of site tree) _ final h in
    let point = point-read site tree first.0 first.1 in
    let rest = points-read trees (with_point site first.0) final first.2 in
    record {
      points = first.0 ∷ rest.points;
      is = rest.is ∙ ap (of_points site.unit) (append_assoc site.points (first.0 ∷ []) rest.points);
      each = (point.0, rest.each);
      new = (point.1, rest.new);
    }

points-found : (trees : List Tree) (site : SiteState) (points : List PointEntry) → AllZip IsPoint trees points → AreNewAfter site.points points
    → with_points site trees ≡ Ok (of_points site.unit (site.points ++ points))
points-found [] site [] h k = ap (λ (ps : List PointEntry). Ok (of_points site.unit ps)) (sym (append-nil site.points))
points-found [] site (p ∷ ps) h k = absurd h
points-found (t ∷ ts) site [] h k = absurd h
points-found (t ∷ ts) site (p ∷ ps) h k =
    let rest = points-found ts (with_point site p) ps h.1 k.1 in
    let whole = ap (λ (all : List PointEntry). Ok (of_points site.unit all)) (append_assoc site.points (p ∷ []) ps) in
    goes_on (point_of site t) (λ (point : PointEntry). with_points (with_point site point) ts) p _ (point-found site t p (h.0, k.0)) (rest ∙ whole)

-- ---- the file

cases-read : (long is_text : Bool) (reading : Result SiteState SiteFault) (site : SiteState)
    → (if long then Err faults.TooLarge else if not is_text then Err faults.NotUtf8 else reading) ≡ Ok site → (long ≡ false) × (is_text ≡ true) × (reading ≡ Ok site)
cases-read true is_text reading site h = let no : ⊥ = cc in absurd no
cases-read false false reading site h = let no : ⊥ = cc in absurd no
cases-read false true reading site h = (refl, refl, h)

tree-read : (found : Option Tree) (site : SiteState) → site_by found ≡ Ok site → (tree : Tree) × (found ≡ Some tree) × (site_of_tree tree ≡ Ok site)
tree-read None site h = let no : ⊥ = cc in absurd no
tree-read (Some tree) site h = (tree, refl, h)

pub no_more : (most n : ℕ) → nat_lt most n ≡ false → n ≤ most
no_more most n h = grind (arith, nat_tests)

abbrev pub after_few : Unit → List Tree → Result SiteState SiteFault
after_few unit entries = with_points (of_points unit []) entries

abbrev pub after_list : Unit → List Tree → Result SiteState SiteFault
after_list unit list = few_or faults.BadPoints max_points list >>= after_few unit

abbrev pub after_unit : Tree → Unit → Result SiteState SiteFault
after_unit tree unit = or_fault faults.BadPoints (list_field_of (codes "points") tree) >>= after_list unit

abbrev pub after_name : Tree → List ℕ → Result SiteState SiteFault
after_name tree name = some_or faults.BadUnit (unit_named name) >>= after_unit tree

abbrev pub after_tree : Tree → Result SiteState SiteFault
after_tree tree = or_fault faults.BadUnit (text_field_of (codes "unit") tree) >>= after_name tree

unit-step : (tree : Tree) (site : SiteState) → after_tree tree ≡ Ok site → (unit : Unit) × HasUnit tree unit × (after_unit tree unit ≡ Ok site)
unit-step tree site h =
    let name = went_on (or_fault faults.BadUnit (text_field_of (codes "unit") tree)) (after_name tree) site h in
    let unit = went_on (some_or faults.BadUnit (unit_named name.0)) (after_unit tree) site name.2 in
    (unit.0, record { name = name.0; text = value-or faults.BadUnit _ name.0 name.1; names = some-or faults.BadUnit _ unit.0 unit.1 }, unit.2)

list-step : (tree : Tree) (unit : Unit) (site : SiteState) → after_unit tree unit ≡ Ok site → (list : List Tree) × HasPoints tree list × (after_few unit list ≡ Ok site)
list-step tree unit site h =
    let list = went_on (or_fault faults.BadPoints (list_field_of (codes "points") tree)) (after_list unit) site h in
    let few = went_on (few_or faults.BadPoints max_points list.0) (after_few unit) site list.2 in
    let size = few-or faults.BadPoints max_points list.0 few.0 few.1 in
    (list.0, record { entries = value-or faults.BadPoints _ list.0 list.1; some = size.0; few = size.1 }, ap (after_few unit) size.2 ∙ few.2)

-- the site that a tree describes
record IsTreeOf (tree : Tree) (site : SiteState) : Type 0 where
  object : is_object tree ≡ true
  unit : HasUnit tree site.unit
  list : List Tree
  points : HasPoints tree list
  each : AllZip IsPoint list site.points
  apart : AreApart site.points

points-step : (tree : Tree) (unit : Unit) (list : List Tree) (site : SiteState) → is_object tree ≡ true → HasUnit tree unit → HasPoints tree list → after_few unit list ≡ Ok site → IsTreeOf tree site
points-step tree unit list site object has there h =
    let read = points-read list (of_points unit []) site h in
    let points = ap (λ (s : SiteState). s.points) (sym read.is) in
    record {
      object = object;
      unit = subst (λ (u : Unit). HasUnit tree u) (ap (λ (s : SiteState). s.unit) (sym read.is)) has;
      list = list;
      points = there;
      each = subst (λ (ps : List PointEntry). AllZip IsPoint list ps) points read.each;
      apart = subst (λ (ps : List PointEntry). AreApart ps) points (apart-new [] read.points read.new).1;
    }

object-step : (tree : Tree) (site : SiteState) → is_object tree ≡ true → after_tree tree ≡ Ok site → IsTreeOf tree site
object-step tree site object h =
    let unit = unit-step tree site h in
    let list = list-step tree unit.0 site unit.2 in
    points-step tree unit.0 list.0 site object unit.1 list.1 list.2

tree-of : (tree : Tree) (site : SiteState) → site_of_tree tree ≡ Ok site → IsTreeOf tree site
unfolding site_of_tree
tree-of tree site h =
    let object = went_on (object_or faults.NotAnObject tree) after_tree site h in
    let fields = object-or faults.NotAnObject tree object.0 object.1 in
    subst (λ (t : Tree). IsTreeOf t site) (sym fields.1) (object-step object.0 site (ap is_object (sym fields.1) ∙ fields.0) object.2)

file-read : (bytes : List ℕ) (site : SiteState) → site_of bytes ≡ Ok site → IsSiteFile bytes site
unfolding site_of
file-read bytes site h =
    let text = cases-read (nat_lt max_site_bytes (length bytes)) (is_utf8 bytes) (site_by (tree_of_text bytes)) site h in
    let json = tree-read (tree_of_text bytes) site text.2 in
    let described = tree-of json.0 site json.2 in
    record {
      short = no_more max_site_bytes (length bytes) text.0;
      utf8 = IsUtf8-from_is_utf8 bytes text.1;
      tree = json.0;
      json = json.1;
      object = described.object;
      unit = described.unit;
      list = described.list;
      points = described.points;
      each = described.each;
      apart = described.apart;
    }

file-found : (bytes : List ℕ) (site : SiteState) → IsSiteFile bytes site → site_of bytes ≡ Ok site
unfolding site_of_tree
file-found bytes site h =
    let points = points-found h.list (of_points site.unit []) site.points h.each (new-first site.points h.apart) in
    let list = goes_on (few_or faults.BadPoints max_points h.list) _ h.list (Ok site) (few-is faults.BadPoints max_points h.list h.points.some h.points.few) points in
    let read : site_of_tree h.tree ≡ Ok site =
    goes_on (object_or faults.NotAnObject h.tree) _ h.tree (Ok site) (ap (object_if faults.NotAnObject h.tree) h.object)
    (goes_on (or_fault faults.BadUnit (text_field_of (codes "unit") h.tree)) _ h.unit.name (Ok site) (ap (or_fault faults.BadUnit) h.unit.text)
    (goes_on (some_or faults.BadUnit (unit_named h.unit.name)) _ site.unit (Ok site) (ap (some_or faults.BadUnit) h.unit.names)
    (goes_on (or_fault faults.BadPoints (list_field_of (codes "points") h.tree)) _ h.list (Ok site) (ap (or_fault faults.BadPoints) h.points.entries) list))) in
    site_of-text bytes h.short h.utf8 ∙ (ap site_by h.json ∙ read)

pub site-files : (bytes : List ℕ) (site : SiteState) → (site_of bytes ≡ Ok site) ↔ IsSiteFile bytes site
site-files bytes site = (file-read bytes site, file-found bytes site)
