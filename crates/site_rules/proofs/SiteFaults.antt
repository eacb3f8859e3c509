-- The fault found in a site file is the first that it has, both ways.
use Rattle.std.proofs.Common.{◌≡◌, ℕ, ◌≤◌, nat_lt, Bool, true, false, not, List, [], ◌∷◌, ◌++◌, length, codes, Option, Some, None, is_some, Result, Ok, Err, refl, ap, sym, subst, ◌∙◌, true≢false, append_assoc, inl, inr}
use Rattle.std.specs.Prelude.{◌↔◌, if◌then◌else◌}
use Rattle.std.specs.List.{AllZip}
use Rattle.std.specs.Str.{IsUtf8, is_utf8}
use Rattle.std.proofs.lemmas.Str.{IsUtf8-from_is_utf8, is_utf8-from_IsUtf8}
use Rattle.std.proofs.lemmas.List.{append-nil}
use Rattle.std.proofs.lemmas.Bool.{ltb-true}
use Rattle.ocpp_scalars.specs.ResultSteps.{◌>>=◌}
use Rattle.ocppj_frame.specs.Field.{text_field_of, tenths_field_of, list_field_of}
use Rattle.ocppj_frame.specs.Read.{tree_of_text}
use Rattle.ocppj_frame.specs.Tree.{Tree, is_object}
use Rattle.profile.specs.declared.unit.Unit.{Unit}
use Rattle.profile.specs.Names.{unit_named}
use Rattle.site_rules.specs.declared.fault.SiteFault.{SiteFault}
use Rattle.site_rules.specs.declared.fault.SiteFault.TheVariants as faults
use Rattle.site_rules.specs.Limits.{max_site_bytes, max_points}
use Rattle.site_rules.specs.Site.{PointEntry, SiteState, place_of}
use Rattle.site_rules.specs.SiteFile.{HasId, HasCeiling, IsPoint, HasUnit, HasPoints}
use Rattle.site_rules.specs.SiteFaults.{IsUnused, IsPointFault, no_object, no_id, same_id, no_ceiling, no_connectors, IsTreeFault, other_tree, no_unit, no_points, of_point, IsSiteFault, too_large, no_text, no_tree, of_tree}
use Rattle.site_rules.specs.ByCases.SiteReading.{or_fault, some_or, object_if, object_or, few_or, id_or_wrong, unused_id, connectors_of, point_of, with_point, with_points, site_of_tree, site_by, site_of}
use Rattle.site_rules.proofs.ApartLemmas.{AreNewAfter, unused-place, place-unused, apart-new, new-first}
use Rattle.site_rules.proofs.ReadingSteps.{goes_on, value-or, some-or, object-or, few-or, few-is, unused-id}
use Rattle.site_rules.proofs.ReadingFaults.{refused, went_wrong, goes_wrong, two-refused, not_both, or_fault-only, some_or-only, few_or-only, object-fault, unused-fault, connectors-only}
use Rattle.site_rules.proofs.SiteFiles.{id-read, id-found, connectors-read, connectors-found, unused-found, point-read, point-found, of_points, after_few, after_list, after_unit, after_name, after_tree, no_more}
use Rattle.site_rules.proofs.SiteLemmas.{site_of-text, site_of-not_text, site_of-too_large}

-- ---- a point, step by step

abbrev after_ceiling : Tree → List ℕ → ℕ → Result PointEntry SiteFault
after_ceiling tree id ceiling = connectors_of tree >>= (λ (ceilings : List ℕ). Ok (record { id = id; ceiling = ceiling; ceilings = ceilings }))

abbrev after_unused : Tree → List ℕ → Result PointEntry SiteFault
after_unused tree id = or_fault faults.BadCeiling (tenths_field_of (codes "ceiling") tree) >>= after_ceiling tree id

abbrev after_id : SiteState → Tree → List ℕ → Result PointEntry SiteFault
after_id site tree id = unused_id site id >>= after_unused tree

abbrev after_object : SiteState → Tree → Result PointEntry SiteFault
after_object site tree = or_fault faults.BadId (id_or_wrong (text_field_of (codes "id") tree)) >>= after_id site tree

connectors-fault : (earlier : List PointEntry) (tree : Tree) (id : List ℕ) (ceiling : ℕ) (fault : SiteFault) → is_object tree ≡ true → HasId tree id → IsUnused earlier id → HasCeiling tree ceiling
    → after_ceiling tree id ceiling ≡ Err fault → IsPointFault earlier tree fault
connectors-fault earlier tree id ceiling fault object has unused limit h =
    elim (went_wrong (connectors_of tree) _ fault h) [
      | inl w ↦
          subst (λ (f : SiteFault). IsPointFault earlier tree f) (sym (connectors-only tree fault w))
          (no_connectors earlier tree id ceiling object has unused limit (λ cs there. not_both (connectors_of tree) cs fault (connectors-found tree cs there) w))
      | inr r ↦ let no : ⊥ = cc (r.2) in absurd no
    ]

ceiling-fault : (earlier : List PointEntry) (tree : Tree) (id : List ℕ) (fault : SiteFault) → is_object tree ≡ true → HasId tree id → IsUnused earlier id
    → after_unused tree id ≡ Err fault → IsPointFault earlier tree fault
ceiling-fault earlier tree id fault object has unused h =
    elim (went_wrong (or_fault faults.BadCeiling (tenths_field_of (codes "ceiling") tree)) _ fault h) [
      | inl w ↦
          subst (λ (f : SiteFault). IsPointFault earlier tree f) (sym (or_fault-only faults.BadCeiling _ fault w))
          (no_ceiling earlier tree id object has unused (λ c there. not_both (or_fault faults.BadCeiling (tenths_field_of (codes "ceiling") tree)) c fault (ap (or_fault faults.BadCeiling) there) w))
      | inr r ↦ connectors-fault earlier tree id r.0 fault object has unused (value-or faults.BadCeiling _ r.0 r.1) r.2
    ]

taken : (site : SiteState) (id : List ℕ) → is_some (place_of site id) ≡ true → IsUnused site.points id → ⊥
taken site id h unused = true≢false (sym h ∙ place-unused site id unused)

same-fault : (site : SiteState) (tree : Tree) (id : List ℕ) (fault : SiteFault) → is_object tree ≡ true → HasId tree id
    → after_id site tree id ≡ Err fault → IsPointFault site.points tree fault
same-fault site tree id fault object has h =
    elim (went_wrong (unused_id site id) _ fault h) [
      | inl w ↦
          let found = unused-fault site id fault w in
          subst (λ (f : SiteFault). IsPointFault site.points tree f) (sym found.1) (same_id site.points tree id object has (taken site id found.0))
      | inr r ↦
          let new = unused-id site id r.0 r.1 in
          let same : after_unused tree id ≡ Err fault = ap (after_unused tree) new.1 ∙ r.2 in
          ceiling-fault site.points tree id fault object has (unused-place site id new.0) same
    ]

id-fault : (site : SiteState) (tree : Tree) (fault : SiteFault) → is_object tree ≡ true → after_object site tree ≡ Err fault → IsPointFault site.points tree fault
id-fault site tree fault object h =
    elim (went_wrong (or_fault faults.BadId (id_or_wrong (text_field_of (codes "id") tree))) _ fault h) [
      | inl w ↦
          subst (λ (f : SiteFault). IsPointFault site.points tree f) (sym (or_fault-only faults.BadId _ fault w))
          (no_id site.points tree object (λ id there. not_both (or_fault faults.BadId (id_or_wrong (text_field_of (codes "id") tree))) id fault (id-found tree id there) w))
      | inr r ↦ same-fault site tree r.0 fault object (id-read tree r.0 r.1) r.2
    ]

point-fault : (site : SiteState) (tree : Tree) (fault : SiteFault) → point_of site tree ≡ Err fault → IsPointFault site.points tree fault
unfolding point_of
point-fault site tree fault h =
    elim (went_wrong (object_or faults.BadPoints tree) (after_object site) fault h) [
      | inl w ↦
          let found = object-fault faults.BadPoints fault tree w in
          subst (λ (f : SiteFault). IsPointFault site.points tree f) (sym found.1) (no_object site.points tree found.0)
      | inr r ↦
          let fields = object-or faults.BadPoints tree r.0 r.1 in
          subst (λ (t : Tree). IsPointFault site.points t fault) (sym fields.1) (id-fault site r.0 fault (ap is_object (sym fields.1) ∙ fields.0) r.2)
    ]

same_found : (site : SiteState) (id : List ℕ) → ¬ IsUnused site.points id → unused_id site id ≡ Err faults.SameId
same_found site id h = by (is_some (place_of site id)) refl
  where
    by : (b : Bool) → is_some (place_of site id) ≡ b → unused_id site id ≡ Err faults.SameId
    by true e = rw e refl
    by false e = absurd (h (unused-place site id e))

fault-point : (site : SiteState) (earlier : List PointEntry) (tree : Tree) (fault : SiteFault) → earlier ≡ site.points → IsPointFault earlier tree fault → point_of site tree ≡ Err fault
unfolding point_of
fault-point site _ _ _ e (no_object earlier tree object) = goes_wrong (object_or faults.BadPoints tree) (after_object site) faults.BadPoints (ap (object_if faults.BadPoints tree) object)
fault-point site _ _ _ e (no_id earlier tree object none) =
    goes_on (object_or faults.BadPoints tree) (after_object site) tree (Err faults.BadId) (ap (object_if faults.BadPoints tree) object)
    (goes_wrong (or_fault faults.BadId (id_or_wrong (text_field_of (codes "id") tree))) (after_id site tree) faults.BadId
    (refused faults.BadId _ (or_fault-only faults.BadId _) (λ id there. none id (id-read tree id there))))
fault-point site _ _ _ e (same_id earlier tree id object has used) =
    goes_on (object_or faults.BadPoints tree) (after_object site) tree (Err faults.SameId) (ap (object_if faults.BadPoints tree) object)
    (goes_on (or_fault faults.BadId (id_or_wrong (text_field_of (codes "id") tree))) (after_id site tree) id (Err faults.SameId) (id-found tree id has)
    (goes_wrong (unused_id site id) (after_unused tree) faults.SameId (same_found site id (λ unused. used (subst (λ (ps : List PointEntry). IsUnused ps id) (sym e) unused)))))
fault-point site _ _ _ e (no_ceiling earlier tree id object has unused none) =
    goes_on (object_or faults.BadPoints tree) (after_object site) tree (Err faults.BadCeiling) (ap (object_if faults.BadPoints tree) object)
    (goes_on (or_fault faults.BadId (id_or_wrong (text_field_of (codes "id") tree))) (after_id site tree) id (Err faults.BadCeiling) (id-found tree id has)
    (goes_on (unused_id site id) (after_unused tree) id (Err faults.BadCeiling) (unused-found site id (subst (λ (ps : List PointEntry). IsUnused ps id) e unused))
    (goes_wrong (or_fault faults.BadCeiling (tenths_field_of (codes "ceiling") tree)) (after_ceiling tree id) faults.BadCeiling
    (refused faults.BadCeiling _ (or_fault-only faults.BadCeiling _) (λ c there. none c (value-or faults.BadCeiling _ c there))))))
fault-point site _ _ _ e (no_connectors earlier tree id ceiling object has unused limit none) =
    goes_on (object_or faults.BadPoints tree) (after_object site) tree (Err faults.BadConnectors) (ap (object_if faults.BadPoints tree) object)
    (goes_on (or_fault faults.BadId (id_or_wrong (text_field_of (codes "id") tree))) (after_id site tree) id (Err faults.BadConnectors) (id-found tree id has)
    (goes_on (unused_id site id) (after_unused tree) id (Err faults.BadConnectors) (unused-found site id (subst (λ (ps : List PointEntry). IsUnused ps id) e unused))
    (goes_on (or_fault faults.BadCeiling (tenths_field_of (codes "ceiling") tree)) (after_ceiling tree id) ceiling (Err faults.BadConnectors) (ap (or_fault faults.BadCeiling) limit)
    (goes_wrong (connectors_of tree) _ faults.BadConnectors (refused faults.BadConnectors (connectors_of tree) (connectors-only tree) (λ cs there. none cs (connectors-read tree cs there)))))))

-- ---- the points

record PointsFault (site : SiteState) (trees : List Tree) (fault : SiteFault) : Type 0 where
  before : List Tree
  entry : Tree
  after : List Tree
  points : List PointEntry
  whole : trees ≡ before ++ entry ∷ after
  each : AllZip IsPoint before points
  new : AreNewAfter site.points points
  first : IsPointFault (site.points ++ points) entry fault

points-fault : (trees : List Tree) (site : SiteState) (fault : SiteFault) → with_points site trees ≡ Err fault → PointsFault site trees fault
points-fault [] site fault h = let no : ⊥ = cc (h) in absurd no
points-fault (t ∷ ts) site fault h =
    let later = λ (r : (point : PointEntry) × (point_of site t ≡ Ok point) × (with_points (with_point site point) ts ≡ Err fault)). points-fault ts (with_point site r.0) fault r.2 in
    elim (went_wrong (point_of site t) (λ (point : PointEntry). with_points (with_point site point) ts) fault h) [
      | inl w ↦ record {
        before = [];
        entry = t;
        after = ts;
        points = [];
        whole = refl;
        each = tt;
        new = tt;
        first = subst (λ (ps : List PointEntry). IsPointFault ps t fault) (sym (append-nil site.points)) (point-fault site t fault w);
      }
      | inr r ↦
          let point = point-read site t r.0 r.1 in
          let rest = later r in
          record {
            before = t ∷ rest.before;
            entry = rest.entry;
            after = rest.after;
            points = r.0 ∷ rest.points;
            whole = ap (λ (l : List Tree). t ∷ l) rest.whole;
            each = (point.0, rest.each);
            new = (point.1, rest.new);
            first = subst (λ (ps : List PointEntry). IsPointFault ps rest.entry fault) (append_assoc site.points (r.0 ∷ []) rest.points) rest.first;
          }
    ]

fault-points : (before : List Tree) (entry : Tree) (after : List Tree) (site : SiteState) (points : List PointEntry) (fault : SiteFault) → AllZip IsPoint before points → AreNewAfter site.points points
    → IsPointFault (site.points ++ points) entry fault → with_points site (before ++ entry ∷ after) ≡ Err fault
fault-points [] entry after site [] fault h k f =
    goes_wrong (point_of site entry) (λ (point : PointEntry). with_points (with_point site point) after) fault (fault-point site (site.points ++ []) entry fault (append-nil site.points) f)
fault-points [] entry after site (p ∷ ps) fault h k f = absurd h
fault-points (t ∷ ts) entry after site [] fault h k f = absurd h
fault-points (t ∷ ts) entry after site (p ∷ ps) fault h k f =
    let first = subst (λ (qs : List PointEntry). IsPointFault qs entry fault) (sym (append_assoc site.points (p ∷ []) ps)) f in
    goes_on (point_of site t) (λ (point : PointEntry). with_points (with_point site point) (ts ++ entry ∷ after)) p (Err fault) (point-found site t p (h.0, k.0))
    (fault-points ts entry after (with_point site p) ps fault h.1 k.1 first)

-- ---- the tree

points-found-fault : (tree : Tree) (unit : Unit) (list : List Tree) (fault : SiteFault) → is_object tree ≡ true → HasUnit tree unit → HasPoints tree list → after_few unit list ≡ Err fault → IsTreeFault tree fault
points-found-fault tree unit list fault object has there h =
    let found = points-fault list (of_points unit []) fault h in
    of_point tree unit found.before found.entry found.after found.points fault object has (subst (λ (l : List Tree). HasPoints tree l) found.whole there) found.each
    (apart-new [] found.points found.new).1 found.first

list-fault : (tree : Tree) (unit : Unit) (fault : SiteFault) → is_object tree ≡ true → HasUnit tree unit → after_unit tree unit ≡ Err fault → IsTreeFault tree fault
list-fault tree unit fault object has h =
    elim (went_wrong (or_fault faults.BadPoints (list_field_of (codes "points") tree)) (after_list unit) fault h) [
      | inl w ↦
          subst (λ (f : SiteFault). IsTreeFault tree f) (sym (or_fault-only faults.BadPoints _ fault w))
          (no_points tree unit object has (λ list there. not_both (or_fault faults.BadPoints (list_field_of (codes "points") tree)) list fault (ap (or_fault faults.BadPoints) there.entries) w))
      | inr r ↦
          let entries = value-or faults.BadPoints (list_field_of (codes "points") tree) r.0 r.1 in
          elim (went_wrong (few_or faults.BadPoints max_points r.0) (after_few unit) fault r.2) [
            | inl w ↦
                subst (λ (f : SiteFault). IsTreeFault tree f) (sym (few_or-only faults.BadPoints max_points r.0 fault w))
                (no_points tree unit object has (λ list there.
                let values = sym there.entries ∙ entries in
                let same : list ≡ r.0 = cc (values) in
                not_both (few_or faults.BadPoints max_points r.0) list fault (ap (few_or faults.BadPoints max_points) (sym same) ∙ few-is faults.BadPoints max_points list there.some there.few) w))
            | inr q ↦
                let size = few-or faults.BadPoints max_points r.0 q.0 q.1 in
                let there : HasPoints tree q.0 = subst (λ (l : List Tree). HasPoints tree l) size.2 (record { entries = entries; some = size.0; few = size.1 }) in
                points-found-fault tree unit q.0 fault object has there q.2
          ]
    ]

unit-fault : (tree : Tree) (fault : SiteFault) → is_object tree ≡ true → after_tree tree ≡ Err fault → IsTreeFault tree fault
unit-fault tree fault object h =
    elim (went_wrong (or_fault faults.BadUnit (text_field_of (codes "unit") tree)) (after_name tree) fault h) [
      | inl w ↦
          subst (λ (f : SiteFault). IsTreeFault tree f) (sym (or_fault-only faults.BadUnit _ fault w))
          (no_unit tree object (λ unit there. not_both (or_fault faults.BadUnit (text_field_of (codes "unit") tree)) there.name fault (ap (or_fault faults.BadUnit) there.text) w))
      | inr r ↦
          let text = value-or faults.BadUnit (text_field_of (codes "unit") tree) r.0 r.1 in
          elim (went_wrong (some_or faults.BadUnit (unit_named r.0)) (after_unit tree) fault r.2) [
            | inl w ↦
                subst (λ (f : SiteFault). IsTreeFault tree f) (sym (some_or-only faults.BadUnit (unit_named r.0) fault w))
                (no_unit tree object (λ unit there.
                let values = sym there.text ∙ text in
                let same : there.name ≡ r.0 = cc (values) in
                not_both (some_or faults.BadUnit (unit_named r.0)) unit fault (ap (λ (n : List ℕ). some_or faults.BadUnit (unit_named n)) (sym same) ∙ ap (some_or faults.BadUnit) there.names) w))
            | inr q ↦
                let there : HasUnit tree q.0 = record { name = r.0; text = text; names = some-or faults.BadUnit (unit_named r.0) q.0 q.1 } in
                list-fault tree q.0 fault object there q.2
          ]
    ]

tree-fault : (tree : Tree) (fault : SiteFault) → site_of_tree tree ≡ Err fault → IsTreeFault tree fault
unfolding site_of_tree
tree-fault tree fault h =
    elim (went_wrong (object_or faults.NotAnObject tree) after_tree fault h) [
      | inl w ↦
          let found = object-fault faults.NotAnObject fault tree w in
          subst (λ (f : SiteFault). IsTreeFault tree f) (sym found.1) (other_tree tree found.0)
      | inr r ↦
          let fields = object-or faults.NotAnObject tree r.0 r.1 in
          subst (λ (t : Tree). IsTreeFault t fault) (sym fields.1) (unit-fault r.0 fault (ap is_object (sym fields.1) ∙ fields.0) r.2)
    ]

after-unit : (tree : Tree) (unit : Unit) (fault : SiteFault) → is_object tree ≡ true → HasUnit tree unit → after_unit tree unit ≡ Err fault → site_of_tree tree ≡ Err fault
unfolding site_of_tree
after-unit tree unit fault object has h =
    goes_on (object_or faults.NotAnObject tree) after_tree tree (Err fault) (ap (object_if faults.NotAnObject tree) object)
    (goes_on (or_fault faults.BadUnit (text_field_of (codes "unit") tree)) (after_name tree) has.name (Err fault) (ap (or_fault faults.BadUnit) has.text)
    (goes_on (some_or faults.BadUnit (unit_named has.name)) (after_unit tree) unit (Err fault) (ap (some_or faults.BadUnit) has.names) h))

fault-tree : (tree : Tree) (fault : SiteFault) → IsTreeFault tree fault → site_of_tree tree ≡ Err fault
unfolding site_of_tree
fault-tree _ _ (other_tree tree object) = goes_wrong (object_or faults.NotAnObject tree) after_tree faults.NotAnObject (ap (object_if faults.NotAnObject tree) object)
fault-tree _ _ (no_unit tree object none) =
    goes_on (object_or faults.NotAnObject tree) after_tree tree (Err faults.BadUnit) (ap (object_if faults.NotAnObject tree) object)
    (two-refused (or_fault faults.BadUnit (text_field_of (codes "unit") tree)) (λ (name : List ℕ). some_or faults.BadUnit (unit_named name)) (after_unit tree) faults.BadUnit
    (or_fault-only faults.BadUnit _) (λ (name : List ℕ). some_or-only faults.BadUnit (unit_named name))
    (λ name unit h k. none unit (record { name = name; text = value-or faults.BadUnit _ name h; names = some-or faults.BadUnit _ unit k })))
fault-tree _ _ (no_points tree unit object has none) =
    after-unit tree unit faults.BadPoints object has
    (two-refused (or_fault faults.BadPoints (list_field_of (codes "points") tree)) (few_or faults.BadPoints max_points) (after_few unit) faults.BadPoints
    (or_fault-only faults.BadPoints _) (few_or-only faults.BadPoints max_points)
    (λ list few h k.
    let size = few-or faults.BadPoints max_points list few k in
    none list (record { entries = value-or faults.BadPoints _ list h; some = size.0; few = size.1 })))
fault-tree _ _ (of_point tree unit before entry after points fault object has there each apart first) =
    after-unit tree unit fault object has
    (goes_on (or_fault faults.BadPoints (list_field_of (codes "points") tree)) (after_list unit) (before ++ entry ∷ after) (Err fault) (ap (or_fault faults.BadPoints) there.entries)
    (goes_on (few_or faults.BadPoints max_points (before ++ entry ∷ after)) (after_few unit) (before ++ entry ∷ after) (Err fault) (few-is faults.BadPoints max_points (before ++ entry ∷ after) there.some there.few)
    (fault-points before entry after (of_points unit []) points fault each (new-first points apart) first)))

-- ---- the file

json-fault : (bytes : List ℕ) (found : Option Tree) (fault : SiteFault) → length bytes ≤ max_site_bytes → IsUtf8 bytes → tree_of_text bytes ≡ found → site_by found ≡ Err fault → IsSiteFault bytes fault
json-fault bytes None fault short text e h = let same : faults.NotJson ≡ fault = cc (h) in subst (λ (f : SiteFault). IsSiteFault bytes f) same (no_tree bytes short text e)
json-fault bytes (Some tree) fault short text e h = of_tree bytes tree fault short text e (tree-fault tree fault h)

by-cases : (bytes : List ℕ) (fault : SiteFault) (long is_text : Bool) → nat_lt max_site_bytes (length bytes) ≡ long → is_utf8 bytes ≡ is_text
    → (if long then Err faults.TooLarge else if not is_text then Err faults.NotUtf8 else site_by (tree_of_text bytes)) ≡ Err fault → IsSiteFault bytes fault
by-cases bytes fault true is_text size text h =
    let same : faults.TooLarge ≡ fault = cc (h) in
    subst (λ (f : SiteFault). IsSiteFault bytes f) same (too_large bytes (ltb-true max_site_bytes (length bytes) size))
by-cases bytes fault false false size text h =
    let same : faults.NotUtf8 ≡ fault = cc (h) in
    subst (λ (f : SiteFault). IsSiteFault bytes f) same (no_text bytes (no_more max_site_bytes (length bytes) size) (λ is. true≢false (sym (is_utf8-from_IsUtf8 bytes is) ∙ text)))
by-cases bytes fault false true size text h =
    json-fault bytes (tree_of_text bytes) fault (no_more max_site_bytes (length bytes) size) (IsUtf8-from_is_utf8 bytes text) refl h

fault-read : (bytes : List ℕ) (fault : SiteFault) → site_of bytes ≡ Err fault → IsSiteFault bytes fault
unfolding site_of
fault-read bytes fault h = by-cases bytes fault (nat_lt max_site_bytes (length bytes)) (is_utf8 bytes) refl refl h

fault-found : (bytes : List ℕ) (fault : SiteFault) → IsSiteFault bytes fault → site_of bytes ≡ Err fault
fault-found _ _ (too_large bytes long) = site_of-too_large bytes long
fault-found _ _ (no_text bytes short other) = site_of-not_text bytes short other
fault-found _ _ (no_tree bytes short text none) = site_of-text bytes short text ∙ ap site_by none
fault-found _ _ (of_tree bytes tree fault short text json first) = site_of-text bytes short text ∙ (ap site_by json ∙ fault-tree tree fault first)

pub site-faults : (bytes : List ℕ) (fault : SiteFault) → (site_of bytes ≡ Err fault) ↔ IsSiteFault bytes fault
site-faults bytes fault = (fault-read bytes fault, fault-found bytes fault)
