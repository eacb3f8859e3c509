-- The site read part by part is that of the tree of the whole file.
use Rattle.std.proofs.Common.{◌≡◌, ℕ, ◌+◌, ◌<◌, ◌≤◌, ◌==◌, ◌&&◌, nat_le, List, [], ◌∷◌, ◌++◌, length, codes, Bool, true, false, cond, Option, Some, None, option_map, unwrap_or, Result, Ok, Err, refl, sym, ap, ◌∙◌, append_assoc, arith}
use Rattle.std.specs.Option.{option_and_then}
use Rattle.std.specs.Result.{result_ok}
use Rattle.ocpp_scalars.specs.declared.number.NumberFault.{NumberFault}
use Rattle.ocpp_scalars.specs.ByCases.Number.{tenths_of}
use Rattle.ocpp_scalars.specs.ResultSteps.{◌>>=◌}
use Rattle.ocppj_frame.specs.Field.{of_kind, of_scalar, unless_null, text_field_of, list_field_of}
use Rattle.ocppj_frame.specs.Tree.{Tree, null, boolean, text, number, list, object, entries, Fields, field_at, as_list, as_number, as_text, is_object}
use Rattle.profile.specs.Names.{unit_named}
use Rattle.profile.specs.declared.unit.Unit.{Unit}
use Rattle.profile.specs.declared.unit.Unit.TheVariants.{A}
use Rattle.site_rules.specs.declared.fault.SiteFault.{SiteFault}
use Rattle.site_rules.specs.declared.fault.SiteFault.TheVariants.{NotAnObject, BadUnit, BadPoints, BadConnectors}
use Rattle.site_rules.specs.declared.reading.entry.PointFields.{PointFields}
use Rattle.site_rules.specs.declared.reading.whole.SiteFields.{SiteFields}
use Rattle.site_rules.specs.Limits.{max_connectors, max_points}
use Rattle.site_rules.specs.Site.{PointEntry, SiteState}
use Rattle.site_rules.specs.ByCases.SiteReading.{or_fault, some_or, few_or, ceiling_or, ceiling_of, ceilings_of, connectors_of, point_of, with_point, with_points, site_of_tree}
use Rattle.site_rules.specs.ByCases.Parts.{shown, glance_tree, with_ceiling, with_ceilings, unless_empty, ceilings_in, connectors_in, field_or_null, ArePointFields, IsEntry, no_object, an_object, point_by, entry_point, no_points, points_in, AreSiteFields, site_by_fields}
use Rattle.site_rules.proofs.ReadingSteps.{few-is}

-- ---- a glance at a value

text-shown : (tree : Tree) → of_kind as_text (unless_null (shown tree)) ≡ of_kind as_text (unless_null tree)
text-shown null = refl
text-shown (boolean b) = refl
text-shown (text bytes) = refl
text-shown (number bytes) = refl
text-shown (list ts) = refl
text-shown (object fs) = refl

tenths-shown : (tree : Tree) → of_scalar as_number tenths_of (unless_null (shown tree)) ≡ of_scalar as_number tenths_of (unless_null tree)
tenths-shown null = refl
tenths-shown (boolean b) = refl
tenths-shown (text bytes) = refl
tenths-shown (number bytes) = refl
tenths-shown (list ts) = refl
tenths-shown (object fs) = refl

ceiling-shown : (tree : Tree) → ceiling_of (shown tree) ≡ ceiling_of tree
ceiling-shown null = refl
ceiling-shown (boolean b) = refl
ceiling-shown (text bytes) = refl
ceiling-shown (number bytes) = refl
ceiling-shown (list ts) = refl
ceiling-shown (object fs) = refl

pub with_ceiling-shown : (kept : Option (List ℕ)) (tree : Tree) → with_ceiling kept (shown tree) ≡ with_ceiling kept tree
with_ceiling-shown None tree = refl
with_ceiling-shown (Some cs) tree = ap (λ (c : Result ℕ SiteFault). cond (length cs == max_connectors) None (option_map (λ (n : ℕ). cs ++ n ∷ []) (result_ok c))) (ceiling-shown tree)

-- a field that is absent reads as one that is null
text-null : (found : Option Tree) → of_kind as_text (option_and_then unless_null found) ≡ of_kind as_text (unless_null (unwrap_or found null))
text-null None = refl
text-null (Some tree) = refl

tenths-null : (found : Option Tree) → of_scalar as_number tenths_of (option_and_then unless_null found) ≡ of_scalar as_number tenths_of (unless_null (unwrap_or found null))
tenths-null None = refl
tenths-null (Some tree) = refl

list-null : (found : Option Tree) → of_kind as_list (option_and_then unless_null found) ≡ of_kind as_list (unless_null (unwrap_or found null))
list-null None = refl
list-null (Some tree) = refl

-- ---- the ceilings of connectors

none-kept : (trees : List Tree) → with_ceilings None trees ≡ None
none-kept [] = refl
none-kept (t ∷ ts) = none-kept ts

pub with_ceilings-last : (kept : Option (List ℕ)) (trees : List Tree) (tree : Tree) → with_ceilings kept (trees ++ tree ∷ []) ≡ with_ceiling (with_ceilings kept trees) tree
with_ceilings-last kept [] tree = refl
with_ceilings-last kept (t ∷ ts) tree = with_ceilings-last (with_ceiling kept t) ts tree

ceiling_or-ok : (found : Result ℕ NumberFault) → ceiling_or found ≡ some_or BadConnectors (result_ok (ceiling_or found))
ceiling_or-ok (Ok n) = refl
ceiling_or-ok (Err fault) = refl

ceiling-ok : (tree : Tree) → ceiling_of tree ≡ some_or BadConnectors (result_ok (ceiling_of tree))
ceiling-ok null = refl
ceiling-ok (boolean b) = refl
ceiling-ok (text bytes) = refl
ceiling-ok (number digits) = ceiling_or-ok (tenths_of digits)
ceiling-ok (list ts) = refl
ceiling-ok (object fs) = refl

-- the ceilings, from those of the first entry and of the others
abbrev joined : Result ℕ SiteFault → Result (List ℕ) SiteFault → Result (List ℕ) SiteFault
joined first others = first >>= (λ (c : ℕ). others >>= (λ (cs : List ℕ). Ok (c ∷ cs)))

joined-ok : (first : Result ℕ SiteFault) (others : Result (List ℕ) SiteFault) → first ≡ some_or BadConnectors (result_ok first) → others ≡ some_or BadConnectors (result_ok others)
    → joined first others ≡ some_or BadConnectors (result_ok (joined first others))
joined-ok (Ok c) (Ok cs) h k = refl
joined-ok (Ok c) (Err fault) h k = k
joined-ok (Err fault) others h k = let same : fault ≡ BadConnectors = cc in ap (λ (f : SiteFault). Err f) same

ceilings-ok : (trees : List Tree) → ceilings_of trees ≡ some_or BadConnectors (result_ok (ceilings_of trees))
ceilings-ok [] = refl
ceilings-ok (t ∷ ts) = joined-ok (ceiling_of t) (ceilings_of ts) (ceiling-ok t) (ceilings-ok ts)

append-none : (cs : List ℕ) → cs ≡ cs ++ []
append-none [] = refl
append-none (c ∷ cs) = ap (λ (ds : List ℕ). c ∷ ds) (append-none cs)

length-more : (cs : List ℕ) (c : ℕ) → length (cs ++ c ∷ []) ≡ length cs + 1
length-more [] c = refl
length-more (d ∷ cs) c = let more = length-more cs c in omega arith

not-full : (cs : List ℕ) → length cs < max_connectors → (length cs == max_connectors) ≡ false
not-full cs less = grind arith

module _ (cs : List ℕ) where
  few-first : (first : Result ℕ SiteFault) (others : Result (List ℕ) SiteFault) (ts : List Tree)
      → ((c : ℕ) → with_ceilings (Some (cs ++ c ∷ [])) ts ≡ option_map (λ (more : List ℕ). (cs ++ c ∷ []) ++ more) (result_ok others))
      → with_ceilings (option_map (λ (c : ℕ). cs ++ c ∷ []) (result_ok first)) ts ≡ option_map (λ (more : List ℕ). cs ++ more) (result_ok (joined first others))
  few-first (Ok c) (Ok ds) ts h = h c ∙ ap Some (append_assoc cs (c ∷ []) ds)
  few-first (Ok c) (Err fault) ts h = h c
  few-first (Err fault) others ts h = none-kept ts

few-kept : (cs : List ℕ) (trees : List Tree) → length cs + length trees ≤ max_connectors → with_ceilings (Some cs) trees ≡ option_map (λ (more : List ℕ). cs ++ more) (result_ok (ceilings_of trees))
few-kept cs [] few = ap Some (append-none cs)
few-kept cs (t ∷ ts) few =
    rw (not-full cs (omega arith)) (few-first cs (ceiling_of t) (ceilings_of ts) ts (λ c. let more = length-more cs c in few-kept (cs ++ c ∷ []) ts (omega arith)))

many-first : (cs : List ℕ) (first : Option ℕ) (ts : List Tree) → ((c : ℕ) → with_ceilings (Some (cs ++ c ∷ [])) ts ≡ None) → with_ceilings (option_map (λ (c : ℕ). cs ++ c ∷ []) first) ts ≡ None
many-first cs None ts h = none-kept ts
many-first cs (Some c) ts h = h c

many-by : (b : Bool) (cs : List ℕ) (first : Option ℕ) (ts : List Tree) → (b ≡ false → with_ceilings (option_map (λ (c : ℕ). cs ++ c ∷ []) first) ts ≡ None)
    → with_ceilings (cond b None (option_map (λ (c : ℕ). cs ++ c ∷ []) first)) ts ≡ None
many-by true cs first ts h = none-kept ts
many-by false cs first ts h = h refl

below : (n : ℕ) → (n == max_connectors) ≡ false → n ≤ max_connectors → n < max_connectors
below n h few = grind (arith, h)

many-kept : (cs : List ℕ) (trees : List Tree) → length cs ≤ max_connectors → max_connectors < length cs + length trees → with_ceilings (Some cs) trees ≡ None
many-kept cs [] few many = let never : ⊥ = omega arith in absurd never
many-kept cs (t ∷ ts) few many =
    many-by (length cs == max_connectors) cs (result_ok (ceiling_of t)) ts
    (λ room. many-first cs (result_ok (ceiling_of t)) ts (λ c. let more = length-more cs c in let less = below (length cs) room few in many-kept (cs ++ c ∷ []) ts (omega arith) (omega arith)))

some-kept : (first : Result ℕ SiteFault) (others : Result (List ℕ) SiteFault)
    → some_or BadConnectors (unless_empty (option_map (λ (more : List ℕ). more) (result_ok (joined first others)))) ≡ some_or BadConnectors (result_ok (joined first others))
some-kept (Ok c) (Ok cs) = refl
some-kept (Ok c) (Err fault) = refl
some-kept (Err fault) others = refl

pub too-many : (fault : SiteFault) (most : ℕ) (trees : List Tree) → most < length trees → few_or fault most trees ≡ Err fault
too-many fault most trees many = rw (over (length trees) most many) (by_test (nat_le 1 (length trees)))
  where
    over : (n most : ℕ) → most < n → nat_le n most ≡ false
    over n most h = grind arith

    by_test : (b : Bool) → cond (b && false) (Ok trees) (Err fault) ≡ Err fault
    by_test true = refl
    by_test false = refl

list-ceilings : (trees : List Tree) (b : Bool) → nat_le (length trees) max_connectors ≡ b
    → (few_or BadConnectors max_connectors trees >>= ceilings_of) ≡ some_or BadConnectors (ceilings_in trees)
list-ceilings [] b h = refl
list-ceilings (t ∷ ts) true h =
    let few : length (t ∷ ts) ≤ max_connectors = grind (arith, h) in
    ap (λ (r : Result (List Tree) SiteFault). r >>= ceilings_of) (few-is BadConnectors max_connectors (t ∷ ts) (omega arith) few)
    ∙ ceilings-ok (t ∷ ts)
    ∙ sym (some-kept (ceiling_of t) (ceilings_of ts))
    ∙ ap (λ (kept : Option (List ℕ)). some_or BadConnectors (unless_empty kept)) (sym (few-kept [] (t ∷ ts) (omega arith)))
list-ceilings (t ∷ ts) false h =
    let many : max_connectors < length (t ∷ ts) = grind (arith, h) in
    ap (λ (r : Result (List Tree) SiteFault). r >>= ceilings_of) (too-many BadConnectors max_connectors (t ∷ ts) many)
    ∙ ap (λ (kept : Option (List ℕ)). some_or BadConnectors (unless_empty kept)) (sym (many-kept [] (t ∷ ts) (omega arith) (omega arith)))

connectors-by : (tree : Tree) → (or_fault BadConnectors (of_kind as_list (unless_null tree)) >>= (λ (trees : List Tree). few_or BadConnectors max_connectors trees >>= ceilings_of)) ≡ some_or BadConnectors (connectors_in tree)
connectors-by null = refl
connectors-by (boolean b) = refl
connectors-by (text bytes) = refl
connectors-by (number bytes) = refl
connectors-by (list ts) = list-ceilings (entries ts) (nat_le (length (entries ts)) max_connectors) refl
connectors-by (object fs) = refl

connectors-found : (fields : Fields) → connectors_of (object fields) ≡ some_or BadConnectors (connectors_in (field_or_null (codes "connectors") fields))
unfolding connectors_of
connectors-found fields =
    ap (λ found. or_fault BadConnectors found >>= (λ (trees : List Tree). few_or BadConnectors max_connectors trees >>= ceilings_of)) (list-null (field_at (codes "connectors") fields))
    ∙ connectors-by (field_or_null (codes "connectors") fields)

-- ---- a point

fields-point : (site : SiteState) (fields : Fields) (point : PointFields) → ArePointFields point fields → entry_point site (Some point) ≡ point_of site (object fields)
unfolding point_by point_of
fields-point site fields point h =
    let id = ap (λ (t : Tree). of_kind as_text (unless_null t)) h.id ∙ text-shown (field_or_null (codes "id") fields) ∙ sym (text-null (field_at (codes "id") fields)) in
    let ceiling = ap (λ (t : Tree). of_scalar as_number tenths_of (unless_null t)) h.ceiling ∙ tenths-shown (field_or_null (codes "ceiling") fields) ∙ sym (tenths-null (field_at (codes "ceiling") fields)) in
    let ceilings = ap (some_or BadConnectors) h.connectors ∙ sym (connectors-found fields) in
    rw (id, ceiling, ceilings) refl

none-point : (site : SiteState) (tree : Tree) → is_object tree ≡ false → Err BadPoints ≡ point_of site tree
unfolding point_of
none-point site tree h = rw h refl

pub entry-point : (site : SiteState) (read : Option PointFields) (tree : Tree) → IsEntry read tree → entry_point site read ≡ point_of site tree
entry-point site read tree (no_object t h) = none-point site t h
entry-point site read tree (an_object point fields h) = fields-point site fields point h

-- ---- the points

-- the points with that of one more entry
abbrev after_next : Result SiteState SiteFault → Tree → Result SiteState SiteFault
after_next points tree = points >>= (λ (s : SiteState). point_of s tree >>= (λ (point : PointEntry). Ok (with_point s point)))

then-last : (site : SiteState) (trees : List Tree) (tree : Tree) (first : Result PointEntry SiteFault)
    → ((s : SiteState) → with_points s (trees ++ tree ∷ []) ≡ after_next (with_points s trees) tree)
    → (first >>= (λ (point : PointEntry). with_points (with_point site point) (trees ++ tree ∷ [])))
    ≡ after_next (first >>= (λ (point : PointEntry). with_points (with_point site point) trees)) tree
then-last site trees tree (Ok point) h = h (with_point site point)
then-last site trees tree (Err fault) h = refl

pub with_points-last : (site : SiteState) (trees : List Tree) (tree : Tree)
    → with_points site (trees ++ tree ∷ []) ≡ (with_points site trees >>= (λ (s : SiteState). point_of s tree >>= (λ (point : PointEntry). Ok (with_point s point))))
with_points-last site [] tree = refl
with_points-last site (t ∷ ts) tree = then-last site ts tree (point_of site t) (λ s. with_points-last s ts tree)

-- the points don't depend on the unit
abbrev in_unit : Unit → Result SiteState SiteFault → Result SiteState SiteFault
in_unit unit points = points >>= (λ (site : SiteState). Ok (record { unit = unit; points = site.points }))

abbrev of_unit : Unit → List PointEntry → SiteState
of_unit unit points = record { unit = unit; points = points }

point-unit : (u v : Unit) (points : List PointEntry) (tree : Tree) → point_of (of_unit u points) tree ≡ point_of (of_unit v points) tree
unfolding point_of
point-unit u v points tree = refl

then-unit : (unit : Unit) (points : List PointEntry) (trees : List Tree) (first : Result PointEntry SiteFault)
    → ((more : List PointEntry) → with_points (of_unit unit more) trees ≡ in_unit unit (with_points (of_unit A more) trees))
    → (first >>= (λ (point : PointEntry). with_points (with_point (of_unit unit points) point) trees))
    ≡ in_unit unit (first >>= (λ (point : PointEntry). with_points (with_point (of_unit A points) point) trees))
then-unit unit points trees (Ok point) h = h (points ++ point ∷ [])
then-unit unit points trees (Err fault) h = refl

points-unit : (unit : Unit) (points : List PointEntry) (trees : List Tree) → with_points (of_unit unit points) trees ≡ in_unit unit (with_points (of_unit A points) trees)
points-unit unit points [] = refl
points-unit unit points (t ∷ ts) =
    ap (λ (first : Result PointEntry SiteFault). first >>= (λ (point : PointEntry). with_points (with_point (of_unit unit points) point) ts)) (point-unit unit A points t)
    ∙ then-unit unit points ts (point_of (of_unit A points) t) (λ more. points-unit unit more ts)

few-unit : (unit : Unit) (few : Result (List Tree) SiteFault)
    → (few >>= (λ (trees : List Tree). with_points (of_unit unit []) trees)) ≡ in_unit unit (few >>= (λ (trees : List Tree). with_points no_points trees))
few-unit unit (Ok trees) = points-unit unit [] trees
few-unit unit (Err fault) = refl

points-by : (unit : Unit) (tree : Tree)
    → (or_fault BadPoints (of_kind as_list (unless_null tree)) >>= (λ (trees : List Tree). few_or BadPoints max_points trees >>= (λ (few : List Tree). with_points (of_unit unit []) few)))
    ≡ in_unit unit (points_in tree)
points-by unit null = refl
points-by unit (boolean b) = refl
points-by unit (text bytes) = refl
points-by unit (number bytes) = refl
points-by unit (list ts) = few-unit unit (few_or BadPoints max_points (entries ts))
points-by unit (object fs) = refl

points-found : (unit : Unit) (fields : Fields)
    → (or_fault BadPoints (list_field_of (codes "points") (object fields)) >>= (λ (trees : List Tree). few_or BadPoints max_points trees >>= (λ (few : List Tree). with_points (of_unit unit []) few)))
    ≡ in_unit unit (points_in (field_or_null (codes "points") fields))
points-found unit fields =
    ap (λ found. or_fault BadPoints found >>= (λ (trees : List Tree). few_or BadPoints max_points trees >>= (λ (few : List Tree). with_points (of_unit unit []) few))) (list-null (field_at (codes "points") fields))
    ∙ points-by unit (field_or_null (codes "points") fields)

-- ---- the site

in-named-unit : (found : Result Unit SiteFault) (fields : Fields)
    → (found >>= (λ (unit : Unit). or_fault BadPoints (list_field_of (codes "points") (object fields)) >>= (λ (trees : List Tree). few_or BadPoints max_points trees >>= (λ (few : List Tree). with_points (of_unit unit []) few))))
    ≡ (found >>= (λ (unit : Unit). in_unit unit (points_in (field_or_null (codes "points") fields))))
in-named-unit (Ok unit) fields = points-found unit fields
in-named-unit (Err fault) fields = refl

named-unit : (found : Result (List ℕ) SiteFault) (fields : Fields)
    → (found >>= (λ (name : List ℕ). some_or BadUnit (unit_named name) >>= (λ (unit : Unit). or_fault BadPoints (list_field_of (codes "points") (object fields)) >>= (λ (trees : List Tree). few_or BadPoints max_points trees >>= (λ (few : List Tree). with_points (of_unit unit []) few)))))
    ≡ (found >>= (λ (name : List ℕ). some_or BadUnit (unit_named name) >>= (λ (unit : Unit). in_unit unit (points_in (field_or_null (codes "points") fields)))))
named-unit (Ok name) fields = in-named-unit (some_or BadUnit (unit_named name)) fields
named-unit (Err fault) fields = refl

pub fields-site : (fields : Fields) (site : SiteFields) → AreSiteFields site fields → site_by_fields (glance_tree site.unit) site.points ≡ site_of_tree (object fields)
unfolding site_by_fields site_of_tree
fields-site fields site h =
    let unit = ap (λ (t : Tree). of_kind as_text (unless_null t)) h.unit ∙ text-shown (field_or_null (codes "unit") fields) ∙ sym (text-null (field_at (codes "unit") fields)) in
    rw (unit, h.points) (sym (named-unit (or_fault BadUnit (text_field_of (codes "unit") (object fields))) fields))

pub other-site : (tree : Tree) → is_object tree ≡ false → Err NotAnObject ≡ site_of_tree tree
unfolding site_of_tree
other-site tree h = rw h refl
