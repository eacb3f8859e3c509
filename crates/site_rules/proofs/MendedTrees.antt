-- If a value has a tree, its mended tree is the same.
use Rattle.std.proofs.Common.{◌≡◌, ℕ, List, [], true, false, Option, Some, None, option_map, unwrap_or, is_some, Result, Ok, Err, IfOk, refl, sym, ap, ap₂, ◌∙◌, true≢false}
use Rattle.json.specs.Lex.{tokens}
use Rattle.json.specs.Json.{value}
use Rattle.serde_json.specs.Data as json
use Rattle.serde_json.specs.Read.{converted, of_json, max_depth}
use Rattle.ocpp_scalars.specs.OptionSteps.{◌>>=◌}
use Rattle.ocppj_frame.specs.ByCases.Mark.{marked_text}
use Rattle.ocppj_frame.specs.Read.{tree_of, trees_of, fields_of, tree_of_string, tree_of_text, name_of_key}
use Rattle.ocppj_frame.specs.Tree.{Tree, null, list, object, Trees, entry, Fields, field}
use Rattle.ocppj_frame.proofs.Reading.{was_parsed}
use Rattle.site_rules.specs.declared.fault.SiteFault.{SiteFault}
use Rattle.site_rules.specs.declared.reading.part_fault.PartFault.{PartFault}
use Rattle.site_rules.specs.Site.{SiteState}
use Rattle.site_rules.specs.ByCases.HasTree.{marked_tree}
use Rattle.site_rules.specs.ByCases.Parts.{with_named, mended_tree, mended_trees, mended_fields, tree_at}
use Rattle.site_rules.specs.ByCases.SiteReading.{site_by, site_of_tree}
use Rattle.site_rules.proofs.MarkedTrees.{read_as, some-mapped}
use Rattle.site_rules.proofs.TokenTrees.{was_mapped}

-- the value, if there is one
abbrev Is : {A : Type 0} → Option A → A → Type 0
Is o a = is_some o ≡ true → o ≡ Some a

string_is : (o : Option Tree) → Is o (unwrap_or o null)
string_is None h = absurd (true≢false (sym h))
string_is (Some t) h = refl

mapped_is : {A B : Type 0} (f : A → B) (o : Option A) (a : A) → Is o a → Is (option_map f o) (f a)
mapped_is f o a is h = ap (option_map f) (is (some-mapped f o ∙ h))

item_is : (first : Option Tree) (others : Option Trees) (t : Tree) (ts : Trees) → Is first t → Is others ts
    → Is (first >>= (λ (u : Tree). others >>= (λ (us : Trees). Some (entry u us)))) (entry t ts)
item_is None others t ts p q h = absurd (true≢false (sym h))
item_is (Some u) None t ts p q h = absurd (true≢false (sym h))
item_is (Some u) (Some us) t ts p q h =
    ap₂ (λ (a : Option Tree) (b : Option Trees). a >>= (λ (u : Tree). b >>= (λ (us : Trees). Some (entry u us)))) (p refl) (q refl)

member_is : (name : Option (List ℕ)) (first : Option Tree) (others : Option Fields) (t : Tree) (fs : Fields) → Is first t → Is others fs
    → Is (name >>= (λ (n : List ℕ). first >>= (λ (u : Tree). others >>= (λ (us : Fields). Some (field n u us))))) (with_named name t fs)
member_is None first others t fs p q h = absurd (true≢false (sym h))
member_is (Some n) None others t fs p q h = absurd (true≢false (sym h))
member_is (Some n) (Some u) None t fs p q h = absurd (true≢false (sym h))
member_is (Some n) (Some u) (Some us) t fs p q h =
    ap₂ (λ (a : Option Tree) (b : Option Fields). a >>= (λ (u : Tree). b >>= (λ (us : Fields). Some (field n u us)))) (p refl) (q refl)

mutual
  tree_is : (d : json.Data) → Is (tree_of d) (mended_tree d)
  tree_is json.null h = refl
  tree_is (json.boolean b) h = refl
  tree_is (json.number n) h = absurd (true≢false (sym h))
  tree_is (json.string bytes) h = string_is (tree_of_string bytes) h
  tree_is (json.array ds) h = mapped_is list (trees_of ds) (mended_trees ds) (trees_are ds) h
  tree_is (json.object ms) h = mapped_is object (fields_of ms) (mended_fields ms) (fields_are ms) h

  trees_are : (ds : json.Items) → Is (trees_of ds) (mended_trees ds)
  trees_are json.no_items h = refl
  trees_are (json.item d ds) h = item_is (tree_of d) (trees_of ds) (mended_tree d) (mended_trees ds) (tree_is d) (trees_are ds) h

  fields_are : (ms : json.Members) → Is (fields_of ms) (mended_fields ms)
  fields_are json.no_members h = refl
  fields_are (json.member key d ms) h = member_is (name_of_key key) (tree_of d) (fields_of ms) (mended_tree d) (mended_fields ms) (tree_is d) (fields_are ms) h

-- the tree of a marked text, if it has one
marked_is : (marked : List ℕ) (tree : Tree) → is_some (marked_tree marked) ≡ true → tree_at max_depth (tokens marked) ≡ Some (tree, [])
    → marked_tree marked ≡ Some tree
marked_is marked tree has here =
    let mended = was_mapped mended_tree (converted of_json (value max_depth (tokens marked))) tree [] here in
    let parsed = was_parsed of_json (value max_depth (tokens marked)) mended.0 [] mended.1 in
    let whole : marked_tree marked ≡ tree_of mended.0 = ap (λ (o : Option json.Data). o >>= tree_of) (ap read_as parsed.1 ∙ parsed.2) in
    whole ∙ tree_is mended.0 (sym (ap is_some whole) ∙ has) ∙ ap (λ (t : Tree). Some t) mended.2

abbrev IsSite : List ℕ → Result SiteState SiteFault → Type 0
IsSite marked site = (tree : Tree) × (tree_at max_depth (tokens marked) ≡ Some (tree, [])) × (site ≡ site_of_tree tree)

-- the site of a text, by its marked text
pub site_is : (text marked : List ℕ) (found : Result (Result SiteState SiteFault) PartFault) → marked ≡ marked_text text → true ≡ is_some (marked_tree marked)
    → IfOk found (IsSite marked) → IfOk found (λ (site : Result SiteState SiteFault). site ≡ site_by (tree_of_text text))
site_is text marked (Err fault) is has h = tt
site_is text marked (Ok site) is has h =
    h.2 ∙ ap site_by (sym (ap marked_tree (sym is) ∙ marked_is marked h.0 (sym has) h.1))

-- a text without a tree
pub no_site : (text marked : List ℕ) → marked ≡ marked_text text → false ≡ is_some (marked_tree marked) → site_by None ≡ site_by (tree_of_text text)
no_site text marked is has = ap site_by (by_tree (marked_tree marked) has ∙ ap marked_tree is)
  where
    by_tree : (o : Option Tree) → false ≡ is_some o → None ≡ o
    by_tree None h = refl
    by_tree (Some t) h = absurd (true≢false (sym h))
