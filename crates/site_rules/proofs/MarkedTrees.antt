-- Whether the value of a marked text has a tree: by its items or members, one after another, and by the text after it.
use Rattle.std.proofs.Common.{◌≡◌, ℕ, ◌-◌, ◌<◌, ◌≤◌, List, [], ◌∷◌, length, Bool, true, false, not, ◌&&◌, ◌↔◌, cond, Option, Some, None, option_map, is_some, refl, sym, ap, ◌∙◌, true≢false, arith}
use Rattle.std.specs.Prelude.{IsTrue}
use Rattle.std.specs.Option.{option_and_then}
use Rattle.std.specs.Str.{bytes_eq}
use Rattle.json.specs.Json as json
use Rattle.json.specs.Json.{parse_map, after_end_array, read_key, items, members, value, if_last}
use Rattle.json.specs.Lex.{tokens}
use Rattle.json.specs.Reads.{Yields}
use Rattle.json.specs.Token.{Token}
use Rattle.json.specs.declared.token.Token.{Token as Read}
use Rattle.json.proofs.Grammar.{read_key-shorter}
use Rattle.serde_json.specs.Data.{Data, Items, item, Members, no_members, put}
use Rattle.serde_json.specs.Read.{converted, of_json, of_items, of_members, max_depth}
use Rattle.ocpp_scalars.specs.OptionSteps.{◌>>=◌}
use Rattle.ocppj_frame.specs.Read.{tree_of, trees_of, fields_of, name_of_key}
use Rattle.ocppj_frame.specs.Tree.{Tree, Trees, entry}
use Rattle.ocppj_frame.proofs.Reading.{was_parsed, one_item, last_item, one_member, last_member}
use Rattle.site_rules.specs.ByCases.HasTree.{marked_tree, has_key}
use Rattle.site_rules.proofs.BrokenMembers.{Keys, AreInOrder, AreBroken, broken_put, order_put, no_key_has, none_broken}

-- ---- a list

unchanged : (o : Option (Items × List Token)) → o ≡ parse_map (λ (rest : Items). rest) o
unchanged None = refl
unchanged (Some p) = refl

one_more : (before : Items → Items) (d : Data) (o : Option (Items × List Token)) → parse_map before (parse_map (item d) o) ≡ parse_map (λ rest. before (item d rest)) o
one_more before d None = refl
one_more before d (Some p) = refl

item_has : (first : Option Tree) (others : Option Trees) (have has : Bool) → has ≡ is_some first
    → (have && is_some (first >>= (λ (t : Tree). others >>= (λ (ts : Trees). Some (entry t ts))))) ≡ ((have && has) && is_some others)
item_has first others false has h = refl
item_has None others true has h = sym (ap (λ (b : Bool). b && is_some others) h)
item_has (Some t) None true has h = sym (ap (λ (b : Bool). b && false) h)
item_has (Some t) (Some ts) true has h = sym (ap (λ (b : Bool). b && true) h)

-- a list with the items read so far, and whether all of them have trees
pub record ItemsSoFar (depth : ℕ) (all left : List Token) (have : Bool) : Type 0 where
  pub n : ℕ
  pub enough : length left ≤ n
  pub before : Items → Items
  pub trees : (rest : Items) → is_some (trees_of (before rest)) ≡ (have && is_some (trees_of rest))
  pub read : converted of_items (items (value depth) (length all) all) ≡ parse_map before (converted of_items (items (value depth) n left))

pub items_begun : (depth : ℕ) (all : List Token) → ItemsSoFar depth all all true
items_begun depth all = record {
  n = length all;
  enough = omega arith;
  before = λ (rest : Items). rest;
  trees = λ rest. refl;
  read = unchanged (converted of_items (items (value depth) (length all) all));
}

pub items_more : (depth : ℕ) (all ts r : List Token) (have has : Bool) (d : Data) → ItemsSoFar depth all ts have → after_end_array ts ≡ None
    → converted of_json (value depth ts) ≡ Some (d, r) → has ≡ is_some (tree_of d) → length r < length ts
    → ItemsSoFar depth all r (have && has)
items_more depth all ts r have has d sofar going here said less =
    let n = sofar.n in
    let some : 0 < n = omega (arith, sofar.enough) in
    record {
      n = n - 1;
      enough = omega (arith, sofar.enough);
      before = λ (rest : Items). sofar.before (item d rest);
      trees = λ rest. sofar.trees (item d rest) ∙ item_has (tree_of d) (trees_of rest) have has said;
      read = sofar.read ∙ ap (parse_map sofar.before) (one_item (value depth) n ts r d some going here) ∙ one_more sofar.before d _;
    }

by_true : (b : Bool) → (b && true) ≡ b
by_true true = refl
by_true false = refl

pub items_ended : (depth : ℕ) (all ts r : List Token) (have : Bool) → ItemsSoFar depth all ts have → after_end_array ts ≡ Some r
    → (list : Items) × (converted of_items (items (value depth) (length all) all) ≡ Some (list, r)) × (have ≡ is_some (trees_of list))
items_ended depth all ts r have sofar e = (
  sofar.before Items.no_items,
  sofar.read ∙ ap (parse_map sofar.before) (last_item (value depth) sofar.n ts r sofar.enough e),
  sym (sofar.trees Items.no_items ∙ by_true have),
)

-- ---- an object

-- an object with the members read so far, and the keys of those without a tree
pub record MembersSoFar (depth : ℕ) (all left : List Token) (keys : Keys) : Type 0 where
  pub n : ℕ
  pub enough : length left ≤ n
  pub found : Members
  pub order : AreInOrder found
  pub broken : AreBroken keys found
  pub read : converted (λ ms. of_members ms no_members) (members (value depth) (length all) all) ≡ converted (λ ms. of_members ms found) (members (value depth) n left)

pub members_begun : (depth : ℕ) (all : List Token) (keys : Keys) → keys.keys ≡ [] → MembersSoFar depth all all keys
members_begun depth all keys none = record {
  n = length all;
  enough = omega arith;
  found = no_members;
  order = tt;
  broken = λ key. no_key_has keys key none;
  read = refl;
}

pub members_more : (depth : ℕ) (all ts s r : List Token) (keys more : Keys) (key : List ℕ) (d : Data) (has : Bool) → MembersSoFar depth all ts keys
    → read_key ts ≡ Some (Some key, s) → converted of_json (value depth s) ≡ Some (d, r) → has ≡ is_some (tree_of d) → length r < length s
    → ((other : List ℕ) → has_key other more ≡ cond (bytes_eq key other) (not (has && is_some (name_of_key key))) (has_key other keys))
    → MembersSoFar depth all r more
members_more depth all ts s r keys more key d has sofar keyed here said less noted =
    let n = sofar.n in
    let shorter = read_key-shorter ts (Some key) s keyed in
    let some : 0 < n = omega (arith, sofar.enough) in
    record {
      n = n - 1;
      enough = omega (arith, sofar.enough);
      found = put key d sofar.found;
      order = order_put key d sofar.found sofar.order;
      broken = λ other. noted other
          ∙ ap (λ (b : Bool). cond (bytes_eq key other) (not (b && is_some (name_of_key key))) (has_key other keys)) said
          ∙ ap (cond (bytes_eq key other) (not (is_some (tree_of d) && is_some (name_of_key key)))) (sofar.broken other)
          ∙ sym (broken_put key d other sofar.found);
      read = sofar.read ∙ one_member (value depth) n sofar.found key ts s r d some keyed here;
    }

pub members_ended : (depth : ℕ) (all ts r : List Token) (keys : Keys) (none : Bool) → MembersSoFar depth all ts keys → read_key ts ≡ Some (None, r)
    → IsTrue none ↔ (length keys.keys ≡ 0)
    → (found : Members) × (converted (λ ms. of_members ms no_members) (members (value depth) (length all) all) ≡ Some (found, r)) × (none ≡ is_some (fields_of found))
members_ended depth all ts r keys none sofar e empty = (
  sofar.found,
  sofar.read ∙ last_member (value depth) sofar.n sofar.found ts r sofar.enough e,
  none_broken keys sofar.found none sofar.order sofar.broken empty,
)

pub some-mapped : {A B : Type 0} (f : A → B) (o : Option A) → is_some o ≡ is_some (option_map f o)
some-mapped f None = refl
some-mapped f (Some a) = refl

-- ---- a text is read if it is a value that nothing follows

abbrev pub read_as : Option (json.Json × List Token) → Option Data
read_as o = option_and_then of_json (option_and_then (λ p. if_last p.0 p.1) o)

no_data : (o : Option Data) (r : List Token) → option_map {U = Data × List Token} (λ d. (d, r)) o ≡ None → o ≡ None
no_data None r h = refl
no_data (Some d) r h = absurd (cc)

not_as : (j : json.Json) (r : List Token) → converted of_json (Some (j, r)) ≡ None → read_as (Some (j, r)) ≡ None
not_as j [] h = no_data (of_json j) [] h
not_as j (t ∷ ts) h = refl

not_read_as : (o : Option (json.Json × List Token)) → converted of_json o ≡ None → read_as o ≡ None
not_read_as None h = refl
not_read_as (Some p) h = not_as p.0 p.1 h

pub not_read : (text : List ℕ) → converted of_json (value max_depth (tokens text)) ≡ None → is_some (marked_tree text) ≡ false
not_read text h = ap (λ (o : Option Data). is_some (o >>= tree_of)) (not_read_as (value max_depth (tokens text)) h)

pub has_by : (found : Option Read) (none has : Bool) (d : Data) (old new : List Token) (text : List ℕ)
    → converted of_json (value max_depth (tokens text)) ≡ Some (d, old) → has ≡ is_some (tree_of d)
    → Yields old found new → is_some found ≡ not none → (none && has) ≡ is_some (marked_tree text)
has_by None none has d old new text h said yields ends =
    let parsed = was_parsed of_json (value max_depth (tokens text)) d old h in
    let whole : read_as (value max_depth (tokens text)) ≡ Some d = ap read_as (parsed.1 ∙ ap (λ (ts : List Token). Some (parsed.0, ts)) yields.0) ∙ parsed.2 in
    by_none none ends ∙ said ∙ sym (ap (λ (o : Option Data). is_some (o >>= tree_of)) whole)
  where
    by_none : (b : Bool) → false ≡ not b → (b && has) ≡ has
    by_none true k = refl
    by_none false k = absurd (true≢false (sym k))
has_by (Some t) none has d old new text h said yields ends =
    let parsed = was_parsed of_json (value max_depth (tokens text)) d old h in
    let longer : read_as (value max_depth (tokens text)) ≡ None = ap read_as (parsed.1 ∙ ap (λ (ts : List Token). Some (parsed.0, ts)) yields) in
    by_none none ends ∙ sym (ap (λ (o : Option Data). is_some (o >>= tree_of)) longer)
  where
    by_none : (b : Bool) → true ≡ not b → (b && has) ≡ false
    by_none true k = absurd (true≢false k)
    by_none false k = refl
