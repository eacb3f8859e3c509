-- The trees of tokens: those of a list one after another, and the fields of an object.
use Rattle.std.proofs.Common.{◌≡◌, ℕ, ◌-◌, ◌<◌, ◌≤◌, List, [], ◌∷◌, ◌++◌, length, Bool, true, false, cond, Option, Some, None, unwrap_or, refl, sym, ap, ◌∙◌, subst, bytes_eq, Ordering, Less, Equal, Greater, nat_cmp, true≢false, arith}
use Rattle.std.specs.Cmp.Lexicographic.{slice_cmp}
use Rattle.std.specs.Ordering.{is_eq, match_ordering}
use Rattle.std.proofs.lemmas.Slice.Eq.{bytes_eq-Decides}
use Rattle.std.proofs.lemmas.Map.Text.{is_eq-slice_cmp}
use Rattle.json.specs.Json.{parse_map, after_end_array, read_key, items, members, value}
use Rattle.json.specs.Token.{Token}
use Rattle.json.proofs.Grammar.{read_key-shorter}
use Rattle.serde_json.specs.Data as json
use Rattle.serde_json.specs.Read.{converted, of_json, of_items, of_members}
use Rattle.ocppj_frame.specs.Mark.{text_mark}
use Rattle.ocppj_frame.specs.Read.{name_of_key}
use Rattle.ocppj_frame.specs.Tree.{Tree, list, object, Trees, no_entries, entry, entries, Fields, no_fields, field, field_at}
use Rattle.ocppj_frame.proofs.Reading.{array_opened, object_opened, one_item, last_item, one_member, last_member}
use Rattle.site_rules.specs.ByCases.Parts.{with_named, mended_tree, mended_trees, mended_fields, tree_at, trees_at, fields_at, IsPut, IsPutBy}

-- ---- a list

-- a mapped value was parsed
pub was_mapped : {A B : Type 0} (f : A → B) (o : Option (A × List Token)) (b : B) (r : List Token) → parse_map f o ≡ Some (b, r)
    → (a : A) × (o ≡ Some (a, r)) × (f a ≡ b)
was_mapped f None b r e = let no : ⊥ = cc in absurd no
was_mapped {B = B} f (Some p) b r e =
    let same : (f p.0, p.1) ≡ (b, r) = ap (λ (o : Option (B × List Token)). unwrap_or o (b, r)) e in
    (p.0, ap (λ (q : B × List Token). Some (p.0, q.1)) same, ap (λ (q : B × List Token). q.0) same)

list_read : (o : Option (json.Items × List Token)) → parse_map mended_tree (parse_map json.array o) ≡ parse_map list (parse_map mended_trees o)
list_read None = refl
list_read (Some p) = refl

pub list_opened : (depth : ℕ) (ts rest r : List Token) (trees : Trees) → 0 < depth → ts ≡ Token.begin_array ∷ rest
    → trees_at (depth - 1) (length rest) rest ≡ Some (trees, r)
    → tree_at depth ts ≡ Some (list trees, r)
list_opened depth ts rest r trees some is read =
    ap (parse_map mended_tree) (array_opened depth ts rest some is) ∙ list_read (converted of_items (items (value (depth - 1)) (length rest) rest)) ∙ ap (parse_map list) read

entry_read : (d : json.Data) (t : Tree) → mended_tree d ≡ t → (o : Option (json.Items × List Token))
    → parse_map mended_trees (parse_map (json.item d) o) ≡ parse_map (entry t) (parse_map mended_trees o)
entry_read d t e None = refl
entry_read d t e (Some p) = ap (λ (u : Tree). Some (entry u (mended_trees p.0), p.1)) e

-- the entries so far, before the remaining ones
abbrev pub before : List Tree → Trees → Trees
before [] rest = rest
before (t ∷ ts) rest = entry t (before ts rest)

entries-before : (ts : List Tree) → entries (before ts no_entries) ≡ ts
entries-before [] = refl
entries-before (t ∷ ts) = ap (λ (us : List Tree). t ∷ us) (entries-before ts)

before-more : (ts : List Tree) (t : Tree) (rest : Trees) → before ts (entry t rest) ≡ before (ts ++ t ∷ []) rest
before-more [] t rest = refl
before-more (u ∷ ts) t rest = ap (entry u) (before-more ts t rest)

none_before : (o : Option (Trees × List Token)) → o ≡ parse_map (before []) o
none_before None = refl
none_before (Some p) = refl

one_before : (ts : List Tree) (t : Tree) (o : Option (Trees × List Token))
    → parse_map (before ts) (parse_map (entry t) o) ≡ parse_map (before (ts ++ t ∷ [])) o
one_before ts t None = refl
one_before ts t (Some p) = ap (λ (us : Trees). Some (us, p.1)) (before-more ts t p.0)

-- a list with the trees read so far, and the rest of it
pub record ListSoFar (depth : ℕ) (all left : List Token) (done : List Tree) : Type 0 where
  pub n : ℕ
  pub enough : length left ≤ n
  pub read : trees_at depth (length all) all ≡ parse_map (before done) (trees_at depth n left)

pub list_begun : (depth : ℕ) (all : List Token) → ListSoFar depth all all []
list_begun depth all = record { n = length all; enough = omega arith; read = none_before (trees_at depth (length all) all) }

pub list_more : (depth : ℕ) (all ts r : List Token) (done : List Tree) (t : Tree) → ListSoFar depth all ts done → after_end_array ts ≡ None
    → tree_at depth ts ≡ Some (t, r) → length r < length ts
    → ListSoFar depth all r (done ++ t ∷ [])
list_more depth all ts r done t sofar going here less =
    let n = sofar.n in
    let some : 0 < n = omega (arith, sofar.enough) in
    let parsed = was_mapped mended_tree (converted of_json (value depth ts)) t r here in
    let turn = ap (parse_map mended_trees) (one_item (value depth) n ts r parsed.0 some going parsed.1) ∙ entry_read parsed.0 t parsed.2 _ in
    record {
      n = n - 1;
      enough = omega (arith, sofar.enough);
      read = sofar.read ∙ ap (parse_map (before done)) turn ∙ one_before done t (trees_at depth (n - 1) r);
    }

pub list_ended : (depth : ℕ) (all ts r : List Token) (done : List Tree) → ListSoFar depth all ts done → after_end_array ts ≡ Some r
    → (trees : Trees) × (trees_at depth (length all) all ≡ Some (trees, r)) × (entries trees ≡ done)
list_ended depth all ts r done sofar e =
    let last = ap (parse_map mended_trees) (last_item (value depth) sofar.n ts r sofar.enough e) in
    (before done no_entries, sofar.read ∙ ap (parse_map (before done)) last, entries-before done)

-- ---- an object

object_read : (o : Option (json.Members × List Token)) → parse_map mended_tree (parse_map json.object o) ≡ parse_map object (parse_map mended_fields o)
object_read None = refl
object_read (Some p) = refl

pub fields_opened : (depth : ℕ) (ts rest r : List Token) (fields : Fields) → 0 < depth → ts ≡ Token.begin_object ∷ rest
    → fields_at (depth - 1) (length rest) json.no_members rest ≡ Some (fields, r)
    → tree_at depth ts ≡ Some (object fields, r)
fields_opened depth ts rest r fields some is read =
    ap (parse_map mended_tree) (object_opened depth ts rest some is) ∙ object_read (converted (λ ms. of_members ms json.no_members) (members (value (depth - 1)) (length rest) rest)) ∙ ap (parse_map object) read

key_is : (key name : List ℕ) → name_of_key key ≡ Some name → key ≡ text_mark ∷ name
key_is [] name h = let no : ⊥ = cc in absurd no
key_is (c ∷ bs) name h = grind (arith, h)

same_as : (k l : List ℕ) → slice_cmp nat_cmp k l ≡ Equal → k ≡ l
same_as k l e = (bytes_eq-Decides k l).0 (sym (is_eq-slice_cmp k l) ∙ ap is_eq e)

-- the fields with one more, as `serde_json` inserts it
module _ (k : List ℕ) (d : json.Data) (name : List ℕ) (tree : Tree) (named : name_of_key k ≡ Some name) (valued : mended_tree d ≡ tree) where
  same_key : (l other : List ℕ) → name_of_key l ≡ Some other → name ≡ other → bytes_eq k l ≡ true
  same_key l other h e = (bytes_eq-Decides k l).1 (key_is k name named ∙ ap (λ (bs : List ℕ). text_mark ∷ bs) e ∙ sym (key_is l other h))

  put-at : (m : List ℕ) (t : Tree) (others more : Fields) (other : List ℕ) → (bytes_eq m other ≡ true → bytes_eq name other ≡ true → ⊥)
      → field_at other more ≡ cond (bytes_eq name other) (Some tree) (field_at other others)
      → field_at other (field m t more) ≡ cond (bytes_eq name other) (Some tree) (field_at other (field m t others))
  put-at m t others more other apart h = by_tests (bytes_eq m other) (bytes_eq name other) apart h
    where
      by_tests : (a b : Bool) → (a ≡ true → b ≡ true → ⊥) → field_at other more ≡ cond b (Some tree) (field_at other others)
          → cond a (Some t) (field_at other more) ≡ cond b (Some tree) (cond a (Some t) (field_at other others))
      by_tests true true differ e = absurd (differ refl refl)
      by_tests true false differ e = refl
      by_tests false true differ e = e
      by_tests false false differ e = e

  put_less : (fields : Fields) → IsPut name tree fields (with_named (name_of_key k) (mended_tree d) fields)
  put_less fields other = ap (field_at other) (ap (λ (o : Option (List ℕ)). with_named o (mended_tree d) fields) named ∙ ap (λ (t : Tree). field name t fields) valued)

  put_same : (t : Tree) (others : Fields) → IsPut name tree (field name t others) (field name tree others)
  put_same t others other = by_test (bytes_eq name other)
    where
      by_test : (b : Bool) → cond b (Some tree) (field_at other others) ≡ cond b (Some tree) (cond b (Some t) (field_at other others))
      by_test true = refl
      by_test false = refl

  put_equal : (l : List ℕ) (t : Tree) (others : Fields) → k ≡ l → IsPut name tree (with_named (name_of_key l) t others) (with_named (name_of_key l) (mended_tree d) others)
  put_equal l t others same =
      subst (λ (o : Option (List ℕ)). IsPut name tree (with_named o t others) (with_named o (mended_tree d) others)) (sym named ∙ ap name_of_key same)
      (subst (λ (u : Tree). IsPut name tree (field name t others) (field name u others)) (sym valued) (put_same t others))

  put_greater : (l : List ℕ) (t : Tree) (others more : Fields) → bytes_eq k l ≡ false → IsPut name tree others more
      → IsPut name tree (with_named (name_of_key l) t others) (with_named (name_of_key l) t more)
  put_greater l t others more differ rest = by_name (name_of_key l) refl
    where
      by_name : (o : Option (List ℕ)) → name_of_key l ≡ o → IsPut name tree (with_named o t others) (with_named o t more)
      by_name None e = rest
      by_name (Some m) e = λ other. put-at m t others more other
          (λ here there. true≢false (sym (same_key l m e ((bytes_eq-Decides name other).0 there ∙ sym ((bytes_eq-Decides m other).0 here))) ∙ differ)) (rest other)

  put_by : (o : Ordering) (l : List ℕ) (e : json.Data) (ms : json.Members) → slice_cmp nat_cmp k l ≡ o → IsPut name tree (mended_fields ms) (mended_fields (json.put k d ms))
      → IsPut name tree (mended_fields (json.member l e ms))
      (mended_fields (match_ordering o (json.member k d (json.member l e ms)) (json.member l d ms) (json.member l e (json.put k d ms))))
  put_by Less l e ms o rest = put_less (mended_fields (json.member l e ms))
  put_by Equal l e ms o rest = put_equal l (mended_tree e) (mended_fields ms) (same_as k l o)
  put_by Greater l e ms o rest = put_greater l (mended_tree e) (mended_fields ms) (mended_fields (json.put k d ms)) (sym (is_eq-slice_cmp k l) ∙ ap is_eq o) rest

  put_in : (ms : json.Members) → IsPut name tree (mended_fields ms) (mended_fields (json.put k d ms))
  put_in json.no_members = put_less no_fields
  put_in (json.member l e ms) = put_by (slice_cmp nat_cmp k l) l e ms refl (put_in ms)

-- a member whose key isn't a text changes no field
module _ (k : List ℕ) (d : json.Data) (unnamed : name_of_key k ≡ None) where
  passed : (t : Tree) (fields : Fields) (l : List ℕ) → k ≡ l → with_named (name_of_key l) t fields ≡ fields
  passed t fields l same = ap (λ (o : Option (List ℕ)). with_named o t fields) (sym (ap name_of_key same) ∙ unnamed)

  ignored_by : (o : Ordering) (l : List ℕ) (e : json.Data) (ms : json.Members) → slice_cmp nat_cmp k l ≡ o → mended_fields (json.put k d ms) ≡ mended_fields ms
      → mended_fields (match_ordering o (json.member k d (json.member l e ms)) (json.member l d ms) (json.member l e (json.put k d ms))) ≡ mended_fields (json.member l e ms)
  ignored_by Less l e ms o rest = passed (mended_tree d) (mended_fields (json.member l e ms)) k refl
  ignored_by Equal l e ms o rest = passed (mended_tree d) (mended_fields ms) l (same_as k l o) ∙ sym (passed (mended_tree e) (mended_fields ms) l (same_as k l o))
  ignored_by Greater l e ms o rest = ap (with_named (name_of_key l) (mended_tree e)) rest

  ignored : (ms : json.Members) → mended_fields (json.put k d ms) ≡ mended_fields ms
  ignored json.no_members = passed (mended_tree d) no_fields k refl
  ignored (json.member l e ms) = ignored_by (slice_cmp nat_cmp k l) l e ms refl (ignored ms)

put_by_key : (k : List ℕ) (d : json.Data) (tree : Tree) (ms : json.Members) → mended_tree d ≡ tree
    → IsPutBy (name_of_key k) tree (mended_fields ms) (mended_fields (json.put k d ms))
put_by_key k d tree ms valued = by_name (name_of_key k) refl
  where
    by_name : (o : Option (List ℕ)) → name_of_key k ≡ o → IsPutBy o tree (mended_fields ms) (mended_fields (json.put k d ms))
    by_name None e = λ other. ap (field_at other) (ignored k d e ms)
    by_name (Some name) e = put_in k d name tree e valued ms

-- an object with the fields read so far, and the rest of it
pub record ObjectSoFar (depth : ℕ) (all left : List Token) (fields : Fields) : Type 0 where
  pub n : ℕ
  pub enough : length left ≤ n
  pub found : json.Members
  pub is : mended_fields found ≡ fields
  pub read : fields_at depth (length all) json.no_members all ≡ fields_at depth n found left

pub object_begun : (depth : ℕ) (all : List Token) → ObjectSoFar depth all all no_fields
object_begun depth all = record { n = length all; enough = omega arith; found = json.no_members; is = refl; read = refl }

pub record ObjectMore (depth : ℕ) (all left : List Token) (key : List ℕ) (tree : Tree) (fields : Fields) : Type 0 where
  pub more : Fields
  pub put : IsPutBy (name_of_key key) tree fields more
  pub sofar : ObjectSoFar depth all left more

pub object_more : (depth : ℕ) (all ts s r : List Token) (fields : Fields) (key : List ℕ) (tree : Tree) → ObjectSoFar depth all ts fields
    → read_key ts ≡ Some (Some key, s) → tree_at depth s ≡ Some (tree, r) → length r < length s
    → ObjectMore depth all r key tree fields
object_more depth all ts s r fields key tree sofar keyed here less =
    let n = sofar.n in
    let shorter = read_key-shorter ts (Some key) s keyed in
    let some : 0 < n = omega (arith, sofar.enough) in
    let parsed = was_mapped mended_tree (converted of_json (value depth s)) tree r here in
    let more : Fields = mended_fields (json.put key parsed.0 sofar.found) in
    record {
      more = more;
      put = subst (λ (fs : Fields). IsPutBy (name_of_key key) tree fs more) sofar.is (put_by_key key parsed.0 tree sofar.found parsed.2);
      sofar = record {
        n = n - 1;
        enough = omega (arith, sofar.enough);
        found = json.put key parsed.0 sofar.found;
        is = refl;
        read = sofar.read ∙ ap (parse_map mended_fields) (one_member (value depth) n sofar.found key ts s r parsed.0 some keyed parsed.1);
      };
    }

pub object_ended : (depth : ℕ) (all ts r : List Token) (fields : Fields) → ObjectSoFar depth all ts fields → read_key ts ≡ Some (None, r)
    → fields_at depth (length all) json.no_members all ≡ Some (fields, r)
object_ended depth all ts r fields sofar e =
    let last = ap (parse_map mended_fields) (last_member (value depth) sofar.n sofar.found ts r sofar.enough e) in
    sofar.read ∙ last ∙ ap (λ (fs : Fields). Some (fs, r)) sofar.is
