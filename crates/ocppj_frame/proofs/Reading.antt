-- The reading of an array or an object by `serde_json`, from one value to the next.
use Rattle.std.proofs.Common.{◌≡◌, ◌≢◌, ℕ, zero, suc, ◌-◌, ◌<◌, ◌≤◌, List, [], ◌∷◌, ◌++◌, length, Option, Some, None, option_map, option_and_then, unwrap_or, Result, Ok, Err, refl, ap, ◌∙◌}
use Rattle.std.specs.Prelude.{IfOk}
use Rattle.json.specs.Json as json
use Rattle.json.specs.Json.{Parse, parse_map, after_end_array, read_key, items_step, items, members, value}
use Rattle.json.specs.Token.{Token}
use Rattle.json.specs.Reads.{token_of}
use Rattle.json.specs.declared.token.Token as variants
use Rattle.json.specs.declared.token.Token.TheVariants.{BeginObject, EndObject, BeginArray, EndArray, Key, String, Number, Bool, Null, Bad}
use Rattle.json.proofs.Grammar.{items_end, items_more, members_end, members_no_key, members_more, value-begin_array, value-begin_object, value_is}
use Rattle.serde_json.specs.Data.{Data, array, object, Items, no_items, item, Members, put}
use Rattle.serde_json.specs.Read.{of_json, of_items, of_members, converted}
use Rattle.ocppj_frame.specs.ByCases.Tokens.{HaveNoNumber, scalar_of}
use Rattle.ocppj_frame.specs.View.{view, items_view}
use Rattle.ocppj_frame.specs.declared.marked_value.MarkedValue.{MarkedValue}
use Rattle.ocppj_frame.specs.declared.read_fault.ReadFault.{ReadFault}

-- a pair with a fixed second part

pair_parts : {A : Type 0} (x : Option A) (r s : List Token) (a : A)
    → option_map {U = A × List Token} (λ y. (y, r)) x ≡ Some (a, s) → (x ≡ Some a) × (r ≡ s)
pair_parts None r s a e = absurd (cc)
pair_parts (Some y) r s a e =
    let same = ap (λ o. unwrap_or o (y, r)) e in (ap (λ p. Some p.0) same, ap (λ p. p.1) same)

no_pair : {A : Type 0} (x : Option A) (r : List Token) → option_map {U = A × List Token} (λ y. (y, r)) x ≡ None → x ≡ None
no_pair None r e = refl
no_pair (Some y) r e = absurd (cc)

pub pair_mapped : {A B : Type 0} (f : A → B) (x : Option A) (r : List Token)
    → option_map (λ b. (b, r)) (option_map f x) ≡ parse_map f (option_map (λ a. (a, r)) x)
pair_mapped f None r = refl
pair_mapped f (Some a) r = refl

-- a converted value was parsed
pub was_parsed : {A B : Type 0} (f : A → Option B) (o : Option (A × List Token)) (b : B) (r : List Token)
    → converted f o ≡ Some (b, r) → (a : A) × (o ≡ Some (a, r)) × (f a ≡ Some b)
was_parsed f None b r e = absurd (cc)
was_parsed f (Some p) b r e =
    let parts = pair_parts (f p.0) p.1 r b e in (p.0, ap (λ s. Some (p.0, s)) parts.1, parts.0)

-- a token that opens no array and no object, or one where no level is left

pub flat_value : (t : Token) (rest : List Token) → HaveNoNumber (t ∷ rest)
    → converted of_json (value 0 (t ∷ rest)) ≡ option_map (λ d. (d, rest)) (scalar_of t)
unfolding value
flat_value Token.begin_object rest h = refl
flat_value Token.end_object rest h = refl
flat_value Token.begin_array rest h = refl
flat_value Token.end_array rest h = refl
flat_value (Token.key s) rest h = refl
flat_value (Token.string s) rest h = refl
flat_value (Token.number s) rest h = absurd h
flat_value (Token.boolean b) rest h = refl
flat_value Token.null rest h = refl
flat_value Token.bad rest h = refl

pub scalar_value : (depth : ℕ) (t : variants.Token) (rest : List Token) → t ≢ BeginArray → t ≢ BeginObject → HaveNoNumber (token_of t ∷ rest)
    → converted of_json (value depth (token_of t ∷ rest)) ≡ option_map (λ d. (d, rest)) (scalar_of (token_of t))
scalar_value depth BeginObject rest a o h = absurd (o refl)
scalar_value depth EndObject rest a o h = ap (converted of_json) (value_is depth _)
scalar_value depth BeginArray rest a o h = absurd (a refl)
scalar_value depth EndArray rest a o h = ap (converted of_json) (value_is depth _)
scalar_value depth (Key s) rest a o h = ap (converted of_json) (value_is depth _)
scalar_value depth (String s) rest a o h = ap (converted of_json) (value_is depth _)
scalar_value depth (Number s) rest a o h = absurd h
scalar_value depth (Bool b) rest a o h = ap (converted of_json) (value_is depth _)
scalar_value depth Null rest a o h = ap (converted of_json) (value_is depth _)
scalar_value depth Bad rest a o h = ap (converted of_json) (value_is depth _)

pub scalar_read : (r : Result MarkedValue ReadFault) (read : Option (Data × List Token)) (d : Option Data) (rest : List Token)
    → read ≡ option_map (λ e. (e, rest)) d → IfOk r (λ found. d ≡ Some (view found)) → IfOk r (λ found. read ≡ Some (view found, rest))
scalar_read (Ok found) read d rest e is = e ∙ ap (option_map (λ f. (f, rest))) is
scalar_read (Err fault) read d rest e is = tt

-- an array's items, an object's members

of_array : (o : Option (json.Items × List Token))
    → converted of_json (parse_map json.array o) ≡ parse_map array (converted of_items o)
of_array None = refl
of_array (Some p) = pair_mapped array (of_items p.0) p.1

of_object : (o : Option (json.Members × List Token))
    → converted of_json (parse_map json.object o) ≡ parse_map object (converted (λ ms. of_members ms Members.no_members) o)
of_object None = refl
of_object (Some p) = pair_mapped object (of_members p.0 Members.no_members) p.1

-- an array or an object by its first token

pub array_opened : (depth : ℕ) (ts rest : List Token) → 0 < depth → ts ≡ Token.begin_array ∷ rest
    → converted of_json (value depth ts) ≡ parse_map array (converted of_items (items (value (depth - 1)) (length rest) rest))
array_opened depth ts rest some is = ap (converted of_json) (ap (value depth) is ∙ value-begin_array depth rest some)
    ∙ of_array (items (value (depth - 1)) (length rest) rest)

pub object_opened : (depth : ℕ) (ts rest : List Token) → 0 < depth → ts ≡ Token.begin_object ∷ rest
    → converted of_json (value depth ts)
    ≡ parse_map object (converted (λ ms. of_members ms Members.no_members) (members (value (depth - 1)) (length rest) rest))
object_opened depth ts rest some is = ap (converted of_json) (ap (value depth) is ∙ value-begin_object depth rest some)
    ∙ of_object (members (value (depth - 1)) (length rest) rest)

first_item : (j : json.Json) (d : Data) → of_json j ≡ Some d → (o : Option (json.Items × List Token))
    → converted of_items (parse_map (json.item j) o) ≡ parse_map (item d) (converted of_items o)
first_item j d e None = refl
first_item j d e (Some p) = rw e (pair_mapped (item d) (of_items p.0) p.1)

first_member : (k : List ℕ) (j : json.Json) (d : Data) (found : Members) → of_json j ≡ Some d → (o : Option (json.Members × List Token))
    → converted (λ ms. of_members ms found) (parse_map (json.member k j) o) ≡ converted (λ ms. of_members ms (put k d found)) o
first_member k j d found e None = refl
first_member k j d found e (Some p) = rw e

-- a value without data makes its array or object refused

bad_item : (more : Parse json.Items) (o : Option (json.Json × List Token)) → converted of_json o ≡ None
    → converted of_items (option_and_then (λ q. parse_map (json.item q.0) (more q.1)) o) ≡ None
bad_item more None e = refl
bad_item more (Some q) e = by_rest (more q.1)
  where
    by_rest : (o : Option (json.Items × List Token)) → converted of_items (parse_map (json.item q.0) o) ≡ None
    by_rest None = refl
    by_rest (Some p) = rw (no_pair (of_json q.0) q.1 e)

bad_member : (k : List ℕ) (found : Members) (more : Parse json.Members) (o : Option (json.Json × List Token)) → converted of_json o ≡ None
    → converted (λ ms. of_members ms found) (option_and_then (λ q. parse_map (json.member k q.0) (more q.1)) o) ≡ None
bad_member k found more None e = refl
bad_member k found more (Some q) e = by_rest (more q.1)
  where
    by_rest : (o : Option (json.Members × List Token)) → converted (λ ms. of_members ms found) (parse_map (json.member k q.0) o) ≡ None
    by_rest None = refl
    by_rest (Some p) = rw (no_pair (of_json q.0) q.1 e)

-- the iterations of the two loops; n bounds them, p reads a value
module _ (p : Parse json.Json) (n : ℕ) where
  pub one_item : (ts r : List Token) (d : Data) → 0 < n → after_end_array ts ≡ None → converted of_json (p ts) ≡ Some (d, r)
      → converted of_items (items p n ts) ≡ parse_map (item d) (converted of_items (items p (n - 1) r))
  one_item ts r d some going e =
      let parsed = was_parsed of_json (p ts) d r e in
      ap (converted of_items) (items_more p n ts r parsed.0 some going parsed.1) ∙ first_item parsed.0 d parsed.2 _

  pub last_item : (ts r : List Token) → length ts ≤ n → after_end_array ts ≡ Some r → converted of_items (items p n ts) ≡ Some (no_items, r)
  last_item ts r enough e = ap (converted of_items) (items_end p n ts r enough e)

  module _ (found : Members) where
    pub one_member : (k : List ℕ) (ts s r : List Token) (d : Data) → 0 < n → read_key ts ≡ Some (Some k, s) → converted of_json (p s) ≡ Some (d, r)
        → converted (λ ms. of_members ms found) (members p n ts) ≡ converted (λ ms. of_members ms (put k d found)) (members p (n - 1) r)
    one_member k ts s r d some key e =
        let parsed = was_parsed of_json (p s) d r e in
        ap (converted (λ ms. of_members ms found)) (members_more p n k ts s r parsed.0 some key parsed.1) ∙ first_member k parsed.0 d found parsed.2 _

    pub no_key : (ts : List Token) → read_key ts ≡ None → converted (λ ms. of_members ms found) (members p n ts) ≡ None
    no_key ts e = ap (converted (λ ms. of_members ms found)) (members_no_key p n ts e)

    pub last_member : (ts r : List Token) → length ts ≤ n → read_key ts ≡ Some (None, r) → converted (λ ms. of_members ms found) (members p n ts) ≡ Some (found, r)
    last_member ts r enough e = ap (converted (λ ms. of_members ms found)) (members_end p n ts r enough e)

pub item_refused : (p : Parse json.Json) (n : ℕ) (ts : List Token) → after_end_array ts ≡ None → converted of_json (p ts) ≡ None → converted of_items (items p n ts) ≡ None
unfolding items
item_refused p zero ts going e = refl
item_refused p (suc n) ts going e = ap (λ o. converted of_items (items_step p (items p n) ts o)) going ∙ bad_item (items p n) (p ts) e

pub member_refused : (p : Parse json.Json) (n : ℕ) (found : Members) (k : List ℕ) (ts s : List Token) → read_key ts ≡ Some (Some k, s) → converted of_json (p s) ≡ None
    → converted (λ ms. of_members ms found) (members p n ts) ≡ None
unfolding members
member_refused p zero found k ts s key e = refl
member_refused p (suc n) found k ts s key e = rw key (bad_member k found (members p n) (p s) e)

-- the items read so far, before the remaining ones

abbrev pub items_before : List MarkedValue → Items → Items
items_before [] rest = rest
items_before (v ∷ vs) rest = item (view v) (items_before vs rest)

pub before_none : (vs : List MarkedValue) → items_before vs no_items ≡ items_view vs
before_none [] = refl
before_none (v ∷ vs) = ap (item (view v)) (before_none vs)

before_one : (vs : List MarkedValue) (v : MarkedValue) (rest : Items) → items_before vs (item (view v) rest) ≡ items_before (vs ++ v ∷ []) rest
before_one [] v rest = refl
before_one (w ∷ vs) v rest = ap (item (view w)) (before_one vs v rest)

pub none_before : (o : Option (Items × List Token)) → o ≡ parse_map (items_before []) o
none_before None = refl
none_before (Some p) = refl

pub one_before : (vs : List MarkedValue) (v : MarkedValue) (o : Option (Items × List Token))
    → parse_map (items_before vs) (parse_map (item (view v)) o) ≡ parse_map (items_before (vs ++ v ∷ [])) o
one_before vs v None = refl
one_before vs v (Some p) = ap (λ ds. Some (ds, p.1)) (before_one vs v p.0)
