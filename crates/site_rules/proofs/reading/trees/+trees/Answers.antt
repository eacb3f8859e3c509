-- The values of the tokens are those of the grammar, as `serde_json` converts them, and whether they have trees.
use Rattle.std.proofs.Common.{◌≡◌, ◌<◌, [], ◌∷◌, length, Some, None, refl, ap, ap₂, subst, ◌∙◌, arith}
use Rattle.json.specs.Token.{Token}
use Rattle.json.specs.Json.{parse_map, after_end_array, read_key, value}
use Rattle.json.specs.Reads.{token_of}
use Rattle.json.proofs.Grammar.{value_is, read_key-shorter}
use Rattle.serde_json.specs.Data.{null, boolean, string, array, object}
use Rattle.serde_json.specs.Read.{of_json, converted}
use Rattle.ocppj_frame.specs.ByCases.Tokens.{HaveNoNumber}
use Rattle.ocppj_frame.specs.Read.{trees_of, fields_of}
use Rattle.ocppj_frame.specs.Tree.{list, object as an_object}
use Rattle.ocppj_frame.proofs.Reading.{array_opened, object_opened, item_refused, no_key, member_refused}
use Rattle.site_rules.proofs.MarkedTrees.{items_begun, items_more, items_ended, members_begun, members_more, members_ended, some-mapped}
use Rattle.site_rules.proofs.reading.trees.+trees.Goals as goal

pub value_has_tree-returns-in_err-token-clause-refused : goal.value_has_tree-returns-in_err-token-clause-refused
value_has_tree-returns-in_err-token-clause-refused t c refused =
    let none_left : c.args.reader.now ≡ [] = grind arith in
    ap (converted of_json) (ap (value c.args.depth) none_left ∙ value_is c.args.depth [])

pub value_has_tree-returns-in-String-clause-tree : goal.value_has_tree-returns-in-String-clause-tree
value_has_tree-returns-in-String-clause-tree t c =
    let is : c.args.reader.now ≡ token_of c.in_ok-token.token ∷ c.next.new.self = grind arith in
    let text : c.args.reader.now ≡ Token.string c.in-String.marked.now ∷ c.next.new.self = grind (arith, is) in
    (string c.in-String.marked.now, ap (converted of_json) (ap (value c.args.depth) text ∙ value_is c.args.depth _), c.string_has_tree.ensures)

pub value_has_tree-returns-in-Bool-clause-tree : goal.value_has_tree-returns-in-Bool-clause-tree
value_has_tree-returns-in-Bool-clause-tree t c =
    let is : c.args.reader.now ≡ token_of c.in_ok-token.token ∷ c.next.new.self = grind arith in
    let truth : c.args.reader.now ≡ Token.boolean c.in-Bool.field-0 ∷ c.next.new.self = grind (arith, is) in
    (boolean c.in-Bool.field-0, ap (converted of_json) (ap (value c.args.depth) truth ∙ value_is c.args.depth _), refl)

pub value_has_tree-returns-in-Null-clause-tree : goal.value_has_tree-returns-in-Null-clause-tree
value_has_tree-returns-in-Null-clause-tree t c =
    let is : c.args.reader.now ≡ token_of c.in_ok-token.token ∷ c.next.new.self = grind arith in
    let nothing : c.args.reader.now ≡ Token.null ∷ c.next.new.self = grind (arith, is) in
    (null, ap (converted of_json) (ap (value c.args.depth) nothing ∙ value_is c.args.depth _), refl)

-- an array

pub value_has_tree-returns-then-depth-eq0-clause-refused : goal.value_has_tree-returns-then-depth-eq0-clause-refused
unfolding value
value_has_tree-returns-then-depth-eq0-clause-refused t c never =
    let is : c.args.reader.now ≡ token_of c.in_ok-token.token ∷ c.next.new.self = grind arith in
    let opens : c.args.reader.now ≡ Token.begin_array ∷ c.next.new.self = grind (arith, is) in
    let none : c.args.depth ≡ 0 = omega arith in
    ap (converted of_json) (ap₂ value none opens)

pub value_has_tree-returns-in_err-items_have_trees-in-BeginArray-clause-refused : goal.value_has_tree-returns-in_err-items_have_trees-in-BeginArray-clause-refused
value_has_tree-returns-in_err-items_have_trees-in-BeginArray-clause-refused t c refused =
    let is : c.args.reader.now ≡ token_of c.in_ok-token.token ∷ c.next.new.self = grind arith in
    let opens : c.args.reader.now ≡ Token.begin_array ∷ c.next.new.self = grind (arith, is) in
    array_opened c.args.depth _ _ (omega arith) opens ∙ ap (parse_map array) (c.items_have_trees.ensures.refused (grind arith))

pub value_has_tree-returns-in_ok-items_have_trees-in-BeginArray-clause-tree : goal.value_has_tree-returns-in_ok-items_have_trees-in-BeginArray-clause-tree
value_has_tree-returns-in_ok-items_have_trees-in-BeginArray-clause-tree t c =
    let is : c.args.reader.now ≡ token_of c.in_ok-token.token ∷ c.next.new.self = grind arith in
    let opens : c.args.reader.now ≡ Token.begin_array ∷ c.next.new.self = grind (arith, is) in
    let found = c.in_ok-items_have_trees-in-BeginArray.ensures.trees in
    (array found.0, array_opened c.args.depth _ _ (omega arith) opens ∙ ap (parse_map array) found.1, found.2 ∙ some-mapped list (trees_of found.0))

-- an object

pub value_has_tree-returns-then-depth-eq0-2-clause-refused : goal.value_has_tree-returns-then-depth-eq0-2-clause-refused
unfolding value
value_has_tree-returns-then-depth-eq0-2-clause-refused t c never =
    let is : c.args.reader.now ≡ token_of c.in_ok-token.token ∷ c.next.new.self = grind arith in
    let opens : c.args.reader.now ≡ Token.begin_object ∷ c.next.new.self = grind (arith, is) in
    let none : c.args.depth ≡ 0 = omega arith in
    ap (converted of_json) (ap₂ value none opens)

pub value_has_tree-returns-in_err-members_have_trees-in-BeginObject-clause-refused : goal.value_has_tree-returns-in_err-members_have_trees-in-BeginObject-clause-refused
value_has_tree-returns-in_err-members_have_trees-in-BeginObject-clause-refused t c refused =
    let is : c.args.reader.now ≡ token_of c.in_ok-token.token ∷ c.next.new.self = grind arith in
    let opens : c.args.reader.now ≡ Token.begin_object ∷ c.next.new.self = grind (arith, is) in
    object_opened c.args.depth _ _ (omega arith) opens ∙ ap (parse_map object) (c.members_have_trees.ensures.refused (grind arith))

pub value_has_tree-returns-in_ok-members_have_trees-in-BeginObject-clause-tree : goal.value_has_tree-returns-in_ok-members_have_trees-in-BeginObject-clause-tree
value_has_tree-returns-in_ok-members_have_trees-in-BeginObject-clause-tree t c =
    let is : c.args.reader.now ≡ token_of c.in_ok-token.token ∷ c.next.new.self = grind arith in
    let opens : c.args.reader.now ≡ Token.begin_object ∷ c.next.new.self = grind (arith, is) in
    let found = c.in_ok-members_have_trees-in-BeginObject.ensures.trees in
    (object found.0, object_opened c.args.depth _ _ (omega arith) opens ∙ ap (parse_map object) found.1, found.2 ∙ some-mapped an_object (fields_of found.0))

-- a token that begins no value, and a number, which doesn't occur

pub value_has_tree-returns-in-EndObject-clause-refused : goal.value_has_tree-returns-in-EndObject-clause-refused
value_has_tree-returns-in-EndObject-clause-refused t c refused =
    let is : c.args.reader.now ≡ token_of c.in_ok-token.token ∷ c.next.new.self = grind arith in
    let none : value c.args.depth c.args.reader.now ≡ None = rw (value_is c.args.depth c.args.reader.now, is) (grind arith) in
    ap (converted of_json) none

pub value_has_tree-returns-in-Number-clause-refused : goal.value_has_tree-returns-in-Number-clause-refused
value_has_tree-returns-in-Number-clause-refused t c refused =
    let is : c.args.reader.now ≡ token_of c.in_ok-token.token ∷ c.next.new.self = grind arith in
    absurd (subst HaveNoNumber (is ∙ ap (λ k. token_of k ∷ c.next.new.self) c.in-Number.is) c.requires)

-- the items of an array, one after another

pub items_have_trees-items-init : goal.items_have_trees-items-init
items_have_trees-items-init t c = (items_begun c.args.depth c.args.reader.now, omega arith, c.requires)

pub items_have_trees-returns-in_err-has-clause-refused : goal.items_have_trees-returns-in_err-has-clause-refused
items_have_trees-returns-in_err-has-clause-refused t c refused =
    let l = c.items in
    let sofar = l.invariant.0 in
    let going : (after_end_array l.reader ≡ None) × (c.take_end_array.new.self ≡ l.reader) = grind arith in
    sofar.read ∙ ap (parse_map sofar.before) (item_refused (value c.args.depth) sofar.n l.reader going.0 (rw (← going.1) (c.value_has_tree.ensures.refused (grind arith))))

pub items_have_trees-items-preserved : goal.items_have_trees-items-preserved
items_have_trees-items-preserved t c =
    let l = c.items in
    let going : (after_end_array l.reader ≡ None) × (c.take_end_array.new.self ≡ l.reader) = grind arith in
    let done = c.in_ok-has.ensures in
    let r = c.value_has_tree.new.reader in
    let less : length r < length l.reader = rw (← going.1) done.shorter in (
      items_more c.args.depth c.args.reader.now l.reader r l.have c.in_ok-has.has done.tree.0 l.invariant.0 going.0 (rw (← going.1) done.tree.1) done.tree.2 less,
      omega (arith, l.invariant.1),
      done.no_numbers,
    )

pub items_have_trees-returns-clause-trees : goal.items_have_trees-returns-clause-trees
items_have_trees-returns-clause-trees t c =
    let l = c.items in
    items_ended c.args.depth c.args.reader.now l.reader c.take_end_array.new.self l.have l.invariant.0 (grind arith)

-- the members of an object, one after another

pub members_have_trees-members-init : goal.members_have_trees-members-init
members_have_trees-members-init t c = (members_begun c.args.depth c.args.reader.now _ c.new-broken.ensures.empty, omega arith, c.requires)

pub members_have_trees-returns-in_err-key-clause-refused : goal.members_have_trees-returns-in_err-key-clause-refused
members_have_trees-returns-in_err-key-clause-refused t c refused =
    let l = c.members in
    let sofar = l.invariant.0 in
    sofar.read ∙ no_key (value c.args.depth) sofar.n sofar.found l.reader c.in_err-key.ensures.value

pub members_have_trees-returns-in_err-has-clause-refused : goal.members_have_trees-returns-in_err-has-clause-refused
members_have_trees-returns-in_err-has-clause-refused t c refused =
    let l = c.members in
    let sofar = l.invariant.0 in
    let keyed : read_key l.reader ≡ Some (Some c.in-Some.key.now, c.next_key.new.self) = grind arith in
    sofar.read ∙ member_refused (value c.args.depth) sofar.n sofar.found c.in-Some.key.now l.reader c.next_key.new.self keyed (c.value_has_tree.ensures.refused (grind arith))

pub members_have_trees-members-preserved : goal.members_have_trees-members-preserved
members_have_trees-members-preserved t c =
    let l = c.members in
    let k = c.in-Some.key.now in
    let s = c.next_key.new.self in
    let keyed : read_key l.reader ≡ Some (Some k, s) = grind arith in
    let done = c.in_ok-has.ensures in
    let r = c.value_has_tree.new.reader in
    let less = read_key-shorter l.reader (Some k) s keyed in
    let lesser = done.shorter in (
      members_more c.args.depth c.args.reader.now l.reader s r l.broken c.update_key.new.broken k done.tree.0 c.in_ok-has.has l.invariant.0 keyed done.tree.1 done.tree.2 lesser c.in_ok-update_key.ensures,
      omega (arith, l.invariant.1),
      done.no_numbers,
    )

pub members_have_trees-returns-clause-trees : goal.members_have_trees-returns-clause-trees
members_have_trees-returns-clause-trees t c =
    let l = c.members in
    members_ended c.args.depth c.args.reader.now l.reader c.next_key.new.self l.broken c.is_empty.result l.invariant.0 (grind arith) c.is_empty.ensures
