-- The values of the tokens are those of the grammar, as `serde_json` converts them.
use Rattle.std.proofs.Common.{◌≡◌, ◌-◌, ◌<◌, [], ◌∷◌, length, Some, None, option_map, sym, ap, ap₂, subst, ◌∙◌, arith}
use Rattle.std.specs.Prelude.{IfOk}
use Rattle.json.specs.Token.{Token}
use Rattle.json.specs.Json.{parse_map, after_end_array, read_key, items, members, value}
use Rattle.json.specs.Reads.{token_of}
use Rattle.json.proofs.Grammar.{value_is, read_key-shorter}
use Rattle.serde_json.specs.Data.{array, object, put}
use Rattle.serde_json.specs.Read.{of_json, of_items, of_members, converted}
use Rattle.ocppj_frame.specs.ByCases.Tokens.{HaveNoNumber}
use Rattle.ocppj_frame.specs.View.{view, members_view}
use Rattle.ocppj_frame.proofs.Reading.{scalar_read, flat_value, scalar_value, array_opened, object_opened, one_item, last_item, item_refused, one_member, no_key, last_member, member_refused, items_before, before_none, none_before, one_before}
use Rattle.ocppj_frame.proofs.Views.{view-Array, view-Object}
use Rattle.ocppj_frame.proofs.marked_value.+read.Goals as goal

pub read_value-returns-in_default-clause-refused : goal.read_value-returns-in_default-clause-refused
read_value-returns-in_default-clause-refused t c refused =
    let none_left : c.args.reader.now ≡ [] = grind arith in
    ap (converted of_json) (ap (value c.args.depth) none_left ∙ value_is c.args.depth [])

-- a token where no level is left

pub read_value-returns-then-depth-eq0-clause-value : goal.read_value-returns-then-depth-eq0-clause-value
read_value-returns-then-depth-eq0-clause-value t c =
    let is : c.args.reader.now ≡ token_of c.in-Some.token ∷ c.next.new.self = grind arith in
    let none : c.args.depth ≡ 0 = omega arith in
    let flat = ap (converted of_json) (ap₂ value none is) ∙ flat_value (token_of c.in-Some.token) c.next.new.self (subst HaveNoNumber is c.requires) in
    scalar_read c.scalar.result _ _ c.next.new.self flat c.scalar.ensures.value

pub read_value-returns-then-depth-eq0-clause-refused : goal.read_value-returns-then-depth-eq0-clause-refused
read_value-returns-then-depth-eq0-clause-refused t c refused =
    let is : c.args.reader.now ≡ token_of c.in-Some.token ∷ c.next.new.self = grind arith in
    let none : c.args.depth ≡ 0 = omega arith in
    let flat = ap (converted of_json) (ap₂ value none is) ∙ flat_value (token_of c.in-Some.token) c.next.new.self (subst HaveNoNumber is c.requires) in
    flat ∙ ap (option_map (λ d. (d, c.next.new.self))) (c.scalar.ensures.refused refused)

-- an array

pub read_value-returns-in-BeginArray-clause-value : goal.read_value-returns-in-BeginArray-clause-value
read_value-returns-in-BeginArray-clause-value t c =
    let is : c.args.reader.now ≡ token_of c.in-Some.token ∷ c.next.new.self = grind arith in
    let opens : c.args.reader.now ≡ Token.begin_array ∷ c.next.new.self = grind (arith, is) in
    subst (λ read. IfOk c.read_array.result (λ found. read ≡ Some (view found, c.read_array.new.reader)))
    (sym (array_opened c.args.depth _ _ (omega arith) opens)) c.read_array.ensures.array

pub read_value-returns-in-BeginArray-clause-refused : goal.read_value-returns-in-BeginArray-clause-refused
read_value-returns-in-BeginArray-clause-refused t c refused =
    let is : c.args.reader.now ≡ token_of c.in-Some.token ∷ c.next.new.self = grind arith in
    let opens : c.args.reader.now ≡ Token.begin_array ∷ c.next.new.self = grind (arith, is) in
    array_opened c.args.depth _ _ (omega arith) opens ∙ ap (parse_map array) (c.read_array.ensures.refused refused)

-- an object

pub read_value-returns-in-BeginObject-clause-value : goal.read_value-returns-in-BeginObject-clause-value
read_value-returns-in-BeginObject-clause-value t c =
    let is : c.args.reader.now ≡ token_of c.in-Some.token ∷ c.next.new.self = grind arith in
    let opens : c.args.reader.now ≡ Token.begin_object ∷ c.next.new.self = grind (arith, is) in
    subst (λ read. IfOk c.read_object.result (λ found. read ≡ Some (view found, c.read_object.new.reader)))
    (sym (object_opened c.args.depth _ _ (omega arith) opens)) c.read_object.ensures.object

pub read_value-returns-in-BeginObject-clause-refused : goal.read_value-returns-in-BeginObject-clause-refused
read_value-returns-in-BeginObject-clause-refused t c refused =
    let is : c.args.reader.now ≡ token_of c.in-Some.token ∷ c.next.new.self = grind arith in
    let opens : c.args.reader.now ≡ Token.begin_object ∷ c.next.new.self = grind (arith, is) in
    object_opened c.args.depth _ _ (omega arith) opens ∙ ap (parse_map object) (c.read_object.ensures.refused refused)

-- another token

pub read_value-returns-in_default-token-clause-value : goal.read_value-returns-in_default-token-clause-value
read_value-returns-in_default-token-clause-value t c =
    let is : c.args.reader.now ≡ token_of c.in-Some.token ∷ c.next.new.self = grind arith in
    let alone = scalar_value c.args.depth c.in-Some.token c.next.new.self c.in_default-token.not-BeginArray c.in_default-token.not-BeginObject (subst HaveNoNumber is c.requires) in
    scalar_read c.scalar-in_default-token.result _ _ c.next.new.self (ap (λ ts. converted of_json (value c.args.depth ts)) is ∙ alone) c.scalar-in_default-token.ensures.value

pub read_value-returns-in_default-token-clause-refused : goal.read_value-returns-in_default-token-clause-refused
read_value-returns-in_default-token-clause-refused t c refused =
    let is : c.args.reader.now ≡ token_of c.in-Some.token ∷ c.next.new.self = grind arith in
    let alone = scalar_value c.args.depth c.in-Some.token c.next.new.self c.in_default-token.not-BeginArray c.in_default-token.not-BeginObject (subst HaveNoNumber is c.requires) in
    ap (λ ts. converted of_json (value c.args.depth ts)) is ∙ alone ∙ ap (option_map (λ d. (d, c.next.new.self))) (c.scalar-in_default-token.ensures.refused refused)

-- the items of an array, one after another

pub read_array-items-init : goal.read_array-items-init
read_array-items-init t c =
    let all = converted of_items (items (value c.args.depth) (length c.args.reader.now) c.args.reader.now) in
    (length c.args.reader.now, omega arith, none_before all ∙ ap (λ vs. parse_map (items_before vs) all) (sym c.new-found.ensures.items), omega arith, c.requires)

pub read_array-returns-in_err-item-clause-refused : goal.read_array-returns-in_err-item-clause-refused
read_array-returns-in_err-item-clause-refused t c refused =
    let p = value c.args.depth in
    let l = c.items in
    let n = l.invariant.0 in
    let going : (after_end_array l.reader ≡ None) × (c.take_end_array.new.self ≡ l.reader) = grind arith in
    l.invariant.2 ∙ ap (parse_map (items_before l.found.items)) (item_refused p n l.reader going.0 (rw (← going.1) (c.read_value.ensures.refused (grind arith))))

pub read_array-items-preserved : goal.read_array-items-preserved
read_array-items-preserved t c =
    let p = value c.args.depth in
    let l = c.items in
    let n = l.invariant.0 in
    let going : (after_end_array l.reader ≡ None) × (c.take_end_array.new.self ≡ l.reader) = grind arith in
    let done = c.in_ok-item.ensures in
    let v = c.in_ok-item.item in
    let r = c.read_value.new.reader in
    let less : length r < length l.reader = rw (← going.1) done.shorter in
    let turn = one_item p n l.reader r (view v) (omega (arith, l.invariant.1)) going.0 (rw (← going.1) done.value) in (
      n - 1,
      omega (arith, l.invariant.1),
      l.invariant.2 ∙ ap (parse_map (items_before l.found.items)) turn ∙ one_before l.found.items v _
          ∙ ap (λ vs. parse_map (items_before vs) (converted of_items (items p (n - 1) r))) (sym c.in_ok-push_item.ensures.items),
      omega (arith, l.invariant.3),
      done.no_numbers,
    )

pub read_array-returns-clause-array : goal.read_array-returns-clause-array
read_array-returns-clause-array t c =
    let p = value c.args.depth in
    let l = c.items in
    let n = l.invariant.0 in
    let r = c.take_end_array.new.self in
    let is = l.invariant.2 ∙ ap (parse_map (items_before l.found.items)) (last_item p n l.reader r l.invariant.1 (grind arith)) ∙ ap (λ ds. Some (ds, r)) (before_none l.found.items) in
    ap (parse_map array) is ∙ ap (λ d. Some (d, r)) (sym (view-Array l.found))

-- the members of an object, one after another

pub read_object-members-init : goal.read_object-members-init
read_object-members-init t c =
    let all = members (value c.args.depth) (length c.args.reader.now) c.args.reader.now in
    (length c.args.reader.now, omega arith, ap (λ es. converted (λ ms. of_members ms (members_view es)) all) (sym c.new-found.ensures.empty), omega arith, c.requires)

pub read_object-returns-in_err-key-clause-refused : goal.read_object-returns-in_err-key-clause-refused
read_object-returns-in_err-key-clause-refused t c refused =
    let p = value c.args.depth in
    let l = c.members in
    let n = l.invariant.0 in
    let old = members_view l.found.entries in
    l.invariant.2 ∙ no_key p n old l.reader c.in_err-key.ensures.value

pub read_object-returns-in_err-member-clause-refused : goal.read_object-returns-in_err-member-clause-refused
read_object-returns-in_err-member-clause-refused t c refused =
    let p = value c.args.depth in
    let l = c.members in
    let n = l.invariant.0 in
    let old = members_view l.found.entries in
    let k = c.in-Some.key.now in
    let s = c.next_key.new.self in
    let named : read_key l.reader ≡ Some (Some k, s) = grind arith in
    l.invariant.2 ∙ member_refused p n old k l.reader s named (c.read_value.ensures.refused (grind arith))

pub read_object-members-preserved : goal.read_object-members-preserved
read_object-members-preserved t c =
    let p = value c.args.depth in
    let l = c.members in
    let n = l.invariant.0 in
    let old = members_view l.found.entries in
    let k = c.in-Some.key in
    let s = c.next_key.new.self in
    let named : read_key l.reader ≡ Some (Some k.now, s) = grind arith in
    let done = c.in_ok-member.ensures in
    let v = c.in_ok-member.member in
    let r = c.read_value.new.reader in
    let less = read_key-shorter l.reader (Some k.now) s named in
    let lesser = done.shorter in
    let inserted : members_view c.put_member.new.found.entries ≡ put k.now (view v) old = c.in_ok-put_member.ensures.inserted in (
      n - 1,
      omega (arith, l.invariant.1),
      l.invariant.2 ∙ one_member p n old k.now l.reader s r (view v) (omega (arith, l.invariant.1)) named done.value
          ∙ ap (λ found. converted (λ ms. of_members ms found) (members p (n - 1) r)) (sym inserted),
      omega (arith, l.invariant.3),
      done.no_numbers,
    )

pub read_object-returns-clause-object : goal.read_object-returns-clause-object
read_object-returns-clause-object t c =
    let p = value c.args.depth in
    let l = c.members in
    let n = l.invariant.0 in
    let old = members_view l.found.entries in
    let r = c.next_key.new.self in
    let is = l.invariant.2 ∙ last_member p n old l.reader r l.invariant.1 (grind arith) in
    ap (parse_map object) is ∙ ap (λ d. Some (d, r)) (sym (view-Object l.found))
