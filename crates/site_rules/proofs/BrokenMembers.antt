-- The members of an object that have no tree: without such a member, the object has a tree.
use Rattle.std.proofs.Common.{◌≡◌, ℕ, List, [], ◌∷◌, length, Bool, true, false, cond, not, ◌&&◌, ◌||◌, ◌↔◌, Option, Some, None, is_some, BTreeSet, Bor, Ordering, Less, Equal, Greater, nat_cmp, is_eq, refl, sym, ap, ap₂, ◌∙◌, subst, true≢false, arith}
use Rattle.std.specs.Prelude.{IsTrue}
use Rattle.std.specs.BTreeSet.{UpdatesBy}
use Rattle.std.specs.List.{list_any}
use Rattle.std.specs.Cmp.Lexicographic.{slice_cmp}
use Rattle.std.specs.Ordering.{match_ordering, ordering_reverse}
use Rattle.std.specs.Str.{bytes_eq}
use Rattle.std.proofs.lemmas.Cmp.{nat_list_cmp_total}
use Rattle.std.proofs.lemmas.Map.Text.{is_eq-slice_cmp}
use Rattle.std.proofs.lemmas.Slice.Eq.{bytes_eq-Decides}
use Rattle.serde_json.specs.Data.{Data, Members, no_members, member, put}
use Rattle.ocpp_scalars.specs.OptionSteps.{◌>>=◌}
use Rattle.ocppj_frame.specs.Read.{tree_of, fields_of, name_of_key}
use Rattle.ocppj_frame.specs.Tree.{Tree, Fields, field}
use Rattle.site_rules.specs.ByCases.HasTree.{has_key}

abbrev has_tree : List ℕ → Data → Bool
has_tree key d = is_some (tree_of d) && is_some (name_of_key key)

-- whether the first member of the key has no tree
abbrev pub is_broken : List ℕ → Members → Bool
is_broken key no_members = false
is_broken key (member l d ms) = cond (bytes_eq l key) (not (has_tree l d)) (is_broken key ms)

-- ---- one more member

exchanged : (a b x y z : Bool) → (a ≡ true → b ≡ true → ⊥) → cond b y (cond a x z) ≡ cond a x (cond b y z)
exchanged true true x y z apart = absurd (apart refl refl)
exchanged true false x y z apart = refl
exchanged false true x y z apart = refl
exchanged false false x y z apart = refl

hidden : (a x y z : Bool) → cond a x z ≡ cond a x (cond a y z)
hidden true x y z = refl
hidden false x y z = refl

module _ (k : List ℕ) (d : Data) (key : List ℕ) where
  abbrev After : Members → Members → Type 0
  After ms more = is_broken key more ≡ cond (bytes_eq k key) (not (has_tree k d)) (is_broken key ms)

  broken_equal : (l : List ℕ) (e : Data) (ms : Members) → k ≡ l → After (member l e ms) (member l d ms)
  broken_equal l e ms same =
      subst (λ (j : List ℕ). cond (bytes_eq l key) (not (has_tree l d)) (is_broken key ms) ≡ cond (bytes_eq j key) (not (has_tree j d)) (cond (bytes_eq l key) (not (has_tree l e)) (is_broken key ms))) (sym same)
      (hidden (bytes_eq l key) (not (has_tree l d)) (not (has_tree l e)) (is_broken key ms))

  broken_greater : (l : List ℕ) (e : Data) (ms more : Members) → bytes_eq k l ≡ false → After ms more → After (member l e ms) (member l e more)
  broken_greater l e ms more differ h =
      ap (cond (bytes_eq l key) (not (has_tree l e))) h
      ∙ exchanged (bytes_eq k key) (bytes_eq l key) (not (has_tree k d)) (not (has_tree l e)) (is_broken key ms)
      (λ here there. true≢false (sym ((bytes_eq-Decides k l).1 ((bytes_eq-Decides k key).0 here ∙ sym ((bytes_eq-Decides l key).0 there))) ∙ differ))

  broken_by : (o : Ordering) (l : List ℕ) (e : Data) (ms more : Members) → slice_cmp nat_cmp k l ≡ o → After ms more
      → After (member l e ms) (match_ordering o (member k d (member l e ms)) (member l d ms) (member l e more))
  broken_by Less l e ms more o h = refl
  broken_by Equal l e ms more o h = broken_equal l e ms ((bytes_eq-Decides k l).0 (sym (is_eq-slice_cmp k l) ∙ ap is_eq o))
  broken_by Greater l e ms more o h = broken_greater l e ms more (sym (is_eq-slice_cmp k l) ∙ ap is_eq o) h

  pub broken_put : (ms : Members) → After ms (put k d ms)
  broken_put no_members = refl
  broken_put (member l e ms) = broken_by (slice_cmp nat_cmp k l) l e ms (put k d ms) refl (broken_put ms)

-- ---- the order of the keys

abbrev IsBelow : List ℕ → Members → Type 0
IsBelow k no_members = Unit {0}
IsBelow k (member l d ms) = slice_cmp nat_cmp k l ≡ Less

abbrev pub AreInOrder : Members → Type 0
AreInOrder no_members = Unit {0}
AreInOrder (member l d ms) = IsBelow l ms × AreInOrder ms

module _ (k : List ℕ) (d : Data) where
  below_put : (j : List ℕ) (ms : Members) → slice_cmp nat_cmp j k ≡ Less → IsBelow j ms → IsBelow j (put k d ms)
  below_put j no_members less h = less
  below_put j (member l e ms) less h = by_result (slice_cmp nat_cmp k l)
    where
      by_result : (o : Ordering) → IsBelow j (match_ordering o (member k d (member l e ms)) (member l d ms) (member l e (put k d ms)))
      by_result Less = less
      by_result Equal = h
      by_result Greater = h

  order_by : (o : Ordering) (l : List ℕ) (e : Data) (ms : Members) → slice_cmp nat_cmp k l ≡ o → AreInOrder (member l e ms) → AreInOrder (put k d ms)
      → AreInOrder (match_ordering o (member k d (member l e ms)) (member l d ms) (member l e (put k d ms)))
  order_by Less l e ms o h rest = (o, h)
  order_by Equal l e ms o h rest = h
  order_by Greater l e ms o h rest = (below_put l ms (nat_list_cmp_total.antisymm l k ∙ ap ordering_reverse o) h.0, rest)

  pub order_put : (ms : Members) → AreInOrder ms → AreInOrder (put k d ms)
  order_put no_members h = (tt, tt)
  order_put (member l e ms) h = order_by (slice_cmp nat_cmp k l) l e ms refl h (order_put ms h.1)

-- ---- an object has a tree if none of its members is broken

fields_member : (name : Option (List ℕ)) (value : Option Tree) (others : Option Fields)
    → is_some (name >>= (λ (n : List ℕ). value >>= (λ (v : Tree). others >>= (λ (fs : Fields). Some (field n v fs)))))
    ≡ ((is_some value && is_some name) && is_some others)
fields_member None None others = refl
fields_member None (Some v) others = refl
fields_member (Some n) None others = refl
fields_member (Some n) (Some v) None = refl
fields_member (Some n) (Some v) (Some fs) = refl

fields_of_member : (l : List ℕ) (d : Data) (ms : Members) → is_some (fields_of (member l d ms)) ≡ (has_tree l d && is_some (fields_of ms))
fields_of_member l d ms = fields_member (name_of_key l) (tree_of d) (fields_of ms)

below_next : (k l : List ℕ) (ms : Members) → slice_cmp nat_cmp k l ≡ Less → IsBelow l ms → IsBelow k ms
below_next k l no_members less h = tt
below_next k l (member m d ms) less h = nat_list_cmp_total.trans k l m less h

apart : (k l : List ℕ) → bytes_eq k l ≡ false → bytes_eq l k ≡ false
apart k l differ = by_test (bytes_eq l k) refl
  where
    by_test : (t : Bool) → bytes_eq l k ≡ t → t ≡ false
    by_test true e = sym ((bytes_eq-Decides k l).1 (sym ((bytes_eq-Decides l k).0 e))) ∙ differ
    by_test false e = refl

-- a key below all has no member
not_below : (k : List ℕ) (ms : Members) → IsBelow k ms → AreInOrder ms → is_broken k ms ≡ false
not_below k no_members less h = refl
not_below k (member l d ms) less h =
    ap (λ (t : Bool). cond t (not (has_tree l d)) (is_broken k ms)) (apart k l (sym (is_eq-slice_cmp k l) ∙ ap is_eq less))
    ∙ not_below k ms (below_next k l ms less h.0) h.1

not_true : (b : Bool) → not b ≡ false → b ≡ true
not_true true h = refl
not_true false h = sym h

and_not : (a b : Bool) → not a ≡ true → (a && b) ≡ false
and_not true b h = absurd (true≢false (sym h))
and_not false b h = refl

and_false : (a b : Bool) → b ≡ false → (a && b) ≡ false
and_false true b h = h
and_false false b h = refl

pub whole : (ms : Members) → AreInOrder ms → ((key : List ℕ) → is_broken key ms ≡ false) → is_some (fields_of ms) ≡ true
whole no_members order h = refl
whole (member l d ms) order h =
    let here : has_tree l d ≡ true = not_true (has_tree l d) (sym (ap (λ (t : Bool). cond t (not (has_tree l d)) (is_broken l ms)) ((bytes_eq-Decides l l).1 refl)) ∙ h l) in
    let others : is_some (fields_of ms) ≡ true = whole ms order.1 (λ key. by_test key (bytes_eq l key) refl) in
    fields_of_member l d ms ∙ ap₂ (λ (a b : Bool). a && b) here others
  where
    by_test : (key : List ℕ) (t : Bool) → bytes_eq l key ≡ t → is_broken key ms ≡ false
    by_test key true e = subst (λ (k : List ℕ). is_broken k ms ≡ false) ((bytes_eq-Decides l key).0 e) (not_below l ms order.0 order.1)
    by_test key false e = sym (ap (λ (t : Bool). cond t (not (has_tree l d)) (is_broken key ms)) e) ∙ h key

pub broken : (key : List ℕ) (ms : Members) → is_broken key ms ≡ true → is_some (fields_of ms) ≡ false
broken key no_members h = absurd (true≢false (sym h))
broken key (member l d ms) h = fields_of_member l d ms ∙ by_test (bytes_eq l key) h (broken key ms)
  where
    by_test : (t : Bool) → cond t (not (has_tree l d)) (is_broken key ms) ≡ true → (is_broken key ms ≡ true → is_some (fields_of ms) ≡ false)
        → (has_tree l d && is_some (fields_of ms)) ≡ false
    by_test true said rest = and_not (has_tree l d) (is_some (fields_of ms)) said
    by_test false said rest = and_false (has_tree l d) (is_some (fields_of ms)) (rest said)

-- ---- the set of the keys

abbrev pub Keys : Type 0
Keys = BTreeSet (Bor (List ℕ))

-- the set has the keys of the broken members
abbrev pub AreBroken : Keys → Members → Type 0
AreBroken keys ms = (key : List ℕ) → has_key key keys ≡ is_broken key ms

-- whether the key is one of these
abbrev is_among : List ℕ → List (Bor (List ℕ)) → Bool
is_among key keys = list_any (λ (other : Bor (List ℕ)). is_eq (slice_cmp nat_cmp key other.now)) keys

pub no_key_has : (keys : Keys) (key : List ℕ) → keys.keys ≡ [] → has_key key keys ≡ false
no_key_has keys key none = ap (is_among key) none

-- the set after `insert` or `remove`
pub noted : (keys more : Keys) (key : Bor (List ℕ)) (is_in : Bool)
    → UpdatesBy (λ (x y : Bor (List ℕ)). slice_cmp nat_cmp x.now y.now) (λ (y : Bor (List ℕ)). slice_cmp nat_cmp key.now y.now) keys more is_in
    → (other : List ℕ) → has_key other more ≡ cond (bytes_eq key.now other) is_in (has_key other keys)
noted keys more key is_in h other =
    h.0 (record { ref_ptr = (0, 0); now = other }) ∙ ap (λ (t : Bool). cond t is_in (has_key other keys)) (is_eq-slice_cmp key.now other)

one_key : (keys : Keys) (k : Bor (List ℕ)) (ks : List (Bor (List ℕ))) → keys.keys ≡ k ∷ ks → has_key k.now keys ≡ true
one_key keys k ks is = ap (is_among k.now) is
    ∙ ap (λ (t : Bool). t || is_among k.now ks) (is_eq-slice_cmp k.now k.now ∙ (bytes_eq-Decides k.now k.now).1 refl)

pub none_broken : (keys : Keys) (ms : Members) (none : Bool) → AreInOrder ms → AreBroken keys ms → IsTrue none ↔ (length keys.keys ≡ 0)
    → none ≡ is_some (fields_of ms)
none_broken keys ms none order said empty = by_keys keys.keys refl none empty
  where
    by_keys : (ks : List (Bor (List ℕ))) → keys.keys ≡ ks → (t : Bool) → IsTrue t ↔ (length keys.keys ≡ 0) → t ≡ is_some (fields_of ms)
    by_keys [] is t empty =
        empty.1 (ap (λ (ks : List (Bor (List ℕ))). length ks) is) ∙ sym (whole ms order (λ key. sym (said key) ∙ no_key_has keys key is))
    by_keys (k ∷ ks) is true empty =
        let no : length (k ∷ ks) ≡ 0 = sym (ap (λ (us : List (Bor (List ℕ))). length us) is) ∙ empty.0 refl in
        absurd (omega (arith, no))
    by_keys (k ∷ ks) is false empty = sym (broken k.now ms (sym (said k.now) ∙ one_key keys k ks is))
