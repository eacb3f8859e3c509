-- A value, level by level, and a `BTreeMap` with the members that it represents.
use Rattle.std.proofs.Common.{◌≡◌, ℕ, List, [], ◌∷◌, Vec, BTreeMap, Global, Bor, Ordering, Less, Equal, Greater, nat_cmp, refl, ◌∙◌, rules}
use Rattle.std.specs.BTreeMap.{insert_entry}
use Rattle.std.specs.contracts.impls.GlobalAllocator.TheImpl.{ghosts}
use Rattle.bumpalo.specs.declared.bump.Bump.{Bump}
use Rattle.std.specs.Cmp.Lexicographic.{slice_cmp}
use Rattle.std.specs.Ordering.{match_ordering}
use Rattle.serde_json.specs.Data.{array, object, put}
use Rattle.ocppj_frame.specs.View.{view, items_view, members_view}
use Rattle.ocppj_frame.specs.declared.marked_value.MarkedValue.{MarkedValue, Array, Object, the_lemmas}

-- an array's values, an object's members: both are in an arena
abbrev pub Values : Type 0
Values = Vec MarkedValue (Bor (Bump Global ghosts))

abbrev pub Entry : Type 0
Entry = Bor (List ℕ) × MarkedValue

pub view-Array : (v : Values) → view (Array v) ≡ array (items_view v.items)
view-Array v = search (rules, the_lemmas)

pub view-Object : (m : BTreeMap (Bor (List ℕ)) MarkedValue) → view (Object m) ≡ object (members_view m.entries)
view-Object m = search (rules, the_lemmas)

members_view-match_ordering : (o : Ordering) (a b c : List Entry) → members_view (match_ordering o a b c) ≡ match_ordering o (members_view a) (members_view b) (members_view c)
members_view-match_ordering Less a b c = refl
members_view-match_ordering Equal a b c = refl
members_view-match_ordering Greater a b c = refl

-- an entry is inserted where `serde_json` puts the member
pub members_view-insert_entry : (es : List Entry) (k : Bor (List ℕ)) (v : MarkedValue)
    → members_view (insert_entry (λ x y. slice_cmp nat_cmp x.now y.now) es k v) ≡ put k.now (view v) (members_view es)
members_view-insert_entry [] k v = refl
members_view-insert_entry (e ∷ es) k v =
    members_view-match_ordering (slice_cmp nat_cmp k.now e.0.now) _ _ _ ∙ rw (members_view-insert_entry es k v)
