-- The value that a `MarkedValue` represents, as data of `serde_json`.
use Rattle.std.specs.Prelude.{ℕ, false, true, List, [], ◌∷◌, map}
use Rattle.std.specs.Borrow.{Bor}
use Rattle.serde_json.specs.Data.{Data, null, boolean, string, array, object, Items, Members, no_members, member}
use Rattle.serde_json.specs.View.{items_of}
use Rattle.ocppj_frame.specs.declared.marked_value.MarkedValue.{MarkedValue, fold-MarkedValue}
use Rattle.ocppj_frame.specs.declared.marked_value.MarkedValue.TheOpen.{MarkedValue-F}

abbrev pub members_of : List (Bor (List ℕ) × Data) → Members
members_of [] = no_members
members_of (m ∷ ms) = member m.0.now m.1 (members_of ms)

-- one level; each value inside is already converted to its data
abbrev pub view_step : MarkedValue-F Data → Data
view_step MarkedValue-F.Null = null
view_step MarkedValue-F.False = boolean false
view_step MarkedValue-F.True = boolean true
view_step (MarkedValue-F.String s) = string s.now
view_step (MarkedValue-F.Array v) = array (items_of v.items)
view_step (MarkedValue-F.Object m) = object (members_of m.entries)

abbrev pub view : MarkedValue → Data
view = fold-MarkedValue Data view_step

abbrev pub items_view : List MarkedValue → Items
items_view vs = items_of (map view vs)

abbrev pub members_view : List (Bor (List ℕ) × MarkedValue) → Members
members_view ms = members_of (map (λ m. (m.0, view m.1)) ms)
