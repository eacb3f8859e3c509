-- A member of an object of the marked text, by its name. For private clauses.
use Rattle.std.specs.Prelude.{ℕ, List, Bool, Option, Some, None, false, if◌then◌else◌}
use Rattle.std.specs.Option.{option_map_or}
use Rattle.std.specs.Str.{bytes_eq}
use Rattle.serde_json.specs.Data.{Data, Members, no_members, member}
use Rattle.ocppj_frame.specs.Read.{name_of_key}

abbrev pub is_key_of : List ℕ → List ℕ → Bool
is_key_of name key = option_map_or (λ other. bytes_eq other name) (name_of_key key) false

abbrev pub member_named : List ℕ → Members → Option Data
member_named name no_members = None
member_named name (member key d ms) = if is_key_of name key then Some d else member_named name ms
