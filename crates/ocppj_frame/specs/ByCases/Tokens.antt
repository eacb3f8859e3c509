-- Tokens without numbers, and those that are a value alone. For private clauses.
use Rattle.std.specs.Prelude.{List, [], ◌∷◌, Option, Some, None}
use Rattle.json.specs.Token.{Token, begin_object, end_object, begin_array, end_array, key, string, number, boolean, null, bad}
use Rattle.serde_json.specs.Data as json
use Rattle.serde_json.specs.Data.{Data}

abbrev pub HaveNoNumber : List Token → Type 0
HaveNoNumber [] = Unit {0}
HaveNoNumber (begin_object ∷ ts) = HaveNoNumber ts
HaveNoNumber (end_object ∷ ts) = HaveNoNumber ts
HaveNoNumber (begin_array ∷ ts) = HaveNoNumber ts
HaveNoNumber (end_array ∷ ts) = HaveNoNumber ts
HaveNoNumber (key s ∷ ts) = HaveNoNumber ts
HaveNoNumber (string s ∷ ts) = HaveNoNumber ts
HaveNoNumber (number s ∷ ts) = ⊥
HaveNoNumber (boolean b ∷ ts) = HaveNoNumber ts
HaveNoNumber (null ∷ ts) = HaveNoNumber ts
HaveNoNumber (bad ∷ ts) = HaveNoNumber ts

-- the value that one token is
abbrev pub scalar_of : Token → Option Data
scalar_of begin_object = None
scalar_of end_object = None
scalar_of begin_array = None
scalar_of end_array = None
scalar_of (key s) = None
scalar_of (string s) = Some (json.string s)
scalar_of (number s) = None
scalar_of (boolean b) = Some (json.boolean b)
scalar_of null = Some json.null
scalar_of bad = None
