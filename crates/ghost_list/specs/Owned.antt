-- The resources that a ghost list and its fronts own. Entries are kept as codes, in an algebra that
-- names no type.
use Rattle.std.specs.Prelude.{ℕ, List, [], map}
use base.Fraction.{full_share}
use base.Stored.{Gv, Coded}
use base.Growing.{Order, prefixes, latest, at_least}
use base.Fml.{Share, Fml}

abbrev itself : Coded Gv
itself = record { code = λ g. g; inj = λ x y p. p }

abbrev pub lists : Order (List Gv)
lists = prefixes itself

-- a share of the right to add, with the entries; only the full share can add to them
abbrev pub held : {E : Type 0} → (E → Gv) → ℕ → List E → Share → Fml
held code name entries share = latest lists share name (map code entries)

-- these were all entries at some moment, so they stay the first ones
abbrev pub known : {E : Type 0} → (E → Gv) → ℕ → List E → Fml
known code name entries = at_least lists name (map code entries)

-- the full right to add to a list without entries
abbrev pub unnamed : ℕ → Fml
unnamed name = latest lists full_share name []
