-- For private clauses: equality of some fields of two profiles.
use Rattle.std.specs.Prelude.{◌≡◌}
use Rattle.profile.specs.declared.charging_profile.Profile.{Profile}

abbrev pub HaveSameKeys : Profile → Profile → Type 0
HaveSameKeys a b =
    (a.id ≡ b.id) × (a.transaction ≡ b.transaction)
    × (a.stack_level ≡ b.stack_level) × (a.purpose ≡ b.purpose)

abbrev pub HaveSameTimes : Profile → Profile → Type 0
HaveSameTimes a b = (a.kind ≡ b.kind) × (a.valid_from ≡ b.valid_from) × (a.valid_to ≡ b.valid_to)
