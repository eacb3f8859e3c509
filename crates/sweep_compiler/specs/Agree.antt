-- Agreement of two schedules (OCPP 1.6, 5.7).
use Rattle.std.specs.Prelude.{◌≡◌, ℕ, ◌+◌, ◌<◌}
use Rattle.meaning.specs.Composite.{CompositeSchedule, at}

-- Two schedules, each with its start, agree if their limits are equal at each instant that both
-- cover. The instant is a second of one and a second of the other.
abbrev pub Agree : CompositeSchedule → ℕ → CompositeSchedule → ℕ → Type 0
Agree first first_start second second_start =
    (one other : ℕ) → one < first.duration → other < second.duration
    → first_start + one ≡ second_start + other
    → at first.periods one ≡ at second.periods other
