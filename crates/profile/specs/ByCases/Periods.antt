-- For the invariant of a private loop: the order of periods, checked one after another.
use Rattle.std.specs.Prelude.{ℕ, nat_lt, Bool, true, ◌&&◌, List, [], ◌∷◌, Option, Some, None}
use Rattle.profile.specs.declared.period.Period.{Period}

abbrev pub is_after : Option ℕ → ℕ → Bool
is_after None n = true
is_after (Some previous) n = nat_lt previous n

-- each period starts later than the one before it, the first one later than `previous`
abbrev pub are_in_order_after : Option ℕ → List Period → Bool
are_in_order_after previous [] = true
are_in_order_after previous (p ∷ ps) = is_after previous p.start && are_in_order_after (Some p.start) ps
