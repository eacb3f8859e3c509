-- Numbers of places computed from the definitions alone, compared with values found by hand.
use Rattle.std.specs.Prelude.{◌≡◌, ℕ, ◌+◌, nat_le, IsTrue, List, [], ◌∷◌, Option, Some, None}
use Rattle.std.proofs.Common.{refl}
use Rattle.std.proofs.Math.IntN.{pos}
use Rattle.profile.specs.Limits.{max_stack_level}
use Rattle.profile.specs.Kind.{start_of}
use Rattle.profile.specs.Purpose.{transaction_of}
use Rattle.profile.specs.declared.kind.Kind.{Kind}
use Rattle.profile.specs.declared.kind.Kind.TheVariants.{Absolute, Recurring, Relative}
use Rattle.profile.specs.declared.kind.Recurrency.TheVariants.{Daily}
use Rattle.profile.specs.declared.period.Period.{Period}
use Rattle.profile.specs.declared.purpose.Purpose.{Purpose}
use Rattle.profile.specs.declared.purpose.Purpose.TheVariants.{ChargePointMaxProfile, TxDefaultProfile, TxProfile}
use Rattle.profile.specs.declared.row.Row.{Row}
use Rattle.profile.specs.declared.unit.Unit.TheVariants.{A}
use Rattle.meaning.specs.View.{PointState}
use Rattle.sweep_compiler.specs.Places.{is_second_asked, places_within}

-- 2025-01-01T00:00:00Z
abbrev pub midnight : ℕ
midnight = 1735689600

abbrev pub at_start : ℕ → Option ℕ
at_start second = Some (midnight + second)

abbrev pub period : ℕ → ℕ → Period
period start limit = record { start = start; limit = limit; number_phases = None }

pub no_transaction : (purpose : Purpose) → transaction_of purpose None ≡ None
no_transaction ChargePointMaxProfile = refl
no_transaction TxDefaultProfile = refl
no_transaction TxProfile = refl

pub low : IsTrue (nat_le 0 max_stack_level)
low = refl

-- a row of level 0, installed at midnight, valid until a second if one is given
abbrev row_until : Option ℕ → ℕ → Purpose → (kind : Kind) (start : Option ℕ) → start_of kind start ≡ start → Option ℕ → List Period → Row
row_until until connector purpose kind start own duration periods = record {
  connector = connector;
  moment = midnight;
  profile = record {
    id = pos 1;
    transaction = None;
    stack_level = 0;
    purpose = purpose;
    kind = kind;
    valid_from = None;
    valid_to = until;
    schedule = record { duration = duration; start = start; unit = A; periods = periods; min_charging_rate = None };
    low = low;
    own_transaction = no_transaction purpose;
    own_start = own;
  };
}

abbrev pub row_at : ℕ → Purpose → (kind : Kind) (start : Option ℕ) → start_of kind start ≡ start → Option ℕ → List Period → Row
row_at = row_until None

abbrev point : List (Option ℕ) → List Row → PointState
point starts rows = record { ceiling = 630; ceilings = 320 ∷ (320 ∷ []); starts = starts; rows = rows }

abbrev idle : List (Option ℕ)
idle = None ∷ (None ∷ [])

abbrev on_first : List (Option ℕ)
on_first = at_start 0 ∷ (None ∷ [])

-- the number of places in a request from a second after midnight on
abbrev counted_places : PointState → ℕ → ℕ → ℕ → ℕ
counted_places state connector second duration = places_within (is_second_asked state connector (midnight + second)) duration

-- a daily profile from 22:00 to 06:00
abbrev night : PointState
night = point idle (row_at 0 TxDefaultProfile (Recurring Daily) (at_start 79200) refl (Some 28800) (period 0 60 ∷ []) ∷ [])

pub end_of_the_night : counted_places night 1 194398 60 ≡ 1
end_of_the_night = refl

-- the start of a request is no place of it, its last second may be one, and the second after that
-- is none
pub first_second : counted_places night 1 194400 60 ≡ 0
first_second = refl

pub last_second_of_all : counted_places night 1 194391 10 ≡ 1
last_second_of_all = refl

pub past_the_end : counted_places night 1 194390 10 ≡ 0
past_the_end = refl

-- a second is counted once, even if it is a place of several rows
abbrev daily : ℕ → Row
daily limit = row_at 0 TxDefaultProfile (Recurring Daily) (at_start 30) refl None (period 0 limit ∷ (period 10 60 ∷ []))

pub shared_places : counted_places (point idle (daily 100 ∷ (daily 120 ∷ []))) 1 0 60 ≡ 2
shared_places = refl

-- a row that another one hides has no place for that one's connector
abbrev hidden : PointState
hidden = point idle (daily 100 ∷ (row_at 1 TxDefaultProfile Absolute (at_start 20) refl None (period 0 80 ∷ []) ∷ []))

pub hidden_on_the_first : counted_places hidden 1 0 60 ≡ 1
hidden_on_the_first = refl

pub shown_on_the_second : counted_places hidden 2 0 60 ≡ 2
shown_on_the_second = refl

-- a TxProfile has places only during a transaction
abbrev transaction : List (Option ℕ) → PointState
transaction starts = point starts (row_at 1 TxProfile Relative None refl (Some 40) (period 0 60 ∷ (period 5 80 ∷ [])) ∷ [])

pub during_the_transaction : counted_places (transaction on_first) 1 0 60 ≡ 2
during_the_transaction = refl

pub without_a_transaction : counted_places (transaction idle) 1 0 60 ≡ 0
without_a_transaction = refl

-- a request for the whole point covers its active connectors, and always its own maximum
pub of_the_active : counted_places (transaction on_first) 0 0 60 ≡ 2
of_the_active = refl

pub of_an_idle_point : counted_places (point idle (daily 100 ∷ [])) 0 0 60 ≡ 0
of_an_idle_point = refl

pub of_the_maximum : counted_places (point idle (row_at 0 ChargePointMaxProfile Absolute (at_start 30) refl None (period 0 500 ∷ []) ∷ [])) 0 0 60 ≡ 1
of_the_maximum = refl

-- the end of a profile's validity is a place, whether or not the profile has a limit there
pub until_valid_to : counted_places (point idle (row_until (at_start 30) 1 TxDefaultProfile Absolute (at_start 0) refl None (period 0 100 ∷ []) ∷ [])) 1 29 2 ≡ 1
until_valid_to = refl
