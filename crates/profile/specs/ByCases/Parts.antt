-- The profile that fields make, as a value. The clause `fields` of `Profile::try_new` ties it to
-- IsProfileOf of Parts.antt.
use Rattle.std.specs.Prelude.{◌≡◌, ℕ, ℤ, nat_le, true, Option, refl}
use Rattle.profile.specs.declared.kind.Kind.{Kind}
use Rattle.profile.specs.declared.kind.Kind.TheVariants.{Absolute, Recurring, Relative}
use Rattle.profile.specs.declared.purpose.Purpose.{Purpose}
use Rattle.profile.specs.declared.purpose.Purpose.TheVariants.{ChargePointMaxProfile, TxDefaultProfile, TxProfile}
use Rattle.profile.specs.declared.charging_profile.Profile.{Profile}
use Rattle.profile.specs.declared.parts.ProfileParts.{ProfileParts}
use Rattle.profile.specs.Limits.{max_stack_level}
use Rattle.profile.specs.Kind.{start_of}
use Rattle.profile.specs.Purpose.{transaction_of}

-- dropping a field twice is the same as dropping it once
pub transaction_of_again : (purpose : Purpose) (transaction : Option ℤ)
    → transaction_of purpose (transaction_of purpose transaction) ≡ transaction_of purpose transaction
transaction_of_again ChargePointMaxProfile transaction = refl
transaction_of_again TxDefaultProfile transaction = refl
transaction_of_again TxProfile transaction = refl

pub start_of_again : (kind : Kind) (start : Option ℕ)
    → start_of kind (start_of kind start) ≡ start_of kind start
start_of_again Absolute start = refl
start_of_again (Recurring recurrency) start = refl
start_of_again Relative start = refl

-- the profile of these fields and this kind, if their stack level is low enough
abbrev pub profile_with : (parts : ProfileParts) → Kind
    → nat_le parts.stack_level max_stack_level ≡ true → Profile
profile_with parts kind low = record {
  id = parts.id;
  transaction = transaction_of parts.purpose parts.transaction;
  stack_level = parts.stack_level;
  purpose = parts.purpose;
  kind = kind;
  valid_from = parts.valid_from;
  valid_to = parts.valid_to;
  schedule = record {
    duration = parts.schedule.duration;
    start = start_of kind parts.schedule.start;
    unit = parts.schedule.unit;
    periods = parts.schedule.periods;
    min_charging_rate = parts.schedule.min_charging_rate;
  };
  low = low;
  own_transaction = transaction_of_again parts.purpose parts.transaction;
  own_start = start_of_again kind parts.schedule.start;
}
