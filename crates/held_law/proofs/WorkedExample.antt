-- A point that is worked by hand: it accepts a profile, which is held then; after a boot it is
-- unsure. Another point rejects it.
use Rattle.std.proofs.Common.{◌≡◌, true, false, List, [], ◌∷◌, None, Some, refl}
use Rattle.std.proofs.Math.IntN.{pos}
use Rattle.profile.specs.declared.kind.Kind.TheVariants.{Absolute}
use Rattle.profile.specs.declared.purpose.Purpose.TheVariants.{TxDefaultProfile}
use Rattle.profile.specs.declared.row.Row.{Row}
use Rattle.profile.specs.declared.unit.Unit.TheVariants.{A}
use Rattle.site_rules.specs.Site.{PointEntry}
use Rattle.site_core.specs.declared.deliveries.ProfileState.TheVariants.{Held, Sent, Unsure, Rejected}
use Rattle.site_core.specs.ChargePoint.{Installs, Attaches, Sends, Confirms, Boots}
use Rattle.site_core.specs.State.{profile_state_at}
use Rattle.held_law.specs.Held.{BothStates, Move, Does, Obeys, Restarts, AreHonest, opening, moved_all}

-- one point with a ceiling of 63.0 A and one connector of 32.0 A
abbrev entry : PointEntry
entry = record { id = 65 ∷ []; ceiling = 630; ceilings = 320 ∷ [] }

-- 10.0 A at connector 1
abbrev row : Row
row = record {
  connector = 1;
  moment = 1735689600;
  profile = record {
    id = pos 1;
    transaction = None;
    stack_level = 0;
    purpose = TxDefaultProfile;
    kind = Absolute;
    valid_from = None;
    valid_to = None;
    schedule = record {
      duration = None;
      start = Some 1735689600;
      unit = A;
      periods = record { start = 0; limit = 100; number_phases = None } ∷ [];
      min_charging_rate = None;
    };
    low = refl;
    own_transaction = refl;
    own_start = refl;
  };
}

-- the point connects, and obeys call 0, which clears all; then the row is installed
abbrev installed : List Move
installed = Does (Attaches 1) ∷ Does Sends ∷ Obeys 5 ∷ Does (Confirms 0 true)
    ∷ Does (Installs row) ∷ Does Sends ∷ []

abbrev after : BothStates
after = moved_all (opening entry []) installed

is_sent : profile_state_at after.central row ≡ Sent
is_sent = refl

-- it obeys that call, too, and accepts it
abbrev accepted : BothStates
accepted = moved_all after (Obeys 9 ∷ Does (Confirms 1 true) ∷ [])

is_honest : AreHonest (opening entry []) (Does (Attaches 1) ∷ Does Sends ∷ Obeys 5
    ∷ Does (Confirms 0 true) ∷ Does (Installs row) ∷ Does Sends ∷ Obeys 9 ∷ Does (Confirms 1 true)
    ∷ [])
is_honest = (tt, (tt, (tt, ((λ is. refl), (tt, (tt, (tt, ((λ is. refl), tt))))))))

is_held : profile_state_at accepted.central row ≡ Held
is_held = refl

-- it restarts, and says so
abbrev booted : BothStates
booted = moved_all accepted (Restarts [] ∷ Does (Boots 20) ∷ [])

is_unsure : profile_state_at booted.central row ≡ Unsure
is_unsure = refl

-- or it rejects that call
abbrev rejected : BothStates
rejected = moved_all after (Does (Confirms 1 false) ∷ [])

is_rejected : profile_state_at rejected.central row ≡ Rejected
is_rejected = refl
