-- A point that accepts a call only once it has obeyed it has each profile that is held (OCPP 1.6,
-- 5.16). It may reject calls, and forget everything at any boot, once it has said that it booted;
-- sendings and replies may be lost, and calls may be obeyed again. It agrees in an audit only while
-- it has what it accepted. No transaction begins there with a profile that takes a lasting one's
-- place. The profiles of transactions themselves are left out.
use Rattle.std.specs.Prelude.{ℕ, ◌≡◌, Bool, true, false, not, ◌&&◌, List, [], ◌∷◌, ◌⊎◌, Some}
use Rattle.std.specs.Ordering.{int_eq}
use Rattle.profile.specs.declared.charging_profile.Profile.{Profile}
use Rattle.profile.specs.declared.row.Row.{Row}
use Rattle.profile.specs.Purpose.{is_tx}
use Rattle.messages.specs.declared.call.Call.{Call}
use Rattle.site_rules.specs.Site.{PointEntry, SiteState}
use Rattle.site_core.specs.declared.numbers.Numbers.{Numbers}
use Rattle.sweep_compiler.specs.declared.verdict.Verdict.TheVariants.{Agrees}
use Rattle.site_core.specs.declared.deliveries.Delivery.{Delivery}
use Rattle.site_core.specs.declared.deliveries.ProfileState.TheVariants.{Held}
use Rattle.site_core.specs.Delivery.{is_delivery_of}
use Rattle.site_core.specs.Obey.{at_moment}
use Rattle.site_core.specs.Outbox.{OutboxState, is_number_in_flight, is_unconfirmed}
use Rattle.site_core.specs.ChargePoint.{ChargePointState, Deed, Starts, Confirms, Judges, Boots, opening_point, point_after, rows_by_call}
use Rattle.site_core.specs.State.{MachineState, AreNumbers, opening_at, point_at, profile_state_at}
use Rattle.site_core.specs.History.{Event, Legal}
use Rattle.site_core.specs.CallOrder.{deeds_of, opening_at_place}

-- ---- the point

-- x is one of these
abbrev pub IsAmong : {X : Type 0} → X → List X → Type 0
IsAmong x [] = ⊥
IsAmong x (y ∷ ys) = (y ≡ x) ⊎ IsAmong x ys

-- a profile that outlasts transactions
abbrev pub lasts : Row → Bool
lasts row = not (is_tx row.profile.purpose)

-- the point itself
pub record OwnState : Type 0 where
  -- the profiles that it has
  pub rows : List Row
  -- whether it has obeyed the first unconfirmed call since it booted
  pub has_obeyed : Bool
  -- whether the central system knows of its last boot
  pub has_told : Bool

-- it has a row's profile, installed at whatever moment
abbrev pub HasProfile : List Row → Row → Type 0
HasProfile rows row = (own : Row) × IsAmong own rows × (at_moment 0 own ≡ at_moment 0 row)

-- the central system's state of a point, and the point itself
pub record BothStates : Type 0 where
  pub central : ChargePointState
  pub own : OwnState

-- with nothing done by the central system, and any profiles at the point
abbrev pub with_any : ChargePointState → List Row → BothStates
with_any central rows = record {
  central = central;
  own = record { rows = rows; has_obeyed = false; has_told = true };
}

abbrev pub opening : PointEntry → List Row → BothStates
opening entry rows = with_any (opening_point entry) rows

-- ---- what happens

pub data Move : Type 0 where
  -- the central system does something
  Does : (deed : Deed) → Move
  -- the point obeys the first unconfirmed call, at a moment of its own, perhaps once more
  Obeys : (moment : ℕ) → Move
  -- the point has these profiles as its transactions begin and end
  ChangesTransactions : (rows : List Row) → Move
  -- the point restarts, with any profiles, perhaps with none; it says so later
  Restarts : (rows : List Row) → Move

-- a reply to the call in flight confirms it, and the next call isn't obeyed yet
abbrev pub own_after : OutboxState → Deed → OwnState → OwnState
own_after outbox (Confirms number accepted) own =
    record own { has_obeyed = own.has_obeyed && not (is_number_in_flight outbox number) }
own_after outbox (Boots moment) own = record own { has_told = true }
own_after outbox other own = own

abbrev pub obeyed_first : ℕ → List Call → OwnState → OwnState
obeyed_first moment [] own = own
obeyed_first moment (call ∷ later) own =
    record own { rows = rows_by_call moment call.body own.rows; has_obeyed = true }

abbrev pub moved : BothStates → Move → BothStates
moved old (Does deed) = record {
  central = point_after old.central deed;
  own = own_after old.central.outbox deed old.own;
}
moved old (Obeys moment) =
    record old { own = obeyed_first moment old.central.outbox.calls old.own }
moved old (ChangesTransactions rows) = record old { own = record old.own { rows = rows } }
moved old (Restarts rows) =
    record old { own = record { rows = rows; has_obeyed = false; has_told = false } }

abbrev pub moved_all : BothStates → List Move → BothStates
moved_all old [] = old
moved_all old (move ∷ later) = moved_all (moved old move) later

abbrev pub has_id_of : Profile → Row → Bool
has_id_of profile row = int_eq row.profile.id profile.id

-- no lasting row has the id of a profile
abbrev pub HasNewId : List Row → Profile → Type 0
HasNewId rows profile =
    (row : Row) → IsAmong row rows → lasts row ≡ true → has_id_of profile row ≡ false

-- it has each lasting profile that it accepted
abbrev pub HasAccepted : BothStates → Type 0
HasAccepted both =
    (row : Row) (delivery : Delivery)
    → IsAmong row both.central.book.rows → lasts row ≡ true
    → IsAmong delivery both.central.deliveries → is_delivery_of row delivery ≡ true
    → delivery.is_rejected ≡ false
    → is_unconfirmed both.central.outbox.calls delivery.call ≡ false
    → HasProfile both.own.rows row

-- The point accepts the call in flight only if it has obeyed it. It agrees in an audit only if it
-- has what it accepted, or has restarted since and not said so. A transaction begins without a
-- profile, or with a TxProfile that has no lasting one's id. The point's transactions leave its
-- lasting profiles.
abbrev pub IsHonest : BothStates → Move → Type 0
IsHonest old (Does (Confirms number true)) =
    is_number_in_flight old.central.outbox number ≡ true → old.own.has_obeyed ≡ true
IsHonest old (Does (Judges Agrees)) = old.own.has_told ≡ true → HasAccepted old
IsHonest old (Does (Starts connector begin number (Some profile))) =
    (is_tx profile.purpose ≡ true) × HasNewId old.central.book.rows profile
IsHonest old (ChangesTransactions rows) =
    (row : Row) → IsAmong row old.own.rows → lasts row ≡ true → IsAmong row rows
IsHonest old other = Unit {0}

abbrev pub AreHonest : BothStates → List Move → Type 0
AreHonest old [] = Unit {0}
AreHonest old (move ∷ later) = IsHonest old move × AreHonest (moved old move) later

-- ---- the law

-- if the central system knows of its last boot, the point has each lasting profile that is held
abbrev pub HasHeldProfiles : BothStates → Type 0
HasHeldProfiles both =
    (row : Row) → both.own.has_told ≡ true
    → IsAmong row both.central.book.rows → lasts row ≡ true
    → profile_state_at both.central row ≡ Held
    → HasProfile both.own.rows row

abbrev pub HeldProfilesAreHad : Type 0
HeldProfilesAreHad =
    (entry : PointEntry) (rows : List Row) (moves : List Move)
    → AreHonest (opening entry rows) moves
    → HasHeldProfiles (moved_all (opening entry rows) moves)

-- ---- the law of the machine

-- what the central system does among these moves
abbrev pub deeds_in : List Move → List Deed
deeds_in [] = []
deeds_in (Does deed ∷ later) = deed ∷ deeds_in later
deeds_in (other ∷ later) = deeds_in later

-- The point at a place of a site, in every legal history: its moves are any, between the machine's
-- own deeds there.
abbrev pub MachinesKnowWhatIsHeld : Type 0
MachinesKnowWhatIsHeld =
    (site : SiteState) (numbers : Numbers) (history : List Event) (state : MachineState)
    (place : ℕ) (rows : List Row) (moves : List Move)
    → AreNumbers numbers → Legal (opening_at site numbers) history state
    → deeds_in moves ≡ deeds_of site place history
    → AreHonest (with_any (opening_at_place site place) rows) moves
    → HasHeldProfiles (record {
      central = point_at state place;
      own = (moved_all (with_any (opening_at_place site place) rows) moves).own;
    })
