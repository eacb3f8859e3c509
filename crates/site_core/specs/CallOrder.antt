-- The laws of outboxes and of points that obey, for the machine: the calls and the profiles of a
-- point along a history.
use Rattle.std.specs.Prelude.{ℕ, ℤ, ◌≤◌, ◌+◌, ◌≡◌, Bool, List, [], ◌∷◌, ◌++◌, length, map, filter, slice_get, Option, None, Some}
use Rattle.std.specs.List.{flat_map, filter_map, cons_option, AllByRecursion, Contains}
use Rattle.profile.specs.declared.row.Row.{Row}
use Rattle.site_rules.specs.Site.{SiteState, place_of}
use Rattle.messages.specs.declared.call.Call.{Call}
use Rattle.messages.specs.declared.call.CallBody.{CallBody}
use Rattle.site_core.specs.declared.numbers.Numbers.{Numbers}
use Rattle.site_core.specs.declared.step.Step.{Step}
use Rattle.site_core.specs.declared.step.Step.TheVariants as steps
use Rattle.site_core.specs.declared.reply.Reply.{Reply}
use Rattle.site_core.specs.declared.reply.Reply.TheVariants as replies
use Rattle.site_core.specs.Outbox.{opening_outbox, all_calls, numbered, Traffic, after_all}
use Rattle.site_core.specs.ChargePoint.{ChargePointState, Deed, rows_after, traffic_of, point_with}
use Rattle.site_core.specs.Step.{Work, AtPoint, Takes, Compiling, Answering, Finishing, work, deed}
use Rattle.site_core.specs.OutboxOrder.{calls_confirmed, calls_so_far, bodies_added, AreFrom, GoesOn, AreInSendingOrder}
use Rattle.site_core.specs.Obey.{Obeying, numbers_of, last_number, obeyed, exempt_after, AreInStepBut}
use Rattle.site_core.specs.ObeyOrder.{obeyed_numbers, IsObeyed}
use Rattle.site_core.specs.State.{MachineState, IsMachine, opening, opening_at, point_at, book_at, outbox_at, is_this_number}
use Rattle.site_core.specs.History.{Event, Legal}

-- ---- the events of a point

-- whether an identity is that of the point at a place
abbrev pub is_at : SiteState → ℕ → List ℕ → Bool
is_at site place point = is_this_number place (place_of site point)

-- the place of the point that a step names, if it names one of the site
abbrev pub place_of_work : SiteState → Work → Option ℕ
place_of_work site (AtPoint at) = place_of site at.point
place_of_work site (Takes take) = place_of site take.point
place_of_work site (Compiling number) = None
place_of_work site (Answering number) = None
place_of_work site Finishing = None

abbrev pub place_named : SiteState → Step → Option ℕ
place_named site step = place_of_work site (work step)

-- whether a step names the point at a place
abbrev pub names : SiteState → ℕ → Step → Bool
names site place step = is_this_number place (place_named site step)

-- the events whose steps name the point at a place
abbrev pub events_at : SiteState → ℕ → List Event → List Event
events_at site place history = filter (λ (event : Event). names site place event.step) history

-- ---- the deeds of events at a point, from its state before each

abbrev pub deed_by : ChargePointState → Event → Option Deed
deed_by point event = deed point event.step event.reply

-- the point after an event of its own
abbrev pub point_by : ChargePointState → Event → ChargePointState
point_by point event = point_with (deed_by point event) point

abbrev pub point_by_all : ChargePointState → List Event → ChargePointState
point_by_all point [] = point
point_by_all point (event ∷ later) = point_by_all (point_by point event) later

-- all deeds at a point by events of its own, one after another
abbrev pub deeds_from : ChargePointState → List Event → List Deed
deeds_from point [] = []
deeds_from point (event ∷ later) =
    cons_option (deed_by point event) (deeds_from (point_by point event) later)

-- at the point at a place from a state on
abbrev pub deeds_since : MachineState → ℕ → List Event → List Deed
deeds_since old place history = deeds_from (point_at old place) (events_at old.site place history)

-- and from the opening on, when nothing is installed and no transaction is active
abbrev pub opening_at_place : SiteState → ℕ → ChargePointState
opening_at_place site place = point_at (opening site) place

abbrev pub deeds_of : SiteState → ℕ → List Event → List Deed
deeds_of site place history =
    deeds_from (opening_at_place site place) (events_at site place history)

-- a property of each place along every legal history, from any state of a central system
abbrev pub FromAnyState : (MachineState → ℕ → List Event → MachineState → Type 0) → Type 0
FromAnyState holds =
    (old : MachineState) (history : List Event) (new : MachineState)
    → IsMachine old → Legal old history new → (place : ℕ) → holds old place history new

-- a point's own events lead from its old state to its new one: no event of another point, and no
-- request, changes it
abbrev pub PointsFollowHistories : Type 0
PointsFollowHistories = FromAnyState (λ old place history new.
    point_at new place ≡ point_by_all (point_at old place) (events_at old.site place history))

-- ---- its calls

-- all traffic of the outbox of the point at a place
abbrev pub traffic_since : MachineState → ℕ → List Event → List Traffic
traffic_since old place history = filter_map traffic_of (deeds_since old place history)

abbrev pub traffic_at : SiteState → ℕ → List Event → List Traffic
traffic_at site place history = filter_map traffic_of (deeds_of site place history)

abbrev pub calls_by : Step → Reply → List Call
calls_by (steps.Send point link) (replies.Sent call) = call ∷ []
calls_by step reply = []

abbrev pub calls_by_event : Event → List Call
calls_by_event event = calls_by event.step event.reply

-- the calls that are sent to the point at a place, as Send replies them, in the order of sending
abbrev pub calls_sent : SiteState → ℕ → List Event → List Call
calls_sent site place history = flat_map calls_by_event (events_at site place history)

abbrev pub numbers_of_calls : List Call → List ℕ
numbers_of_calls calls = map (λ (call : Call). call.number) calls

-- every call of the point at a place so far
abbrev pub calls_made : SiteState → ℕ → List Event → List Call
calls_made site place history = calls_so_far (traffic_at site place history)

-- the calls to the point at a place that are confirmed, in the order of their confirmations
abbrev pub calls_confirmed_at : SiteState → ℕ → List Event → List Call
calls_confirmed_at site place history =
    calls_confirmed opening_outbox (traffic_at site place history)

-- the numbers of the calls that Confirm events confirm
abbrev pub confirmed_by : Step → Reply → List ℕ
confirmed_by (steps.Confirm point link number accepted) replies.Confirmed = number ∷ []
confirmed_by step reply = []

abbrev pub confirmed_by_event : Event → List ℕ
confirmed_by_event event = confirmed_by event.step event.reply

abbrev pub numbers_confirmed : SiteState → ℕ → List Event → List ℕ
numbers_confirmed site place history =
    flat_map confirmed_by_event (events_at site place history)

-- ---- the laws of its calls

-- a property of each point of a site, at its place, along every legal history from an opening state
abbrev pub OfEachPoint : (SiteState → ℕ → List Event → MachineState → Type 0) → Type 0
OfEachPoint holds =
    (site : SiteState) (numbers : Numbers) (history : List Event) (state : MachineState)
    → Legal (opening_at site numbers) history state
    → (point : List ℕ) (place : ℕ) → place_of site point ≡ Some place
    → holds site place history state

-- all traffic of a point's outbox leads from the opening outbox to the present one
abbrev pub OutboxesFollowHistories : Type 0
OutboxesFollowHistories = OfEachPoint (λ site place history state.
    outbox_at state place ≡ after_all opening_outbox (traffic_at site place history))

-- the calls that Send replies are in sending order
abbrev pub CallsAreSentInOrder : Type 0
CallsAreSentInOrder = OfEachPoint (λ site place history state.
    AreInSendingOrder (numbers_of_calls (calls_sent site place history)))

-- a call is the one of its number
abbrev pub IsOneOf : List Call → Call → Type 0
IsOneOf calls call = slice_get calls call.number ≡ Some call

-- each call that Send replies is the one of its number among all calls
abbrev pub CallsAreSentAsMade : Type 0
CallsAreSentAsMade = OfEachPoint (λ site place history state.
    AllByRecursion (IsOneOf (calls_made site place history)) (calls_sent site place history))

-- the calls of an outbox are all calls without the confirmed ones, which were confirmed in order
abbrev pub CallsAreLeftUnlessConfirmed : Type 0
CallsAreLeftUnlessConfirmed = OfEachPoint (λ site place history state.
    calls_confirmed_at site place history ++ (outbox_at state place).calls
    ≡ calls_made site place history)

-- the confirmed calls are those of the Confirm events, in this order
abbrev pub ConfirmationsAreEvents : Type 0
ConfirmationsAreEvents = OfEachPoint (λ site place history state.
    numbers_of_calls (calls_confirmed_at site place history)
    ≡ numbers_confirmed site place history)

-- ---- the same from any state

-- the calls of the point at a place have consecutive numbers, from this one to before the next
-- call's
abbrev pub AreKeptFrom : MachineState → ℕ → ℕ → Type 0
AreKeptFrom state place first =
    AreFrom first (outbox_at state place).calls (outbox_at state place).next

-- at the opening the numbers begin with 0
abbrev pub CallsBeginAtZero : Type 0
CallsBeginAtZero =
    (site : SiteState) (numbers : Numbers) (place : ℕ)
    → AreKeptFrom (opening_at site numbers) place 0

-- consecutive numbers stay so after every history, and begin later by the number of calls confirmed
-- since
abbrev pub CallsStayConsecutive : Type 0
CallsStayConsecutive = FromAnyState (λ old place history new.
    (first : ℕ) → AreKeptFrom old place first
    → AreKeptFrom new place (first + length (calls_confirmed (outbox_at old place)
    (traffic_since old place history))))

-- the unconfirmed calls of a state, and those added since
abbrev pub calls_since : MachineState → ℕ → List Event → List Call
calls_since old place history =
    (outbox_at old place).calls
    ++ numbered (outbox_at old place).next (bodies_added (traffic_since old place history))

-- The numbers that Send replies begin with that of the first unconfirmed call, or the next one.
-- Each later one equals the one before it or is one more.
abbrev pub CallsGoOnInOrder : Type 0
CallsGoOnInOrder = FromAnyState (λ old place history new.
    (first : ℕ) → AreKeptFrom old place first
    → GoesOn first (numbers_of_calls (calls_sent old.site place history)))

abbrev pub CallsAreSentAsKept : Type 0
CallsAreSentAsKept = FromAnyState (λ old place history new.
    AllByRecursion (Contains (calls_since old place history))
    (calls_sent old.site place history))

-- the calls of an outbox are those without the ones confirmed since, in order
abbrev pub CallsStayUnlessConfirmed : Type 0
CallsStayUnlessConfirmed = FromAnyState (λ old place history new.
    calls_confirmed (outbox_at old place) (traffic_since old place history)
    ++ (outbox_at new place).calls
    ≡ calls_since old place history)

-- ---- its profiles

-- the rows after all these deeds
abbrev pub rows_after_all : List Deed → List Row → List Row
rows_after_all [] rows = rows
rows_after_all (deed ∷ later) rows = rows_after_all later (rows_after rows deed)

-- the exempt ids after all these deeds
abbrev pub exempt_after_all : List Deed → List ℤ → List ℤ
exempt_after_all [] ids = ids
exempt_after_all (deed ∷ later) ids = exempt_after_all later (exempt_after ids deed)

-- the ids that are exempt for the point at a place: of a transaction's own profile, and since then
-- neither installed nor cleared
abbrev pub exempt_at : SiteState → ℕ → List Event → List ℤ
exempt_at site place history = exempt_after_all (deeds_of site place history) []

-- the calls to the point at a place that were added: its installs, clears, audits and remote starts
-- that were accepted
abbrev pub accepted_since : MachineState → ℕ → List Event → List CallBody
accepted_since old place history = bodies_added (traffic_since old place history)

abbrev pub accepted : SiteState → ℕ → List Event → List CallBody
accepted site place history = bodies_added (traffic_at site place history)

-- the bodies of calls 0, 1, .. to the point at a place
abbrev pub bodies_of : SiteState → ℕ → List Event → List CallBody
bodies_of site place history = all_calls (accepted site place history)

-- ---- the laws of its profiles

-- a point's own events lead from no rows to those that the machine has for it
abbrev pub RowsFollowHistories : Type 0
RowsFollowHistories = OfEachPoint (λ site place history state.
    (book_at state place).rows ≡ rows_after_all (deeds_of site place history) [])

-- the same from the rows of any state
abbrev pub RowsGoOn : Type 0
RowsGoOn = FromAnyState (λ old place history new.
    (book_at new place).rows
    ≡ rows_after_all (deeds_since old place history) (book_at old place).rows)

-- the part of a history up to a moment when this many calls to the point at a place had been added,
-- the state then, and what came later
pub record Moment (old : MachineState) (history : List Event) (new : MachineState)
    (place number : ℕ) : Type 0 where
  pub earlier : List Event
  pub later : List Event
  pub state : MachineState
  pub parts : history ≡ earlier ++ later
  pub before : Legal old earlier state
  pub since : Legal state later new
  pub many : length (accepted_since old place earlier) ≡ number

-- each number up to that of the calls to a point that were added has its moment
abbrev pub EachCallHasItsMoment : Type 0
EachCallHasItsMoment =
    (site : SiteState) (numbers : Numbers) (history : List Event) (state : MachineState)
    → Legal (opening_at site numbers) history state
    → (point : List ℕ) (place : ℕ) → place_of site point ≡ Some place
    → (number : ℕ) → number ≤ length (accepted site place history)
    → Moment (opening_at site numbers) history state place number

-- A point with any rows obeys calls in the order of sending. Its lasting rows are then those that
-- the machine had for it at a moment of the last of these calls, whatever came later, but for the
-- ids that were exempt at that moment. The moments of call k begin when the k-th call was added,
-- whatever its action, and end at the next one. Those of call 0 come before the first.
abbrev pub PointsStayInStep : Type 0
PointsStayInStep =
    (site : SiteState) (numbers : Numbers) (history : List Event) (state : MachineState)
    (point : List ℕ) (place : ℕ) → place_of site point ≡ Some place
    → (first : Obeying) (others : List Obeying) (rows : List Row)
    → AreInSendingOrder (numbers_of (first ∷ others))
    → (moment : Moment (opening_at site numbers) history state place
    (last_number first.number others))
    → AreInStepBut (exempt_at site place moment.earlier)
    (obeyed (bodies_of site place history) (first ∷ others) rows)
    (book_at moment.state place).rows

-- the numbers of the calls that the point at a place obeys, given for each sending in turn whether
-- it does; it doesn't obey a lost one
abbrev pub numbers_obeyed_at : SiteState → ℕ → List Event → List Bool → List ℕ
numbers_obeyed_at site place history are_obeyed =
    obeyed_numbers are_obeyed (numbers_of_calls (calls_sent site place history))

-- A point that obeys calls in the order of their sendings, and each that it confirms at least once,
-- obeys calls 0, 1, .. up to some call, each perhaps several times before the next.
abbrev pub CallsAreObeyedInOrder : Type 0
CallsAreObeyedInOrder = OfEachPoint (λ site place history state.
    (are_obeyed : List Bool)
    → AllByRecursion (IsObeyed (numbers_obeyed_at site place history are_obeyed))
    (calls_confirmed_at site place history)
    → AreInSendingOrder (numbers_obeyed_at site place history are_obeyed))

-- The same of a point that obeys the calls sent to it, in the order of the sendings. Any of them
-- may be lost, but it obeys each confirmed call at least once. Its lasting rows are then those that
-- the machine had for it at a moment of the last call that it obeyed, but for the ids that were
-- exempt at that moment.
abbrev pub ObeyingPointsStayInStep : Type 0
ObeyingPointsStayInStep =
    (site : SiteState) (numbers : Numbers) (history : List Event) (state : MachineState)
    → Legal (opening_at site numbers) history state
    → (point : List ℕ) (place : ℕ) → place_of site point ≡ Some place
    → (are_obeyed : List Bool)
    → AllByRecursion (IsObeyed (numbers_obeyed_at site place history are_obeyed))
    (calls_confirmed_at site place history)
    → (first : Obeying) (others : List Obeying) (rows : List Row)
    → numbers_of (first ∷ others) ≡ numbers_obeyed_at site place history are_obeyed
    → (moment : Moment (opening_at site numbers) history state place
    (last_number first.number others))
    → AreInStepBut (exempt_at site place moment.earlier)
    (obeyed (bodies_of site place history) (first ∷ others) rows)
    (book_at moment.state place).rows
