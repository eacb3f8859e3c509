-- The traffic of a point's outbox along a history, and the calls sent to the point; its profiles; the
-- moments of its calls.
use Rattle.std.proofs.Common.{◌≡◌, ℕ, ℤ, zero, suc, ◌==◌, Bool, true, false, cond, List, [], ◌∷◌, ◌++◌, length, map, filter_map, flat_map, slice_index_or, slice_get, ◌+◌, is_some, Option, Some, None, refl, sym, ap, ap₂, ◌∙◌, subst, arith, append_assoc, length-append, ◌≤◌, ◌-◌, inl}
use Rattle.std.proofs.lemmas.List.{length-map, map-append}
use Rattle.std.proofs.lemmas.List.Elements.{filter-append, All-contains_itself, recursion_from_All}
use Rattle.std.specs.List.{AllByRecursion, Contains, cons_option}
use Rattle.profile.specs.declared.row.Row.{Row}
use Rattle.site_rules.specs.Site.{SiteState, PointEntry, place_of}
use Rattle.messages.specs.declared.call.Call.{Call}
use Rattle.messages.specs.declared.call.CallBody.{CallBody}
use Rattle.site_core.specs.declared.numbers.Numbers.{Numbers}
use Rattle.site_core.specs.Outbox.{numbered, OutboxState, opening_outbox, all_calls, sendable, Traffic, Attach, Lose, Add, Send, Confirm, after, after_all}
use Rattle.site_core.specs.ChargePoint.{ChargePointState, Deed, rows_after, call_in, call_of, traffic_of, opening_point, outbox_with, point_with}
use Rattle.site_core.specs.State.{MachineState, IsMachine, opening_at, no_point, point_at, book_at, outbox_at}
use Rattle.site_core.specs.OutboxOrder.{AreFrom, GoesOn, sent_at, numbers_sent, number_of, calls_confirmed, added_at, bodies_added, AreInSendingOrder}
use Rattle.site_core.specs.Obey.{AreInStepBut, BeginsWithTxProfile, calls_of, exempt_after, exempt_after_call, last_number, obeyed, rows_after_call, Obeying, numbers_of}
use Rattle.site_core.specs.History.{Event, Legal}
use Rattle.site_core.specs.CallOrder.{names, events_at, deed_by, deeds_from, deeds_since, deeds_of, traffic_since, traffic_at, point_by, point_by_all, calls_by_event, calls_sent, confirmed_by_event, numbers_of_calls, calls_made, IsOneOf, calls_since, CallsBeginAtZero, CallsStayConsecutive}
use Rattle.site_core.specs.CallOrder.{PointsFollowHistories, OutboxesFollowHistories, CallsAreSentInOrder, CallsAreSentAsMade, CallsAreLeftUnlessConfirmed, ConfirmationsAreEvents, CallsGoOnInOrder, CallsAreSentAsKept, CallsStayUnlessConfirmed}
use Rattle.site_core.specs.CallOrder.{opening_at_place, rows_after_all, exempt_after_all, exempt_at, bodies_of, RowsFollowHistories, RowsGoOn, PointsStayInStep, accepted, accepted_since, Moment, EachCallHasItsMoment, CallsAreObeyedInOrder, ObeyingPointsStayInStep}
use Rattle.site_core.specs.ObeyOrder.{obeyed_numbers, numbers_obeyed, IsObeyed}
use Rattle.site_core.proofs.PointLemmas.{as_many}
use Rattle.site_core.proofs.EffectLemmas.{calls_at, call_list, sent_by_traffic, confirmed_by_traffic, traffic_with}
use Rattle.site_core.proofs.StepLemmas.{Acts, HasPlaces, acts, does, keeps_site}
use Rattle.site_core.proofs.ObeyLemmas.{in_step_without_call, stays_in_step}
use Rattle.site_core.proofs.ObeyOrderLemmas.{obeyed_in_order}
use Rattle.site_core.proofs.OwnProfileLemmas.{begin_with_tx, none_wait}
use Rattle.site_core.proofs.OutboxOrderLemmas.{outbox, numbered_along, goes_on, left, sent_in_order, left_unless_confirmed}

-- ---- the calls that an outbox sends

abbrev calls_along : OutboxState → List Traffic → List Call
calls_along old [] = []
calls_along old (event ∷ later) = calls_at old event ++ calls_along (after old event) later

numbers_at : (old : OutboxState) (event : Traffic)
    → numbers_of_calls (calls_at old event) ≡ sent_at old event
numbers_at old (Attach link) = refl
numbers_at old Lose = refl
numbers_at old (Add body) = refl
numbers_at old Send = go (sendable old)
  where
    go : (call : Option Call) → numbers_of_calls (call_list call) ≡ number_of call
    go None = refl
    go (Some call) = refl
numbers_at old (Confirm number) = refl

numbers_along : (old : OutboxState) (traffic : List Traffic)
    → numbers_of_calls (calls_along old traffic) ≡ numbers_sent old traffic
numbers_along old [] = refl
numbers_along old (event ∷ later) =
    map-append (λ (call : Call). call.number) (calls_at old event) (calls_along
    (after old event) later)
    ∙ ap₂ (λ (one other : List ℕ). one ++ other) (numbers_at old event) (numbers_along
    (after old event) later)

-- a property of each call that waits or is added holds of each that is sent
each_along : (P : Call → Type 0) (traffic : List Traffic) (link : Option ℕ) (calls : List Call)
    (next : ℕ) (is_in_flight : Bool)
    → AllByRecursion P (calls ++ numbered next (bodies_added traffic))
    → AllByRecursion P (calls_along (outbox link calls next is_in_flight) traffic)
each_along P [] link calls next is_in_flight each = tt
each_along P (Attach number ∷ later) link calls next is_in_flight each =
    each_along P later (Some number) calls next false each
each_along P (Lose ∷ later) link calls next is_in_flight each =
    each_along P later None calls next false each
each_along P (Add body ∷ later) link calls next is_in_flight each =
    let call : Call = record { number = next; body = body } in
    each_along P later link (calls ++ call ∷ []) (next + 1) is_in_flight
    (subst (AllByRecursion P) (sym (append_assoc calls (call ∷ []) (numbered (next + 1)
    (bodies_added later)))) each)
each_along P (Send ∷ later) None calls next is_in_flight each =
    each_along P later None calls next is_in_flight each
each_along P (Send ∷ later) (Some link) calls next true each =
    each_along P later (Some link) calls next true each
each_along P (Send ∷ later) (Some link) [] next false each =
    each_along P later (Some link) [] next false each
each_along P (Send ∷ later) (Some link) (call ∷ calls) next false each =
    (each.0, each_along P later (Some link) (call ∷ calls) next true each)
each_along P (Confirm number ∷ later) link calls next false each =
    each_along P later link calls next false each
each_along P (Confirm number ∷ later) link [] next true each =
    each_along P later link [] next true each
each_along P (Confirm number ∷ later) link (call ∷ calls) next true each =
    go (call.number == number) (each_along P later link calls next false each.1)
    (each_along P later link (call ∷ calls) next true each)
  where
    go : (b : Bool) → AllByRecursion P (calls_along (outbox link calls next false) later)
        → AllByRecursion P (calls_along (outbox link (call ∷ calls) next true) later)
        → AllByRecursion P (calls_along (cond b (outbox link calls next false) (outbox link
        (call ∷ calls) next true)) later)
    go true gone kept = gone
    go false gone kept = kept

at_seam : (before : List Call) (call : Call) (later : List Call)
    → slice_get (before ++ call ∷ later) (length before) ≡ Some call
at_seam [] call later = refl
at_seam (first ∷ before) call later = at_seam before call later

-- each numbered call is at the index of its number
each_at_its_number : (bodies : List CallBody) (number : ℕ) (before : List Call)
    → length before ≡ number
    → AllByRecursion (IsOneOf (before ++ numbered number bodies)) (numbered number bodies)
each_at_its_number [] number before many = tt
each_at_its_number (body ∷ later) number before many =
    let call : Call = record { number = number; body = body } in
    let longer : length (before ++ call ∷ []) ≡ number + 1 = omega (
      arith,
      length-append before
          (call ∷ []),
    ) in
    let rest = each_at_its_number later (number + 1) (before ++ call ∷ []) longer in (
      subst (λ (n : ℕ). slice_get (before ++ call ∷ numbered
          (number + 1) later) n ≡ Some call) many (at_seam before call (numbered
          (number + 1) later)),
      subst (λ (all : List Call). AllByRecursion (IsOneOf all) (numbered (number + 1) later))
          (append_assoc before (call ∷ []) (numbered (number + 1) later)) rest,
    )

-- ---- lists that are joined

rows_after_all-append : (one other : List Deed) (rows : List Row)
    → rows_after_all (one ++ other) rows ≡ rows_after_all other (rows_after_all one rows)
rows_after_all-append [] other rows = refl
rows_after_all-append (deed ∷ one) other rows = rows_after_all-append one other
    (rows_after rows deed)

bodies_added-append : (one other : List Traffic)
    → bodies_added (one ++ other) ≡ bodies_added one ++ bodies_added other
bodies_added-append [] other = refl
bodies_added-append (first ∷ one) other =
    ap (λ (bs : List CallBody). added_at first ++ bs) (bodies_added-append one other)
    ∙ sym (append_assoc (added_at first) (bodies_added one) (bodies_added other))

-- ---- traffic that comes or doesn't

after_all-cons : (outbox : OutboxState) (first : Option Traffic) (later : List Traffic)
    → after_all outbox (cons_option first later) ≡ after_all (outbox_with first outbox) later
after_all-cons outbox None later = refl
after_all-cons outbox (Some traffic) later = refl

calls_along-cons : (outbox : OutboxState) (first : Option Traffic) (later : List Traffic)
    → calls_along outbox (cons_option first later) ≡ sent_by_traffic outbox first ++ calls_along
    (outbox_with first outbox) later
calls_along-cons outbox None later = refl
calls_along-cons outbox (Some traffic) later = refl

calls_confirmed-cons : (outbox : OutboxState) (first : Option Traffic) (later : List Traffic)
    → calls_confirmed outbox
    (cons_option first later) ≡ confirmed_by_traffic outbox first ++ calls_confirmed
    (outbox_with first outbox) later
calls_confirmed-cons outbox None later = refl
calls_confirmed-cons outbox (Some traffic) later = refl

bodies_added-cons : (first : Option Traffic) (later : List Traffic)
    → bodies_added (cons_option first later) ≡ cons_option (call_in first) (bodies_added later)
bodies_added-cons None later = refl
bodies_added-cons (Some (Attach link)) later = refl
bodies_added-cons (Some Lose) later = refl
bodies_added-cons (Some (Add body)) later = refl
bodies_added-cons (Some Send) later = refl
bodies_added-cons (Some (Confirm number)) later = refl

-- ---- deeds at a point

-- the calls that are added are those of the deeds
calls_are_added : (deeds : List Deed)
    → filter_map call_of deeds ≡ bodies_added (filter_map traffic_of deeds)
calls_are_added [] = refl
calls_are_added (deed ∷ later) =
    ap (cons_option (call_of deed)) (calls_are_added later)
    ∙ sym (bodies_added-cons (traffic_of deed) (filter_map traffic_of later))

traffic-cons : (does : Option Deed) (later : List Deed)
    → filter_map traffic_of (cons_option does later)
    ≡ cons_option (traffic_with does) (filter_map traffic_of later)
traffic-cons None later = refl
traffic-cons (Some deed) later = refl

outbox_after : (does : Option Deed) (point : ChargePointState)
    → (point_with does point).outbox ≡ outbox_with (traffic_with does) point.outbox
outbox_after None point = refl
outbox_after (Some deed) point = refl

rows_with : (does : Option Deed) (point : ChargePointState)
    → (point_with does point).book.rows
    ≡ rows_after_all (cons_option does []) point.book.rows
rows_with None point = refl
rows_with (Some deed) point = refl

rows_after_all-cons : (does : Option Deed) (later : List Deed) (rows : List Row)
    → rows_after_all (cons_option does later) rows
    ≡ rows_after_all later (rows_after_all (cons_option does []) rows)
rows_after_all-cons None later rows = refl
rows_after_all-cons (Some deed) later rows = refl

-- ---- a point along its own events

-- the traffic of its outbox
abbrev traffic_along : ChargePointState → List Event → List Traffic
traffic_along point events = filter_map traffic_of (deeds_from point events)

abbrev traffic_by : ChargePointState → Event → Option Traffic
traffic_by point event = traffic_with (deed_by point event)

traffic_more : (point : ChargePointState) (event : Event) (later : List Event)
    → traffic_along point (event ∷ later)
    ≡ cons_option (traffic_by point event) (traffic_along (point_by point event) later)
traffic_more point event later =
    traffic-cons (deed_by point event) (deeds_from (point_by point event) later)

outbox_along : (point : ChargePointState) (events : List Event)
    → (point_by_all point events).outbox ≡ after_all point.outbox (traffic_along point events)
outbox_along point [] = refl
outbox_along point (event ∷ later) =
    let next = point_by point event in
    outbox_along next later
    ∙ ap (λ (o : OutboxState). after_all o (traffic_along next later))
    (outbox_after (deed_by point event) point)
    ∙ sym (after_all-cons point.outbox (traffic_by point event) (traffic_along next later))
    ∙ ap (after_all point.outbox) (sym (traffic_more point event later))

rows_along : (point : ChargePointState) (events : List Event)
    → (point_by_all point events).book.rows
    ≡ rows_after_all (deeds_from point events) point.book.rows
rows_along point [] = refl
rows_along point (event ∷ later) =
    let next = point_by point event in
    rows_along next later
    ∙ ap (rows_after_all (deeds_from next later)) (rows_with (deed_by point event) point)
    ∙ sym (rows_after_all-cons (deed_by point event) (deeds_from next later) point.book.rows)

-- the calls of its events' replies are sent to it, and those of its Confirm events are confirmed
abbrev IsSent : ChargePointState → List Event → Type 0
IsSent point events =
    flat_map calls_by_event events ≡ calls_along point.outbox (traffic_along point events)

abbrev IsConfirmed : ChargePointState → List Event → Type 0
IsConfirmed point events =
    numbers_of_calls (calls_confirmed point.outbox (traffic_along point events))
    ≡ flat_map confirmed_by_event events

sent_more : (point : ChargePointState) (event : Event) (later : List Event)
    → calls_by_event event ≡ sent_by_traffic point.outbox (traffic_by point event)
    → IsSent (point_by point event) later → IsSent point (event ∷ later)
sent_more point event later first rest =
    let next = point_by point event in
    ap₂ (λ (one other : List Call). one ++ other) first (rest
    ∙ ap (λ (o : OutboxState). calls_along o (traffic_along next later))
    (outbox_after (deed_by point event) point))
    ∙ sym (calls_along-cons point.outbox (traffic_by point event) (traffic_along next later))
    ∙ ap (calls_along point.outbox) (sym (traffic_more point event later))

confirmed_more : (point : ChargePointState) (event : Event) (later : List Event)
    → numbers_of_calls (confirmed_by_traffic point.outbox (traffic_by point event))
    ≡ confirmed_by_event event
    → IsConfirmed (point_by point event) later → IsConfirmed point (event ∷ later)
confirmed_more point event later first rest =
    let next = point_by point event in
    let box = outbox_with (traffic_by point event) point.outbox in
    ap (λ (t : List Traffic). numbers_of_calls (calls_confirmed point.outbox t))
    (traffic_more point event later)
    ∙ ap numbers_of_calls (calls_confirmed-cons point.outbox (traffic_by point event)
    (traffic_along next later))
    ∙ map-append (λ (call : Call). call.number) (confirmed_by_traffic point.outbox
    (traffic_by point event)) (calls_confirmed box (traffic_along next later))
    ∙ ap₂ (λ (one other : List ℕ). one ++ other) first
    (ap (λ (o : OutboxState). numbers_of_calls (calls_confirmed o (traffic_along next later)))
    (sym (outbox_after (deed_by point event) point)) ∙ rest)

-- ---- along a history

-- a point's own events lead from its old state to its new one, and it is sent and confirms the calls
-- of their replies
record Follows (place : ℕ) (old : MachineState) (history : List Event)
    (new : MachineState) : Type 0 where
  site : new.site ≡ old.site
  many : HasPlaces new
  point : point_at new place ≡ point_by_all (point_at old place) (events_at old.site place history)
  sent : IsSent (point_at old place) (events_at old.site place history)
  confirmed : IsConfirmed (point_at old place) (events_at old.site place history)

follows_more : (place : ℕ) (old middle : MachineState) (event : Event) (later : List Event)
    (new : MachineState) → middle.site ≡ old.site
    → Acts place old event.step (record { reply = event.reply; after = middle })
    → Follows place middle later new → Follows place old (event ∷ later) new
follows_more place old middle event later new site act there =
    by (names old.site place event.step) refl
  where
    rest : Follows place (record middle { site = old.site }) later new
    rest = subst (λ (s : SiteState). Follows place (record middle { site = s }) later new)
        site there

    events : List Event
    events = events_at old.site place later

    -- for any property of a point along its own events
    along : (P : ChargePointState → List Event → Type 0) → (was : ChargePointState)
        → point_at middle place ≡ was → P (point_at middle place) events → P was events
    along P was here holds = subst (λ (p : ChargePointState). P p events) here holds

    by : (named : Bool) → names old.site place event.step ≡ named
        → Follows place old (event ∷ later) new
    by true is =
        let point = point_at old place in
        let next = point_by point event in
        let all : event ∷ events ≡ events_at old.site place (event ∷ later) =
        ap (λ (b : Bool). cond b (event ∷ events) events) (sym is) in
        let here : point_at middle place ≡ next =
        act.point ∙ ap (λ (b : Bool). cond b next point) is in
        record {
          site = rest.site;
          many = rest.many;
          point = rest.point ∙ ap (λ (p : ChargePointState). point_by_all p events) here
              ∙ ap (point_by_all point) all;
          sent = subst (IsSent point) all (sent_more point event events (act.sent is)
              (along IsSent next here rest.sent));
          confirmed = subst (IsConfirmed point) all (confirmed_more point event events
              (act.confirmed is) (along IsConfirmed next here rest.confirmed));
        }
    by false is =
        let point = point_at old place in
        let all : events ≡ events_at old.site place (event ∷ later) =
        ap (λ (b : Bool). cond b (event ∷ events) events) (sym is) in
        let here : point_at middle place ≡ point =
        act.point ∙ ap (λ (b : Bool). cond b (point_by point event) point) is in
        record {
          site = rest.site;
          many = rest.many;
          point = rest.point ∙ ap (λ (p : ChargePointState). point_by_all p events) here
              ∙ ap (point_by_all point) all;
          sent = subst (IsSent point) all (along IsSent point here rest.sent);
          confirmed = subst (IsConfirmed point) all (along IsConfirmed point here rest.confirmed);
        }

places_still : (place : ℕ) (old : MachineState) (event : Event) (middle : MachineState)
    → HasPlaces old → middle.site ≡ old.site
    → Acts place old event.step (record { reply = event.reply; after = middle }) → HasPlaces middle
places_still place old event middle many site act = act.many ∙ many
    ∙ ap (λ (s : SiteState). length s.points) (sym site)

follows : (place : ℕ) (old : MachineState) (history : List Event) (new : MachineState)
    → HasPlaces old → Legal old history new → Follows place old history new
follows place old [] new many legal = record {
  site = ap (λ (s : MachineState). s.site) legal;
  many = subst HasPlaces (sym legal) many;
  point = ap (λ (s : MachineState). point_at s place) legal;
  sent = refl;
  confirmed = refl;
}
follows place old (event ∷ later) new many legal =
    let is = does old event.step event.reply legal.0 legal.1 in
    let site = keeps_site old event.step (record { reply = event.reply; after = legal.0 }) is in
    let act = acts place old event.step (record { reply = event.reply; after = legal.0 }) many is in
    follows_more place old legal.0 event later new site act
    (follows place legal.0 later new (places_still place old event legal.0 many site act) legal.2)

-- ---- from any state

of_machine : (place : ℕ) (old : MachineState) (history : List Event) (new : MachineState)
    → IsMachine old → Legal old history new → Follows place old history new
of_machine place old history new is legal = follows place old history new
    (as_many old.site old.points is.points) legal

pub points_follow : PointsFollowHistories
points_follow old history new is legal place = (of_machine place old history new is legal).point

outbox_follows : (place : ℕ) (old : MachineState) (history : List Event) (new : MachineState)
    → Follows place old history new
    → outbox_at new place ≡ after_all (outbox_at old place) (traffic_since old place history)
outbox_follows place old history new is =
    ap (λ (p : ChargePointState). p.outbox) is.point
    ∙ outbox_along (point_at old place) (events_at old.site place history)

rows_follow_from : (place : ℕ) (old : MachineState) (history : List Event) (new : MachineState)
    → Follows place old history new
    → (book_at new place).rows ≡ rows_after_all (deeds_since old place history)
    (book_at old place).rows
rows_follow_from place old history new is =
    ap (λ (p : ChargePointState). p.book.rows) is.point
    ∙ rows_along (point_at old place) (events_at old.site place history)

pub rows_go_on : RowsGoOn
rows_go_on old history new is legal place = rows_follow_from place old history new
    (of_machine place old history new is legal)

numbers_by : (old : MachineState) (history : List Event) (new : MachineState) (place : ℕ)
    → Follows place old history new
    → numbers_of_calls (calls_sent old.site place history) ≡ numbers_sent (outbox_at old place)
    (traffic_since old place history)
numbers_by old history new place is =
    ap numbers_of_calls is.sent ∙ numbers_along (outbox_at old place)
    (traffic_since old place history)

pub go_on_in_order : CallsGoOnInOrder
go_on_in_order old history new is legal place first are =
    let state = outbox_at old place in
    subst (GoesOn first) (sym (numbers_by old history new place
    (of_machine place old history new is legal)))
    (goes_on (traffic_since old place history) state.link state.calls state.next
    state.is_in_flight first first are (inl refl) (λ flies. refl))

pub stay_consecutive : CallsStayConsecutive
stay_consecutive old history new is legal place first are =
    let state = outbox_at old place in
    let first_then =
    first + length (calls_confirmed state (traffic_since old place history)) in
    subst (λ (o : OutboxState). AreFrom first_then o.calls o.next)
    (sym (outbox_follows place old history new (of_machine place old history new is legal)))
    (numbered_along (traffic_since old place history) state.link state.calls state.next
    state.is_in_flight first are)

pub sent_as_kept : CallsAreSentAsKept
sent_as_kept old history new is legal place =
    let state = outbox_at old place in
    let all = calls_since old place history in
    subst (AllByRecursion (Contains all)) (sym (of_machine place old history new is legal).sent)
    (each_along (Contains all)
    (traffic_since old place history) state.link state.calls state.next state.is_in_flight
    (recursion_from_All (Contains all) all (All-contains_itself all)))

pub stay_unless_confirmed : CallsStayUnlessConfirmed
stay_unless_confirmed old history new is legal place =
    let state = outbox_at old place in
    let traffic = traffic_since old place history in
    ap (λ (o : OutboxState). calls_confirmed state traffic ++ o.calls)
    (outbox_follows place old history new (of_machine place old history new is legal))
    ∙ left traffic state.link state.calls state.next state.is_in_flight

-- ---- from the opening

opening_outbox_of_each : (points : List PointEntry) (place : ℕ)
    → (slice_index_or (map opening_point points) place no_point).outbox ≡ opening_outbox
opening_outbox_of_each [] place = refl
opening_outbox_of_each (point ∷ points) zero = refl
opening_outbox_of_each (point ∷ points) (suc place) = opening_outbox_of_each points place

no_rows_of_each : (points : List PointEntry) (place : ℕ)
    → (slice_index_or (map opening_point points) place no_point).book.rows ≡ []
no_rows_of_each [] place = refl
no_rows_of_each (point ∷ points) zero = refl
no_rows_of_each (point ∷ points) (suc place) = no_rows_of_each points place

from_opening : (site : SiteState) (numbers : Numbers) (history : List Event)
    (state : MachineState) (place : ℕ) → Legal (opening_at site numbers) history state
    → Follows place (opening_at site numbers) history state
from_opening site numbers history state place legal =
    follows place (opening_at site numbers) history state
    (length-map site.points opening_point) legal

pub begin_at_zero : CallsBeginAtZero
begin_at_zero site numbers place =
    subst (λ (o : OutboxState). AreFrom 0 o.calls o.next)
    (sym (opening_outbox_of_each site.points place)) (refl, refl)

pub outboxes_follow : OutboxesFollowHistories
outboxes_follow site numbers history state legal point place here =
    outbox_follows place (opening_at site numbers) history state
    (from_opening site numbers history state place legal)
    ∙ ap (λ (o : OutboxState). after_all o (traffic_at site place history))
    (opening_outbox_of_each site.points place)

sent_along : (site : SiteState) (numbers : Numbers) (history : List Event) (state : MachineState)
    (place : ℕ) → Legal (opening_at site numbers) history state
    → calls_sent site place history ≡ calls_along opening_outbox (traffic_at site place history)
sent_along site numbers history state place legal =
    (from_opening site numbers history state place legal).sent
    ∙ ap (λ (o : OutboxState). calls_along o (traffic_at site place history))
    (opening_outbox_of_each site.points place)

numbers_by_history : (site : SiteState) (numbers : Numbers) (history : List Event)
    (state : MachineState) (place : ℕ)
    → Legal (opening_at site numbers) history state
    → numbers_of_calls (calls_sent site place history) ≡ numbers_sent opening_outbox
    (traffic_at site place history)
numbers_by_history site numbers history state place legal =
    ap numbers_of_calls (sent_along site numbers history state place legal)
    ∙ numbers_along opening_outbox (traffic_at site place history)

pub sent_by_history : CallsAreSentInOrder
sent_by_history site numbers history state legal point place here =
    subst AreInSendingOrder (sym (numbers_by_history site numbers history state place legal))
    (sent_in_order (traffic_at site place history))

pub sent_as_made : CallsAreSentAsMade
sent_as_made site numbers history state legal point place here =
    let traffic = traffic_at site place history in
    subst (AllByRecursion (IsOneOf (calls_made site place history))) (sym
    (sent_along site numbers history state place legal))
    (each_along (IsOneOf (calls_made site place history)) traffic None _ 1 false
    (each_at_its_number (all_calls (bodies_added traffic)) 0 [] refl))

pub left_of_history : CallsAreLeftUnlessConfirmed
left_of_history site numbers history state legal point place here =
    let traffic = traffic_at site place history in
    ap (λ (o : OutboxState). calls_confirmed opening_outbox traffic ++ o.calls)
    (outboxes_follow site numbers history state legal point place here)
    ∙ left_unless_confirmed traffic

pub confirmed_by_history : ConfirmationsAreEvents
confirmed_by_history site numbers history state legal point place here =
    ap (λ (o : OutboxState). numbers_of_calls (calls_confirmed o (traffic_at site place history)))
    (sym (opening_outbox_of_each site.points place))
    ∙ (from_opening site numbers history state place legal).confirmed

-- ---- its profiles

pub rows_follow : RowsFollowHistories
rows_follow site numbers history state legal point place here =
    rows_follow_from place (opening_at site numbers) history state
    (from_opening site numbers history state place legal)
    ∙ ap (λ (rows : List Row). rows_after_all (deeds_of site place history) rows)
    (no_rows_of_each site.points place)

-- the deeds of joined events are the joined deeds
deeds_more : (point : ChargePointState) (one other : List Event)
    → (more : List Deed) × (deeds_from point (one ++ other) ≡ deeds_from point one ++ more)
deeds_more point [] other = (deeds_from point other, refl)
deeds_more point (event ∷ one) other =
    let rest = deeds_more (point_by point event) one other in (
      rest.0,
      by (deed_by point event) (deeds_from (point_by point event) (one ++ other))
          (deeds_from (point_by point event) one) rest.0 rest.1,
    )
  where
    by : (first : Option Deed) (all so_far more : List Deed) → all ≡ so_far ++ more
        → cons_option first all ≡ cons_option first so_far ++ more
    by None all so_far more is = is
    by (Some deed) all so_far more is = ap (λ (ds : List Deed). deed ∷ ds) is

-- a property of all items of joined lists holds of all items of the first
all_of_first : (P : Deed → Type 0) (one more : List Deed) → AllByRecursion P (one ++ more)
    → AllByRecursion P one
all_of_first P [] more all = tt
all_of_first P (deed ∷ one) more all = (all.0, all_of_first P one more all.1)

-- in step after as many calls as the first deeds make, so in step after these deeds
in_step_at_call : (one more : List Deed) (ids : List ℤ) (own rows : List Row) (number : ℕ)
    → AllByRecursion BeginsWithTxProfile one → number ≡ length (filter_map call_of one)
    → AreInStepBut (exempt_after_call number (one ++ more) ids) own
    (rows_after_call number (one ++ more) rows)
    → AreInStepBut (exempt_after_all one ids) own (rows_after_all one rows)
in_step_at_call [] more ids own rows zero tx is same = same
in_step_at_call [] more ids own rows (suc before) tx is same = absurd (omega arith)
in_step_at_call (deed ∷ one) more ids own rows number tx is same =
    by (λ n. in_step_at_call one more exempt own next n tx.1) (call_of deed) refl number is same
  where
    next : List Row
    next = rows_after rows deed

    exempt : List ℤ
    exempt = exempt_after ids deed

    count_with : Option CallBody → ℕ
    count_with call = length (cons_option call (filter_map call_of one))

    So : ℕ → Type 0
    So count = AreInStepBut (exempt_after_call count (one ++ more) exempt) own
        (rows_after_call count (one ++ more) next)

    Done : Type 0
    Done = AreInStepBut (exempt_after_all one exempt) own (rows_after_all one next)

    by : ((n : ℕ) → n ≡ length (filter_map call_of one) → So n → Done)
        → (call : Option CallBody) → call_of deed ≡ call → (count : ℕ)
        → count ≡ count_with (call_of deed)
        → AreInStepBut (exempt_after_call count (deed ∷ (one ++ more)) ids) own
        (rows_after_call count (deed ∷ (one ++ more)) rows)
        → Done
    by rest (Some body) has zero many same =
        let none : 0 ≡ count_with (Some body) = many ∙ ap count_with has in
        absurd (omega (arith, none))
    by rest (Some body) has (suc before) many same =
        let count : suc before ≡ count_with (Some body) = many ∙ ap count_with has in
        rest before (omega (arith, count))
        (subst (λ (c : Option CallBody). So (cond (is_some c) before (suc before))) has same)
    by rest None has zero many same =
        rest 0 (many ∙ ap count_with has)
        (in_step_without_call deed ids own rows tx.0
        (ap (λ (c : Option CallBody). is_some c) has) same)
    by rest None has (suc before) many same =
        rest (suc before) (many ∙ ap count_with has)
        (subst (λ (c : Option CallBody). So (cond (is_some c) before (suc before))) has same)

legal_join : (old : MachineState) (one : List Event) (middle : MachineState) (other : List Event)
    (new : MachineState) → Legal old one middle → Legal middle other new
    → Legal old (one ++ other) new
legal_join old [] middle other new legal then_legal =
    subst (λ (s : MachineState). Legal s other new) legal then_legal
legal_join old (event ∷ one) middle other new legal then_legal =
    (legal.0, legal.1, legal_join legal.0 one middle other new legal.2 then_legal)

in_step_after : (site : SiteState) (numbers : Numbers) (earlier later : List Event)
    (middle state : MachineState)
    → Legal (opening_at site numbers) earlier middle → Legal middle later state
    → (point : List ℕ) (place : ℕ) → place_of site point ≡ Some place
    → (first : Obeying) (others : List Obeying) (rows : List Row)
    → AreInSendingOrder (numbers_of (first ∷ others))
    → last_number first.number others ≡ length (accepted site place earlier)
    → AreInStepBut (exempt_at site place earlier)
    (obeyed (bodies_of site place (earlier ++ later)) (first ∷ others) rows)
    (book_at middle place).rows
in_step_after site numbers earlier later middle state legal then_legal point place here first
    others rows order last =
    let opening_state = opening_at site numbers in
    let all = deeds_of site place (earlier ++ later) in
    let so_far = deeds_of site place earlier in
    let number = last_number first.number others in
    let began = opening_at_place site place in
    let test : Event → Bool = λ event. names site place event.step in
    let more = deeds_more began (events_at site place earlier) (events_at site place later) in
    let split : all ≡ so_far ++ more.0 = ap (deeds_from began)
    (filter-append test earlier later) ∙ more.1 in
    let tx : AllByRecursion BeginsWithTxProfile all = begin_with_tx place opening_state
    (earlier ++ later) state (length-map site.points opening_point)
    (legal_join opening_state earlier middle later state legal then_legal)
    (none_wait site.points place) in
    let calls : calls_of all ≡ bodies_of site place (earlier ++ later) =
    ap all_calls (calls_are_added all) in
    let count : number ≡ length (filter_map call_of so_far) = last
    ∙ ap (λ (bs : List CallBody). length bs) (sym (calls_are_added so_far)) in
    let own = obeyed (calls_of all) (first ∷ others) rows in
    let at_call = subst (λ (ds : List Deed). AreInStepBut (exempt_after_call number ds []) own
    (rows_after_call number ds [])) split (stays_in_step all first others rows tx order) in
    let at_moment = in_step_at_call so_far more.0 [] own [] number
    (all_of_first BeginsWithTxProfile so_far more.0
    (subst (AllByRecursion BeginsWithTxProfile) split tx)) count at_call in
    subst (λ (central : List Row). AreInStepBut (exempt_at site place earlier)
    (obeyed (bodies_of site place (earlier ++ later)) (first ∷ others) rows) central)
    (sym (rows_follow site numbers earlier middle legal point place here))
    (subst (λ (bs : List CallBody). AreInStepBut (exempt_at site place earlier)
    (obeyed bs (first ∷ others) rows) (rows_after_all so_far [])) calls at_moment)

pub stay_in_step : PointsStayInStep
stay_in_step site numbers history state point place here first others rows order moment =
    subst (λ (events : List Event). AreInStepBut (exempt_at site place moment.earlier)
    (obeyed (bodies_of site place events) (first ∷ others) rows)
    (book_at moment.state place).rows) (sym moment.parts)
    (in_step_after site numbers moment.earlier moment.later moment.state state moment.before
    moment.since point place here first others rows order (sym moment.many))

pub obey_in_order : CallsAreObeyedInOrder
obey_in_order site numbers history state legal point place here are_obeyed each =
    let traffic = traffic_at site place history in
    let same = numbers_by_history site numbers history state place legal in
    let each_sent : AllByRecursion (IsObeyed (numbers_obeyed traffic are_obeyed))
    (calls_confirmed opening_outbox traffic) =
    subst (λ (sent : List ℕ). AllByRecursion (IsObeyed (obeyed_numbers are_obeyed sent))
    (calls_confirmed opening_outbox traffic)) same each in
    subst (λ (sent : List ℕ). AreInSendingOrder (obeyed_numbers are_obeyed sent)) (sym same)
    (obeyed_in_order traffic are_obeyed each_sent)

pub obeying_stay_in_step : ObeyingPointsStayInStep
obeying_stay_in_step site numbers history state legal point place here are_obeyed each first others
    rows is moment =
    let order : AreInSendingOrder (numbers_of (first ∷ others)) =
    subst AreInSendingOrder (sym is)
    (obey_in_order site numbers history state legal point place here are_obeyed each) in
    stay_in_step site numbers history state point place here first others rows order moment

-- ---- the moments of its calls

-- the calls that are added at a point along its own events
abbrev added_along : ChargePointState → List Event → List CallBody
added_along point events = bodies_added (traffic_along point events)

-- the number of calls that a deed adds: at most one
abbrev count_of : Option Deed → ℕ
count_of does = length (cons_option (call_in (traffic_with does)) [])

one_at_most : (does : Option Deed) → count_of does ≤ 1
one_at_most does = by (call_in (traffic_with does))
  where
    by : (call : Option CallBody) → length (cons_option call []) ≤ 1
    by None = omega arith
    by (Some body) = omega arith

added_more : (point : ChargePointState) (event : Event) (later : List Event)
    → length (added_along point (event ∷ later))
    ≡ count_of (deed_by point event) + length (added_along (point_by point event) later)
added_more point event later =
    ap (λ (t : List Traffic). length (bodies_added t)) (traffic_more point event later)
    ∙ ap (λ (bs : List CallBody). length bs) (bodies_added-cons (traffic_by point event)
    (traffic_along (point_by point event) later))
    ∙ by (call_in (traffic_by point event)) (added_along (point_by point event) later)
  where
    by : (call : Option CallBody) (bodies : List CallBody)
        → length (cons_option call bodies) ≡ length (cons_option call []) + length bodies
    by None bodies = omega arith
    by (Some body) bodies = omega arith

none_more : (n : ℕ) → n ≡ 0 + n
none_more n = omega arith

-- how many calls an event adds at the point at a place, which it may name or not
record Counts (place : ℕ) (old middle : MachineState) (event : Event) : Type 0 where
  first : ℕ
  few : first ≤ 1
  join : (later : List Event) → length (accepted_since old place (event ∷ later))
      ≡ first + length (accepted_since middle place later)

counts : (place : ℕ) (old middle : MachineState) (event : Event) → middle.site ≡ old.site
    → Acts place old event.step (record { reply = event.reply; after = middle })
    → Counts place old middle event
counts place old middle event site act = by (names old.site place event.step) refl
  where
    point : ChargePointState
    point = point_at old place

    same : (later : List Event) → events_at middle.site place later ≡ events_at old.site place later
    same later = ap (λ (s : SiteState). events_at s place later) site

    by : (named : Bool) → names old.site place event.step ≡ named
        → Counts place old middle event
    by true is = record {
      first = count_of (deed_by point event);
      few = one_at_most (deed_by point event);
      join = λ later.
          ap (λ (b : Bool). length (added_along point (cond b
          (event ∷ events_at old.site place later) (events_at old.site place later)))) is
          ∙ added_more point event (events_at old.site place later)
          ∙ ap (λ (p : ChargePointState). count_of (deed_by point event)
          + length (added_along p (events_at old.site place later)))
          (sym (act.point ∙ ap (λ (b : Bool). cond b (point_by point event) point) is))
          ∙ ap (λ (es : List Event). count_of (deed_by point event)
          + length (added_along (point_at middle place) es)) (sym (same later));
    }
    by false is = record {
      first = 0;
      few = omega arith;
      join = λ later.
          ap (λ (b : Bool). length (added_along point (cond b
          (event ∷ events_at old.site place later) (events_at old.site place later)))) is
          ∙ ap (λ (p : ChargePointState). length (added_along p
          (events_at old.site place later)))
          (sym (act.point ∙ ap (λ (b : Bool). cond b (point_by point event) point) is))
          ∙ ap (λ (es : List Event). length (added_along (point_at middle place) es))
          (sym (same later))
          ∙ none_more (length (accepted_since middle place later));
    }

moment : (place : ℕ) (old : MachineState) (history : List Event) (new : MachineState)
    → HasPlaces old → Legal old history new
    → (number : ℕ) → number ≤ length (accepted_since old place history)
    → Moment old history new place number
moment place old history new many legal zero within =
    record {
      earlier = [];
      later = history;
      state = old;
      parts = refl;
      before = refl;
      since = legal;
      many = refl;
    }
moment place old [] new many legal (suc number) within = absurd (omega arith)
moment place old (event ∷ later) new many legal (suc number) within =
    let is = does old event.step event.reply legal.0 legal.1 in
    let site = keeps_site old event.step (record { reply = event.reply; after = legal.0 }) is in
    let act = acts place old event.step (record { reply = event.reply; after = legal.0 }) many is in
    let still = places_still place old event legal.0 many site act in
    let count = counts place old legal.0 event site act in
    let first = count.first in
    let few = count.few in
    let all = count.join later in
    let left : suc number - first ≤ length (accepted_since legal.0 place later) =
    omega (arith, all, few, within) in
    let rest = moment place legal.0 later new still legal.2 (suc number - first) left in
    let counted : length (accepted_since legal.0 place rest.earlier) ≡ suc number - first =
    rest.many in
    record {
      earlier = event ∷ rest.earlier;
      later = rest.later;
      state = rest.state;
      parts = ap (λ (es : List Event). event ∷ es) rest.parts;
      before = (legal.0, legal.1, rest.before);
      since = rest.since;
      many = omega (arith, count.join rest.earlier, counted, few);
    }

pub moments : EachCallHasItsMoment
moments site numbers history state legal point place here number within =
    moment place (opening_at site numbers) history state
    (length-map site.points opening_point) legal number within
