-- The laws of a store over its whole history: that until its base, and that since. So they are the
-- laws of the machine from its opening state on, however often the history was folded.
use Rattle.std.specs.Prelude.{ℕ, ◌+◌, ◌≤◌, ◌≡◌, List, ◌++◌, length, Some}
use Rattle.meaning.specs.declared.ask.Ask.{Ask}
use Rattle.site_rules.specs.Site.{place_of}
use Rattle.point_book.specs.Book.{BookState}
use Rattle.site_core.specs.declared.step.Step.TheVariants.{Answer}
use Rattle.site_core.specs.declared.reply.Reply.TheVariants.{Answered}
use Rattle.site_core.specs.Audit.{AuditState}
use Rattle.site_core.specs.Audits.{IsBegunIn, IsAuditRight}
use Rattle.site_core.specs.State.{ScheduleAnswer, opening, outbox_at, audit_at}
use Rattle.site_core.specs.History.{Event, Legal, takes_of, answers_of, kept_of}
use Rattle.site_core.specs.Counts.{changes_in, answers_in}
use Rattle.site_core.specs.Headline.{IsRightAfter}
use Rattle.site_core.specs.OutboxOrder.{AreInSendingOrder, GoesOn, calls_confirmed}
use Rattle.site_core.specs.CallOrder.{AreKeptFrom, calls_sent, numbers_of_calls, traffic_since}
use Rattle.version_store.specs.Store.{StoreState, IsStore}
use Rattle.version_store.specs.Calls.{Adds, event_alone}

abbrev pub whole_history : (store : StoreState) → IsStore store → List Event
whole_history store is = is.earlier ++ is.played

-- a property of each store, with its whole history
abbrev pub OfEachStore : ((store : StoreState) → IsStore store → List Event → Type 0) → Type 0
OfEachStore holds =
    (store : StoreState) (is : IsStore store) → holds store is (whole_history store is)

-- it is legal, and led from the opening of its site to the present state
abbrev pub StoresAreReached : Type 0
StoresAreReached = OfEachStore (λ store is whole. Legal (opening is.site) whole store.present)

-- the two numbers are those of its changes and its answers
abbrev pub StoresCountAll : Type 0
StoresCountAll = OfEachStore (λ store is whole.
    (store.made.changes ≡ changes_in whole) × (store.made.answers ≡ answers_in whole))

-- the calls that were sent to a point are in sending order: call 0 comes first, and a call is sent
-- again only directly after itself
abbrev pub StoresSendInOrder : Type 0
StoresSendInOrder = OfEachStore (λ store is whole.
    (point : List ℕ) (place : ℕ) → place_of is.site point ≡ Some place
    → AreInSendingOrder (numbers_of_calls (calls_sent is.site place whole)))

-- the number of calls of the point at a place that were confirmed until the base
abbrev pub confirmed_before : (store : StoreState) → IsStore store → ℕ → ℕ
confirmed_before store is place = length (calls_confirmed (outbox_at (opening is.site) place)
    (traffic_since (opening is.site) place is.earlier))

-- If c calls of a point were confirmed until the base, the base keeps its calls from number c on.
-- The calls that are sent since begin with call c or the next one: a fold leaves none out. Each
-- later one is the one before it or the next.
abbrev pub StoresSendOn : Type 0
StoresSendOn = (store : StoreState) (is : IsStore store) (place : ℕ)
    → AreKeptFrom store.base place (confirmed_before store is place)
    × GoesOn (confirmed_before store is place)
    (numbers_of_calls (calls_sent store.base.site place is.played))

-- no request is lost and none is answered twice
abbrev pub StoresAnswerOnce : Type 0
StoresAnswerOnce = OfEachStore (λ store is whole.
    (number : ℕ) → (takes_of number whole ≤ 1)
    × (takes_of number whole ≡ answers_of number whole + kept_of number store.present.requests))

-- each answer that is handed out is right, as in the headline: for the book that the point had at
-- its one Take, and for the `Ask`
abbrev pub StoresHandOutRight : Type 0
StoresHandOutRight = OfEachStore (λ store is whole.
    (number : ℕ) (book : BookState) (ask : Ask) (answer : ScheduleAnswer) (new : StoreState)
    → Adds store (event_alone (Answer number)) (Answered book ask answer) new
    → IsRightAfter (opening is.site) whole number book ask answer)

-- each audit was begun in the history, with the book that its point had then, and its verdict is
-- Unsettled, or one on that book and something that the point may have replied
abbrev pub StoresAuditRight : Type 0
StoresAuditRight = OfEachStore (λ store is whole.
    (place : ℕ) (audit : AuditState) → audit_at store.present place ≡ Some audit
    → IsBegunIn (opening is.site) whole place audit × IsAuditRight audit)
