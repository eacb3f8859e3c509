-- The results of the steps of a point, step by step, agree with the laws' view of their events.
use Rattle.std.proofs.Common.{◌≡◌, ℕ, ℤ, ◌+◌, ◌≤◌, ◌<◌, ◌==◌, ◌&&◌, Bool, true, false, cond, List, [], ◌∷◌, take, length, slice_set, slice_index_or, Option, Some, None, is_some, option_map, Result, Ok, Err, refl, sym, ap, ◌∙◌, subst, add-zero, arith}
use Rattle.std.proofs.lemmas.Bool.{eqb-true, eqb-false}
use Rattle.std.proofs.lemmas.List.{get_or-set_same, get_or-set_other}
use Rattle.std.specs.Prelude.{IfOk}
use Rattle.std.specs.List.{list_any}
use Rattle.ocpp_scalars.specs.declared.refusal.Refusal.{Refusal}
use Rattle.ocpp_scalars.specs.declared.refusal.Refusal.TheVariants as refusals
use Rattle.profile.specs.Changes.{matches}
use Rattle.profile.specs.declared.charging_profile.Profile.{Profile}
use Rattle.profile.specs.declared.row.Row.{Row}
use Rattle.profile.specs.declared.criteria.Criteria.{Criteria}
use Rattle.transactions.specs.declared.begin.Begin.{Begin}
use Rattle.transactions.specs.declared.active_table.Began.{Began}
use Rattle.transactions.specs.declared.active_table.Began.TheVariants.{Fresh, Repeat}
use Rattle.transactions.specs.ActiveTable.{began, connector_of}
use Rattle.site_rules.specs.Site.{SiteState}
use Rattle.site_rules.specs.Admission.{admission_refusal}
use Rattle.messages.specs.declared.call.Call.{Call}
use Rattle.point_book.specs.Changes.{first_cause, install_refusal}
use Rattle.sweep_compiler.specs.Judged.{Judgement}
use Rattle.site_core.specs.declared.numbers.Numbers.{Numbers}
use Rattle.site_core.specs.declared.step.Step.{Step}
use Rattle.site_core.specs.declared.step.Step.TheVariants as steps
use Rattle.site_core.specs.declared.reply.Reply.{Reply}
use Rattle.site_core.specs.declared.reply.Reply.TheVariants as replies
use Rattle.site_core.specs.Audit.{AuditState, unjudged}
use Rattle.site_core.specs.Equal.{same_request}
use Rattle.site_core.specs.Limits.{max_number, max_transaction}
use Rattle.site_core.specs.Outbox.{OutboxState, first_unconfirmed, sendable, is_number_in_flight, is_number_of_first, Traffic, Send, Confirm}
use Rattle.site_core.specs.OutboxOrder.{confirmed_at}
use Rattle.site_core.specs.ChargePoint.{ChargePointState, Deed, Stops, traffic_of}
use Rattle.site_core.specs.State.{MachineState, AreNumbers}
use Rattle.site_core.specs.Step.{Work, AtPoint, work, unless, facts, deed, drawn, counted, is_event, is_reply_to, refusal_to_install, refusal_to_call, refusal_to_add, refusal_to_start, refusal_to_attach, version_refusal, transaction_number_refusal, next_transaction, is_at_no_connector, installs, clears, starts, starts_as, stops, attaches, sends, sends_call, confirms, loses, audits, refusal_to_audit, judges, judges_audit, status_of, tells_status, remote_starts, refusal_to_remote_start, boots}
use Rattle.site_core.specs.History.{reply_takes, asks_answer_of}
use Rattle.site_core.specs.CallOrder.{calls_by, confirmed_by, numbers_of_calls}

-- ---- properties of any result of a step

pub unless_holds : {X : Type 0} (P : X → Type 0) (refusal : Option Refusal) (x : X) → P x
    → IfOk (unless refusal x) P
unless_holds P None x h = h
unless_holds P (Some refusal) x h = tt

-- if nothing refuses it
pub unless_none : {X : Type 0} (P : X → Type 0) (refusal : Option Refusal) (x : X)
    → (refusal ≡ None → P x) → IfOk (unless refusal x) P
unless_none P None x h = h refl
unless_none P (Some refusal) x h = tt

pub either_holds : {X : Type 0} (P : X → Type 0) (test : Bool) (one other : Result X Refusal)
    → IfOk one P → IfOk other P → IfOk (cond test one other) P
either_holds P true one other h k = h
either_holds P false one other h k = k

-- ---- numbers

-- neither of two causes
pub neither : (first next : Option Refusal) → first_cause first next ≡ None
    → (first ≡ None) × (next ≡ None)
neither None next none = (refl, none)
neither (Some refusal) next none = absurd (cc none)

-- below its limit, a number has a next one
pub has_next : (n most : ℕ) (refusal : Refusal) → n ≤ most
    → cond (n == most) (Some refusal) None ≡ None → n + 1 ≤ most
has_next n most refusal within none =
    elim (n == most) as (λ b. (n == most) ≡ b → cond b (Some refusal) None ≡ None → n + 1 ≤ most) [
      | true ↦ λ same h. absurd (cc h)
      | false ↦ λ other h. omega (arith, within, eqb-false n most other)
    ] refl none

next_version : (numbers : Numbers) → AreNumbers numbers → version_refusal numbers ≡ None
    → numbers.version + 1 ≤ max_number
next_version numbers are none =
    has_next numbers.version max_number refusals.VersionsExhausted are.version none

-- a change of a book draws a version
version_drawn : (numbers : Numbers) → AreNumbers numbers → version_refusal numbers ≡ None
    → AreNumbers (drawn replies.Accepted numbers)
version_drawn numbers are none = record {
  version = next_version numbers are none;
  request = are.request;
  transaction = are.transaction;
  link = are.link;
}

-- a call that may be added leaves room for a version
call_draws : (numbers : Numbers) (point : ChargePointState)
    → refusal_to_call numbers point ≡ None → version_refusal numbers ≡ None
call_draws numbers point none =
    (neither (refusal_to_add point.outbox) (version_refusal numbers) none).1

-- ---- the point at a place

-- the item at a place after that of some place was changed
pub changed_in : {X : Type 0} (xs : List X) (there place : ℕ) (new d : X)
    → there < length xs
    → slice_index_or (slice_set xs there new) place d
    ≡ cond (there == place) new (slice_index_or xs place d)
changed_in {X} xs there place new d within = go (there == place) refl
  where
    go : (b : Bool) → (there == place) ≡ b
        → slice_index_or (slice_set xs there new) place d ≡ cond b new (slice_index_or xs place d)
    go true is = subst (λ (p : ℕ). slice_index_or (slice_set xs there new) p d ≡ new)
        (eqb-true there place is) (get_or-set_same xs there new d within)
    go false is = get_or-set_other xs there place new d (λ e. eqb-false there place is (sym e))

-- ---- the calls that an outbox sends and confirms

abbrev pub call_list : Option Call → List Call
call_list None = []
call_list (Some call) = call ∷ []

abbrev pub calls_at : OutboxState → Traffic → List Call
calls_at old Send = call_list (sendable old)
calls_at old other = []

abbrev pub sent_by_traffic : OutboxState → Option Traffic → List Call
sent_by_traffic old None = []
sent_by_traffic old (Some traffic) = calls_at old traffic

abbrev pub confirmed_by_traffic : OutboxState → Option Traffic → List Call
confirmed_by_traffic old None = []
confirmed_by_traffic old (Some traffic) = confirmed_at old traffic

-- the traffic of a deed, or none
abbrev pub traffic_with : Option Deed → Option Traffic
traffic_with None = None
traffic_with (Some deed) = traffic_of deed

-- ---- step by step

-- the reply to a step at a point, and its deed there, agree with the laws' view of its event
pub record Agrees (numbers : Numbers) (point : ChargePointState) (step : Step) (reply : Reply)
    : Type 0 where
  pub calls : calls_by step reply
      ≡ sent_by_traffic point.outbox (traffic_with (deed point step reply))
  pub confirmed : numbers_of_calls (confirmed_by_traffic point.outbox (traffic_with
      (deed point step reply))) ≡ confirmed_by step reply
  pub no_take : (number : ℕ) → reply_takes number reply ≡ false
  pub no_answer : (number : ℕ) → asks_answer_of number step ≡ false
  pub event : (old : MachineState) → is_event old reply ≡ is_some (deed point step reply)
  pub still : deed point step reply ≡ None → drawn reply numbers ≡ numbers
  pub fits : AreNumbers numbers → AreNumbers (drawn reply numbers)
  pub version : (drawn reply numbers).version ≡ numbers.version + (counted reply).changes
  pub request : (drawn reply numbers).request ≡ numbers.request
  pub asks : (facts reply).asks ≡ None
  pub takes : (counted reply).takes ≡ 0
  pub answers : (counted reply).answers ≡ 0
  pub its_own : is_reply_to step reply ≡ true

-- an answer that changes nothing draws nothing
same_numbers : (numbers : Numbers) → AreNumbers numbers → AreNumbers numbers
same_numbers numbers are = are

agrees_so : (numbers : Numbers) (point : ChargePointState) (step : Step) (reply : Reply)
    → calls_by step reply ≡ sent_by_traffic point.outbox (traffic_with (deed point step reply))
    → numbers_of_calls (confirmed_by_traffic point.outbox (traffic_with
    (deed point step reply))) ≡ confirmed_by step reply
    → ((number : ℕ) → reply_takes number reply ≡ false)
    → ((number : ℕ) → asks_answer_of number step ≡ false)
    → ((old : MachineState) → is_event old reply ≡ is_some (deed point step reply))
    → (deed point step reply ≡ None → drawn reply numbers ≡ numbers)
    → (AreNumbers numbers → AreNumbers (drawn reply numbers))
    → (drawn reply numbers).version ≡ numbers.version + (counted reply).changes
    → (drawn reply numbers).request ≡ numbers.request
    → (facts reply).asks ≡ None
    → (counted reply).takes ≡ 0 → (counted reply).answers ≡ 0
    → is_reply_to step reply ≡ true
    → Agrees numbers point step reply
agrees_so numbers point step reply calls confirmed no_take no_answer event still fits version
    request asks takes answers its_own = record {
      calls = calls;
      confirmed = confirmed;
      no_take = no_take;
      no_answer = no_answer;
      event = event;
      still = still;
      fits = fits;
      version = version;
      request = request;
      asks = asks;
      takes = takes;
      answers = answers;
      its_own = its_own;
    }

install_agrees : (site : SiteState) (numbers : Numbers) (id : List ℕ) (row : Row)
    (point : ChargePointState)
    → IfOk (installs site numbers id row point) (Agrees numbers point (steps.Install id row))
install_agrees site numbers id row point =
    unless_none (Agrees numbers point (steps.Install id row))
    (refusal_to_install site numbers id row point) replies.Accepted (λ none.
    agrees_so numbers point (steps.Install id row) replies.Accepted refl refl (λ n. refl)
    (λ n. refl) (λ old. refl) (λ none. absurd (cc none)) (λ are. version_drawn numbers are (call_draws numbers point
    (neither (install_refusal point.book row) (refusal_to_call numbers point)
    (neither (admission_refusal site id row.connector row.profile) (first_cause
    (install_refusal point.book row) (refusal_to_call numbers point)) none).1).1))
    refl refl refl refl refl refl)

clear_agrees : (numbers : Numbers) (id : List ℕ) (criteria : Criteria) (point : ChargePointState)
    → IfOk (clears numbers criteria point) (Agrees numbers point (steps.Clear id criteria))
clear_agrees numbers id criteria point =
    either_holds P (list_any (matches criteria) point.book.rows)
    (unless (refusal_to_call numbers point) replies.Accepted) (Ok replies.Unknown)
    (unless_none P (refusal_to_call numbers point) replies.Accepted (λ none.
    agrees_so numbers point (steps.Clear id criteria) replies.Accepted refl refl (λ n. refl)
    (λ n. refl) (λ old. refl) (λ none. absurd (cc none)) (λ are. version_drawn numbers are (call_draws numbers point none))
    refl refl refl refl refl refl))
    (agrees_so numbers point (steps.Clear id criteria) replies.Unknown refl refl (λ n. refl)
    (λ n. refl) (λ old. refl) (λ none. refl) (same_numbers numbers) (sym (add-zero _)) refl refl refl refl refl)
  where
    P : Reply → Type 0
    P = Agrees numbers point (steps.Clear id criteria)

start_agrees : (numbers : Numbers) (id : List ℕ) (connector : ℕ) (begin : Begin)
    (point : ChargePointState)
    → IfOk (starts numbers connector begin point)
    (Agrees numbers point (steps.Start id connector begin))
start_agrees numbers id connector begin point =
    either_holds P (is_at_no_connector point connector) (Err refusals.UnknownConnector) (starts_as
    (began point.book.transactions connector begin) numbers)
    tt (by (began point.book.transactions connector begin))
  where
    P : Reply → Type 0
    P = Agrees numbers point (steps.Start id connector begin)

    drawn_both : refusal_to_start numbers ≡ None → AreNumbers numbers
        → AreNumbers (drawn (replies.Started (next_transaction numbers)) numbers)
    drawn_both none are =
        let both = neither (version_refusal numbers) (transaction_number_refusal numbers) none in
        record {
          version = next_version numbers are both.0;
          request = are.request;
          transaction = has_next numbers.transaction max_transaction
              refusals.TransactionsExhausted are.transaction both.1;
          link = are.link;
        }

    by : (found : Began) → IfOk (starts_as found numbers) P
    by (Repeat number) = agrees_so numbers point (steps.Start id connector begin)
        (replies.Repeated number) refl refl (λ n. refl) (λ n. refl) (λ old. refl)
        (λ none. refl) (same_numbers numbers) (sym (add-zero _)) refl refl refl refl refl
    by Fresh = unless_none P (refusal_to_start numbers) (replies.Started
        (next_transaction numbers)) (λ none. agrees_so numbers point
        (steps.Start id connector begin) (replies.Started (next_transaction numbers)) refl refl
        (λ n. refl) (λ n. refl) (λ old. refl) (λ none. absurd (cc none)) (drawn_both none) refl refl refl refl refl refl)

stop_agrees : (numbers : Numbers) (id : List ℕ) (number : ℤ) (point : ChargePointState)
    → IfOk (stops numbers number point) (Agrees numbers point (steps.Stop id number))
stop_agrees numbers id number point = by (connector_of point.book.transactions number) refl
  where
    P : Reply → Type 0
    P = Agrees numbers point (steps.Stop id number)

    by : (found : Option ℕ) → connector_of point.book.transactions number ≡ found
        → IfOk (cond (is_some found) (unless (version_refusal numbers) replies.Ended)
        (Ok replies.NoSuch)) P
    by None here = agrees_so numbers point (steps.Stop id number) replies.NoSuch refl refl
        (λ n. refl) (λ n. refl) (λ old. refl) (λ none. refl) (same_numbers numbers) (sym (add-zero _)) refl
        refl refl refl refl
    by (Some connector) here =
        let does : deed point (steps.Stop id number) replies.Ended ≡ Some (Stops connector) =
        ap (option_map Stops) here in
        unless_none P (version_refusal numbers) replies.Ended (λ none.
        agrees_so numbers point (steps.Stop id number) replies.Ended
        (ap (λ (d : Option Deed). sent_by_traffic point.outbox (traffic_with d)) (sym does))
        (ap (λ (d : Option Deed). numbers_of_calls (confirmed_by_traffic point.outbox
        (traffic_with d))) does)
        (λ n. refl) (λ n. refl) (λ old. ap (λ (d : Option Deed). is_some d) (sym does))
        (λ none. let never : Some (Stops connector) ≡ None = sym does ∙ none in absurd (cc never))
        (λ are. version_drawn numbers are none) refl refl refl refl refl refl)

attach_agrees : (numbers : Numbers) (id : List ℕ) (point : ChargePointState)
    → IfOk (attaches numbers point) (Agrees numbers point (steps.Attach id))
attach_agrees numbers id point =
    unless_none (Agrees numbers point (steps.Attach id)) (refusal_to_attach numbers)
    (replies.Attached (numbers.link + 1)) (λ none.
    agrees_so numbers point (steps.Attach id) (replies.Attached (numbers.link + 1)) refl refl
    (λ n. refl) (λ n. refl) (λ old. refl) (λ none. absurd (cc none)) (λ are. record {
      version = are.version;
      request = are.request;
      transaction = are.transaction;
      link = has_next numbers.link max_number refusals.VersionsExhausted are.link none;
    }) (sym (add-zero _)) refl refl refl refl refl)

send_agrees : (numbers : Numbers) (id : List ℕ) (link : ℕ) (point : ChargePointState)
    → IfOk (sends point) (Agrees numbers point (steps.Send id link))
send_agrees numbers id link point = by (sendable point.outbox) refl
  where
    by : (call : Option Call) → sendable point.outbox ≡ call
        → Agrees numbers point (steps.Send id link) (sends_call call)
    by None first = agrees_so numbers point (steps.Send id link) replies.Nothing refl refl
        (λ n. refl) (λ n. refl) (λ old. refl) (λ none. refl) (same_numbers numbers) (sym (add-zero _)) refl
        refl refl refl refl
    by (Some call) first = agrees_so numbers point (steps.Send id link) (replies.Sent call)
        (ap call_list (sym first)) refl (λ n. refl) (λ n. refl) (λ old. refl)
        (λ none. refl) (same_numbers numbers) (sym (add-zero _)) refl refl refl refl refl

-- the call in flight that has a number is the first, and has it
first_confirmed : (outbox : OutboxState) (number : ℕ) → is_number_in_flight outbox number ≡ true
    → numbers_of_calls (confirmed_at outbox (Confirm number)) ≡ number ∷ []
first_confirmed outbox number is =
    ap (λ (b : Bool). numbers_of_calls (cond b (take 1 outbox.calls) [])) is
    ∙ by outbox.is_in_flight outbox.calls is
  where
    by : (flies : Bool) (calls : List Call) → (flies && is_number_of_first calls number) ≡ true
        → numbers_of_calls (take 1 calls) ≡ number ∷ []
    by false calls h = absurd (cc h)
    by true [] h = absurd (cc h)
    by true (call ∷ later) h = ap (λ (n : ℕ). n ∷ []) (eqb-true call.number number h)

confirm_agrees : (numbers : Numbers) (id : List ℕ) (link number : ℕ) (accepted : Bool)
    (point : ChargePointState)
    → IfOk (confirms number point) (Agrees numbers point (steps.Confirm id link number accepted))
confirm_agrees numbers id link number accepted point = by (is_number_in_flight point.outbox number) refl
  where
    by : (flies : Bool) → is_number_in_flight point.outbox number ≡ flies
        → IfOk (cond flies (Ok replies.Confirmed) (Err refusals.NothingInFlight))
        (Agrees numbers point (steps.Confirm id link number accepted))
    by false is = tt
    by true is = agrees_so numbers point (steps.Confirm id link number accepted) replies.Confirmed
        refl
        (first_confirmed point.outbox number is) (λ n. refl) (λ n. refl) (λ old. refl)
        (λ none. refl) (same_numbers numbers) (sym (add-zero _)) refl refl refl refl refl

lose_agrees : (numbers : Numbers) (id : List ℕ) (link : ℕ) (point : ChargePointState)
    → IfOk (loses point) (Agrees numbers point (steps.Lost id link))
lose_agrees numbers id link point =
    agrees_so numbers point (steps.Lost id link) replies.LinkLost refl refl (λ n. refl)
    (λ n. refl) (λ old. refl) (λ none. refl) (same_numbers numbers) (sym (add-zero _)) refl refl refl refl refl

audit_agrees : (site : SiteState) (numbers : Numbers) (id : List ℕ) (connector duration : ℕ)
    (point : ChargePointState)
    → IfOk (audits site connector duration point)
    (Agrees numbers point (steps.Audit id connector duration))
audit_agrees site numbers id connector duration point =
    unless_holds (Agrees numbers point (steps.Audit id connector duration))
    (refusal_to_audit connector duration point) (replies.Audited point.outbox.next site.unit)
    (agrees_so numbers point (steps.Audit id connector duration)
    (replies.Audited point.outbox.next site.unit) refl refl (λ n. refl) (λ n. refl) (λ old. refl)
    (λ none. absurd (cc none)) (same_numbers numbers) (sym (add-zero _)) refl refl refl refl refl)

judge_agrees : (numbers : Numbers) (id : List ℕ) (call : ℕ) (judged : Judgement)
    (point : ChargePointState)
    → IfOk (judges call judged point) (Agrees numbers point (steps.Judge id call judged))
judge_agrees numbers id call judged point = by (unjudged call point.audit)
  where
    P : Reply → Type 0
    P = Agrees numbers point (steps.Judge id call judged)

    by : (found : Option AuditState) → IfOk (judges_audit judged found) P
    by None = tt
    by (Some audit) = either_holds P (same_request audit.asked judged.audit)
        (Ok replies.VerdictKept) (Err refusals.StrangerInput)
        (agrees_so numbers point (steps.Judge id call judged) replies.VerdictKept refl refl
        (λ n. refl) (λ n. refl) (λ old. refl) (λ none. absurd (cc none)) (same_numbers numbers)
        (sym (add-zero _)) refl refl refl refl refl) tt

status_agrees : (numbers : Numbers) (id : List ℕ) (point : ChargePointState)
    → IfOk (tells_status numbers point) (Agrees numbers point (steps.Status id))
status_agrees numbers id point =
    agrees_so numbers point (steps.Status id) (replies.Status (status_of numbers point)) refl refl
    (λ n. refl) (λ n. refl) (λ old. refl) (λ none. refl) (same_numbers numbers) (sym (add-zero _))
    refl refl refl refl refl

remote_start_agrees : (site : SiteState) (numbers : Numbers) (id : List ℕ) (connector : ℕ)
    (id_tag : List ℕ) (profile : Option Profile) (point : ChargePointState)
    → IfOk (remote_starts site connector profile point)
    (Agrees numbers point (steps.RemoteStart id connector id_tag profile))
remote_start_agrees site numbers id connector id_tag profile point =
    unless_holds (Agrees numbers point (steps.RemoteStart id connector id_tag profile))
    (refusal_to_remote_start site connector profile point) (replies.Called point.outbox.next)
    (agrees_so numbers point (steps.RemoteStart id connector id_tag profile)
    (replies.Called point.outbox.next) refl refl (λ n. refl) (λ n. refl) (λ old. refl)
    (λ none. absurd (cc none)) (same_numbers numbers) (sym (add-zero _)) refl refl refl refl refl)

boot_agrees : (numbers : Numbers) (id : List ℕ) (moment : ℕ) (point : ChargePointState)
    → IfOk (boots point) (Agrees numbers point (steps.Boot id moment))
boot_agrees numbers id moment point =
    agrees_so numbers point (steps.Boot id moment)
    (replies.Booted (first_unconfirmed point.outbox)) refl refl (λ n. refl) (λ n. refl)
    (λ old. refl) (λ none. absurd (cc none)) (same_numbers numbers) (sym (add-zero _)) refl refl
    refl refl refl

-- ---- all of them

-- agreement for a step at a point
abbrev pub WorkAgrees : Step → Work → Type 0
WorkAgrees step (AtPoint at) =
    (site : SiteState) (numbers : Numbers) (point : ChargePointState)
    → IfOk (at.decided site numbers point) (Agrees numbers point step)
WorkAgrees step other = Unit {0}

pub agrees : (step : Step) → WorkAgrees step (work step)
agrees (steps.Install id row) = λ site numbers point. install_agrees site numbers id row point
agrees (steps.Clear id criteria) = λ site numbers point. clear_agrees numbers id criteria point
agrees (steps.Start id connector begin) =
    λ site numbers point. start_agrees numbers id connector begin point
agrees (steps.Stop id number) = λ site numbers point. stop_agrees numbers id number point
agrees (steps.Attach id) = λ site numbers point. attach_agrees numbers id point
agrees (steps.Send id link) = λ site numbers point. send_agrees numbers id link point
agrees (steps.Confirm id link number accepted) =
    λ site numbers point. confirm_agrees numbers id link number accepted point
agrees (steps.Lost id link) = λ site numbers point. lose_agrees numbers id link point
agrees (steps.Audit id connector duration) =
    λ site numbers point. audit_agrees site numbers id connector duration point
agrees (steps.Judge id call judged) =
    λ site numbers point. judge_agrees numbers id call judged point
agrees (steps.Status id) = λ site numbers point. status_agrees numbers id point
agrees (steps.RemoteStart id connector id_tag profile) =
    λ site numbers point. remote_start_agrees site numbers id connector id_tag profile point
agrees (steps.Boot id moment) = λ site numbers point. boot_agrees numbers id moment point
agrees other = tt
