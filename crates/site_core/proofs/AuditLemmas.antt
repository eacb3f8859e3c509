-- The effect of a step on the audit of a point: it keeps its book, and its verdict is right.
use Rattle.std.proofs.Common.{◌≡◌, ℕ, ℤ, ◌+◌, ◌==◌, ◌&&◌, ◌⊎◌, Bool, true, false, not, cond, List, [], ◌∷◌, ◌++◌, Option, Some, None, is_some, option_map, Result, Ok, Err, length, refl, sym, ap, ◌∙◌, subst, inl, inr}
use Rattle.std.proofs.lemmas.Bool.{eqb-true}
use Rattle.std.proofs.lemmas.Option.{same_Some}
use Rattle.std.specs.Prelude.{IfOk, IfSome}
use Rattle.std.specs.List.{list_any}
use Rattle.ocpp_scalars.specs.declared.refusal.Refusal.{Refusal}
use Rattle.ocpp_scalars.specs.declared.refusal.Refusal.TheVariants as refusals
use Rattle.profile.specs.Changes.{matches}
use Rattle.profile.specs.declared.charging_profile.Profile.{Profile}
use Rattle.profile.specs.declared.row.Row.{Row}
use Rattle.profile.specs.declared.criteria.Criteria.{Criteria}
use Rattle.transactions.specs.declared.begin.Begin.{Begin}
use Rattle.transactions.specs.declared.active_table.Began.{Began}
use Rattle.transactions.specs.declared.active_table.Began.TheVariants.{Fresh, Repeat}
use Rattle.transactions.specs.ActiveTable.{began, connector_of}
use Rattle.site_rules.specs.Site.{SiteState, place_of}
use Rattle.messages.specs.declared.call.Call.{Call}
use Rattle.sweep_compiler.specs.Judged.{Judgement, IsJudged}
use Rattle.sweep_compiler.specs.Verdict.{AuditRequest}
use Rattle.sweep_compiler.specs.declared.verdict.Verdict.{Verdict}
use Rattle.sweep_compiler.specs.declared.verdict.Verdict.TheVariants as verdicts
use Rattle.site_core.specs.declared.numbers.Numbers.{Numbers}
use Rattle.site_core.specs.declared.step.Step.{Step}
use Rattle.site_core.specs.declared.step.Step.TheVariants as steps
use Rattle.site_core.specs.declared.reply.Reply.{Reply}
use Rattle.site_core.specs.declared.reply.Reply.TheVariants as replies
use Rattle.site_core.specs.Audit.{AuditState, begun_audit, unjudged, settled, kept_verdict, judged_audit}
use Rattle.site_core.specs.Equal.{same_request, same_transactions}
use Rattle.site_core.specs.Outbox.{first_unconfirmed, sendable, is_number_in_flight}
use Rattle.site_core.specs.ChargePoint.{ChargePointState, Deed, Stops, point_with}
use Rattle.site_core.specs.State.{MachineState, is_this_number, point_at, audit_at}
use Rattle.site_core.specs.Step.{Made, Steps, Works, Work, AtPoint, PointStep, work, unless, deed, made_there, place_for, refusal_to_install, refusal_to_call, refusal_to_start, refusal_to_attach, refusal_to_audit, version_refusal, next_transaction, is_at_no_connector, installs, clears, starts, starts_as, stops, attaches, sends, sends_call, confirms, audits, judges, judges_audit, status_of, remote_starts, refusal_to_remote_start}
use Rattle.site_core.specs.History.{Event, Legal}
use Rattle.site_core.specs.CallOrder.{names, place_of_work, point_by}
use Rattle.site_core.specs.Audits.{IsBegunIn, IsAuditBefore, AuditsHaveTheirBooks, BringsRight, AllBringRight, IsRightVerdict, IsAuditRight, AreAuditsRight, VerdictsStayRight}
use Rattle.site_core.specs.Theory.Steps.{StepKind, names_point, takes_one, compiles_one, answers_one, finishes_all, kind_of}
use Rattle.site_core.proofs.EqualLemmas.{equal_requests_are_one}
use Rattle.site_core.proofs.EffectLemmas.{unless_holds, either_holds}
use Rattle.site_core.proofs.PointLemmas.{as_many}
use Rattle.site_core.proofs.StepLemmas.{Acts, HasPlaces, acts, does, keeps_site, then_holds, of_made, IsFound, found, reply_after}

-- ---- the audit of a point after a step there

-- the audit asks the same, with the same call, as the one before
record IsEarlier (before : Option AuditState) (audit : AuditState) : Type 0 where
  earlier : AuditState
  is_kept : before ≡ Some earlier
  numbered : earlier.number ≡ audit.number
  asked : earlier.asked ≡ audit.asked

-- the step began it
record IsBegun (site : SiteState) (point : ChargePointState) (step : Step) (reply : Reply)
    (audit : AuditState) : Type 0 where
  id : List ℕ
  step_is : step ≡ steps.Audit id audit.asked.connector audit.asked.duration
  reply_is : reply ≡ replies.Audited audit.number audit.asked.unit
  had : audit.asked.book ≡ point.book
  numbered : audit.number ≡ point.outbox.next
  in_unit : audit.asked.unit ≡ site.unit

-- the audit after a step: the one before, or one that the step began
record AuditStays (before : Option AuditState) (step : Step) (Begun : AuditState → Type 0)
    (after : Option AuditState) : Type 0 where
  right : BringsRight step → IfSome before IsAuditRight → IfSome after IsAuditRight
  origin : (audit : AuditState) → after ≡ Some audit → IsEarlier before audit ⊎ Begun audit

abbrev audit_with : ChargePointState → Step → Reply → Option AuditState
audit_with point step reply = (point_with (deed point step reply) point).audit

abbrev Stays : SiteState → ChargePointState → Step → Reply → Type 0
Stays site point step reply =
    AuditStays point.audit step (IsBegun site point step reply) (audit_with point step reply)

-- a step that leaves it
same : (before : Option AuditState) (step : Step) (Begun : AuditState → Type 0)
    (after : Option AuditState) → after ≡ before → AuditStays before step Begun after
same before step Begun after is = record {
  right = λ brings right. subst (λ (a : Option AuditState). IfSome a IsAuditRight) (sym is) right;
  origin = λ audit has. inl (record {
    earlier = audit;
    is_kept = sym is ∙ has;
    numbered = refl;
    asked = refl;
  });
}

left : (site : SiteState) (point : ChargePointState) (step : Step) (reply : Reply)
    → audit_with point step reply ≡ point.audit → Stays site point step reply
left site point step reply is =
    same point.audit step (IsBegun site point step reply) (audit_with point step reply) is

-- ---- step by step

install_stays : (site : SiteState) (numbers : Numbers) (id : List ℕ) (row : Row)
    (point : ChargePointState)
    → IfOk (installs site numbers id row point) (Stays site point (steps.Install id row))
install_stays site numbers id row point =
    unless_holds (Stays site point (steps.Install id row))
    (refusal_to_install site numbers id row point) replies.Accepted
    (left site point (steps.Install id row) replies.Accepted refl)

clear_stays : (site : SiteState) (numbers : Numbers) (id : List ℕ) (criteria : Criteria)
    (point : ChargePointState)
    → IfOk (clears numbers criteria point) (Stays site point (steps.Clear id criteria))
clear_stays site numbers id criteria point =
    either_holds P (list_any (matches criteria) point.book.rows)
    (unless (refusal_to_call numbers point) replies.Accepted) (Ok replies.Unknown)
    (unless_holds P (refusal_to_call numbers point) replies.Accepted
    (left site point (steps.Clear id criteria) replies.Accepted refl))
    (left site point (steps.Clear id criteria) replies.Unknown refl)
  where
    P : Reply → Type 0
    P = Stays site point (steps.Clear id criteria)

start_stays : (site : SiteState) (numbers : Numbers) (id : List ℕ) (connector : ℕ) (begin : Begin)
    (point : ChargePointState)
    → IfOk (starts numbers connector begin point)
    (Stays site point (steps.Start id connector begin))
start_stays site numbers id connector begin point =
    either_holds P (is_at_no_connector point connector) (Err refusals.UnknownConnector)
    (starts_as (began point.book.transactions connector begin) numbers)
    tt (by (began point.book.transactions connector begin))
  where
    P : Reply → Type 0
    P = Stays site point (steps.Start id connector begin)

    by : (found : Began) → IfOk (starts_as found numbers) P
    by (Repeat number) = left site point (steps.Start id connector begin)
        (replies.Repeated number) refl
    by Fresh = unless_holds P (refusal_to_start numbers)
        (replies.Started (next_transaction numbers))
        (left site point (steps.Start id connector begin)
        (replies.Started (next_transaction numbers)) refl)

stop_stays : (site : SiteState) (numbers : Numbers) (id : List ℕ) (number : ℤ)
    (point : ChargePointState)
    → IfOk (stops numbers number point) (Stays site point (steps.Stop id number))
stop_stays site numbers id number point = by (connector_of point.book.transactions number) refl
  where
    P : Reply → Type 0
    P = Stays site point (steps.Stop id number)

    by : (found : Option ℕ) → connector_of point.book.transactions number ≡ found
        → IfOk (cond (is_some found) (unless (version_refusal numbers) replies.Ended)
        (Ok replies.NoSuch)) P
    by None here = left site point (steps.Stop id number) replies.NoSuch refl
    by (Some connector) here =
        let is : deed point (steps.Stop id number) replies.Ended ≡ Some (Stops connector) =
        ap (option_map Stops) here in
        unless_holds P (version_refusal numbers) replies.Ended
        (left site point (steps.Stop id number) replies.Ended
        (ap (λ (d : Option Deed). (point_with d point).audit) is))

attach_stays : (site : SiteState) (numbers : Numbers) (id : List ℕ) (point : ChargePointState)
    → IfOk (attaches numbers point) (Stays site point (steps.Attach id))
attach_stays site numbers id point =
    unless_holds (Stays site point (steps.Attach id)) (refusal_to_attach numbers)
    (replies.Attached (numbers.link + 1))
    (left site point (steps.Attach id) (replies.Attached (numbers.link + 1)) refl)

send_stays : (site : SiteState) (id : List ℕ) (link : ℕ) (point : ChargePointState)
    → IfOk (sends point) (Stays site point (steps.Send id link))
send_stays site id link point = by (sendable point.outbox)
  where
    by : (call : Option Call) → Stays site point (steps.Send id link) (sends_call call)
    by None = left site point (steps.Send id link) replies.Nothing refl
    by (Some call) = left site point (steps.Send id link) (replies.Sent call) refl

confirm_stays : (site : SiteState) (id : List ℕ) (link number : ℕ) (accepted : Bool)
    (point : ChargePointState)
    → IfOk (confirms number point) (Stays site point (steps.Confirm id link number accepted))
confirm_stays site id link number accepted point =
    either_holds (Stays site point (steps.Confirm id link number accepted))
    (is_number_in_flight point.outbox number) (Ok replies.Confirmed)
    (Err refusals.NothingInFlight)
    (left site point (steps.Confirm id link number accepted) replies.Confirmed refl) tt

audit_stays : (site : SiteState) (id : List ℕ) (connector duration : ℕ) (point : ChargePointState)
    → IfOk (audits site connector duration point)
    (Stays site point (steps.Audit id connector duration))
audit_stays site id connector duration point =
    unless_holds (Stays site point step) (refusal_to_audit connector duration point) reply (record {
      right = λ brings right. tt;
      origin = λ audit has. inr (subst (IsBegun site point step reply) (same_Some _ _ has) begun);
    })
  where
    step : Step
    step = steps.Audit id connector duration

    reply : Reply
    reply = replies.Audited point.outbox.next site.unit

    begun : IsBegun site point step reply
        (begun_audit point.outbox.next point.book connector duration site.unit)
    begun = record {
      id = id;
      step_is = refl;
      reply_is = refl;
      had = refl;
      numbered = refl;
      in_unit = refl;
    }

-- a kept verdict is right if the brought one is
settled_right : (is_settled : Bool) (asked : AuditRequest) (verdict : Verdict) (short : Bool)
    → IsJudged asked verdict short → IsRightVerdict asked (settled is_settled verdict)
settled_right true asked verdict short is = inl (short, is)
settled_right false asked verdicts.Agrees short is = inr refl
settled_right false asked verdicts.Differs short is = inr refl
settled_right false asked verdicts.Rejected short is = inl (short, is)
settled_right false asked verdicts.Unsettled short is = inr refl

-- the audit without a verdict is the point's audit
unjudged_is : (number : ℕ) (audit : Option AuditState) (found : AuditState)
    → unjudged number audit ≡ Some found → audit ≡ Some found
unjudged_is number None found is = absurd (cc is)
unjudged_is number (Some audit) found is =
    by ((audit.number == number) && not (is_some audit.verdict)) is
  where
    by : (test : Bool) → cond test (Some audit) None ≡ Some found → Some audit ≡ Some found
    by true is = is
    by false is = absurd (cc is)

judge_stays : (site : SiteState) (id : List ℕ) (call : ℕ) (judged : Judgement)
    (point : ChargePointState)
    → IfOk (judges call judged point) (Stays site point (steps.Judge id call judged))
judge_stays site id call judged point = by (unjudged call point.audit) refl
  where
    step : Step
    step = steps.Judge id call judged

    P : Reply → Type 0
    P = Stays site point step

    judged_so : AuditState → AuditState
    judged_so audit = record audit {
      verdict = Some
          (kept_verdict audit.asked.book point.book.transactions judged.verdict);
    }

    stays : (found : AuditState) → point.audit ≡ Some found → found.asked ≡ judged.audit
        → P replies.VerdictKept
    stays found is asks =
        let after : audit_with point step replies.VerdictKept ≡ Some (judged_so found) =
        ap (judged_audit point.book.transactions judged.verdict) is in
        record {
          right = λ brings right. subst (λ (a : Option AuditState). IfSome a IsAuditRight)
              (sym after) (settled_right (same_transactions found.asked.book.transactions
              point.book.transactions) found.asked judged.verdict judged.short
              (subst (λ (a : AuditRequest). IsJudged a judged.verdict judged.short) (sym asks)
              brings));
          origin = λ audit has.
              let now : judged_so found ≡ audit = same_Some _ _ (sym after ∙ has) in
              inl (record {
                earlier = found;
                is_kept = is;
                numbered = ap (λ (a : AuditState). a.number) now;
                asked = ap (λ (a : AuditState). a.asked) now;
              });
        }

    go : (found : AuditState) → point.audit ≡ Some found → (b : Bool)
        → same_request found.asked judged.audit ≡ b
        → IfOk (cond b (Ok replies.VerdictKept) (Err refusals.StrangerInput)) P
    go found is true asks =
        stays found is ((equal_requests_are_one found.asked judged.audit).0 asks)
    go found is false asks = tt

    by : (found : Option AuditState) → unjudged call point.audit ≡ found
        → IfOk (judges_audit judged found) P
    by None is = tt
    by (Some found) is = go found (unjudged_is call point.audit found is)
        (same_request found.asked judged.audit) refl

remote_start_stays : (site : SiteState) (id : List ℕ) (connector : ℕ) (id_tag : List ℕ)
    (profile : Option Profile) (point : ChargePointState)
    → IfOk (remote_starts site connector profile point)
    (Stays site point (steps.RemoteStart id connector id_tag profile))
remote_start_stays site id connector id_tag profile point =
    unless_holds (Stays site point (steps.RemoteStart id connector id_tag profile))
    (refusal_to_remote_start site connector profile point) (replies.Called point.outbox.next)
    (left site point (steps.RemoteStart id connector id_tag profile)
    (replies.Called point.outbox.next) refl)

-- ---- all of them

abbrev WorkStays : Step → Work → Type 0
WorkStays step (AtPoint at) =
    (site : SiteState) (numbers : Numbers) (point : ChargePointState)
    → IfOk (at.decided site numbers point) (Stays site point step)
WorkStays step other = Prim.Unit {0}

stays_there : (step : Step) → WorkStays step (work step)
stays_there (steps.Install id row) = λ site numbers point. install_stays site numbers id row point
stays_there (steps.Clear id criteria) =
    λ site numbers point. clear_stays site numbers id criteria point
stays_there (steps.Start id connector begin) =
    λ site numbers point. start_stays site numbers id connector begin point
stays_there (steps.Stop id number) = λ site numbers point. stop_stays site numbers id number point
stays_there (steps.Attach id) = λ site numbers point. attach_stays site numbers id point
stays_there (steps.Send id link) = λ site numbers point. send_stays site id link point
stays_there (steps.Confirm id link number accepted) =
    λ site numbers point. confirm_stays site id link number accepted point
stays_there (steps.Lost id link) =
    λ site numbers point. left site point (steps.Lost id link) replies.LinkLost refl
stays_there (steps.Audit id connector duration) =
    λ site numbers point. audit_stays site id connector duration point
stays_there (steps.Judge id call judged) =
    λ site numbers point. judge_stays site id call judged point
stays_there (steps.Status id) =
    λ site numbers point. left site point (steps.Status id)
    (replies.Status (status_of numbers point)) refl
stays_there (steps.RemoteStart id connector id_tag profile) =
    λ site numbers point. remote_start_stays site id connector id_tag profile point
stays_there (steps.Boot id moment) =
    λ site numbers point. left site point (steps.Boot id moment)
    (replies.Booted (first_unconfirmed point.outbox)) refl
stays_there other = tt

-- ---- at each place

abbrev BegunAt : ℕ → MachineState → Step → Made → AuditState → Type 0
BegunAt place old step made audit =
    (names old.site place step ≡ true)
    × IsBegun old.site (point_at old place) step made.reply audit

abbrev StaysAt : ℕ → MachineState → Step → Made → Type 0
StaysAt place old step made =
    AuditStays (audit_at old place) step (BegunAt place old step made)
    (audit_at made.after place)

-- if the step is made there
record IsStaying (old : MachineState) (point : List ℕ) (step : Step) (made : Made) : Type 0 where
  place : ℕ
  here : place_of old.site point ≡ Some place
  stays : Stays old.site (point_at old place) step made.reply

staying : (old : MachineState) (step : Step) (at : PointStep) → WorkStays step (AtPoint at)
    → IfOk (made_there old step at) (IsStaying old at.point step)
staying old step at stay =
    then_holds (IsStaying old at.point step) (place_for old at.point at.via) _ (λ place there.
    then_holds (IsStaying old at.point step)
    (at.decided old.site old.numbers (point_at old place)) _ (λ reply says. record {
      place = place;
      here = (subst (λ (r : Result ℕ Refusal). IfOk r (IsFound old at.point)) there
          (found old at.point at.via)).here;
      stays = subst (Stays old.site (point_at old place) step)
          (sym (reply_after old place reply (deed (point_at old place) step reply)))
          (subst (λ (r : Result Reply Refusal). IfOk r (Stays old.site (point_at old place) step))
          says (stay old.site old.numbers (point_at old place)));
    }))

at_place : (place : ℕ) (old : MachineState) (step : Step) (made : Made) (at : PointStep)
    → work step ≡ AtPoint at → IsStaying old at.point step made → Acts place old step made
    → StaysAt place old step made
at_place place old step made at is staying act = by (names old.site place step) refl
  where
    point : ChargePointState
    point = point_at old place

    after : Option AuditState
    after = audit_at made.after place

    acted : after ≡ (cond (names old.site place step) (point_by point (record {
      step = step;
      reply = made.reply;
    })) point).audit
    acted = ap (λ (p : ChargePointState). p.audit) act.point

    named : names old.site place step ≡ (staying.place == place)
    named = ap (λ (w : Work). is_this_number place (place_of_work old.site w)) is
        ∙ ap (is_this_number place) staying.here

    acted_by : (b : Bool) → names old.site place step ≡ b
        → after ≡ (cond b (point_by point (record { step = step; reply = made.reply })) point).audit
    acted_by b is = acted
        ∙ ap (λ (b : Bool). (cond b (point_by point (record {
          step = step;
          reply = made.reply;
        })) point).audit) is

    there : staying.place ≡ place → Stays old.site point step made.reply
    there place_is = subst (λ (p : ℕ). Stays old.site (point_at old p) step made.reply) place_is
        staying.stays

    with_name : names old.site place step ≡ true → Stays old.site point step made.reply
        → AuditStays point.audit step (BegunAt place old step made)
        (audit_with point step made.reply)
    with_name here stays = record {
      right = stays.right;
      origin = λ audit has. named_too here (stays.origin audit has);
    }
      where
        named_too : {X Y : Type 0} → names old.site place step ≡ true → X ⊎ Y
            → X ⊎ ((names old.site place step ≡ true) × Y)
        named_too here (inl x) = inl x
        named_too here (inr y) = inr (here, y)

    by : (b : Bool) → names old.site place step ≡ b → StaysAt place old step made
    by false elsewhere =
        same point.audit step (BegunAt place old step made) after (acted_by false elsewhere)
    by true here =
        subst (AuditStays point.audit step (BegunAt place old step made))
        (sym (acted_by true here))
        (with_name here (there (eqb-true staying.place place (sym named ∙ here))))

-- a step that names no point to be made at leaves each audit
elsewhere : (place : ℕ) (old : MachineState) (step : Step) (made : Made)
    → deed (point_at old place) step made.reply ≡ None → Acts place old step made
    → StaysAt place old step made
elsewhere place old step made none act =
    same (audit_at old place) step (BegunAt place old step made) (audit_at made.after place)
    (ap (λ (p : ChargePointState). p.audit) act.point
    ∙ ap (λ (d : Option Deed). (cond (names old.site place step)
    (point_with d (point_at old place)) (point_at old place)).audit) none
    ∙ either (names old.site place step))
  where
    either : (b : Bool)
        → (cond b (point_with None (point_at old place)) (point_at old place)).audit
        ≡ (point_at old place).audit
    either true = refl
    either false = refl

stays_at : (place : ℕ) (old : MachineState) (step : Step) (reply : Reply) (new : MachineState)
    → HasPlaces old → Steps old step reply new
    → StaysAt place old step (record { reply = reply; after = new })
stays_at place old step reply new many made = by step (kind_of step) made
  where
    so : Made
    so = record { reply = reply; after = new }

    act : (step : Step) → Steps old step reply new → Acts place old step so
    act step made = acts place old step so many (does old step reply new made)

    by : (step : Step) → StepKind step → Steps old step reply new → StaysAt place old step so
    by step (names_point _ at is) made =
        at_place place old step so at is
        (of_made (IsStaying old at.point step) (made_there old step at) so
        (subst (λ (w : Work). Works old step w reply new) is made)
        (staying old step at (subst (WorkStays step) is (stays_there step))))
        (act step made)
    by _ (takes_one take) made = elsewhere place old (steps.Take take) so refl
        (act (steps.Take take) made)
    by _ (compiles_one number) made = elsewhere place old (steps.Compile number) so refl
        (act (steps.Compile number) made)
    by _ (answers_one number) made = elsewhere place old (steps.Answer number) so refl
        (act (steps.Answer number) made)
    by _ finishes_all made = elsewhere place old steps.Finish so refl (act steps.Finish made)

-- ---- along a history

places_after : (old middle : MachineState) (event : Event) → HasPlaces old
    → Steps old event.step event.reply middle → HasPlaces middle
places_after old middle event many made =
    let so : Made = record { reply = event.reply; after = middle } in
    let did = does old event.step event.reply middle made in
    (acts 0 old event.step so many did).many ∙ many
    ∙ ap (λ (s : SiteState). length s.points) (sym (keeps_site old event.step so did))

right_along : (old : MachineState) (events : List Event) (new : MachineState) → HasPlaces old
    → Legal old events new → AllBringRight events → AreAuditsRight old → AreAuditsRight new
right_along old [] new many legal brings right = subst AreAuditsRight (sym legal) right
right_along old (event ∷ events) new many legal brings right =
    right_along legal.0 events new (places_after old legal.0 event many legal.1) legal.2 brings.1
    (λ place. (stays_at place old event.step event.reply legal.0 many legal.1).right brings.0
    (right place))

pub verdicts_stay_right : VerdictsStayRight
verdicts_stay_right old events new is legal brings right =
    right_along old events new (as_many old.site old.points is.points) legal brings right

-- an audit begun in later events was begun in all of them
begun_later : (old middle : MachineState) (event : Event) (events : List Event) (place : ℕ)
    (audit : AuditState) → middle.site ≡ old.site → Steps old event.step event.reply middle
    → IsBegunIn middle events place audit → IsBegunIn old (event ∷ events) place audit
begun_later old middle event events place audit site made begun = record {
  before = event ∷ begun.before;
  point = begun.point;
  since = begun.since;
  in_order = ap (λ (es : List Event). event ∷ es) begun.in_order;
  named = ap (λ (s : SiteState). place_of s begun.point) (sym site) ∙ begun.named;
  state = begun.state;
  reached = (middle, made, begun.reached);
  had = begun.had;
  numbered = begun.numbered;
  in_unit = begun.in_unit ∙ ap (λ (s : SiteState). s.unit) site;
}

-- if the first event began it
begun_here : (old middle : MachineState) (event : Event) (events : List Event) (place : ℕ)
    (audit : AuditState)
    → BegunAt place old event.step (record { reply = event.reply; after = middle }) audit
    → IsBegunIn old (event ∷ events) place audit
begun_here old middle event events place audit (named, begun) = record {
  before = [];
  point = begun.id;
  since = events;
  in_order = λ i. record { step = begun.step_is i; reply = begun.reply_is i } ∷ events;
  named = named_place (place_of old.site begun.id)
      (sym (ap (names old.site place) begun.step_is) ∙ named);
  state = old;
  reached = refl;
  had = begun.had;
  numbered = begun.numbered;
  in_unit = begun.in_unit;
}
  where
    named_place : (found : Option ℕ) → is_this_number place found ≡ true → found ≡ Some place
    named_place None is = absurd (cc is)
    named_place (Some other) is = ap Some (eqb-true other place is)

-- an audit that asks the same with the same call was begun by the same event
begun_as : (old : MachineState) (events : List Event) (place : ℕ) (one other : AuditState)
    → one.number ≡ other.number → one.asked ≡ other.asked
    → IsBegunIn old events place one → IsBegunIn old events place other
begun_as old events place one other numbers asks begun = record {
  before = begun.before;
  point = begun.point;
  since = begun.since;
  in_order = begun.in_order ∙ (λ i. begun.before ++ record {
    step = steps.Audit begun.point (asks i).connector (asks i).duration;
    reply = replies.Audited (numbers i) (asks i).unit;
  } ∷ begun.since);
  named = begun.named;
  state = begun.state;
  reached = begun.reached;
  had = sym (ap (λ (a : AuditRequest). a.book) asks) ∙ begun.had;
  numbered = sym numbers ∙ begun.numbered;
  in_unit = sym (ap (λ (a : AuditRequest). a.unit) asks) ∙ begun.in_unit;
}

books_along : (old : MachineState) (events : List Event) (new : MachineState) → HasPlaces old
    → Legal old events new → (place : ℕ) (audit : AuditState) → audit_at new place ≡ Some audit
    → IsBegunIn old events place audit ⊎ IsAuditBefore old place audit
books_along old [] new many legal place audit has = inr (record {
  earlier = audit;
  is_kept = ap (λ (s : MachineState). audit_at s place) (sym legal) ∙ has;
  numbered = refl;
  asked = refl;
})
books_along old (event ∷ events) new many legal place audit has =
    by (books_along legal.0 events new (places_after old legal.0 event many legal.1) legal.2
    place audit has)
  where
    so : Made
    so = record { reply = event.reply; after = legal.0 }

    site : legal.0.site ≡ old.site
    site = keeps_site old event.step so (does old event.step event.reply legal.0 legal.1)

    before : (later : IsAuditBefore legal.0 place audit)
        → IsEarlier (audit_at old place) later.earlier
        ⊎ BegunAt place old event.step so later.earlier
        → IsBegunIn old (event ∷ events) place audit ⊎ IsAuditBefore old place audit
    before later (inl is) = inr (record {
      earlier = is.earlier;
      is_kept = is.is_kept;
      numbered = is.numbered ∙ later.numbered;
      asked = is.asked ∙ later.asked;
    })
    before later (inr begun) = inl (begun_as old (event ∷ events) place later.earlier audit
        later.numbered later.asked
        (begun_here old legal.0 event events place later.earlier begun))

    by : IsBegunIn legal.0 events place audit ⊎ IsAuditBefore legal.0 place audit
        → IsBegunIn old (event ∷ events) place audit ⊎ IsAuditBefore old place audit
    by (inl begun) =
        inl (begun_later old legal.0 event events place audit site legal.1 begun)
    by (inr later) = before later
        ((stays_at place old event.step event.reply legal.0 many legal.1).origin later.earlier
        later.is_kept)

pub audits_have_their_books : AuditsHaveTheirBooks
audits_have_their_books old events new is legal place audit has =
    books_along old events new (as_many old.site old.points is.points) legal place audit has
