-- Along every legal history a transaction begins without a profile of its own, or with a TxProfile:
-- a remote start with another profile is refused.
use Rattle.std.proofs.Common.{◌≡◌, ℕ, ℤ, Bool, true, false, not, cond, List, [], ◌∷◌, ◌++◌, length, map, Option, Some, None, option_map, slice_get, slice_index_or, zero, suc, Result, refl, sym, ap, ◌∙◌, subst}
use Rattle.std.specs.Prelude.{IfSome, IfOk}
use Rattle.std.specs.List.{AllByRecursion, cons_option, position}
use Rattle.std.specs.Str.{str_eq_ignore_ascii_case}
use Rattle.ocpp_scalars.specs.declared.refusal.Refusal.{Refusal}
use Rattle.ocpp_scalars.specs.declared.refusal.Refusal.TheVariants as refusals
use Rattle.profile.specs.declared.charging_profile.Profile.{Profile}
use Rattle.profile.specs.Unit.{unit_eq}
use Rattle.profile.proofs.PeriodLemmas.{AllByRecursion-filter}
use Rattle.profile.specs.Purpose.{is_tx}
use Rattle.transactions.specs.declared.begin.Begin.{Begin}
use Rattle.transactions.specs.ActiveTable.{connector_of}
use Rattle.site_rules.specs.Site.{SiteState, PointEntry}
use Rattle.point_book.specs.Changes.{first_cause}
use Rattle.site_core.specs.declared.reply.Reply.{Reply}
use Rattle.site_core.specs.declared.reply.Reply.TheVariants as replies
use Rattle.site_core.specs.declared.step.Step.{Step}
use Rattle.site_core.specs.declared.step.Step.TheVariants as steps
use Rattle.site_core.specs.declared.waiting_starts.WaitingStart.{WaitingStart}
use Rattle.site_core.specs.WaitingStart.{ended_start, has_gone_out, if_gone_out, is_at_connector, profile_for, waiting_at, without_ended, without_waiting}
use Rattle.site_core.specs.Outbox.{OutboxState}
use Rattle.site_core.specs.ChargePoint.{ChargePointState, Deed, Starts, Stops, Confirms, RemoteStarts, opening_point, point_with, waiting_after}
use Rattle.site_core.specs.State.{MachineState, no_point, point_at}
use Rattle.site_core.specs.Step.{Made, Steps, deed, is_at_no_connector, made_there, place_for, profile_at_start, refusal_of_profile, refusal_to_add, refusal_to_remote_start, PointStep, at_point, remote_starts}
use Rattle.site_core.specs.History.{Event, Legal}
use Rattle.site_core.specs.Obey.{BeginsWithTxProfile}
use Rattle.site_core.specs.CallOrder.{deed_by, deeds_from, deeds_since, events_at, names, point_by}
use Rattle.site_core.proofs.EffectLemmas.{neither, unless_none}
use Rattle.site_core.proofs.StepLemmas.{Acts, HasPlaces, acts, does, keeps_site, of_made, then_holds}

-- ---- lists and options

all_push : {X : Type 0} (P : X → Type 0) (xs : List X) (last : X) → AllByRecursion P xs → P last
    → AllByRecursion P (xs ++ last ∷ [])
all_push P [] last all holds = (holds, tt)
all_push P (x ∷ xs) last all holds = (all.0, all_push P xs last all.1 holds)

all_more : (P : Deed → Type 0) (first : Option Deed) (later : List Deed) → IfSome first P
    → AllByRecursion P later → AllByRecursion P (cons_option first later)
all_more P None later holds all = all
all_more P (Some deed) later holds all = (holds, all)

at_index : {X : Type 0} (P : X → Type 0) (xs : List X) (k : ℕ) → AllByRecursion P xs
    → IfSome (slice_get xs k) P
at_index P [] zero all = tt
at_index P [] (suc k) all = tt
at_index P (x ∷ xs) zero all = all.0
at_index P (x ∷ xs) (suc k) all = at_index P xs k all.1

-- ---- the starts that wait

abbrev IsTx : Profile → Type 0
IsTx profile = is_tx profile.purpose ≡ true

abbrev WaitsWithTx : WaitingStart → Type 0
WaitsWithTx start = IfSome start.profile IsTx

abbrev AreTxStarts : List WaitingStart → Type 0
AreTxStarts starts = AllByRecursion WaitsWithTx starts

tx_waiting_at : (starts : List WaitingStart) (connector : ℕ) → AreTxStarts starts
    → IfSome (waiting_at starts connector) WaitsWithTx
tx_waiting_at starts connector are = by (position (is_at_connector connector) starts) refl
  where
    by : (found : Option ℕ) → position (is_at_connector connector) starts ≡ found
        → IfSome (waiting_at starts connector) WaitsWithTx
    by None is = rw is tt
    by (Some k) is = rw is (at_index WaitsWithTx starts k are)

tx_gone_out : (outbox : OutboxState) (start : Option WaitingStart) → IfSome start WaitsWithTx
    → IfSome (if_gone_out outbox start) WaitsWithTx
tx_gone_out outbox None tx = tt
tx_gone_out outbox (Some start) tx = by (has_gone_out outbox start.call)
  where
    by : (b : Bool) → IfSome (cond b (Some start) None) WaitsWithTx
    by true = tx
    by false = tt

tx_profile_for : (id_tag : List ℕ) (start : Option WaitingStart) → IfSome start WaitsWithTx
    → IfSome (profile_for id_tag start) IsTx
tx_profile_for id_tag None tx = tt
tx_profile_for id_tag (Some start) tx = by (str_eq_ignore_ascii_case start.id_tag id_tag)
  where
    by : (b : Bool) → IfSome (cond b start.profile None) IsTx
    by true = tx
    by false = tt

tx_at_start : (point : ChargePointState) (connector : ℕ) (begin : Begin)
    → AreTxStarts point.waiting → IfSome (profile_at_start point connector begin) IsTx
tx_at_start point connector begin are =
    tx_profile_for begin.id_tag (ended_start point.outbox point.waiting connector)
    (tx_gone_out point.outbox (waiting_at point.waiting connector)
    (tx_waiting_at point.waiting connector are))

-- ---- a deed

-- a start is requested without a profile, or with a TxProfile
abbrev AsksWithTx : Deed → Type 0
AsksWithTx (RemoteStarts connector id_tag profile) = IfSome profile IsTx
AsksWithTx deed = Unit {0}

tx_after : (point : ChargePointState) (deed : Deed) → AreTxStarts point.waiting → AsksWithTx deed
    → AreTxStarts (waiting_after point deed)
tx_after point (RemoteStarts connector id_tag profile) are tx =
    all_push WaitsWithTx (without_waiting point.waiting connector) _
    (AllByRecursion-filter WaitsWithTx _ point.waiting are) tx
tx_after point (Starts connector begin number profile) are tx =
    by (ended_start point.outbox point.waiting connector)
  where
    by : (ended : Option WaitingStart) → AreTxStarts (without_ended ended point.waiting)
    by None = are
    by (Some ended) = AllByRecursion-filter WaitsWithTx _ point.waiting are
tx_after point (Confirms number true) are tx = are
tx_after point (Confirms number false) are tx =
    AllByRecursion-filter WaitsWithTx _ point.waiting are
tx_after point deed are tx = are

-- ---- a step

-- a remote start comes without a profile, or with a TxProfile
abbrev IsAdmitted : Step → Type 0
IsAdmitted (steps.RemoteStart point connector id_tag profile) = IfSome profile IsTx
IsAdmitted step = Unit {0}

begins_with_tx : (connector : ℕ) (begin : Begin) (number : ℤ) (profile : Option Profile)
    → IfSome profile IsTx → BeginsWithTxProfile (Starts connector begin number profile)
begins_with_tx connector begin number None tx = tt
begins_with_tx connector begin number (Some profile) tx = tx

abbrev IsTxDeed : Deed → Type 0
IsTxDeed deed = BeginsWithTxProfile deed × AsksWithTx deed

tx_deed : (point : ChargePointState) (step : Step) (reply : Reply) → IsAdmitted step
    → AreTxStarts point.waiting → IfSome (deed point step reply) IsTxDeed
tx_deed point (steps.Install id row) replies.Accepted admitted are = (tt, tt)
tx_deed point (steps.Clear id criteria) replies.Accepted admitted are = (tt, tt)
tx_deed point (steps.Start id connector begin) (replies.Started number) admitted are =
    let profile = profile_at_start point connector begin in
    (begins_with_tx connector begin number profile (tx_at_start point connector begin are), tt)
tx_deed point (steps.Stop id number) replies.Ended admitted are =
    by (connector_of point.book.transactions number)
  where
    by : (found : Option ℕ) → IfSome (option_map Stops found) IsTxDeed
    by None = tt
    by (Some connector) = (tt, tt)
tx_deed point (steps.Attach id) (replies.Attached link) admitted are = (tt, tt)
tx_deed point (steps.Send id link) (replies.Sent call) admitted are = (tt, tt)
tx_deed point (steps.Confirm id link number accepted) replies.Confirmed admitted are = (tt, tt)
tx_deed point (steps.Lost id link) replies.LinkLost admitted are = (tt, tt)
tx_deed point (steps.Audit id connector duration) (replies.Audited call unit) admitted are =
    (tt, tt)
tx_deed point (steps.Judge id number judged) replies.VerdictKept admitted are = (tt, tt)
tx_deed point (steps.RemoteStart id connector id_tag profile) (replies.Called number) admitted are =
    (tt, admitted)
tx_deed point (steps.Boot id moment) (replies.Booted first) admitted are = (tt, tt)
tx_deed point step reply admitted are = tt

-- the starts of a point after an event of its own
tx_starts : (point : ChargePointState) (does : Option Deed) → IfSome does IsTxDeed
    → AreTxStarts point.waiting → AreTxStarts (point_with does point).waiting
tx_starts point None tx are = are
tx_starts point (Some deed) tx are = tx_after point deed are tx.1

-- ---- a legal step

-- nothing refuses a profile that comes with a remote start, so it is a TxProfile
of_profile : (site : SiteState) (profile : Option Profile) → refusal_of_profile site profile ≡ None
    → IfSome profile IsTx
of_profile site None none = tt
of_profile site (Some profile) none =
    by (not (unit_eq profile.schedule.unit site.unit)) (is_tx profile.purpose) none
  where
    by : (a b : Bool)
        → cond a (Some refusals.WrongUnit) (cond (not b) (Some refusals.NotTxProfile) None) ≡ None
        → b ≡ true
    by true b is = absurd (cc is)
    by false true is = refl
    by false false is = absurd (cc is)

remote_start_is_tx : (site : SiteState) (connector : ℕ) (profile : Option Profile)
    (point : ChargePointState)
    → IfOk (remote_starts site connector profile point) (λ reply. IfSome profile IsTx)
remote_start_is_tx site connector profile point =
    unless_none (λ (reply : Reply). IfSome profile IsTx)
    (refusal_to_remote_start site connector profile point) (replies.Called point.outbox.next)
    (λ none. of_profile site profile (neither (refusal_of_profile site profile)
    (refusal_to_add point.outbox) (by (is_at_no_connector point connector) none)).0)
  where
    by : (b : Bool)
        → cond b (Some refusals.UnknownConnector)
        (first_cause (refusal_of_profile site profile) (refusal_to_add point.outbox)) ≡ None
        → first_cause (refusal_of_profile site profile) (refusal_to_add point.outbox) ≡ None
    by true is = absurd (cc is)
    by false is = is

is_admitted : (old : MachineState) (step : Step) (reply : Reply) (new : MachineState)
    → Steps old step reply new → IsAdmitted step
is_admitted old (steps.RemoteStart id connector id_tag profile) reply new made =
    let step = steps.RemoteStart id connector id_tag profile in
    let at : PointStep = at_point id (λ site numbers. remote_starts site connector profile) in
    let P : Made → Type 0 = λ made. IfSome profile IsTx in
    of_made P (made_there old step at) (record { reply = reply; after = new }) made
    (then_holds P (place_for old at.point at.via) _ (λ place there.
    then_holds P (at.decided old.site old.numbers (point_at old place)) _ (λ reply says.
    subst (λ (r : Result Reply Refusal). IfOk r (λ reply. IfSome profile IsTx)) says
    (remote_start_is_tx old.site connector profile (point_at old place)))))
is_admitted old step reply new made = tt

-- ---- along a history

pub begin_with_tx : (place : ℕ) (old : MachineState) (history : List Event) (new : MachineState)
    → HasPlaces old → Legal old history new → AreTxStarts (point_at old place).waiting
    → AllByRecursion BeginsWithTxProfile (deeds_since old place history)
begin_with_tx place old [] new many legal are = tt
begin_with_tx place old (event ∷ later) new many legal are =
    by (begin_with_tx place legal.0 later new still legal.2) (names old.site place event.step) refl
  where
    made : Made
    made = record { reply = event.reply; after = legal.0 }

    site : legal.0.site ≡ old.site
    site = keeps_site old event.step made (does old event.step event.reply legal.0 legal.1)

    act : Acts place old event.step made
    act = acts place old event.step made many
        (does old event.step event.reply legal.0 legal.1)

    still : HasPlaces legal.0
    still = act.many ∙ many ∙ ap (λ (s : SiteState). length s.points) (sym site)

    point : ChargePointState
    point = point_at old place

    events : List Event
    events = events_at old.site place later

    tx : IfSome (deed_by point event) IsTxDeed
    tx = tx_deed point event.step event.reply
        (is_admitted old event.step event.reply legal.0 legal.1) are

    Rest : Type 0
    Rest = AreTxStarts (point_at legal.0 place).waiting
        → AllByRecursion BeginsWithTxProfile (deeds_since legal.0 place later)

    -- from the point after the event on
    from : Rest → (next : ChargePointState) → point_at legal.0 place ≡ next
        → AreTxStarts next.waiting → AllByRecursion BeginsWithTxProfile (deeds_from next events)
    from rest next here next_are =
        subst (λ (p : ChargePointState). AllByRecursion BeginsWithTxProfile (deeds_from p events))
        here
        (subst (λ (s : SiteState). AllByRecursion BeginsWithTxProfile
        (deeds_from (point_at legal.0 place) (events_at s place later))) site
        (rest (subst (λ (p : ChargePointState). AreTxStarts p.waiting) (sym here) next_are)))

    first : (does : Option Deed) → IfSome does IsTxDeed → IfSome does BeginsWithTxProfile
    first None holds = tt
    first (Some deed) holds = holds.0

    by : Rest → (named : Bool) → names old.site place event.step ≡ named
        → AllByRecursion BeginsWithTxProfile (deeds_since old place (event ∷ later))
    by rest true is =
        let next = point_by point event in
        let here : point_at legal.0 place ≡ next =
        act.point ∙ ap (λ (b : Bool). cond b next point) is in
        subst (λ (b : Bool). AllByRecursion BeginsWithTxProfile
        (deeds_from point (cond b (event ∷ events) events))) (sym is)
        (all_more BeginsWithTxProfile (deed_by point event) (deeds_from next events)
        (first (deed_by point event) tx)
        (from rest next here (tx_starts point (deed_by point event) tx are)))
    by rest false is =
        let here : point_at legal.0 place ≡ point =
        act.point ∙ ap (λ (b : Bool). cond b (point_by point event) point) is in
        subst (λ (b : Bool). AllByRecursion BeginsWithTxProfile
        (deeds_from point (cond b (event ∷ events) events))) (sym is) (from rest point here are)

-- at the opening no start waits
pub none_wait : (points : List PointEntry) (place : ℕ)
    → AreTxStarts (slice_index_or (map opening_point points) place no_point).waiting
none_wait [] place = tt
none_wait (point ∷ points) zero = tt
none_wait (point ∷ points) (suc place) = none_wait points place
