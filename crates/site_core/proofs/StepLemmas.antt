-- The effect of made steps at the point that they name, and their effect on the site, the kept
-- requests and the numbers.
use Rattle.std.proofs.Common.{◌≡◌, ℕ, ◌+◌, ◌<◌, ◌==◌, Bool, true, false, not, cond, List, [], Option, Some, None, Result, Ok, Err, slice_set, slice_index_or, length, is_some, refl, sym, ap, ◌∙◌, subst, inl, inr, ◌&&◌, add-zero}
use Rattle.std.proofs.lemmas.Bool.{eqb-true}
use Rattle.std.proofs.lemmas.List.{length-set, set-get_or}
use Rattle.std.proofs.lemmas.List.Quantifiers.{position-Some}
use Rattle.std.specs.Prelude.{IfOk, ◌⊎◌}
use Rattle.std.specs.Str.{bytes_eq}
use Rattle.ocpp_scalars.specs.ResultSteps.{◌>>=◌}
use Rattle.ocpp_scalars.specs.declared.refusal.Refusal.{Refusal}
use Rattle.ocpp_scalars.specs.declared.refusal.Refusal.TheVariants as refusals
use Rattle.meaning.specs.declared.ask.Ask.{Ask}
use Rattle.site_rules.specs.Site.{SiteState, PointEntry, place_of}
use Rattle.site_core.specs.declared.numbers.Numbers.{Numbers}
use Rattle.site_core.specs.declared.step.Step.{Step}
use Rattle.site_core.specs.declared.step.Step.TheVariants as steps
use Rattle.site_core.specs.declared.step.Take.{Take}
use Rattle.site_core.specs.declared.via.Via.{Via}
use Rattle.site_core.specs.declared.via.Via.TheVariants.{Name, Link, Audit}
use Rattle.site_core.specs.declared.reply.Counted.{Counted}
use Rattle.site_core.specs.declared.reply.Reply.{Reply}
use Rattle.site_core.specs.declared.reply.Reply.TheVariants.{Compiled, Answered, NotYet, Finished}
use Rattle.site_core.specs.Outbox.{Traffic}
use Rattle.site_core.specs.ChargePoint.{ChargePointState, Deed, point_with}
use Rattle.site_core.specs.State.{MachineState, Kept, ScheduleAnswer, no_point, point_in, point_at, book_at, outbox_at, is_this_number}
use Rattle.site_core.specs.Requests.{request_of, answered, without, all_stopped}
use Rattle.site_core.specs.Right.{IsCompiledFor}
use Rattle.site_core.specs.Ask.{ask_at}
use Rattle.site_core.specs.Step.{Made, Steps, Works, no_count, PointStep, Work, AtPoint, work, counted, is_reply_to, RepliesAreTheirSteps, deed, drawn, done_at, made_at, made_there, found_place, place_for, taking, refusal_to_take, compiles_kept, answers_kept, answers_with, finishes, unchanged, stepped, no_answer, is_event}
use Rattle.site_core.specs.History.{Event, reply_takes, asks_answer_of, has_answer}
use Rattle.site_core.specs.CallOrder.{is_at, place_of_work, place_named, names, point_by, calls_by, confirmed_by, numbers_of_calls}
use Rattle.site_core.specs.Theory.Steps.{StepKind, names_point, kind_of}
use Rattle.site_core.specs.Theory.Steps as kinds
use Rattle.site_core.proofs.EffectLemmas.{Agrees, WorkAgrees, agrees, changed_in, sent_by_traffic, confirmed_by_traffic, traffic_with, unless_holds, either_holds}

-- ---- properties of any result

-- a property of two results one after the other, up to the first fault
pub then_holds : {X Y : Type 0} (P : Y → Type 0) (one : Result X Refusal) (next : X → Result Y Refusal)
    → ((x : X) → one ≡ Ok x → IfOk (next x) P) → IfOk (one >>= next) P
then_holds P (Ok x) next each = each x refl
then_holds P (Err refusal) next each = tt

-- a property of any result that isn't a refusal holds of the one that was made
pub of_made : (P : Made → Type 0) (result : Result Made Refusal) (made : Made) → result ≡ Ok made
    → IfOk result P → P made
of_made P result made is holds = subst (λ (r : Result Made Refusal). IfOk r P) is holds

-- a found place is that of the point, and the central system isn't stopped
pub record IsFound (old : MachineState) (point : List ℕ) (place : ℕ) : Type 0 where
  pub going : old.is_stopped ≡ false
  pub here : place_of old.site point ≡ Some place

pub found : (old : MachineState) (point : List ℕ) (via : Via)
    → IfOk (place_for old point via) (IsFound old point)
found old point via = by old.is_stopped refl (place_of old.site point) refl via
  where
    P : ℕ → Type 0
    P = IsFound old point

    by : (stopped : Bool) → old.is_stopped ≡ stopped → (place : Option ℕ)
        → place_of old.site point ≡ place → (via : Via)
        → IfOk (cond stopped (Err refusals.Stopped) (found_place old via place)) P
    by true is place here via = tt
    by false is None here Name = tt
    by false is (Some place) here Name = record { going = is; here = here }
    by false is None here (Link number) = tt
    by false is (Some place) here (Link number) =
        either_holds P (is_this_number number (outbox_at old place).link) (Ok place)
        (Err refusals.Superseded) (record { going = is; here = here }) tt
    by false is None here Audit = tt
    by false is (Some place) here Audit = record { going = is; here = here }

-- ---- steps at a point

-- A step is made at the place of a point: its result agrees with the laws' view of its event.
record IsAtPoint (old : MachineState) (point : List ℕ) (step : Step) (made : Made) : Type 0 where
  place : ℕ
  here : place_of old.site point ≡ Some place
  reply : Reply
  is : made_at old step place reply ≡ made
  agrees : Agrees old.numbers (point_at old place) step reply

made_at_point : (old : MachineState) (step : Step) (at : PointStep) → WorkAgrees step (AtPoint at)
    → IfOk (made_there old step at) (IsAtPoint old at.point step)
made_at_point old step at agree =
    then_holds (IsAtPoint old at.point step) (place_for old at.point at.via) _ (λ place there.
    then_holds (IsAtPoint old at.point step)
    (at.decided old.site old.numbers (point_at old place)) _ (λ reply says. record {
      place = place;
      here = (subst (λ (r : Result ℕ Refusal). IfOk r (IsFound old at.point)) there
          (found old at.point at.via)).here;
      reply = reply;
      is = refl;
      agrees = subst (λ (r : Result Reply Refusal). IfOk r
          (Agrees old.numbers (point_at old place) step)) says
          (agree old.site old.numbers (point_at old place));
    }))

-- ---- the unchanged parts, and the effect of a step on the point at a place

-- as many points as in the site file
abbrev pub HasPlaces : MachineState → Type 0
HasPlaces state = length state.points ≡ length state.site.points

-- the traffic of the outbox of the point at a place, by a step with its reply
abbrev pub traffic_there : MachineState → ℕ → Step → Reply → Option Traffic
traffic_there old place step reply = traffic_with (deed (point_at old place) step reply)

-- the point at a place changes by the event if that names it, and otherwise stays
pub record Acts (place : ℕ) (old : MachineState) (step : Step) (made : Made) : Type 0 where
  pub many : length made.after.points ≡ length old.points
  pub point : point_at made.after place
      ≡ cond (names old.site place step) (point_by (point_at old place) (record {
        step = step;
        reply = made.reply;
      })) (point_at old place)
  pub sent : names old.site place step ≡ true
      → calls_by step made.reply
      ≡ sent_by_traffic (outbox_at old place) (traffic_there old place step made.reply)
  pub confirmed : names old.site place step ≡ true
      → numbers_of_calls (confirmed_by_traffic (outbox_at old place)
      (traffic_there old place step made.reply)) ≡ confirmed_by step made.reply

-- the points after a step that names the one at a place, if there is one
abbrev pub points_by : List ChargePointState → Option ℕ → Step → Reply → List ChargePointState
points_by points None step reply = points
points_by points (Some place) step reply = slice_set points place
    (point_with (deed (point_in points place) step reply) (point_in points place))

pub record LeavesRequests (old : MachineState) (step : Step) (made : Made) : Type 0 where
  pub site : made.after.site ≡ old.site
  pub requests : made.after.requests ≡ old.requests
  pub drawn : made.after.numbers.request ≡ old.numbers.request
  pub stopped : made.after.is_stopped ≡ old.is_stopped
  pub no_take : (number : ℕ) → reply_takes number made.reply ≡ false
  pub no_answer : (number : ℕ) → (asks_answer_of number step && has_answer made.reply) ≡ false
  pub points : made.after.points
      ≡ points_by old.points (place_named old.site step) step made.reply
  pub acts : (place : ℕ) → HasPlaces old → Acts place old step made
  pub alone : is_event old made.reply ≡ false → made.after ≡ old
  pub versions : made.after.numbers.version
      ≡ old.numbers.version + (counted made.reply).changes
  pub takes : (counted made.reply).takes ≡ 0
  pub answers : (counted made.reply).answers ≡ 0
  pub its_own : is_reply_to step made.reply ≡ true

pub place_within : (site : SiteState) (point : List ℕ) (place : ℕ)
    → place_of site point ≡ Some place → place < length site.points
place_within site point place here =
    let blank : PointEntry = record { id = []; ceiling = 0; ceilings = [] } in
    (position-Some (λ (p : PointEntry). bytes_eq point p.id) site.points place blank here).0

either_way : {X : Type 0} (b : Bool) (x : X) → x ≡ cond b x x
either_way true x = refl
either_way false x = refl

-- if points stay as they are, and the step does nothing at a point
pub idle : (place : ℕ) (old : MachineState) (step : Step) (made : Made)
    → made.after.points ≡ old.points
    → deed (point_at old place) step made.reply ≡ None
    → calls_by step made.reply ≡ [] → confirmed_by step made.reply ≡ []
    → Acts place old step made
idle place old step made same none sent confirmed = record {
  many = ap (λ (points : List ChargePointState). length points) same;
  point = ap (λ (points : List ChargePointState). slice_index_or points place no_point) same
      ∙ either_way (names old.site place step) (point_at old place)
      ∙ ap (λ (d : Option Deed). cond (names old.site place step)
      (point_with d (point_at old place)) (point_at old place)) (sym none);
  sent = λ named. sent ∙ ap (λ (d : Option Deed). sent_by_traffic (outbox_at old place)
      (traffic_with d)) (sym none);
  confirmed = λ named. ap (λ (d : Option Deed). numbers_of_calls (confirmed_by_traffic
      (outbox_at old place) (traffic_with d))) none ∙ sym confirmed;
}

-- the points after a deed at a place, or without one
abbrev pub after_deed : MachineState → ℕ → Reply → Option Deed → List ChargePointState
after_deed old place reply does = (done_at old place reply does).after.points

pub points_after : (old : MachineState) (place : ℕ) (reply : Reply) (does : Option Deed)
    → after_deed old place reply does
    ≡ slice_set old.points place (point_with does (point_at old place))
points_after old place reply None = sym (set-get_or old.points place _)
points_after old place reply (Some deed) = refl

site_after : (old : MachineState) (place : ℕ) (reply : Reply) (does : Option Deed)
    → (done_at old place reply does).after.site ≡ old.site
site_after old place reply None = refl
site_after old place reply (Some deed) = refl

requests_after : (old : MachineState) (place : ℕ) (reply : Reply) (does : Option Deed)
    → (done_at old place reply does).after.requests ≡ old.requests
requests_after old place reply None = refl
requests_after old place reply (Some deed) = refl

stopped_after : (old : MachineState) (place : ℕ) (reply : Reply) (does : Option Deed)
    → (done_at old place reply does).after.is_stopped ≡ old.is_stopped
stopped_after old place reply None = refl
stopped_after old place reply (Some deed) = refl

pub reply_after : (old : MachineState) (place : ℕ) (reply : Reply) (does : Option Deed)
    → (done_at old place reply does).reply ≡ reply
reply_after old place reply None = refl
reply_after old place reply (Some deed) = refl

pub numbers_after : (old : MachineState) (place : ℕ) (reply : Reply) (does : Option Deed)
    → (does ≡ None → drawn reply old.numbers ≡ old.numbers)
    → (done_at old place reply does).after.numbers ≡ drawn reply old.numbers
numbers_after old place reply None still = sym (still refl)
numbers_after old place reply (Some deed) still = refl

alone_after : (old : MachineState) (place : ℕ) (reply : Reply) (does : Option Deed)
    → is_some does ≡ false → (done_at old place reply does).after ≡ old
alone_after old place reply None none = refl
alone_after old place reply (Some deed) none = absurd (cc none)

-- the effect of a step at its point
acts_there : (place there : ℕ) (old : MachineState) (point : List ℕ) (step : Step) (reply : Reply)
    → HasPlaces old → place_of old.site point ≡ Some there
    → names old.site place step ≡ is_at old.site place point
    → Agrees old.numbers (point_at old there) step reply
    → Acts place old step (record {
      reply = reply;
      after = (made_at old step there reply).after;
    })
acts_there place there old point step reply many here named agree = record {
  many = ap (λ (points : List ChargePointState). length points) all
      ∙ length-set old.points there new;
  point = ap (λ (points : List ChargePointState). slice_index_or points place no_point) all
      ∙ changed_in old.points there place new no_point within
      ∙ at_place (there == place) refl;
  sent = λ is. agree.calls ∙ ap (λ (p : ℕ). sent_by_traffic (outbox_at old p)
      (traffic_there old p step reply)) (same is);
  confirmed = λ is. ap (λ (p : ℕ). numbers_of_calls (confirmed_by_traffic (outbox_at old p)
      (traffic_there old p step reply))) (sym (same is)) ∙ agree.confirmed;
}
  where
    does : Option Deed
    does = deed (point_at old there) step reply

    new : ChargePointState
    new = point_with does (point_at old there)

    all : (made_at old step there reply).after.points ≡ slice_set old.points there new
    all = points_after old there reply does

    within : there < length old.points
    within = subst (λ (n : ℕ). there < n) (sym many) (place_within old.site point there here)

    here_named : names old.site place step ≡ (there == place)
    here_named = named ∙ ap (is_this_number place) here

    same : names old.site place step ≡ true → there ≡ place
    same is = eqb-true there place (sym here_named ∙ is)

    event : Event
    event = record { step = step; reply = reply }

    at_place : (b : Bool) → (there == place) ≡ b
        → cond b new (point_at old place)
        ≡ cond (names old.site place step) (point_by (point_at old place) event)
        (point_at old place)
    at_place true is = ap (λ (p : ℕ). point_by (point_at old p) event) (eqb-true there place is)
        ∙ ap (λ (b : Bool). cond b (point_by (point_at old place) event) (point_at old place))
        (sym (here_named ∙ is))
    at_place false is =
        ap (λ (b : Bool). cond b (point_by (point_at old place) event) (point_at old place))
        (sym (here_named ∙ is))

false_and : (test other : Bool) → test ≡ false → (test && other) ≡ false
false_and test other is = ap (λ (b : Bool). b && other) is

at_point_leaves : (old : MachineState) (point : List ℕ) (step : Step) (made : Made)
    → place_named old.site step ≡ place_of old.site point
    → IsAtPoint old point step made → LeavesRequests old step made
at_point_leaves old point step made named is =
    subst (LeavesRequests old step) (same ∙ is.is) (record {
      site = site_after old is.place is.reply does;
      requests = requests_after old is.place is.reply does;
      drawn = ap (λ (n : Numbers). n.request) numbers ∙ is.agrees.request;
      stopped = stopped_after old is.place is.reply does;
      no_take = is.agrees.no_take;
      no_answer = λ number. false_and (asks_answer_of number step) (has_answer
          is.reply) (is.agrees.no_answer number);
      points = points_after old is.place is.reply does
          ∙ ap (λ (found : Option ℕ). points_by old.points found step is.reply)
          (sym (named ∙ is.here));
      acts = λ place many. acts_there place is.place old point step is.reply many is.here (ap
          (is_this_number place) named) is.agrees;
      alone = λ no_event. alone_after old is.place is.reply does (sym (is.agrees.event old)
          ∙ no_event);
      versions = ap (λ (n : Numbers). n.version) numbers ∙ is.agrees.version;
      takes = is.agrees.takes;
      answers = is.agrees.answers;
      its_own = is.agrees.its_own;
    })
  where
    does : Option Deed
    does = deed (point_at old is.place) step is.reply

    numbers : (made_at old step is.place is.reply).after.numbers ≡ drawn is.reply old.numbers
    numbers = numbers_after old is.place is.reply does is.agrees.still

    same : record {
      reply = is.reply;
      after = (made_at old step is.place is.reply).after;
    } ≡ made_at old step is.place is.reply
    same = ap (λ (r : Reply). record {
      reply = r;
      after = (made_at old step is.place is.reply).after;
    }) (sym (reply_after old is.place is.reply does))

-- ---- Take

record IsTaking (old : MachineState) (take : Take) (made : Made) : Type 0 where
  pub place : ℕ
  pub point : place_of old.site take.point ≡ Some place
  pub ask : Ask
  pub asks : ask_at old.site.unit (book_at old place) take ≡ Ok ask
  pub going : old.is_stopped ≡ false
  pub is : taking old place ask ≡ made

takes_is : (old : MachineState) (take : Take)
    → IfOk (stepped no_answer old (steps.Take take)) (IsTaking old take)
takes_is old take =
    then_holds (IsTaking old take) (place_for old take.point Name) _ (λ place there.
    then_holds (IsTaking old take) (ask_at old.site.unit (book_at old place) take) _ (λ ask asks.
    let at = subst (λ (r : Result ℕ Refusal). IfOk r (IsFound old take.point)) there
    (found old take.point Name) in
    unless_holds (IsTaking old take) (refusal_to_take old take) (taking old place ask) (record {
      place = place;
      ask = ask;
      point = at.here;
      asks = asks;
      going = at.going;
      is = refl;
    })))

-- ---- Compile

abbrev pub compiling : MachineState → ℕ → ScheduleAnswer → Made
compiling old number answer = record {
  reply = Compiled;
  after = record old {
    requests = answered number answer old.requests;
  };
}

record IsCompiling (old : MachineState) (number : ℕ) (found : Option Kept)
    (answer : ScheduleAnswer) (made : Made) : Type 0 where
  pub is : compiling old number answer ≡ made
  pub unanswered : (kept : Kept) → found ≡ Some kept → is_some kept.answer ≡ false

compiles_is : (old : MachineState) (number : ℕ) (answer : ScheduleAnswer) (found : Option Kept)
    → IfOk (compiles_kept old number answer found) (IsCompiling old number found answer)
compiles_is old number answer None = tt
compiles_is old number answer (Some kept) = go (is_some kept.answer) refl
  where
    go : (has : Bool) → is_some kept.answer ≡ has
        → IfOk (cond has (Err refusals.AlreadyAnswered) (Ok (compiling old number answer)))
        (IsCompiling old number (Some kept) answer)
    go true is = tt
    go false is = record {
      is = refl;
      unanswered = λ other same. let one : kept ≡ other =
          cc in ap (λ (k : Kept). is_some k.answer) (sym one) ∙ is;
    }

-- ---- Finish

abbrev pub finishing : MachineState → Made
finishing old = record {
  reply = Finished;
  after = record old {
    requests = all_stopped old.requests;
    is_stopped = true;
  };
}

finishes_is : (old : MachineState) → (unchanged old Finished ≡ finishes old) ⊎
    ((old.is_stopped ≡ false) × (finishing old ≡ finishes old))
finishes_is old = go old.is_stopped refl
  where
    go : (stopped : Bool) → old.is_stopped ≡ stopped
        → (unchanged old Finished ≡ cond stopped (unchanged old Finished) (finishing old))
        ⊎ ((old.is_stopped ≡ false)
        × (finishing old ≡ cond stopped (unchanged old Finished) (finishing old)))
    go true is = inl refl
    go false is = inr (is, refl)

-- ---- Answer

abbrev pub handing : MachineState → Kept → ScheduleAnswer → Made
handing old kept answer = record {
  reply = Answered kept.book kept.ask answer;
  after = record old { requests = without kept.number old.requests };
}

-- an answer is handed out, with the book and the `Ask` of its request
pub record IsHanding (old : MachineState) (number : ℕ) (made : Made) : Type 0 where
  pub kept : Kept
  pub found : request_of number old.requests ≡ Some kept
  pub answer : ScheduleAnswer
  pub has : kept.answer ≡ Some answer
  pub is : handing old kept answer ≡ made

pub answers_is : (old : MachineState) (number : ℕ)
    → IfOk (stepped no_answer old (steps.Answer number)) (λ made. IsHanding old number made ⊎
    (unchanged old NotYet ≡ made))
answers_is old number = asked (request_of number old.requests) refl
  where
    given : (kept : Kept) → request_of number old.requests ≡ Some kept
        → (answer : Option ScheduleAnswer) → kept.answer ≡ answer
        → IsHanding old number (answers_with old kept answer) ⊎
        (unchanged old NotYet ≡ answers_with old kept answer)
    given kept found None has = inr refl
    given kept found (Some answer) has = inl (record {
      kept = kept;
      found = found;
      answer = answer;
      has = has;
      is = refl;
    })

    asked : (found : Option Kept) → request_of number old.requests ≡ found
        → IfOk (answers_kept old found) (λ made. IsHanding old number made ⊎
        (unchanged old NotYet ≡ made))
    asked None found = tt
    asked (Some kept) found = given kept found kept.answer refl

-- ---- all steps

-- the effect of a made step on the requests
pub data Does (old : MachineState) : Step → Made → Type 0 where
  leaves : (step : Step) (made : Made) → LeavesRequests old step made → Does old step made
  takes_one : (take : Take) (place : ℕ) (ask : Ask) → place_of old.site take.point ≡ Some place
      → ask_at old.site.unit (book_at old place) take ≡ Ok ask → old.is_stopped ≡ false
      → Does old (steps.Take take) (taking old place ask)
  compiles_one : (number : ℕ) (kept : Kept) (answer : ScheduleAnswer)
      → request_of number old.requests ≡ Some kept → is_some kept.answer ≡ false
      → IsCompiledFor kept.book kept.ask answer
      → Does old (steps.Compile number) (compiling old number answer)
  hands_one : (number : ℕ) (kept : Kept) (answer : ScheduleAnswer)
      → request_of number old.requests ≡ Some kept → kept.answer ≡ Some answer
      → Does old (steps.Answer number) (handing old kept answer)
  finishes_all : old.is_stopped ≡ false → Does old steps.Finish (finishing old)

and_false : (test : Bool) → (test && false) ≡ false
and_false true = refl
and_false false = refl

-- a step at a point leaves the requests
done_leaves : (old : MachineState) (step : Step) (at : PointStep) (reply : Reply)
    (new : MachineState) → work step ≡ AtPoint at → WorkAgrees step (AtPoint at)
    → made_there old step at ≡ Ok (record { reply = reply; after = new })
    → Does old step (record { reply = reply; after = new })
done_leaves old step at reply new is agree made =
    let made_so : Made = record { reply = reply; after = new } in
    leaves step made_so (at_point_leaves old at.point step made_so
    (ap (place_of_work old.site) is)
    (of_made (IsAtPoint old at.point step) (made_there old step at) made_so made
    (made_at_point old step at agree)))

-- an answer that isn't there yet changes nothing
idle_leaves : (old : MachineState) (step : Step) (reply : Reply)
    → ((number : ℕ) → reply_takes number reply ≡ false)
    → ((number : ℕ) → (asks_answer_of number step && has_answer reply) ≡ false)
    → place_named old.site step ≡ None
    → ((place : ℕ) → Acts place old step (unchanged old reply))
    → (counted reply ≡ no_count) → is_reply_to step reply ≡ true
    → LeavesRequests old step (unchanged old reply)
idle_leaves old step reply no_take no_answer nowhere acts counts its_own = record {
  site = refl;
  requests = refl;
  drawn = refl;
  stopped = refl;
  no_take = no_take;
  no_answer = no_answer;
  points = ap (λ (found : Option ℕ). points_by old.points found step reply) (sym nowhere);
  acts = λ place many. acts place;
  alone = λ no_event. refl;
  versions = sym (add-zero _) ∙ ap (λ (n : Counted). old.numbers.version + n.changes) (sym counts);
  takes = ap (λ (n : Counted). n.takes) counts;
  answers = ap (λ (n : Counted). n.answers) counts;
  its_own = its_own;
}

handed_is : (old : MachineState) (number : ℕ) (reply : Reply) (new : MachineState)
    → IsHanding old number (record { reply = reply; after = new })
    ⊎ (unchanged old NotYet ≡ record { reply = reply; after = new })
    → Does old (steps.Answer number) (record { reply = reply; after = new })
handed_is old number reply new (inl is) = subst (Does old (steps.Answer number)) is.is
    (hands_one number is.kept is.answer is.found is.has)
handed_is old number reply new (inr same) =
    subst (Does old (steps.Answer number)) same
    (leaves _ _ (idle_leaves old (steps.Answer number) NotYet (λ n. refl)
    (λ other. and_false (number == other)) refl
    (λ place. idle place old (steps.Answer number) (unchanged old NotYet) refl refl refl refl)
    refl refl))

finished_is : (old : MachineState) (reply : Reply) (new : MachineState)
    → finishes old ≡ record { reply = reply; after = new }
    → (unchanged old Finished ≡ finishes old)
    ⊎ ((old.is_stopped ≡ false) × (finishing old ≡ finishes old))
    → Does old steps.Finish (record { reply = reply; after = new })
finished_is old reply new is (inl same) =
    subst (Does old steps.Finish) (same ∙ is)
    (leaves _ _ (idle_leaves old steps.Finish Finished (λ n. refl) (λ n. refl) refl
    (λ place. idle place old steps.Finish (unchanged old Finished) refl refl refl refl)
    refl refl))
finished_is old reply new is (inr same) =
    subst (Does old steps.Finish) (same.1 ∙ is) (finishes_all same.0)

pub does : (old : MachineState) (step : Step) (reply : Reply) (new : MachineState)
    → Steps old step reply new → Does old step (record { reply = reply; after = new })
does old step reply new made = by step (kind_of step) made
  where
    by : (step : Step) → StepKind step → Steps old step reply new
        → Does old step (record { reply = reply; after = new })
    by step (names_point _ at is) made = done_leaves old step at reply new is
        (subst (WorkAgrees step) is (agrees step))
        (subst (λ (w : Work). Works old step w reply new) is made)
    by _ (kinds.takes_one take) made =
        let taken : IsTaking old take (record { reply = reply; after = new }) =
        subst (λ (r : Result Made Refusal). IfOk r (IsTaking old take)) made (takes_is old take) in
        subst (Does old (steps.Take take)) taken.is
        (takes_one take taken.place taken.ask taken.point taken.asks taken.going)
    by _ (kinds.compiles_one number) made =
        let found = request_of number old.requests in
        let is : IsCompiling old number found made.answer (record {
          reply = reply;
          after = new;
        }) =
        subst (λ (r : Result Made Refusal). IfOk r
        (IsCompiling old number found made.answer)) made.made
        (compiles_is old number made.answer found) in
        subst (Does old (steps.Compile number)) is.is
        (compiles_one number made.kept made.answer made.is_kept
        (is.unanswered made.kept made.is_kept) made.right)
    by _ (kinds.answers_one number) made =
        handed_is old number reply new (subst (λ (r : Result Made Refusal). IfOk r (λ m. IsHanding old number m ⊎
        (unchanged old NotYet ≡ m))) made (answers_is old number))
    by _ kinds.finishes_all made = finished_is old reply new (let e : finishes old ≡ record {
      reply = reply;
      after = new;
    } = cc in e) (finishes_is old)

-- ---- the points

-- the effect of every step on the point at a place
pub acts : (place : ℕ) (old : MachineState) (step : Step) (made : Made) → HasPlaces old
    → Does old step made → Acts place old step made
acts place old step made many (leaves _ _ is) = is.acts place many
acts place old step made many (takes_one take there ask point asks going) =
    idle place old (steps.Take take) (taking old there ask) refl refl refl refl
acts place old step made many (compiles_one number kept answer found unanswered right) =
    idle place old (steps.Compile number) (compiling old number answer) refl refl refl refl
acts place old step made many (hands_one number kept answer found has) =
    idle place old (steps.Answer number) (handing old kept answer) refl refl refl refl
acts place old step made many (finishes_all going) = idle place old steps.Finish
    (finishing old) refl refl refl refl

pub keeps_site : (old : MachineState) (step : Step) (made : Made) → Does old step made
    → made.after.site ≡ old.site
keeps_site old step made (leaves _ _ is) = is.site
keeps_site old step made (takes_one take there ask point asks going) = refl
keeps_site old step made (compiles_one number kept answer found unanswered right) = refl
keeps_site old step made (hands_one number kept answer found has) = refl
keeps_site old step made (finishes_all going) = refl

-- ---- answers without an event

-- a step that is answered without an event leaves the state as it was
pub no_event_no_change : (old : MachineState) (step : Step) (made : Made) → Does old step made
    → is_event old made.reply ≡ false → made.after ≡ old
no_event_no_change old step made (leaves _ _ is) no_event = is.alone no_event
no_event_no_change old step made (takes_one take there ask point asks going) no_event =
    absurd (cc no_event)
no_event_no_change old step made (compiles_one number kept answer found unanswered right) no_event =
    absurd (cc no_event)
no_event_no_change old step made (hands_one number kept answer found has) no_event =
    absurd (cc no_event)
no_event_no_change old step made (finishes_all going) no_event =
    let going_on : not old.is_stopped ≡ true = ap not going in
    absurd (cc (going_on, no_event))

-- ---- replies

its_own : (old : MachineState) (step : Step) (made : Made) → Does old step made
    → is_reply_to step made.reply ≡ true
its_own old step made (leaves _ _ is) = is.its_own
its_own old step made (takes_one take place ask point asks going) = refl
its_own old step made (compiles_one number kept answer found unanswered right) = refl
its_own old step made (hands_one number kept answer found has) = refl
its_own old step made (finishes_all going) = refl

pub replies_are_their_steps : RepliesAreTheirSteps
replies_are_their_steps old step reply new made =
    its_own old step (record { reply = reply; after = new }) (does old step reply new made)
