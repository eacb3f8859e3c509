-- The machine's invariant after a change, and its result of a step.
use Rattle.std.proofs.Common.{◌≡◌, ℕ, ◌<◌, ◌≤◌, Bool, true, false, cond, get_or, List, slice_set, Option, Some, None, Result, Ok, Err, length, refl, sym, ap, ◌∙◌, subst}
use Rattle.std.specs.Prelude.{IfOk, IfSome}
use Rattle.std.proofs.lemmas.List.{get_or_default, set-get_or}
use Rattle.ocpp_scalars.specs.ResultSteps.{◌>>=◌}
use Rattle.ocpp_scalars.specs.declared.refusal.Refusal.{Refusal}
use Rattle.meaning.specs.declared.ask.Ask.{Ask}
use Rattle.site_rules.specs.Site.{SiteState, place_of}
use Rattle.point_book.specs.Book.{BookState}
use Rattle.sweep_compiler.specs.Compiled.{CompiledAnswer}
use Rattle.site_core.specs.declared.decision.Decision.{Decision}
use Rattle.site_core.specs.declared.decision.Decision.TheVariants.{Answers, Does}
use Rattle.site_core.specs.declared.reply.Reply.{Reply}
use Rattle.site_core.specs.declared.reply.Reply.TheVariants.{Compiled}
use Rattle.site_core.specs.declared.step.Step.{Step}
use Rattle.site_core.specs.declared.via.Via.{Via}
use Rattle.site_core.specs.declared.numbers.Numbers.{Numbers}
use Rattle.site_core.specs.ChargePoint.{ChargePointState, Deed, point_with}
use Rattle.site_core.specs.State.{MachineState, Kept, AreNumbers, IsMachine, no_point, point_at, connectors_in_book}
use Rattle.site_core.specs.Step.{Made, PointStep, Work, AtPoint, Takes, Compiling, Answering, Finishing, Works, Steps, Compiles, HasAskedConnector, IsRefusalOf, facts, wants_memory, is_event, drawn, deed, done_at, made_at, place_for, work, worked, stepped, no_answer, outlook, outlook_of}
use Rattle.site_core.specs.ByCases.Made.{IsFor, HasConnectorsOf, IsCauseOf, IsMadeAt, IsDecided, IsWorked, decision_of, outlook_by}
use Rattle.site_core.specs.Post.{Posts}
use Rattle.site_core.specs.ByCases.Requests.{IsCompiledIn, IsPostedIn}
use Rattle.site_core.proofs.PointLemmas.{has_connector, replaced}
use Rattle.site_core.proofs.EffectLemmas.{Agrees, WorkAgrees, agrees}
use Rattle.site_core.proofs.StepLemmas.{reply_after}

-- after a change at one point, which has as many connectors as before
pub moved_fits : (old : MachineState) (place : ℕ) (was new : ChargePointState) (numbers : Numbers)
    → IsMachine old → place < length old.points
    → was ≡ get_or old.points place was → connectors_in_book new ≡ connectors_in_book was
    → AreNumbers numbers
    → IsMachine (record old {
      points = slice_set old.points place new;
      numbers = numbers;
    })
moved_fits old place was new numbers fits within read same are =
    let here : was ≡ point_at old place = read
    ∙ get_or_default old.points place was no_point within in
    record {
      points = replaced old.site old.points place new fits.points (same
          ∙ ap connectors_in_book here);
      numbers = are;
      few = fits.few;
    }

-- a point in the place of another, and numbers drawn
abbrev pub with_point : MachineState → ℕ → ChargePointState → Numbers → MachineState
with_point old place new numbers = record old {
  points = slice_set old.points place new;
  numbers = numbers;
}

-- a deed at a place, or none, as one change of the state
done_there : (old : MachineState) (place : ℕ) (reply : Reply) (does : Option Deed)
    → (does ≡ None → drawn reply old.numbers ≡ old.numbers)
    → done_at old place reply does ≡ record {
      reply = reply;
      after = with_point old place (point_with does (point_at old place))
          (drawn reply old.numbers);
    }
done_there old place reply None still =
    ap (λ (points : List ChargePointState). record {
      reply = reply;
      after = record old { points = points };
    }) (sym (set-get_or old.points place _))
    ∙ ap (λ (numbers : Numbers). record {
      reply = reply;
      after = with_point old place (point_at old place) numbers;
    }) (sym (still refl))
done_there old place reply (Some deed) still = refl

-- ---- a step at a point

-- the point that a step names, which is one at a point
pub record NamesPoint (step : Step) (point : List ℕ) (via : Via) : Type 0 where
  pub at : PointStep
  pub is : work step ≡ AtPoint at
  pub point_is : at.point ≡ point
  pub via_is : at.via ≡ via

pub names_point : (step : Step) (point : List ℕ) (via : Via) → IsFor (work step) point via
    → NamesPoint step point via
names_point step point via for = by (work step) refl for
  where
    by : (w : Work) → work step ≡ w → IsFor w point via → NamesPoint step point via
    by (AtPoint at) is for = record { at = at; is = is; point_is = for.0; via_is = for.1 }
    by (Takes take) is for = absurd for
    by (Compiling number) is for = absurd for
    by (Answering number) is for = absurd for
    by Finishing is for = absurd for

-- the place that is found for it
place_there : (old : MachineState) (step : Step) (point : List ℕ) (via : Via)
    (found : Result ℕ Refusal) → (n : NamesPoint step point via)
    → place_for old point via ≡ found → place_for old n.at.point n.at.via ≡ found
place_there old step point via found n is =
    ap (λ (p : List ℕ). place_for old p n.at.via) n.point_is
    ∙ ap (place_for old point) n.via_is ∙ is

-- the step decided at its place, and done
abbrev decided_there : MachineState → Step → PointStep → ℕ → Result Made Refusal
decided_there old step at place =
    at.decided old.site old.numbers (point_at old place)
    >>= (λ reply. Ok (made_at old step place reply))

stepped_there : (old : MachineState) (step : Step) (point : List ℕ) (via : Via) (place : ℕ)
    → (n : NamesPoint step point via) → place_for old point via ≡ Ok place
    → stepped no_answer old step ≡ decided_there old step n.at place
stepped_there old step point via place n found =
    ap (worked no_answer old step) n.is
    ∙ ap (λ (p : Result ℕ Refusal). p >>= decided_there old step n.at)
    (place_there old step point via (Ok place) n found)

-- the connectors that the site file has of the point are those of its book
pub connectors_of : (old : MachineState) (step : Step) (point : List ℕ) (via : Via)
    (place : ℕ) → IsMachine old → IsFor (work step) point via
    → place_of old.site point ≡ Some place → place < length old.points
    → HasConnectorsOf (work step) old.site (point_at old place)
connectors_of old step point via place fits for here within =
    let n = names_point step point via for in
    subst (λ (w : Work). HasConnectorsOf w old.site (point_at old place)) (sym n.is)
    (λ connector has. has_connector old.site old.points n.at.point place connector fits.points
    within (ap (place_of old.site) n.point_is ∙ here) has)

pub connectors_stay : (does : Option Deed) (was : ChargePointState)
    → connectors_in_book (point_with does was) ≡ connectors_in_book was
connectors_stay None was = refl
connectors_stay (Some deed) was = refl

-- it is made so, with the facts about the state after it
pub record IsMadeThere (old : MachineState) (step : Step) (place : ℕ) (reply : Reply)
    (new : ChargePointState) : Type 0 where
  pub made : stepped no_answer old step ≡ Ok (record {
    reply = reply;
    after = with_point old place new (drawn reply old.numbers);
  })
  pub steps : Steps old step reply (with_point old place new (drawn reply old.numbers))
  pub asked : HasAskedConnector reply
  pub connectors : connectors_in_book new ≡ connectors_in_book (point_at old place)
  pub numbers : AreNumbers (drawn reply old.numbers)

pub made_here : (old : MachineState) (step : Step) (point : List ℕ) (via : Via)
    (place : ℕ) (reply : Reply) (new : ChargePointState)
    → IsMachine old → IsFor (work step) point via → place_for old point via ≡ Ok place
    → IsWorked (work step) old.site old.numbers step (point_at old place) (Ok reply) new
    → IsMadeThere old step place reply new
made_here old step point via place reply new fits for found says = record {
  made = made;
  steps = subst (λ (w : Work). Works old step w reply (with_point old place new
      (drawn reply old.numbers))) (sym n.is)
      (sym (ap (worked no_answer old step) n.is) ∙ made);
  asked = subst (λ (asks : Option (BookState × Ask)). IfSome asks
      (λ (asked : BookState × Ask). asked.1.connector ≤ length asked.0.ceilings))
      (sym agree.asks) tt;
  connectors = ap connectors_in_book so.1 ∙ connectors_stay does was;
  numbers = agree.fits fits.numbers;
}
  where
    n : NamesPoint step point via
    n = names_point step point via for

    was : ChargePointState
    was = point_at old place

    does : Option Deed
    does = deed was step reply

    so : IsMadeAt (n.at.decided old.site old.numbers was) step was (Ok reply) new
    so = subst (λ (w : Work). IsWorked w old.site old.numbers step was (Ok reply) new) n.is says

    all : WorkAgrees step (AtPoint n.at)
    all = subst (WorkAgrees step) n.is (agrees step)

    agree : Agrees old.numbers was step reply
    agree = subst (λ (r : Result Reply Refusal). IfOk r (Agrees old.numbers was step))
        so.0 (all old.site old.numbers was)

    after : made_at old step place reply ≡ record {
      reply = reply;
      after = with_point old place new (drawn reply old.numbers);
    }
    after = done_there old place reply does agree.still
        ∙ ap (λ (p : ChargePointState). record {
          reply = reply;
          after = with_point old place p (drawn reply old.numbers);
        }) (sym so.1)

    made : stepped no_answer old step ≡ Ok (record {
      reply = reply;
      after = with_point old place new (drawn reply old.numbers);
    })
    made = stepped_there old step point via place n found
        ∙ ap (λ (r : Result Reply Refusal). r >>= (λ q. Ok (made_at old step place q))) so.0
        ∙ ap Ok after

-- the reason why it isn't made
pub refused_here : (old : MachineState) (step : Step) (point : List ℕ) (via : Via)
    (place : ℕ) (refusal : Refusal) (new : ChargePointState)
    → IsFor (work step) point via → place_for old point via ≡ Ok place
    → IsWorked (work step) old.site old.numbers step (point_at old place) (Err refusal) new
    → IsRefusalOf (stepped no_answer old step) refusal × (new ≡ point_at old place)
refused_here old step point via place refusal new for found says = (
  subst (λ (m : Result Made Refusal). IsRefusalOf m refusal)
      (sym (stepped_there old step point via place n found))
      (by (n.at.decided old.site old.numbers was) so.0),
  so.1,
)
  where
    n : NamesPoint step point via
    n = names_point step point via for

    was : ChargePointState
    was = point_at old place

    so : IsMadeAt (n.at.decided old.site old.numbers was) step was (Err refusal) new
    so = subst (λ (w : Work). IsWorked w old.site old.numbers step was (Err refusal) new) n.is says

    by : (decided : Result Reply Refusal) → IsCauseOf decided refusal
        → IsRefusalOf (decided >>= (λ r. Ok (made_at old step place r))) refusal
    by (Err cause) is = is
    by (Ok reply) is = (
      ap wants_memory (reply_after old place reply (deed was step reply))
          ∙ is.0,
      is.1,
    )

-- ---- the same from the facts that a method knows

-- the facts that a method knows of a step at the place of its point
pub record KnowsPlace (old : MachineState) (step : Step) (site : SiteState) (point : List ℕ)
    (via : Via) (place : ℕ) (was : ChargePointState) : Type 0 where
  pub machine : IsMachine old
  pub names : IsFor (work step) point via
  pub found : Ok place ≡ place_for old point via
  pub within : place < length old.points
  pub read : was ≡ get_or old.points place was
  pub site_is : site ≡ old.site

-- the method knows them of the state that it borrows
pub knows_place : (old now : MachineState) (step : Step) (site : SiteState) (point : List ℕ)
    (via : Via) (place : ℕ) (was : ChargePointState) → old ≡ now → IsMachine old
    → IsFor (work step) point via → Ok place ≡ place_for now point via
    → place < length now.points → was ≡ get_or old.points place was → site ≡ old.site
    → KnowsPlace old step site point via place was
knows_place old now step site point via place was same machine names found within read site_is =
    record {
      machine = machine;
      names = names;
      found = subst (λ (s : MachineState). Ok place ≡ place_for s point via) (sym same) found;
      within = subst (λ (s : MachineState). place < length s.points) (sym same) within;
      read = read;
      site_is = site_is;
    }

pub the_point : (old : MachineState) (step : Step) (site : SiteState) (point : List ℕ)
    (via : Via) (place : ℕ) (was : ChargePointState)
    → KnowsPlace old step site point via place was → was ≡ point_at old place
the_point old step site point via place was knows =
    knows.read ∙ get_or_default old.points place was no_point knows.within

worked_there : (old : MachineState) (step : Step) (site : SiteState) (point : List ℕ)
    (via : Via) (place : ℕ) (was : ChargePointState) (result : Result Reply Refusal)
    (new : ChargePointState) → KnowsPlace old step site point via place was
    → IsWorked (work step) site old.numbers step was result new
    → IsWorked (work step) old.site old.numbers step (point_at old place) result new
worked_there old step site point via place was result new knows says =
    subst (λ (s : SiteState). IsWorked (work step) s old.numbers step (point_at old place)
    result new) knows.site_is
    (subst (λ (p : ChargePointState). IsWorked (work step) site old.numbers step p result new)
    (the_point old step site point via place was knows) says)

pub record IsMadeSo (old : MachineState) (step : Step) (reply : Reply) (new : MachineState)
    : Type 0 where
  pub steps : Steps old step reply new
  pub machine : IsMachine new
  pub asked : HasAskedConnector reply

pub made_so : (old : MachineState) (step : Step) (site : SiteState) (point : List ℕ)
    (via : Via) (place : ℕ) (was : ChargePointState) (reply : Reply) (new : ChargePointState)
    (numbers : Numbers) → KnowsPlace old step site point via place was
    → IsWorked (work step) site old.numbers step was (Ok reply) new
    → numbers ≡ drawn reply old.numbers
    → IsMadeSo old step reply (with_point old place new numbers)
made_so old step site point via place was reply new numbers knows says draws =
    let made = made_here old step point via place reply new knows.machine knows.names
    (sym knows.found)
    (worked_there old step site point via place was (Ok reply) new knows says) in
    subst (λ (n : Numbers). IsMadeSo old step reply (with_point old place new n)) (sym draws)
    (record {
      steps = made.steps;
      machine = moved_fits old place was new (drawn reply old.numbers) knows.machine
          knows.within knows.read (made.connectors ∙ ap connectors_in_book
          (sym (the_point old step site point via place was knows))) made.numbers;
      asked = made.asked;
    })

pub record IsRefusedSo (old : MachineState) (step : Step) (refusal : Refusal)
    (new : MachineState) : Type 0 where
  pub cause : IsRefusalOf (stepped no_answer old step) refusal
  pub unchanged : new ≡ old
  pub machine : IsMachine new

pub refused_so : (old : MachineState) (step : Step) (site : SiteState) (point : List ℕ)
    (via : Via) (place : ℕ) (was : ChargePointState) (refusal : Refusal)
    (new : ChargePointState) → KnowsPlace old step site point via place was
    → IsWorked (work step) site old.numbers step was (Err refusal) new
    → IsRefusedSo old step refusal (with_point old place new old.numbers)
refused_so old step site point via place was refusal new knows says =
    let refused = refused_here old step point via place refusal new knows.names
    (sym knows.found)
    (worked_there old step site point via place was (Err refusal) new knows says) in
    let same : with_point old place new old.numbers ≡ old =
    ap (λ (p : ChargePointState). with_point old place p old.numbers) refused.1
    ∙ ap (λ (points : List ChargePointState). record old { points = points })
    (set-get_or old.points place no_point) in
    record {
      cause = refused.0;
      unchanged = same;
      machine = subst IsMachine (sym same) knows.machine;
    }

-- if it has no place, the refusal is that of the look-up
pub refused_nowhere : (old : MachineState) (step : Step) (point : List ℕ) (via : Via)
    (refusal : Refusal) → IsFor (work step) point via → place_for old point via ≡ Err refusal
    → stepped no_answer old step ≡ Err refusal
refused_nowhere old step point via refusal for found =
    let n = names_point step point via for in
    ap (worked no_answer old step) n.is
    ∙ ap (λ (p : Result ℕ Refusal). p >>= decided_there old step n.at)
    (place_there old step point via (Err refusal) n found)

-- a decision at the point, for the whole state
pub decided_here : (old : MachineState) (step : Step) (point : List ℕ) (via : Via)
    (place : ℕ) (result : Result Decision Refusal)
    → IsFor (work step) point via → place_for old point via ≡ Ok place
    → IsDecided (work step) old.site old.numbers (point_at old place) result
    → outlook old step ≡ outlook_by result
decided_here old step point via place result for found says =
    ap (outlook_of old) (stepped_there old step point via place n found)
    ∙ by (n.at.decided old.site old.numbers was) (all old.site old.numbers was)
    ∙ ap outlook_by (sym so)
  where
    n : NamesPoint step point via
    n = names_point step point via for

    was : ChargePointState
    was = point_at old place

    so : result ≡ decision_of (n.at.decided old.site old.numbers was)
    so = subst (λ (w : Work). IsDecided w old.site old.numbers was result) n.is says

    all : WorkAgrees step (AtPoint n.at)
    all = subst (WorkAgrees step) n.is (agrees step)

    by_reply : (reply : Reply) (b : Bool) → outlook_by (Ok (cond b Does (Answers reply))) ≡ Ok b
    by_reply reply true = refl
    by_reply reply false = refl

    by : (decided : Result Reply Refusal) → IfOk decided (Agrees old.numbers was step)
        → outlook_of old (decided >>= (λ r. Ok (made_at old step place r)))
        ≡ outlook_by (decision_of decided)
    by (Err refusal) agree = refl
    by (Ok reply) agree =
        ap (λ (r : Reply). Ok (is_event old r)) (reply_after old place reply (deed was step reply))
        ∙ ap Ok (agree.event old ∙ sym (agree.event (record old { is_stopped = false })))
        ∙ sym (by_reply reply ((facts reply).is_event false))

-- ---- requests

-- Compile, by its effect on the requests
pub compiles_made : (old : MachineState) (number : ℕ) (requests : List Kept)
    → IsCompiledIn number old.requests requests
    → Compiles old number Compiled (record old { requests = requests })
compiles_made old number requests is = record {
  kept = is.kept;
  is_kept = is.is_kept;
  answer = is.answer;
  right = is.right;
  made = rw (is.is_kept, is.had_none, is.now) refl;
}

-- the posted answer is the request's own, and so it is right
pub posts_made : (old : MachineState) (number : ℕ) (brought : CompiledAnswer) (requests : List Kept)
    → IsPostedIn number brought old.requests requests
    → Posts old number brought (record old { requests = requests })
posts_made old number brought requests is = record {
  kept = is.kept;
  is_kept = is.is_kept;
  fits = is.fits;
  right = is.right;
  made = rw (is.is_kept, is.had_none, is.now) refl;
}

-- a posted request is compiled
pub posts_compile : (old : MachineState) (number : ℕ) (brought : CompiledAnswer)
    (new : MachineState) → Posts old number brought new → Compiles old number Compiled new
posts_compile old number brought new posts = record {
  kept = posts.kept;
  is_kept = posts.is_kept;
  answer = brought.answer;
  right = posts.right;
  made = posts.made;
}
