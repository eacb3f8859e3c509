-- Legal histories are the replays of stored ones.
use Rattle.std.proofs.Common.{◌≡◌, List, [], ◌∷◌, ◌++◌, Option, None, Some, Result, Ok, Err, refl, sym, ap, ◌∙◌, subst}
use Rattle.std.specs.Prelude.{IfOk}
use Rattle.ocpp_scalars.specs.declared.refusal.Refusal.{Refusal}
use Rattle.ocpp_scalars.specs.ResultSteps.{◌>>=◌}
use Rattle.site_core.specs.declared.step.Step.{Step}
use Rattle.site_core.specs.declared.step.Step.TheVariants as steps
use Rattle.site_core.specs.declared.reply.Reply.{Reply}
use Rattle.site_core.specs.State.{MachineState, Kept, ScheduleAnswer}
use Rattle.site_core.specs.Requests.{request_of}
use Rattle.site_core.specs.Right.{IsCompiledFor}
use Rattle.site_core.specs.Step.{Made, Steps, stepped, no_answer, compiles_kept}
use Rattle.site_core.specs.History.{Event, Legal}
use Rattle.site_core.specs.StoredHistory.{StoredEvent, Replay, made_of, event_of, replayed, MayBeGiven, AllMayBeGiven, IsStoredAs, ReplaysAreOne, ReplaysAreLegal, HistoriesCanBeStored, ReplaysGoOn}
use Rattle.site_core.specs.Theory.Steps.{CompileOrOther, is_compile, is_other, compile_or_other}

abbrev stored_event : Step → ScheduleAnswer → StoredEvent
stored_event step answer = record { step = step; answer = answer }

abbrev replay_of : List Event → MachineState → Replay
replay_of events after = record { events = events; after = after }

-- ---- one event

-- the result of a stored event is that of its step, if its answer may be given
steps_of : (old : MachineState) (stored : StoredEvent) (made : Made) → made_of old stored ≡ Ok made
    → MayBeGiven old stored → Steps old stored.step made.reply made.after
steps_of old stored made is given = by stored.step (compile_or_other stored.step) refl is
  where
    by : (step : Step) → CompileOrOther step → stored.step ≡ step
        → stepped stored.answer old step ≡ Ok made → Steps old step made.reply made.after
    by step (is_other _ no_answer_needed as_defined as_made) same is =
        as_made old made.reply made.after (sym (no_answer_needed stored.answer old) ∙ is)
    by step (is_compile number) same is = found (request_of number old.requests) refl is
      where
        found : (request : Option Kept) → request_of number old.requests ≡ request
            → compiles_kept old number stored.answer request ≡ Ok made
            → Steps old (steps.Compile number) made.reply made.after
        found None here is = absurd (cc is)
        found (Some kept) here is = record {
          kept = kept;
          is_kept = here;
          answer = stored.answer;
          right = given number kept same here;
          made = ap (λ (request : Option Kept). compiles_kept old number stored.answer request) here
              ∙ is;
        }

-- an event of a step that is made
record IsStored (old : MachineState) (step : Step) (reply : Reply) (new : MachineState) : Type 0
  where
    answer : ScheduleAnswer
    made : made_of old (stored_event step answer) ≡ Ok (record { reply = reply; after = new })
    given : MayBeGiven old (stored_event step answer)

stored_of : (old : MachineState) (step : Step) (reply : Reply) (new : MachineState)
    → Steps old step reply new → IsStored old step reply new
stored_of old step reply new is = by step (compile_or_other step) is
  where
    by : (step : Step) → CompileOrOther step → Steps old step reply new
        → IsStored old step reply new
    by step (is_other _ no_answer_needed as_defined as_made) is = record {
      answer = no_answer;
      made = as_defined old reply new is;
      given = λ number kept same found. tt;
    }
    by step (is_compile number) compiled = record {
      answer = compiled.answer;
      made = compiled.made;
      given = λ other kept same found.
          let numbers : number ≡ other = cc in
          let one : compiled.kept ≡ kept = cc (compiled.is_kept, numbers, found) in
          subst (λ (k : Kept). IsCompiledFor k.book k.ask compiled.answer) one compiled.right;
    }

-- ---- histories

-- the replay of one event, and then of the others
abbrev with_event : Step → Reply → Replay → Replay
with_event step reply rest =
    replay_of (event_of step reply ∷ rest.events) rest.after

abbrev and_then : Step → Reply → Result Replay Refusal → Result Replay Refusal
and_then step reply rest = rest >>= (λ (r : Replay). Ok (with_event step reply r))

-- a replay splits into its first event and the replay of the others
record IsOneAndRest (old : MachineState) (stored : StoredEvent) (later : List StoredEvent)
    (replay : Replay) : Type 0 where
  made : Made
  first : made_of old stored ≡ Ok made
  given : AllMayBeGiven made.after later
  rest : Replay
  others : replayed made.after later ≡ Ok rest
  is : with_event stored.step made.reply rest ≡ replay

one_and_rest : (old : MachineState) (stored : StoredEvent) (later : List StoredEvent)
    (replay : Replay)
    → replayed old (stored ∷ later) ≡ Ok replay
    → IfOk (made_of old stored) (λ made. AllMayBeGiven made.after later)
    → IsOneAndRest old stored later replay
one_and_rest old stored later replay is given = made_as (made_of old stored) refl is given
  where
    rest_as : (made : Made) → made_of old stored ≡ Ok made → AllMayBeGiven made.after later
        → (rest : Result Replay Refusal) → replayed made.after later ≡ rest
        → and_then stored.step made.reply rest ≡ Ok replay → IsOneAndRest old stored later replay
    rest_as made here given_later (Err refusal) there is = absurd (cc is)
    rest_as made here given_later (Ok rest) there is = record {
      made = made;
      first = here;
      given = given_later;
      rest = rest;
      others = there;
      is = cc;
    }

    made_as : (result : Result Made Refusal) → made_of old stored ≡ result
        → (result >>= (λ (made : Made). and_then stored.step made.reply
        (replayed made.after later))) ≡ Ok replay
        → IfOk result (λ made. AllMayBeGiven made.after later)
        → IsOneAndRest old stored later replay
    made_as (Err refusal) here is given_later = absurd (cc is)
    made_as (Ok made) here is given_later =
        rest_as made here given_later (replayed made.after later) refl is

legal_along : (old : MachineState) (stored : List StoredEvent) (replay : Replay)
    → replayed old stored ≡ Ok replay → AllMayBeGiven old stored
    → Legal old replay.events replay.after
legal_along old [] replay is given =
    let same : replay_of [] old ≡ replay = cc in
    subst (λ (r : Replay). Legal old r.events r.after) same refl
legal_along old (stored ∷ later) replay is given =
    let parts = one_and_rest old stored later replay is given.1 in
    subst (λ (r : Replay). Legal old r.events r.after) parts.is (
      parts.made.after,
      steps_of old stored parts.made parts.first given.0,
      legal_along parts.made.after later parts.rest parts.others parts.given,
    )

pub replays_are_one : ReplaysAreOne
replays_are_one old stored one other is also = cc

pub replays_are_legal : ReplaysAreLegal
replays_are_legal old events new stored is =
    legal_along old stored (replay_of events new) is.replay is.given

pub histories_can_be_stored : HistoriesCanBeStored
histories_can_be_stored old [] new legal = (
  [],
  record {
    replay = ap (λ (s : MachineState). Ok (replay_of [] s)) (sym legal);
    given = tt;
  },
)
histories_can_be_stored old (event ∷ later) new legal =
    let middle = legal.0 in
    let first = stored_of old event.step event.reply middle legal.1 in
    let rest = histories_can_be_stored middle later new legal.2 in (
      stored_event event.step first.answer ∷ rest.0,
      record {
        replay = ap (λ (result : Result Made Refusal). result >>= (λ (made : Made).
            and_then event.step made.reply (replayed made.after rest.0))) first.made
            ∙ ap (and_then event.step event.reply) rest.1.replay;
        given = (
          first.given,
          subst (λ (result : Result Made Refusal). IfOk result (λ made.
              AllMayBeGiven made.after rest.0)) (sym first.made) rest.1.given,
        );
      },
    )

-- one more event
replays_push : (old : MachineState) (stored : List StoredEvent) (replay : Replay)
    (last : StoredEvent) (made : Made) → replayed old stored ≡ Ok replay → AllMayBeGiven old stored
    → made_of replay.after last ≡ Ok made → MayBeGiven replay.after last
    → IsStoredAs old (replay.events ++ event_of last.step made.reply ∷ []) made.after
    (stored ++ last ∷ [])
replays_push old [] replay last made is given here may =
    let same : replay_of [] old ≡ replay = cc in
    let Pushed : Replay → Type 0 = λ (r : Replay). made_of r.after last ≡ Ok made
    → MayBeGiven r.after last
    → IsStoredAs old (r.events ++ event_of last.step made.reply ∷ []) made.after (last ∷ []) in
    subst Pushed same (λ here may. record {
      replay = ap (λ (result : Result Made Refusal). result >>= (λ (m : Made).
          and_then last.step m.reply (replayed m.after []))) here;
      given = (
        may,
        subst (λ (result : Result Made Refusal). IfOk result (λ m.
            AllMayBeGiven m.after [])) (sym here) tt,
      );
    }) here may
replays_push old (stored ∷ later) replay last made is given here may =
    let parts = one_and_rest old stored later replay is given.1 in
    let afters : parts.rest.after ≡ replay.after = ap (λ (r : Replay). r.after) parts.is in
    let pushed = replays_push parts.made.after later parts.rest last made parts.others parts.given
    (subst (λ (s : MachineState). made_of s last ≡ Ok made) (sym afters) here)
    (subst (λ (s : MachineState). MayBeGiven s last) (sym afters) may) in
    subst (λ (r : Replay). IsStoredAs old (r.events ++ event_of last.step made.reply ∷ [])
    made.after ((stored ∷ later) ++ last ∷ [])) parts.is (record {
      replay = ap (λ (result : Result Made Refusal). result >>= (λ (n : Made).
          and_then stored.step n.reply (replayed n.after (later ++ last ∷ [])))) parts.first
          ∙ ap (and_then stored.step parts.made.reply) pushed.replay;
      given = (
        given.0,
        subst (λ (result : Result Made Refusal). IfOk result (λ n.
            AllMayBeGiven n.after (later ++ last ∷ []))) (sym parts.first) pushed.given,
      );
    })

pub replays_go_on : ReplaysGoOn
replays_go_on old events middle stored last made is here may =
    replays_push old stored (replay_of events middle) last made is.replay is.given here may
