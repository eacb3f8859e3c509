-- A script is a run of the machine, line by line, and prints the replies of this run.
use Rattle.std.proofs.Common.{◌≡◌, ℕ, Bool, true, false, cond, List, [], ◌∷◌, ◌++◌}
use Rattle.std.proofs.Common.{Option, Some, None, Result, Ok, Err, IfOk, refl, sym, ap, ◌∙◌, subst}
use Rattle.std.specs.List.{fold}
use Rattle.std.proofs.lemmas.Grind.{flat_map-append}
use Rattle.ocpp_scalars.specs.declared.refusal.Refusal.{Refusal}
use Rattle.profile.specs.declared.unit.Unit.{Unit}
use Rattle.messages.specs.declared.action_kind.ActionKind.{ActionKind}
use Rattle.messages.specs.declared.action_kind.ActionKind.TheVariants as kinds
use Rattle.messages.specs.declared.call.Call.{Call}
use Rattle.messages.specs.declared.response.Response.{Response}
use Rattle.messages.specs.declared.response.Response.TheVariants.{BootNotification}
use Rattle.messages.specs.declared.side.Side.{Side}
use Rattle.messages.specs.declared.side.Side.TheVariants as sides
use Rattle.ocppj_frame.specs.ByCases.Message.{message_of_text}
use Rattle.meaning.specs.declared.said.Said.{Said}
use Rattle.site_rules.specs.Site.{SiteState}
use Rattle.sweep_compiler.specs.Judged.{Judgement}
use Rattle.sweep_compiler.specs.Verdict.{AuditRequest}
use Rattle.site_core.specs.declared.step.Step.{Step}
use Rattle.site_core.specs.declared.step.Step.TheVariants as acts
use Rattle.site_core.specs.declared.reply.Reply.{Reply}
use Rattle.site_core.specs.declared.reply.Reply.TheVariants.{Taken, Answered, Sent}
use Rattle.site_core.specs.declared.outcome.Outcome.{Outcome}
use Rattle.site_core.specs.declared.outcome.Outcome.TheVariants.{Done, Refused}
use Rattle.site_core.specs.State.{MachineState, opening, audit_job, link_of}
use Rattle.site_core.specs.Run.{Runs}
use Rattle.site_core.specs.Step.{RepliesAreTheirSteps}
use Rattle.site_core.specs.History.{Event, history_of}
use Rattle.replay.specs.declared.script.line.ScriptLineFault.{ScriptLineFault}
use Rattle.replay.specs.declared.script.line.ScriptLine.{ScriptLine}
use Rattle.replay.specs.declared.script.line.ScriptLine.TheVariants.{Text, Hold, Release}
use Rattle.texts.specs.declared.asked.Asked.{Asked}
use Rattle.texts.specs.declared.asked.Asked.TheVariants as asked
use Rattle.texts.specs.SentText as texts
use Rattle.replay.specs.Held.{id_held}
use Rattle.replay.specs.Player.{PlayerState, with_machine}
use Rattle.replay.specs.MachineSteps.{stepped_exactly, handed_out, at_once, stepped_at_once}
use Rattle.replay.specs.MachineSteps.{attached_unless, attached_once, call_sent, sent_over}
use Rattle.replay.specs.MachineSteps.{sent_first, confirmed_over, confirmed_by, replied_by}
use Rattle.replay.specs.MachineSteps.{judged_exactly, verdict_kept, if_made, reply_judged}
use Rattle.texts.specs.Asked.{asked_of, asks_schedule}
use Rattle.texts.specs.Response.{refused_response}
use Rattle.texts.specs.Said.{said_of}
use Rattle.replay.specs.Lines.{script_lines}
use Rattle.replay.specs.PrintedLine.{PrintedLine}
use Rattle.replay.specs.declared.script.printed_line.PrintedLine.TheVariants as lines
use Rattle.replay.specs.Play.{Handled, LineStep, answer_if, outcome_lines, call_lines}
use Rattle.replay.specs.Play.{asked_handled, point_handled, text_handled, hold_answered}
use Rattle.replay.specs.Play.{hold_stepped, hold_handled, fault_played, hold_played, release_played}
use Rattle.replay.specs.Play.{said_played, read_played, said_on, played_as, line_played}
use Rattle.replay.specs.Run.{Played, first_played, played_more, played, lines_of}
use Rattle.replay.specs.ScriptRun.{schedules_on, schedules_printed, schedules_by_event}
use Rattle.replay.specs.ScriptRun.{schedules_answered, calls_on, calls_printed, calls_of_event}
use Rattle.replay.specs.ScriptRun.{calls_replied}
use Rattle.replay.proofs.MachineLemmas.{Law-answer, Law-too_long}
use Rattle.replay.proofs.StepRunLemmas.{outcome_for, steps_run, HandsOutNone}
use Rattle.replay.proofs.StepRunLemmas.{calls_hand_out_none, IsNoAnswer, IsNoSend}
use Rattle.replay.proofs.StepRunLemmas.{of_call_no_answer}
use Rattle.texts.specs.Asked.{IsOfCall, AsksByCall}
use Rattle.texts.specs.Theory.Asked.{asks_by_call}
use Rattle.replay.proofs.AskedLemmas.{no_schedule}

-- the cited laws
pub record Laws : Type 0 where
  pub join :
      (old middle new : MachineState) (steps more : List Step) (outcomes others : List Outcome)
      → Runs old steps outcomes middle → Runs middle more others new
      → Runs old (steps ++ more) (outcomes ++ others) new
  pub site :
      (old new : MachineState) (steps : List Step) (outcomes : List Outcome)
      → Runs old steps outcomes new → new.site ≡ old.site
  pub answer : Law-answer
  pub too_long : Law-too_long
  pub own : RepliesAreTheirSteps

-- ---- a part of a run, and its output

pub record Part (old new : MachineState) (lines : List PrintedLine) : Type 0 where
  pub steps : List Step
  pub outcomes : List Outcome
  pub run : Runs old steps outcomes new
  pub schedules :
      schedules_printed lines ≡ schedules_answered old.site.unit (history_of steps outcomes)
  pub calls : calls_printed lines ≡ calls_replied (history_of steps outcomes)

-- no step is made
no_step : (old : MachineState) (lines : List PrintedLine) → schedules_printed lines ≡ []
    → calls_printed lines ≡ [] → Part old old lines
no_step old lines schedules calls =
    record { steps = []; outcomes = []; run = refl; schedules = schedules; calls = calls }

nothing : (old : MachineState) → Part old old []
nothing old = no_step old [] refl refl

history_of-append : (old middle : MachineState) (steps more : List Step)
    (outcomes others : List Outcome) → Runs old steps outcomes middle
    → history_of (steps ++ more) (outcomes ++ others)
    ≡ history_of steps outcomes ++ history_of more others
history_of-append old middle [] more [] others runs = refl
history_of-append old middle [] more (outcome ∷ outcomes) others runs = absurd runs
history_of-append old middle (step ∷ steps) more [] others runs = absurd runs
history_of-append old middle (step ∷ steps) more (Done reply ∷ outcomes) others runs =
    ap (λ (h : List Event). record { step = step; reply = reply } ∷ h)
    (history_of-append runs.0 middle steps more outcomes others runs.2)
history_of-append old middle (step ∷ steps) more (Refused refused ∷ outcomes) others runs =
    history_of-append runs.0 middle steps more outcomes others runs.2

same_unit : Laws → (old new : MachineState) (lines : List PrintedLine) → Part old new lines
    → new.site.unit ≡ old.site.unit
same_unit laws old new lines part =
    ap (λ (s : SiteState). s.unit) (laws.site old new part.steps part.outcomes part.run)

-- a part after a part
join : Laws → (old middle new : MachineState) (one other : List PrintedLine)
    → Part old middle one → Part middle new other → Part old new (one ++ other)
join laws old middle new one other first second =
    let unit = old.site.unit in
    let was = history_of first.steps first.outcomes in
    let more = history_of second.steps second.outcomes in
    let parts = history_of-append old middle first.steps second.steps first.outcomes
    second.outcomes first.run in
    record {
      steps = first.steps ++ second.steps;
      outcomes = first.outcomes ++ second.outcomes;
      run =
          laws.join old middle new first.steps second.steps first.outcomes second.outcomes
          first.run second.run;
      schedules =
          flat_map-append schedules_on one other
          ∙ (ap (λ l. l ++ schedules_printed other) first.schedules
          ∙ (ap (λ l. schedules_answered unit was ++ l) second.schedules
          ∙ (ap (λ u. schedules_answered unit was ++ schedules_answered u more)
          (same_unit laws old middle one first)
          ∙ (sym (flat_map-append (schedules_by_event unit) was more)
          ∙ ap (schedules_answered unit) (sym parts)))));
      calls =
          flat_map-append calls_on one other
          ∙ (ap (λ l. l ++ calls_printed other) first.calls
          ∙ (ap (λ l. calls_replied was ++ l) second.calls
          ∙ (sym (flat_map-append calls_of_event was more) ∙ ap calls_replied (sym parts))));
    }

-- ---- one step

-- the event of a step, if it was made
abbrev events_of : Step → Result Reply Refusal → List Event
events_of step outcome = history_of (step ∷ []) (outcome_for step outcome ∷ [])

one_step : Laws → (old : MachineState) (step : Step) (lines : List PrintedLine)
    → schedules_printed lines
    ≡ schedules_answered old.site.unit (events_of step (stepped_exactly old step).outcome)
    → calls_printed lines ≡ calls_replied (events_of step (stepped_exactly old step).outcome)
    → Part old (stepped_exactly old step).after lines
one_step laws old step lines schedules calls = record {
  steps = step ∷ [];
  outcomes = outcome_for step (stepped_exactly old step).outcome ∷ [];
  run = ((stepped_exactly old step).after, steps_run laws.answer laws.too_long old step, refl);
  schedules = schedules;
  calls = calls;
}

no_schedules : (unit : Unit) (step : Step) (outcome : Result Reply Refusal) → IsNoAnswer step
    → [] ≡ schedules_answered unit (events_of step outcome)
no_schedules unit step (Err refusal) is = refl
no_schedules unit (acts.Answer number) (Ok reply) is = absurd is
no_schedules unit step (Ok reply) is = refl

no_calls : (step : Step) (outcome : Result Reply Refusal) → IsNoSend step
    → [] ≡ calls_replied (events_of step outcome)
no_calls step (Err refusal) is = refl
no_calls (acts.Send point link) (Ok reply) is = absurd is
no_calls step (Ok reply) is = refl

-- a step that hands out nothing and sends nothing, with lines that have no schedule and no call
quiet_step : Laws → (old : MachineState) (step : Step) (lines : List PrintedLine)
    → IsNoAnswer step → IsNoSend step → schedules_printed lines ≡ [] → calls_printed lines ≡ []
    → Part old (stepped_exactly old step).after lines
quiet_step laws old step lines no_answer no_send schedules calls =
    one_step laws old step lines
    (schedules ∙ no_schedules old.site.unit step (stepped_exactly old step).outcome no_answer)
    (calls ∙ no_calls step (stepped_exactly old step).outcome no_send)

-- ---- answers

refusal_has_no_schedule : (kind : ActionKind) (refusal : Refusal) (id : List ℕ)
    → schedules_printed (lines.Answer id (refused_response kind refusal) ∷ []) ≡ []
refusal_has_no_schedule kinds.SetChargingProfile refusal id = refl
refusal_has_no_schedule kinds.GetCompositeSchedule refusal id = refl
refusal_has_no_schedule kind refusal id = refl

answer_has_no_call : (id : List ℕ) (response : Option Response)
    → calls_printed (answer_if id response) ≡ []
answer_has_no_call id None = refl
answer_has_no_call id (Some response) = refl

outcome_has_no_schedule : (unit : Unit) (id : List ℕ) (kind : ActionKind) (outcome : Result Reply Refusal)
    → IfOk outcome HandsOutNone → schedules_printed (outcome_lines unit id kind outcome) ≡ []
outcome_has_no_schedule unit id kind (Err refusal) none = refusal_has_no_schedule kind refusal id
outcome_has_no_schedule unit id kind (Ok (Answered book ask answer)) none = absurd none
outcome_has_no_schedule unit id kind (Ok reply) none = refl

outcome_has_schedule : (unit : Unit) (id : List ℕ) (kind : ActionKind) (number : ℕ)
    (outcome : Result Reply Refusal)
    → schedules_printed (outcome_lines unit id kind outcome)
    ≡ schedules_answered unit (events_of (acts.Answer number) outcome)
outcome_has_schedule unit id kind number (Err refusal) = refusal_has_no_schedule kind refusal id
outcome_has_schedule unit id kind number (Ok (Answered book ask (Ok schedule))) = refl
outcome_has_schedule unit id kind number (Ok (Answered book ask (Err refusal))) =
    refusal_has_no_schedule kind refusal id
outcome_has_schedule unit id kind number (Ok reply) = refl

-- a request is compiled and answered
handed_out_part : Laws → (taken : MachineState) (number : ℕ) (id : List ℕ) (kind : ActionKind)
    → Part taken (handed_out taken number).after
    (outcome_lines taken.site.unit id kind (handed_out taken number).outcome)
handed_out_part laws taken number id kind =
    let middle = (stepped_exactly taken (acts.Compile number)).after in
    let outcome = (handed_out taken number).outcome in
    let new = (handed_out taken number).after in
    let compile : Part taken middle [] =
    quiet_step laws taken (acts.Compile number) [] tt tt refl refl in
    let answer : Part middle new (outcome_lines middle.site.unit id kind outcome) =
    one_step laws middle (acts.Answer number) (outcome_lines middle.site.unit id kind outcome)
    (outcome_has_schedule middle.site.unit id kind number outcome)
    (answer_has_no_call id _ ∙ no_calls (acts.Answer number) outcome tt) in
    subst (λ (u : Unit). Part taken new (outcome_lines u id kind outcome))
    (same_unit laws taken middle [] compile)
    (join laws taken middle new [] (outcome_lines middle.site.unit id kind outcome) compile answer)

-- a step of a CALL whose outcome is answered
answered_part : Laws → (old : MachineState) (id : List ℕ) (kind : ActionKind) (step : Step)
    → IsOfCall step → (outcome : Result Reply Refusal)
    → (stepped_exactly old step).outcome ≡ outcome
    → Part old (stepped_exactly old step).after (outcome_lines old.site.unit id kind outcome)
answered_part laws old id kind step of_call outcome is =
    let none = subst (λ (o : Result Reply Refusal). IfOk o HandsOutNone) is
    (calls_hand_out_none laws.answer laws.too_long laws.own old step of_call) in
    let quiet = of_call_no_answer step of_call in
    quiet_step laws old step (outcome_lines old.site.unit id kind outcome) quiet.0 quiet.1
    (outcome_has_no_schedule old.site.unit id kind outcome none) (answer_has_no_call id _)

-- a step of a CALL, at once
at_once_part : Laws → (old : MachineState) (id : List ℕ) (kind : ActionKind) (step : Step)
    → IsOfCall step
    → Part old (stepped_at_once old step).after
    (outcome_lines old.site.unit id kind (stepped_at_once old step).outcome)
at_once_part laws old id kind step of_call = go (stepped_exactly old step).outcome refl
  where
    after : MachineState
    after = (stepped_exactly old step).after

    go : (outcome : Result Reply Refusal) → (stepped_exactly old step).outcome ≡ outcome
        → Part old (at_once outcome after).after
        (outcome_lines old.site.unit id kind (at_once outcome after).outcome)
    go (Ok (Taken number book ask)) is =
        let quiet = of_call_no_answer step of_call in
        let take : Part old after [] = quiet_step laws old step [] quiet.0 quiet.1 refl refl in
        let handed = handed_out after number in
        subst (λ (u : Unit). Part old handed.after (outcome_lines u id kind handed.outcome))
        (same_unit laws old after [] take)
        (join laws old after handed.after []
        (outcome_lines after.site.unit id kind handed.outcome)
        take (handed_out_part laws after number id kind))
    go (Ok reply) is = answered_part laws old id kind step of_call (Ok reply) is
    go (Err refusal) is = answered_part laws old id kind step of_call (Err refusal) is

-- ---- links and calls

attached_part : Laws → (old : MachineState) (point : List ℕ) → Part old (attached_once old point) []
attached_part laws old point = unless (link_of old point)
  where
    unless : (link : Option ℕ) → Part old (attached_unless link old point) []
    unless (Some link) = nothing old
    unless None = quiet_step laws old (acts.Attach point) [] tt tt refl refl

confirmed_part : Laws → (old : MachineState) (point : List ℕ) (number : ℕ) (accepted : Bool)
    → Part old (confirmed_by old point number accepted).after []
confirmed_part laws old point number accepted = over (link_of old point)
  where
    over : (link : Option ℕ) → Part old (confirmed_over link old point number accepted).after []
    over (Some link) = quiet_step laws old (acts.Confirm point link number accepted) [] tt tt refl refl
    over None = nothing old

kept_part : Laws → (old : MachineState) (point : List ℕ) (number : ℕ) (judged : Judgement)
    → Part old (verdict_kept old point number judged) []
kept_part laws old point number judged =
    quiet_step laws old (acts.Judge point number judged) [] tt tt refl refl

-- a reply to an audit is judged, once its call is confirmed
judged_part : Laws → (old : MachineState) (point : List ℕ) (number : ℕ) (accepted : Bool)
    (audit : Option AuditRequest) (said : Said)
    → Part old (reply_judged point number audit said (confirmed_by old point number accepted)) []
judged_part laws old point number accepted None said =
    confirmed_part laws old point number accepted
judged_part laws old point number accepted (Some asked) said =
    go (confirmed_by old point number accepted).outcome
  where
    confirmed : MachineState
    confirmed = (confirmed_by old point number accepted).after

    kept : MachineState
    kept = verdict_kept confirmed point number (judged_exactly asked said)

    go : (outcome : Result Reply Refusal) → Part old (if_made outcome kept confirmed) []
    go (Ok reply) =
        join laws old confirmed kept [] [] (confirmed_part laws old point number accepted)
        (kept_part laws confirmed point number (judged_exactly asked said))
    go (Err refusal) = confirmed_part laws old point number accepted

replied_part : Laws → (old : MachineState) (text : texts.Sent) (point : List ℕ) (number : ℕ)
    (accepted : Bool) → Part old (replied_by old text point number accepted).after []
replied_part laws old text point number accepted =
    judged_part laws old point number accepted (audit_job old point number) (said_of text)

no_schedules_sent : (point : List ℕ) (call : Option Call)
    → schedules_printed (call_lines point call) ≡ []
no_schedules_sent point None = refl
no_schedules_sent point (Some call) = refl

all_sent : (point : List ℕ) (link : ℕ) (outcome : Result Reply Refusal)
    → calls_printed (call_lines point (call_sent outcome))
    ≡ calls_replied (events_of (acts.Send point link) outcome)
all_sent point link (Err refusal) = refl
all_sent point link (Ok (Sent call)) = refl
all_sent point link (Ok reply) = refl

sent_part : Laws → (old : MachineState) (point : List ℕ)
    → Part old (sent_first old point).after (call_lines point (sent_first old point).call)
sent_part laws old point = over (link_of old point)
  where
    over : (link : Option ℕ)
        → Part old (sent_over link old point).after
        (call_lines point (sent_over link old point).call)
    over None = nothing old
    over (Some link) =
        let outcome = (stepped_exactly old (acts.Send point link)).outcome in
        one_step laws old (acts.Send point link) (call_lines point (call_sent outcome))
        (no_schedules_sent point (call_sent outcome)
        ∙ no_schedules old.site.unit (acts.Send point link) outcome tt)
        (all_sent point link outcome)

-- ---- messages

abbrev HandledPart : PlayerState → Handled → Type 0
HandledPart old text = Part old.machine text.after.machine text.printed

asked_part : Laws → (old : PlayerState) (text : texts.Sent) (asked : Asked) → AsksByCall asked
    → HandledPart old (asked_handled old text asked)
asked_part laws old text asked.Nothing is = nothing old.machine
asked_part laws old text (asked.Respond id response) is =
    no_step old.machine (lines.Answer id response ∷ []) (ap (λ l. l ++ []) (no_schedule id response is)) refl
asked_part laws old text (asked.Step id kind step) is =
    at_once_part laws old.machine id kind step is
asked_part laws old text (asked.Boot id point moment) is =
    quiet_step laws old.machine (acts.Boot point moment)
    (lines.Answer id (BootNotification moment) ∷ []) tt tt refl refl
asked_part laws old text (asked.Confirm point number accepted) is =
    replied_part laws old.machine text point number accepted

point_part : Laws → (old : PlayerState) (text : texts.Sent)
    → HandledPart old (point_handled old text)
point_part laws old text =
    let linked = attached_once old.machine text.point in
    let handled = asked_handled (with_machine old linked) text (asked_of text) in
    let sending = sent_first handled.after.machine text.point in
    let attach : Part old.machine linked [] = attached_part laws old.machine text.point in
    let answer : Part linked handled.after.machine handled.printed =
    asked_part laws (with_machine old linked) text (asked_of text) (asks_by_call text) in
    let send : Part handled.after.machine sending.after (call_lines text.point sending.call) =
    sent_part laws handled.after.machine text.point in
    join laws old.machine handled.after.machine sending.after
    handled.printed (call_lines text.point sending.call)
    (join laws old.machine linked handled.after.machine [] handled.printed attach answer) send

text_part : Laws → (old : PlayerState) (sender : Side) (text : texts.Sent)
    → HandledPart old (text_handled old sender text)
text_part laws old sides.Operator text =
    asked_part laws old text (asked_of text) (asks_by_call text)
text_part laws old sides.Point text = point_part laws old text

hold_step_part : Laws → (old : PlayerState) (id : List ℕ) (kind : ActionKind) (step : Step)
    → IsOfCall step → HandledPart old (hold_stepped old id kind (stepped_exactly old.machine step))
hold_step_part laws old id kind step of_call = go (stepped_exactly old.machine step).outcome refl
  where
    after : MachineState
    after = (stepped_exactly old.machine step).after

    go : (outcome : Result Reply Refusal) → (stepped_exactly old.machine step).outcome ≡ outcome
        → HandledPart old (hold_answered old id kind outcome after)
    go (Ok (Taken number book ask)) is =
        let quiet = of_call_no_answer step of_call in
        quiet_step laws old.machine step (lines.Held number ∷ []) quiet.0 quiet.1 refl refl
    go (Ok reply) is = answered_part laws old.machine id kind step of_call (Ok reply) is
    go (Err refusal) is = answered_part laws old.machine id kind step of_call (Err refusal) is

hold_part : Laws → (old : PlayerState) (text : texts.Sent) (asked : Asked) → AsksByCall asked
    → HandledPart old (hold_handled old text asked)
hold_part laws old text (asked.Step id kind step) is = hold_step_part laws old id kind step is
hold_part laws old text asked.Nothing is = asked_part laws old text asked.Nothing is
hold_part laws old text (asked.Respond id response) is =
    asked_part laws old text (asked.Respond id response) is
hold_part laws old text (asked.Boot id point moment) is =
    asked_part laws old text (asked.Boot id point moment) is
hold_part laws old text (asked.Confirm point number accepted) is =
    asked_part laws old text (asked.Confirm point number accepted) is

-- ---- lines

abbrev PlayedPart : PlayerState → LineStep → Type 0
PlayedPart old line = Part old.machine line.after.machine line.printed

fault_part : (old : PlayerState) (line : ℕ) (fault : ScriptLineFault)
    → PlayedPart old (fault_played old line fault)
fault_part old line fault = no_step old.machine (lines.Fault line fault ∷ []) refl refl

hold_line_part : Laws → (old : PlayerState) (line : ℕ) (text : texts.Sent) (asks : Bool)
    → PlayedPart old (hold_played old line text (cond asks (Some (asked_of text)) None))
hold_line_part laws old line text true =
    hold_part laws old text (asked_of text) (asks_by_call text)
hold_line_part laws old line text false = fault_part old line _

release_part : Laws → (old : PlayerState) (line number : ℕ) (id : Option (List ℕ))
    → PlayedPart old (release_played old line number id)
release_part laws old line number None = fault_part old line _
release_part laws old line number (Some id) =
    handed_out_part laws old.machine number id kinds.GetCompositeSchedule

said_part : Laws → (old : PlayerState) (line : ℕ) (said : ScriptLine)
    → PlayedPart old (said_played old line said)
said_part laws old line (Text text) = text_part laws old text.sender text
said_part laws old line (Hold text) =
    hold_line_part laws old line text (asks_schedule (message_of_text text.frame))
said_part laws old line (Release number) =
    release_part laws old line number (id_held number old.held)

read_part : Laws → (old : PlayerState) (line : ℕ) (read : Result ScriptLine ScriptLineFault)
    → PlayedPart old (read_played old line read)
read_part laws old line (Ok said) = said_part laws old line said
read_part laws old line (Err fault) = fault_part old line fault

line_part : Laws → (old : PlayerState) (number : ℕ) (line : List ℕ)
    → PlayedPart old (line_played old number line)
line_part laws old number line = by_said (said_on old.machine.site line)
  where
    by_said : (said : Option (Result ScriptLine ScriptLineFault))
        → PlayedPart old (played_as old number said)
    by_said None = nothing old.machine
    by_said (Some read) = read_part laws old number read

-- ---- scripts

lines_part : Laws → (first : MachineState) (before : Played) (lines : List (List ℕ))
    → Part first before.state.machine before.lines
    → Part first (fold played_more before lines).state.machine (fold played_more before lines).lines
lines_part laws first before [] part = part
lines_part laws first before (line ∷ others) part =
    let played_line = line_played before.state before.number line in
    lines_part laws first (played_more before line) others
    (join laws first before.state.machine played_line.after.machine before.lines played_line.printed
    part (line_part laws before.state before.number line))

pub script_part : Laws → (site : SiteState) (script : List ℕ)
    → Part (opening site) (played site script).state.machine (lines_of site script)
unfolding played
script_part laws site script =
    lines_part laws (opening site) (first_played site) (script_lines script)
    (nothing (opening site))
