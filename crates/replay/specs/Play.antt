-- The output of a line of a script, and the state after it.
use Rattle.std.specs.Prelude.{ℕ, ◌≡◌, ◌==◌, Bool, true, false, if◌then◌else◌, List, [], ◌∷◌, ◌++◌, length, Option, Some, None, Result, Ok, Err}
use Rattle.ocpp_scalars.specs.declared.refusal.Refusal.{Refusal}
use Rattle.profile.specs.declared.unit.Unit.{Unit}
use Rattle.messages.specs.declared.action_kind.ActionKind.{ActionKind}
use Rattle.messages.specs.declared.action_kind.ActionKind.TheVariants.{GetCompositeSchedule}
use Rattle.messages.specs.declared.response.Response.{Response}
use Rattle.messages.specs.declared.response.Response.TheVariants.{BootNotification}
use Rattle.messages.specs.declared.call.Call.{Call}
use Rattle.messages.specs.declared.side.Side.{Side}
use Rattle.messages.specs.declared.side.Side.TheVariants as sides
use Rattle.site_core.specs.declared.step.Step.TheVariants as steps
use Rattle.site_core.specs.declared.reply.Reply.{Reply}
use Rattle.site_core.specs.declared.reply.Reply.TheVariants.{Taken}
use Rattle.site_core.specs.State.{MachineState}
use Rattle.site_rules.specs.Site.{SiteState}
use Rattle.replay.specs.declared.script.line.ScriptLineFault.{ScriptLineFault}
use Rattle.replay.specs.declared.script.line.ScriptLineFault.TheVariants.{NotComposite, UnknownRequest}
use Rattle.replay.specs.declared.script.line.ScriptLine.{ScriptLine}
use Rattle.replay.specs.declared.script.line.ScriptLine.TheVariants.{Text, Hold, Release}
use Rattle.replay.specs.declared.script.point_change.PointChange.{PointChange}
use Rattle.replay.specs.declared.script.point_change.PointChange.TheVariants.{Nothing}
use Rattle.replay.specs.declared.script.played_line.LineOutcome.{LineOutcome}
use Rattle.texts.specs.declared.asked.Asked.{Asked}
use Rattle.texts.specs.declared.asked.Asked.TheVariants as asked
use Rattle.replay.specs.Held.{id_held, remove_held}
use Rattle.replay.specs.Player.{PlayerState, with_machine}
use Rattle.texts.specs.SentText as texts
use Rattle.replay.specs.MachineSteps.{Stepped, Sending, stepped_exactly, handed_out, stepped_at_once, attached_once, sent_first, replied_by}
use Rattle.texts.specs.Asked.{asked_of, hold_of}
use Rattle.texts.specs.Response.{response_of}
use Rattle.replay.specs.Line.{line_of}
use Rattle.replay.specs.PrintedLine.{PrintedLine}
use Rattle.replay.specs.PointChange.{change_of}
use Rattle.replay.specs.declared.script.printed_line.PrintedLine.TheVariants as lines

-- ---- what is printed

-- the answer to the CALL of this id, if there is one
abbrev pub answer_if : List ℕ → Option Response → List PrintedLine
answer_if id None = []
answer_if id (Some response) = lines.Answer id response ∷ []

-- the answer to the CALL of this id, on a site of this unit
abbrev pub outcome_lines : Unit → List ℕ → ActionKind → Result Reply Refusal → List PrintedLine
outcome_lines unit id kind outcome = answer_if id (response_of unit kind outcome)

-- the call that goes out to a point, if there is one
abbrev pub call_lines : List ℕ → Option Call → List PrintedLine
call_lines point None = []
call_lines point (Some call) = lines.Call point call ∷ []

-- ---- messages

-- the output, the message's change at its point, and the state after it
pub record Handled : Type 0 where
  pub printed : List PrintedLine
  pub change : PointChange
  pub after : PlayerState

abbrev pub answered : PlayerState → List ℕ → ActionKind → Stepped → Handled
answered old id kind step = record {
  printed = outcome_lines old.machine.site.unit id kind step.outcome;
  change = change_of step.outcome;
  after = record old { machine = step.after };
}

-- a reply to a call isn't answered
abbrev pub replied : PlayerState → Stepped → Handled
replied old step = record {
  printed = [];
  change = change_of step.outcome;
  after = with_machine old step.after;
}

-- A message is answered at once, by its request. The answer to a BootNotification doesn't depend on
-- its step.
abbrev pub asked_handled : PlayerState → texts.Sent → Asked → Handled
asked_handled old text asked.Nothing = record { printed = []; change = Nothing; after = old }
asked_handled old text (asked.Respond id response) =
    record { printed = lines.Answer id response ∷ []; change = Nothing; after = old }
asked_handled old text (asked.Step id kind step) =
    answered old id kind (stepped_at_once old.machine step)
asked_handled old text (asked.Boot id point moment) = record {
  printed = lines.Answer id (BootNotification moment) ∷ [];
  change = Nothing;
  after = with_machine old (stepped_exactly old.machine (steps.Boot point moment)).after;
}
asked_handled old text (asked.Confirm point number accepted) =
    replied old (replied_by old.machine text point number accepted)

-- ---- messages of points

-- after the output comes the call that goes out now
abbrev pub call_handled : Handled → List ℕ → Sending → Handled
call_handled text point sending = record {
  printed = text.printed ++ call_lines point sending.call;
  change = text.change;
  after = with_machine text.after sending.after;
}

abbrev pub with_call : List ℕ → Handled → Handled
with_call point text = call_handled text point (sent_first text.after.machine point)

-- the message of a point, which then has a link: its answer, and then a Send step
abbrev pub point_handled : PlayerState → texts.Sent → Handled
point_handled old text =
    with_call text.point
    (asked_handled (with_machine old (attached_once old.machine text.point)) text (asked_of text))

-- a message by its sender
abbrev pub text_handled : PlayerState → Side → texts.Sent → Handled
text_handled old sides.Operator text = asked_handled old text (asked_of text)
text_handled old sides.Point text = point_handled old text

-- ---- held requests

abbrev pub with_held : PlayerState → MachineState → ℕ → List ℕ → PlayerState
with_held old taken number id = record {
  machine = taken;
  held = old.held ++ (record { number = number; id = id }) ∷ [];
}

-- a request that is taken is held, and any other outcome is answered
abbrev pub hold_answered : PlayerState → List ℕ → ActionKind → Result Reply Refusal → MachineState
    → Handled
hold_answered old id kind (Ok (Taken number book ask)) taken = record {
  printed = lines.Held number ∷ [];
  change = Nothing;
  after = with_held old taken number id;
}
hold_answered old id kind outcome after =
    answered old id kind (record { outcome = outcome; after = after })

abbrev pub hold_stepped : PlayerState → List ℕ → ActionKind → Stepped → Handled
hold_stepped old id kind step = hold_answered old id kind step.outcome step.after

abbrev pub hold_handled : PlayerState → texts.Sent → Asked → Handled
hold_handled old text (asked.Step id kind step) =
    hold_stepped old id kind (stepped_exactly old.machine step)
hold_handled old text other = asked_handled old text other

-- the request of this number is answered and released
abbrev pub release_handled : PlayerState → ℕ → List ℕ → Handled
release_handled old number id =
    answered (record old { held = remove_held number old.held }) id GetCompositeSchedule
    (handed_out old.machine number)

-- ---- lines

-- the output of a line, whether it has a fault, its change at its point, and the state after it
pub record LineStep : Type 0 where
  pub printed : List PrintedLine
  pub is_fault : Bool
  pub change : PointChange
  pub after : PlayerState

abbrev pub text_played : Handled → LineStep
text_played text = record {
  printed = text.printed;
  is_fault = false;
  change = text.change;
  after = text.after;
}

abbrev pub fault_played : PlayerState → ℕ → ScriptLineFault → LineStep
fault_played old line fault = record {
  printed = lines.Fault line fault ∷ [];
  is_fault = true;
  change = Nothing;
  after = old;
}

abbrev pub hold_played : PlayerState → ℕ → texts.Sent → Option Asked → LineStep
hold_played old line text None = fault_played old line NotComposite
hold_played old line text (Some asked) = text_played (hold_handled old text asked)

abbrev pub release_played : PlayerState → ℕ → ℕ → Option (List ℕ) → LineStep
release_played old line number None = fault_played old line UnknownRequest
release_played old line number (Some id) = text_played (release_handled old number id)

-- the outcome of the line of this number in its script
abbrev pub said_played : PlayerState → ℕ → ScriptLine → LineStep
said_played old line (Text text) = text_played (text_handled old text.sender text)
said_played old line (Hold text) = hold_played old line text (hold_of text)
said_played old line (Release number) = release_played old line number (id_held number old.held)

abbrev pub read_played : PlayerState → ℕ → Result ScriptLine ScriptLineFault → LineStep
read_played old line (Ok said) = said_played old line said
read_played old line (Err fault) = fault_played old line fault

-- the contents of a line on a site, or its fault; an empty line has no contents
abbrev pub said_on : SiteState → List ℕ → Option (Result ScriptLine ScriptLineFault)
said_on site line = if length line == 0 then None else Some (line_of site line)

-- an empty line prints nothing
abbrev pub played_as : PlayerState → ℕ → Option (Result ScriptLine ScriptLineFault) → LineStep
played_as old number None = record { printed = []; is_fault = false; change = Nothing; after = old }
played_as old number (Some read) = read_played old number read

abbrev pub line_played : PlayerState → ℕ → List ℕ → LineStep
line_played old number line = played_as old number (said_on old.machine.site line)

-- a line led to this outcome, whatever it printed
pub record LeadsTo (line : LineStep) (outcome : LineOutcome) (new : PlayerState) : Type 0 where
  pub is_fault : line.is_fault ≡ outcome.is_fault
  pub change : line.change ≡ outcome.change
  pub after : line.after ≡ new

-- a line was played with this outcome
pub record IsPlayed (line : LineStep) (outcome : LineOutcome) (new : PlayerState) : Type 0 where
  pub printed : line.printed ≡ outcome.printed.items
  pub led : LeadsTo line outcome new

-- a message was handled with this outcome
abbrev pub IsHandled : Handled → LineOutcome → PlayerState → Type 0
IsHandled text outcome new = IsPlayed (text_played text) outcome new
