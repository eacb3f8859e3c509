-- A script is a run of the central system, whose replies are the output.
use Rattle.std.specs.Prelude.{ℕ, ◌≡◌, Bool, if◌then◌else◌, Some, Ok}
use Rattle.std.specs.Prelude.{List, [], ◌∷◌, ◌++◌, take, slice_get}
use Rattle.std.specs.List.{flat_map, AllByRecursion}
use Rattle.profile.specs.declared.row.Row.{Row}
use Rattle.profile.specs.declared.unit.Unit.{Unit}
use Rattle.meaning.specs.declared.ask.Ask.{Ask}
use Rattle.meaning.specs.Composite.{CompositeSchedule}
use Rattle.messages.specs.declared.call.Call.{Call}
use Rattle.messages.specs.declared.response.ScheduleResponse.{ScheduleResponse}
use Rattle.messages.specs.declared.response.Response.TheVariants as responses
use Rattle.site_rules.specs.Site.{SiteState, place_of}
use Rattle.point_book.specs.Book.{BookState}
use Rattle.site_core.specs.declared.step.Step.{Step}
use Rattle.site_core.specs.declared.step.Step.TheVariants.{Answer, Send}
use Rattle.site_core.specs.declared.reply.Reply.{Reply}
use Rattle.site_core.specs.declared.reply.Reply.TheVariants.{Answered, Sent}
use Rattle.site_core.specs.declared.outcome.Outcome.{Outcome}
use Rattle.site_core.specs.declared.outcome.Outcome.TheVariants.{Done}
use Rattle.site_core.specs.State.{opening, book_at}
use Rattle.site_core.specs.Run.{Runs}
use Rattle.site_core.specs.History.{Event, history_of}
use Rattle.site_core.specs.Headline.{IsRightAfter}
use Rattle.site_core.specs.OutboxOrder.{AreInSendingOrder}
use Rattle.site_core.specs.Obey.{Obeying, numbers_of, last_number, obeyed, AreInStepBut}
use Rattle.site_core.specs.ObeyOrder.{obeyed_numbers, IsObeyed}
use Rattle.site_core.specs.CallOrder.{is_at, calls_sent, numbers_of_calls, calls_confirmed_at}
use Rattle.site_core.specs.CallOrder.{bodies_of, exempt_at, Moment}
use Rattle.replay.specs.PrintedLine.{PrintedLine}
use Rattle.replay.specs.declared.script.printed_line.PrintedLine.TheVariants as printed
use Rattle.replay.specs.Run.{played, lines_of}

-- ---- schedules

-- the schedule that a line prints, if it answers a CALL with one
abbrev pub schedules_on : PrintedLine → List ScheduleResponse
schedules_on (printed.Answer id (responses.Schedule response)) = response ∷ []
schedules_on line = []

-- the schedules that are printed, in the order of their lines
abbrev pub schedules_printed : List PrintedLine → List ScheduleResponse
schedules_printed lines = flat_map schedules_on lines

-- a schedule as the answer to a request, on a site with limits in this unit
abbrev pub response_of_schedule : Unit → Ask → CompositeSchedule → ScheduleResponse
response_of_schedule unit ask schedule =
    record { connector = ask.connector; start = ask.start; unit = unit; schedule = schedule }

-- the schedule that an Answer hands out, if it does
abbrev pub schedules_by : Unit → Step → Reply → List ScheduleResponse
schedules_by unit (Answer number) (Answered book ask (Ok schedule)) =
    response_of_schedule unit ask schedule ∷ []
schedules_by unit step reply = []

abbrev pub schedules_by_event : Unit → Event → List ScheduleResponse
schedules_by_event unit event = schedules_by unit event.step event.reply

-- the schedules that Answers hand out, in the order of the Answers
abbrev pub schedules_answered : Unit → List Event → List ScheduleResponse
schedules_answered unit history = flat_map (schedules_by_event unit) history

-- ---- calls

-- the call that a line prints, if any, with the identity of its point
abbrev pub calls_on : PrintedLine → List (List ℕ × Call)
calls_on (printed.Call point sent) = (point, sent) ∷ []
calls_on line = []

-- the calls that are printed, in the order of their lines
abbrev pub calls_printed : List PrintedLine → List (List ℕ × Call)
calls_printed lines = flat_map calls_on lines

-- the call that a Send sends, if any, with the identity of the point that it names
abbrev pub calls_of_step : Step → Reply → List (List ℕ × Call)
calls_of_step (Send point link) (Sent sent) = (point, sent) ∷ []
calls_of_step step reply = []

abbrev pub calls_of_event : Event → List (List ℕ × Call)
calls_of_event event = calls_of_step event.step event.reply

-- the calls that Sends send, in the order of the Sends
abbrev pub calls_replied : List Event → List (List ℕ × Call)
calls_replied history = flat_map calls_of_event history

-- the call that a line prints, if it goes to the point at a place
abbrev pub calls_to : SiteState → ℕ → PrintedLine → List Call
calls_to site place (printed.Call point sent) = if is_at site place point then sent ∷ [] else []
calls_to site place line = []

-- the calls that are printed for the point at a place, in the order of their lines
abbrev pub calls_printed_to : SiteState → ℕ → List PrintedLine → List Call
calls_printed_to site place lines = flat_map (calls_to site place) lines

-- ---- the run

-- A script on a site is a run of the central system:
pub record ScriptRun (site : SiteState) (script : List ℕ) : Type 0 where
  -- there are steps,
  pub steps : List Step
  -- and the outcome of each,
  pub outcomes : List Outcome
  -- which lead from the opening state to the one at the script's end.
  pub run : Runs (opening site) steps outcomes (played site script).state.machine
  -- The schedules that are printed are those that its Answers handed out: all of them, in the same
  -- order.
  pub schedules :
      schedules_printed (lines_of site script)
      ≡ schedules_answered site.unit (history_of steps outcomes)
  -- The calls that are printed, each with its point, are those that its Sends sent: all of them, in
  -- the same order.
  pub calls : calls_printed (lines_of site script) ≡ calls_replied (history_of steps outcomes)
  -- So are those that are printed for one point, the one at a place of the site file.
  pub calls_to_place :
      (place : ℕ)
      → calls_printed_to site place (lines_of site script)
      ≡ calls_sent site place (history_of steps outcomes)

-- the events of a run of a script
abbrev pub history_of_run : (site : SiteState) (script : List ℕ) → ScriptRun site script
    → List Event
history_of_run site script run = history_of run.steps run.outcomes

-- ---- facts about the output

-- A schedule that is printed after these lines is right for the state of its point when it was
-- requested:
pub record IsPrintedRight (site : SiteState) (script : List ℕ) (run : ScriptRun site script)
    (earlier : List PrintedLine) (response : ScheduleResponse) : Type 0 where
  -- at a position of the run
  pub position : ℕ
  -- there is an Answer of a number,
  pub number : ℕ
  pub answers : slice_get run.steps position ≡ Some (Answer number)
  -- which handed out a schedule, with a book and an `Ask`,
  pub book : BookState
  pub ask : Ask
  pub schedule : CompositeSchedule
  pub handed :
      slice_get run.outcomes position ≡ Some (Done (Answered book ask (Ok schedule)))
  -- and the output has that schedule, for that `Ask`.
  pub is : response ≡ response_of_schedule site.unit ask schedule
  -- The Answers before it handed out the schedules that are printed before.
  pub before :
      schedules_printed earlier
      ≡ schedules_answered site.unit
      (history_of (take position run.steps) (take position run.outcomes))
  -- The schedule is right after the steps that were made before the Answer.
  pub right :
      IsRightAfter (opening site)
      (history_of (take position run.steps) (take position run.outcomes))
      number book ask (Ok schedule)

-- each schedule that is printed, wherever, is right
abbrev pub PrintedSchedulesAreRight : (site : SiteState) (script : List ℕ) → ScriptRun site script
    → Type 0
PrintedSchedulesAreRight site script run =
    (earlier later : List PrintedLine) (id : List ℕ) (response : ScheduleResponse)
    → lines_of site script ≡ earlier ++ printed.Answer id (responses.Schedule response) ∷ later
    → IsPrintedRight site script run earlier response

-- the calls that are printed for a point are in the order of sending
abbrev pub PrintedCallsAreInOrder : SiteState → List ℕ → Type 0
PrintedCallsAreInOrder site script =
    (point : List ℕ) (place : ℕ) → place_of site point ≡ Some place
    → AreInSendingOrder (numbers_of_calls (calls_printed_to site place (lines_of site script)))

-- the numbers of the calls that the point at a place obeys: for each call that is printed for it in
-- turn, `are_obeyed` says whether the point does
abbrev pub printed_numbers_obeyed : SiteState → List ℕ → ℕ → List Bool → List ℕ
printed_numbers_obeyed site script place are_obeyed =
    obeyed_numbers are_obeyed
    (numbers_of_calls (calls_printed_to site place (lines_of site script)))

-- A point obeys the calls that are printed for it, in the order of the lines. Any of them may be
-- lost, but it obeys each confirmed call at least once. Its lasting rows are then those that the
-- central system had for it at a moment of the last call that it obeyed, but for the ids that were
-- exempt at that moment.
abbrev pub PrintedCallsKeepPointsInStep : (site : SiteState) (script : List ℕ)
    → ScriptRun site script → Type 0
PrintedCallsKeepPointsInStep site script run =
    (point : List ℕ) (place : ℕ) → place_of site point ≡ Some place
    → (are_obeyed : List Bool)
    → AllByRecursion (IsObeyed (printed_numbers_obeyed site script place are_obeyed))
    (calls_confirmed_at site place (history_of_run site script run))
    → (first : Obeying) (others : List Obeying) (rows : List Row)
    → numbers_of (first ∷ others) ≡ printed_numbers_obeyed site script place are_obeyed
    → (moment : Moment (opening site) (history_of_run site script run)
    (played site script).state.machine place (last_number first.number others))
    → AreInStepBut (exempt_at site place moment.earlier)
    (obeyed (bodies_of site place (history_of_run site script run)) (first ∷ others) rows)
    (book_at moment.state place).rows
