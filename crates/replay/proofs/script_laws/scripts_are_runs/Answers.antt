-- By the run that the lines of a script are, and the laws of runs and of histories.
use Rattle.std.proofs.Common.{List, sym, ap, ◌∙◌, subst}
use Rattle.std.specs.List.{AllByRecursion}
use Rattle.messages.specs.declared.call.Call.{Call}
use Rattle.site_core.specs.State.{opening, no_numbers}
use Rattle.site_core.specs.OutboxOrder.{AreInSendingOrder}
use Rattle.site_core.specs.ObeyOrder.{obeyed_numbers, IsObeyed}
use Rattle.site_core.specs.CallOrder.{numbers_of_calls, calls_confirmed_at}
use Rattle.replay.specs.Run.{played}
use Rattle.replay.specs.ScriptRun.{history_of_run}
use Rattle.replay.proofs.ScriptRunLemmas.{Laws}
use Rattle.replay.proofs.PrintedLemmas.{printed_right, script_run}
use Rattle.replay.proofs.script_laws.scripts_are_runs.Goals as goal

pub returns-clause-runs : goal.returns-clause-runs
returns-clause-runs c = script_run (record {
  join = c.runs_join.ensures;
  site = c.runs_keep_the_site.ensures;
  answer = c.exact_schedules.ensures.answer;
  too_long = c.exact_schedules.ensures.too_long;
  own = c.replies_are_their_steps.ensures.own;
})

pub returns-clause-right : goal.returns-clause-right
returns-clause-right c = λ site script run.
    printed_right site script run
    (c.answered_schedules_are_right.ensures site no_numbers run.steps run.outcomes
    (played site script).state.machine run.run)

pub returns-clause-order : goal.returns-clause-order
returns-clause-order c = λ site script point place here.
    let laws : Laws = record {
      join = c.runs_join.ensures;
      site = c.runs_keep_the_site.ensures;
      answer = c.exact_schedules.ensures.answer;
      too_long = c.exact_schedules.ensures.too_long;
      own = c.replies_are_their_steps.ensures.own;
    } in
    let run = script_run laws site script in
    let state = (played site script).state.machine in
    subst (λ (calls : List Call). AreInSendingOrder (numbers_of_calls calls))
    (sym (run.calls_to_place place))
    (c.histories_send_calls_in_order.ensures.order site no_numbers
    (history_of_run site script run) state
    (c.runs_are_legal.ensures (opening site) state run.steps run.outcomes run.run)
    point place here)

pub returns-clause-obeying : goal.returns-clause-obeying
returns-clause-obeying c =
    λ site script run point place here are_obeyed confirmed first others rows numbers moment.
    let history = history_of_run site script run in
    let state = (played site script).state.machine in
    c.histories_keep_points_in_step.ensures.obeying site no_numbers history state
    (c.runs_are_legal.ensures (opening site) state run.steps run.outcomes run.run)
    point place here are_obeyed
    (subst (λ (calls : List Call).
    AllByRecursion (IsObeyed (obeyed_numbers are_obeyed (numbers_of_calls calls)))
    (calls_confirmed_at site place history)) (run.calls_to_place place) confirmed)
    first others rows
    (numbers ∙ ap (λ (calls : List Call). obeyed_numbers are_obeyed (numbers_of_calls calls))
    (run.calls_to_place place))
    moment
