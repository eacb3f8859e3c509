-- A message requests no compile, and its answer without a step has no schedule.
use Rattle.std.proofs.Common.{◌≡◌, ℕ, List, [], false, Some, subst, sym, refl}
use Rattle.messages.specs.declared.response.Response.{Response}
use Rattle.messages.specs.declared.response.Response.TheVariants as responses
use Rattle.site_core.specs.declared.step.Step.{Step}
use Rattle.site_core.specs.declared.step.Step.TheVariants as acts
use Rattle.texts.specs.declared.asked.Asked.{Asked}
use Rattle.texts.specs.declared.asked.Asked.TheVariants as asks
use Rattle.texts.specs.SentText.{Sent}
use Rattle.texts.specs.Asked.{asked_of, hold_of, IsOfCall, is_schedule, AsksByCall}
use Rattle.texts.specs.Theory.Asked.{asks_by_call, hold_asks_by_call}
use Rattle.replay.specs.declared.script.printed_line.PrintedLine.TheVariants as lines
use Rattle.replay.specs.ScriptRun.{schedules_on}
use Rattle.replay.specs.ByCases.MachineSteps.{IsAsked}
use Rattle.replay.specs.ByCases.Asked.{AsksNoCompile}

pub no_schedule : (id : List ℕ) (response : Response) → is_schedule response ≡ false
    → schedules_on (lines.Answer id response) ≡ []
no_schedule id (responses.Schedule schedule) is = absurd (cc)
no_schedule id response is = refl

no_compile_step : (step : Step) → IsOfCall step → IsAsked step
no_compile_step (acts.Compile number) never = absurd never
no_compile_step step is = tt

no_compile : (asked : Asked) → AsksByCall asked → AsksNoCompile asked
no_compile (asks.Step id kind step) is = no_compile_step step is
no_compile other is = tt

pub asks_no_compile : (text : Sent) (asked : Asked) → asked ≡ asked_of text → AsksNoCompile asked
asks_no_compile text asked is = no_compile asked (subst AsksByCall (sym is) (asks_by_call text))

pub hold_asks_no_compile : (text : Sent) (asked : Asked) → Some asked ≡ hold_of text
    → AsksNoCompile asked
hold_asks_no_compile text asked is = no_compile asked (hold_asks_by_call text asked is)
