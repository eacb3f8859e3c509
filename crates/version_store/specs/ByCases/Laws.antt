-- The laws of the machine that the proofs of the stored history use. Only private clauses cite
-- them.
use Rattle.std.specs.Prelude.{◌≡◌, false}
use Rattle.site_core.specs.declared.step.Step.{Step}
use Rattle.site_core.specs.declared.reply.Reply.{Reply}
use Rattle.site_core.specs.State.{MachineState}
use Rattle.site_core.specs.Step.{Steps, is_event, RepliesAreTheirSteps, OnlyEventsWantMemory}
use Rattle.site_core.specs.StoredHistory.{ReplaysAreLegal, ReplaysGoOn}
use Rattle.site_core.specs.Audits.{AuditsHaveTheirBooks, VerdictsStayRight}
use Rattle.site_core.specs.Counts.{NumbersTellOfHistories}
use Rattle.site_core.specs.Headline.{OpeningsKeepRight, RequestsStayRight, RequestsHaveTheirBooks, StoppedRequestsStayAnswered}

pub record Laws : Type 0 where
  pub legal : ReplaysAreLegal
  pub more : ReplaysGoOn
  pub numbers : NumbersTellOfHistories
  pub opening : OpeningsKeepRight
  pub stay : RequestsStayRight
  pub books : RequestsHaveTheirBooks
  pub answered : StoppedRequestsStayAnswered
  pub audits : AuditsHaveTheirBooks
  pub verdicts : VerdictsStayRight
  -- answers without an event change nothing
  pub changes : (old new : MachineState) (step : Step) (reply : Reply)
      → Steps old step reply new → is_event old reply ≡ false → new ≡ old
  pub own : RepliesAreTheirSteps
  pub memory : OnlyEventsWantMemory
