-- Each step that a CALL asks for is one that the book makes for a session.
use Rattle.std.proofs.Common.{refl}
use Rattle.site_core.specs.declared.step.Step.{Step}
use Rattle.site_core.specs.declared.step.Step.TheVariants as steps
use Rattle.texts.specs.Asked.{IsOfCall}
use Rattle.session.specs.Perform.{IsOfText}

pub of_call : (step : Step) → IsOfCall step → IsOfText step
of_call (steps.Compile number) is = absurd is
of_call (steps.Answer number) is = absurd is
of_call steps.Finish is = absurd is
-- each other step may fold the history
of_call step is = refl
