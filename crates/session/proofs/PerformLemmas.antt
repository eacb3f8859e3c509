-- The result of a step that is neither a Take nor a Confirm.
use Rattle.std.proofs.Common.{◌≢◌, ℕ, List, Bool, refl}
use Rattle.site_core.specs.declared.step.Step.{Step}
use Rattle.site_core.specs.declared.step.Step.TheVariants as steps
use Rattle.site_core.specs.declared.step.Take.{Take}
use Rattle.site_core.specs.declared.reply.Reply.{Reply}
use Rattle.version_store.specs.Passes.{PassState}
use Rattle.version_store.specs.Store.{StoreState}
use Rattle.version_store.specs.Calls.{Calls}
use Rattle.session.specs.declared.outcome.Outcome.TheVariants.{Made}
use Rattle.session.specs.declared.outcome.Performed.TheVariants.{Outcome}
use Rattle.session.specs.Perform.{Performs}

-- it is that of its call on the book
pub performs_call : (old : StoreState) (was : PassState) (step : Step) (reply : Reply)
    (new : StoreState) (pass : PassState)
    → ((take : Take) → step ≢ steps.Take take)
    → ((point : List ℕ) (link call : ℕ) (accepted : Bool)
    → step ≢ steps.Confirm point link call accepted)
    → Calls old was step reply new pass
    → Performs old was step (Outcome (Made reply)) new pass
performs_call old was (steps.Take take) reply new pass no_take no_confirm calls =
    absurd (no_take take refl)
performs_call old was (steps.Confirm point link call accepted) reply new pass no_take no_confirm
    calls =
    absurd (no_confirm point link call accepted refl)
performs_call old was step reply new pass no_take no_confirm calls = calls
