-- The result of the one call on the book that makes a step of a session.
use Rattle.std.specs.Prelude.{◌≡◌, true}
use Rattle.site_core.specs.declared.step.Step.{Step}
use Rattle.site_core.specs.declared.step.Step.TheVariants as steps
use Rattle.site_core.specs.declared.reply.Reply.TheVariants.{Taken}
use Rattle.version_store.specs.Passes.{PassState}
use Rattle.version_store.specs.Store.{StoreState, may_fold}
use Rattle.version_store.specs.Calls.{Calls, Makes, IsRefusalOf}
use Rattle.session.specs.declared.outcome.Performed.{Performed}
use Rattle.session.specs.declared.outcome.Performed.TheVariants.{Job, Outcome}
use Rattle.session.specs.declared.outcome.Outcome.TheVariants.{Made, Answered, Refused}

-- the steps that a message may ask for: neither those of workers, nor the end
abbrev pub IsOfText : Step → Type 0
IsOfText step = may_fold step ≡ true

-- a request for a schedule has seen the changes that its session has
abbrev pub seen_by : PassState → Step → Step
seen_by was (steps.Take take) = steps.Take (record take { seen = was.seen })
seen_by was step = step

-- A Take gives the job of the request that is kept, and no reply. Any other step gives the reply of
-- its call on the book. A refused step changes nothing. A Confirm doesn't change the counters of a
-- pass.
abbrev pub Performs : StoreState → PassState → Step → Performed → StoreState → PassState → Type 0
Performs old was step (Job job) new pass =
    Calls old was (seen_by was step) (Taken job.number job.book job.ask) new pass
Performs old was (steps.Take take) (Outcome (Made reply)) new pass = ⊥
Performs old was (steps.Confirm point link call accepted) (Outcome (Made reply)) new pass =
    Makes old (steps.Confirm point link call accepted) reply new × (pass ≡ was)
Performs old was step (Outcome (Made reply)) new pass =
    Calls old was (seen_by was step) reply new pass
Performs old was step (Outcome (Answered handed)) new pass = ⊥
Performs old was step (Outcome (Refused refusal)) new pass =
    IsRefusalOf old (seen_by was step) refusal × (new ≡ old) × (pass ≡ was)
