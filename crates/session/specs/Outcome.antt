-- The outcome of a session's step.
use Rattle.std.specs.Prelude.{Result, Ok, Err}
use Rattle.ocpp_scalars.specs.declared.refusal.Refusal.{Refusal}
use Rattle.site_core.specs.declared.reply.Reply.{Reply}
use Rattle.site_core.specs.declared.reply.Reply.TheVariants as replies
use Rattle.session.specs.declared.outcome.Outcome.{Outcome}
use Rattle.session.specs.declared.outcome.Outcome.TheVariants.{Made, Answered, Refused}

-- as the central system's reply or refusal: a collected answer is the reply that hands it out
abbrev pub result_of : Outcome → Result Reply Refusal
result_of (Made reply) = Ok reply
result_of (Answered handed) = Ok (replies.Answered handed.book handed.ask handed.answer)
result_of (Refused refusal) = Err refusal
