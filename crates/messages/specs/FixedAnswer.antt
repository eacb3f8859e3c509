-- Answers that depend neither on the fields of the action nor on the state of the site (OCPP 1.6,
-- chapter 6).
use Rattle.std.specs.Prelude.{ℕ}
use Rattle.messages.specs.declared.response.Response.{Response}
use Rattle.messages.specs.declared.response.Response.TheVariants as responses
use Rattle.messages.specs.declared.fixed_answer.FixedAnswer.{FixedAnswer}
use Rattle.messages.specs.declared.fixed_answer.FixedAnswer.TheVariants.{BootNotification, Heartbeat, Authorize, Empty, UnknownVendorId}

-- the response at a moment
abbrev pub fixed_response : FixedAnswer → ℕ → Response
fixed_response BootNotification now = responses.BootNotification now
fixed_response Heartbeat now = responses.Heartbeat now
fixed_response Authorize now = responses.Authorize
fixed_response Empty now = responses.Empty
fixed_response UnknownVendorId now = responses.UnknownVendorId
