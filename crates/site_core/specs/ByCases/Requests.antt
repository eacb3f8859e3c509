-- The effect of a call on the kept requests, by the request of its number. Only private clauses use
-- this.
use Rattle.std.specs.Prelude.{◌≡◌, ℕ, Bool, true, false, List, Option, Some, None, is_some, Result, Ok, Err, if◌then◌else◌}
use Rattle.ocpp_scalars.specs.declared.refusal.Refusal.{Refusal}
use Rattle.ocpp_scalars.specs.declared.refusal.Refusal.TheVariants.{UnknownRequest, AlreadyAnswered}
use Rattle.sweep_compiler.specs.Compiled.{CompiledAnswer}
use Rattle.site_core.specs.declared.reply.Reply.{Reply}
use Rattle.site_core.specs.declared.reply.Reply.TheVariants.{Answered, NotYet}
use Rattle.site_core.specs.State.{Kept, ScheduleAnswer}
use Rattle.site_core.specs.Right.{IsCompiledFor}
use Rattle.site_core.specs.Requests.{request_of, answered, without}
use Rattle.site_core.specs.Post.{IsFor}

-- the reason why the request of a number isn't compiled
abbrev pub refusal_to_compile : Option Kept → Option Refusal
refusal_to_compile None = Some UnknownRequest
refusal_to_compile (Some kept) = if is_some kept.answer then Some AlreadyAnswered else None

-- the request of a number had no answer, and now has one that a compiler may give for it
pub record IsCompiledIn (number : ℕ) (old new : List Kept) : Type 0 where
  pub kept : Kept
  pub is_kept : request_of number old ≡ Some kept
  pub had_none : is_some kept.answer ≡ false
  pub answer : ScheduleAnswer
  pub right : IsCompiledFor kept.book kept.ask answer
  pub now : new ≡ answered number answer old

-- a brought answer may be posted for a request that has none, if it is for that request
pub record MayBePosted (kept : Kept) (brought : CompiledAnswer) : Type 0 where
  pub had_none : is_some kept.answer ≡ false
  pub fits : IsFor kept brought

-- the request of a number had no answer, and now has the brought one, which is right for it
pub record IsPostedIn (number : ℕ) (brought : CompiledAnswer) (old new : List Kept) : Type 0 where
  pub kept : Kept
  pub is_kept : request_of number old ≡ Some kept
  pub had_none : is_some kept.answer ≡ false
  pub fits : IsFor kept brought
  pub right : IsCompiledFor kept.book kept.ask brought.answer
  pub now : new ≡ answered number brought.answer old

-- the reply to an Answer, and the requests that are kept after it
abbrev pub handed_with : Kept → Option ScheduleAnswer → List Kept → Reply × List Kept
handed_with kept None requests = (NotYet, requests)
handed_with kept (Some answer) requests =
    (Answered kept.book kept.ask answer, without kept.number requests)

abbrev pub handed_kept : Option Kept → List Kept → Result (Reply × List Kept) Refusal
handed_kept None requests = Err UnknownRequest
handed_kept (Some kept) requests = Ok (handed_with kept kept.answer requests)

abbrev pub handed_out : ℕ → List Kept → Result (Reply × List Kept) Refusal
handed_out number requests = handed_kept (request_of number requests) requests

-- the outlooks of compiling a request and of handing out its answer: whether that is an event, or
-- the refusal
abbrev pub compile_outlook : Option Kept → Result Bool Refusal
compile_outlook None = Err UnknownRequest
compile_outlook (Some kept) = if is_some kept.answer then Err AlreadyAnswered else Ok true

abbrev pub hand_out_outlook : Option Kept → Result Bool Refusal
hand_out_outlook None = Err UnknownRequest
hand_out_outlook (Some kept) = Ok (is_some kept.answer)
