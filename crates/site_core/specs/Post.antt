-- Post (OCPP 1.6, 5.7): a Compile with an answer that was compiled elsewhere.
use Rattle.std.specs.Prelude.{ℕ, ◌≡◌, true, false, Option, Some, None, is_some, Ok}
use Rattle.ocpp_scalars.specs.declared.refusal.Refusal.{Refusal}
use Rattle.ocpp_scalars.specs.declared.refusal.Refusal.TheVariants.{UnknownRequest, AlreadyAnswered, StrangerInput}
use Rattle.sweep_compiler.specs.Compiled.{CompiledAnswer}
use Rattle.site_core.specs.declared.reply.Reply.TheVariants.{Compiled}
use Rattle.site_core.specs.State.{MachineState, Kept}
use Rattle.site_core.specs.Right.{IsCompiledFor}
use Rattle.site_core.specs.Requests.{request_of}
use Rattle.site_core.specs.Step.{compiles}

-- the brought answer is this request's: for its book and its `Ask`
pub record IsFor (kept : Kept) (brought : CompiledAnswer) : Type 0 where
  pub book : brought.book ≡ kept.book
  pub ask : brought.ask ≡ kept.ask

-- The answer is posted: it is the request's own, it is right, and the request is compiled with it.
pub record Posts (old : MachineState) (number : ℕ) (brought : CompiledAnswer) (new : MachineState)
    : Type 0 where
  pub kept : Kept
  pub is_kept : request_of number old.requests ≡ Some kept
  pub fits : IsFor kept brought
  pub right : IsCompiledFor kept.book kept.ask brought.answer
  pub made : compiles old number brought.answer ≡ Ok (record { reply = Compiled; after = new })

-- the reason why it isn't posted: the request has an answer already, or else the brought one is
-- another request's
abbrev pub IsRefusedFor : Kept → CompiledAnswer → Refusal → Type 0
IsRefusedFor kept brought AlreadyAnswered = is_some kept.answer ≡ true
IsRefusedFor kept brought StrangerInput = (is_some kept.answer ≡ false) × (¬ IsFor kept brought)
IsRefusedFor kept brought refusal = ⊥

-- the same, or first of all that no request of the number is kept
abbrev pub IsRefusedPost : Option Kept → CompiledAnswer → Refusal → Type 0
IsRefusedPost None brought refusal = refusal ≡ UnknownRequest
IsRefusedPost (Some kept) brought refusal = IsRefusedFor kept brought refusal
