-- The results of a session's request: the job to compile, and the answer.
use Rattle.std.specs.Prelude.{ℕ, ◌≡◌, Bool, false, Option, Some, None, is_none}
use Rattle.meaning.specs.declared.ask.Ask.{Ask}
use Rattle.point_book.specs.Book.{BookState}
use Rattle.site_core.specs.State.{MachineState, Kept, ScheduleAnswer}
use Rattle.site_core.specs.Requests.{request_of}
use Rattle.site_core.specs.Right.{IsRight}
use Rattle.site_core.specs.declared.reply.Reply.{Reply}
use Rattle.site_core.specs.declared.reply.Reply.TheVariants.{Answered, NotYet}

-- the request of a number, with its book and its `Ask`
pub record RequestedJob : Type 0 where
  pub number : ℕ
  pub book : BookState
  pub ask : Ask

-- the same, with its answer
pub record HandedAnswer : Type 0 where
  pub number : ℕ
  pub book : BookState
  pub ask : Ask
  pub answer : ScheduleAnswer

-- the reply to a collect: the answer, or NotYet
abbrev pub reply_of : Option HandedAnswer → Reply
reply_of None = NotYet
reply_of (Some handed) = Answered handed.book handed.ask handed.answer

-- an answer that a reply hands out is right
abbrev pub HandsOutRight : Reply → Type 0
HandsOutRight reply =
    (book : BookState) (ask : Ask) (answer : ScheduleAnswer)
    → reply ≡ Answered book ask answer → IsRight book ask answer

-- whether the request of a number is kept and has no answer yet
abbrev pub has_no_answer : Option Kept → Bool
has_no_answer None = false
has_no_answer (Some kept) = is_none kept.answer

abbrev pub awaits : MachineState → ℕ → Bool
awaits state number = has_no_answer (request_of number state.requests)
