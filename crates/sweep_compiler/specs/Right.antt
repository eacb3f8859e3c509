-- Right answers for a book and a request (OCPP 1.6, 5.7).
use Rattle.std.specs.Prelude.{Result}
use Rattle.ocpp_scalars.specs.declared.refusal.Refusal.{Refusal}
use Rattle.meaning.specs.declared.ask.Ask.{Ask}
use Rattle.meaning.specs.Composite.{CompositeSchedule}
use Rattle.meaning.specs.Limit.{limit_asked}
use Rattle.meaning.specs.Compiled.{IsCompiled}
use Rattle.point_book.specs.Book.{BookState, state_of}

-- the answer to a request for a composite schedule: the schedule, or the refusal
abbrev pub ScheduleAnswer : Type 0
ScheduleAnswer = Result CompositeSchedule Refusal

-- The right answers of a compiler: the exact schedule of the book's limits for the request;
-- ResultTooLong, if it is too long; or OutOfMemory.
abbrev pub IsCompiledFor : BookState → Ask → ScheduleAnswer → Type 0
IsCompiledFor book ask answer =
    IsCompiled (limit_asked (state_of book) ask.connector ask.start) ask.duration answer
