-- The right answers to a request (OCPP 1.6, 5.7).
use Rattle.std.specs.Prelude.{Err}
use Rattle.ocpp_scalars.specs.declared.refusal.Refusal.TheVariants.{Stopped}
use Rattle.meaning.specs.declared.ask.Ask.{Ask}
use Rattle.point_book.specs.Book.{BookState}
pub use Rattle.sweep_compiler.specs.Right.{IsCompiledFor, ScheduleAnswer}

-- A right answer is one that a compiler may give for the book and the `Ask`, or Stopped, if the
-- central system was stopped before it was compiled.
abbrev pub IsRight : BookState → Ask → ScheduleAnswer → Type 0
IsRight book ask (Err Stopped) = Unit {0}
IsRight book ask answer = IsCompiledFor book ask answer
