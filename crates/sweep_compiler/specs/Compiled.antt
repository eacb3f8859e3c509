-- An answer to a request for a composite schedule, with its book and request (OCPP 1.6, 5.7).
use Rattle.meaning.specs.declared.ask.Ask.{Ask}
use Rattle.point_book.specs.Book.{BookState}
use Rattle.sweep_compiler.specs.Right.{ScheduleAnswer}

-- the answer to a request to a book
pub record CompiledAnswer : Type 0 where
  pub book : BookState
  pub ask : Ask
  pub answer : ScheduleAnswer
