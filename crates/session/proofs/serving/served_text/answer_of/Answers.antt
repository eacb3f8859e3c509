-- The answer is for the book and the `Ask` of the job, which were compared.
use Rattle.session.proofs.ServedLemmas.{answered}
use Rattle.session.proofs.serving.served_text.answer_of.Goals as goal

pub returns-then-is_same-clause-outcome : goal.returns-then-is_same-clause-outcome
returns-then-is_same-clause-outcome g c =
    let books = c.same.ensures.0 c.if-same.true in
    let asks = c.is_same.ensures.0 c.if-is_same.true in
    answered c.args.job c.in-Ok.answer
    c.in-Ok.ensures.numbered
    (cc (books, c.deref.ensures, c.book.ensures, c.in-Ok-book.ensures))
    (cc (asks, c.ask.ensures, c.ask-then-same.ensures))
    c.in-Ok.ensures.right
