-- A step that is neither a Take nor a Confirm has the result of its call on the book.
use Rattle.std.proofs.Common.{rules}
use Rattle.session.proofs.PerformLemmas.{performs_call}
use Rattle.session.proofs.step.perform.Goals as goal

pub returns-in-Ok-make_step-clause-performs : goal.returns-in-Ok-make_step-clause-performs
returns-in-Ok-make_step-clause-performs g c =
    rw c.made-in-Ok-make_step.ensures
    (performs_call _ _ c.args.step _ _ _
    (λ take. search rules) (λ point link call accepted. search rules) (search rules))
