-- By the steps of the history.
use Rattle.site_core.proofs.TakenRequests.{requests_stay_right, requests_have_their_books, answers_go_on_right}
use Rattle.site_core.proofs.KeptRequests.{all_answered_after, requests_balance}
use Rattle.site_core.proofs.headline.requests_go_on_from_any_state.Goals as goal

pub returns-clause-opening : goal.returns-clause-opening
returns-clause-opening c = λ site numbers. tt

pub returns-clause-stay : goal.returns-clause-stay
returns-clause-stay c = requests_stay_right

pub returns-clause-books : goal.returns-clause-books
returns-clause-books c = requests_have_their_books

pub returns-clause-answers : goal.returns-clause-answers
returns-clause-answers c = answers_go_on_right

pub returns-clause-answered : goal.returns-clause-answered
returns-clause-answered c = all_answered_after

pub returns-clause-balance : goal.returns-clause-balance
returns-clause-balance c = requests_balance
