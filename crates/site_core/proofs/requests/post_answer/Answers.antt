-- The request of the number is the one at the first place that has it.
use Rattle.std.proofs.Common.{◌≡◌, Some, None, refl}
use Rattle.std.specs.List.{position}
use Rattle.site_core.proofs.RequestLemmas.{has_number, none_of, first_of, posted_in}
use Rattle.site_core.proofs.requests.post_answer.Goals as goal

pub returns-in_default-clause-refused : goal.returns-in_default-clause-refused
returns-in_default-clause-refused c =
    let none : None ≡ position (has_number c.args.number) c.args.requests.now.items = rw c.deref.ensures.value at c.in_default.ensures in
    rw (none_of c.args.number c.args.requests.now.items none) refl

pub returns-in-Err-clause-refused : goal.returns-in-Err-clause-refused
returns-in-Err-clause-refused c =
    let found : Some c.in-Some.place ≡ position (has_number c.args.number) c.args.requests.now.items = rw c.deref.ensures.value at c.in-Some.ensures in
    let first = first_of c.args.number c.args.requests.now.items c.in-Some.place c.index_mut-request.result.now found c.index_mut-request.ensures.value in
    rw first.is_kept c.in-Err.ensures

pub returns-clause-posted : goal.returns-clause-posted
returns-clause-posted c =
    let found : Some c.in-Some.place ≡ position (has_number c.args.number) c.args.requests.now.items = rw c.deref.ensures.value at c.in-Some.ensures in
    let read = rw (← c.request.view_is) at c.index_mut-request.ensures.value in
    let may = rw (← c.request.view_is) at c.in_default-check_post.ensures in
    posted_in c.args.number c.args.requests.now.items c.in-Some.place _ c.args.brought _ found read may c.into_answers-posted.ensures.right c.into_answers-posted.ensures.one
