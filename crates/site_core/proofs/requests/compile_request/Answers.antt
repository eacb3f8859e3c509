-- The request of the number is the one at the first place that has it.
use Rattle.std.proofs.Common.{◌≡◌, Some, None, is_some, true, slice_set, refl, sym, ap, ◌∙◌}
use Rattle.std.specs.List.{position}
use Rattle.std.proofs.lemmas.List.{set-get_or}
use Rattle.site_core.specs.State.{Kept}
use Rattle.site_core.specs.ByCases.Requests.{refusal_to_compile}
use Rattle.site_core.proofs.RequestLemmas.{has_number, none_of, answered_before, compiled_in}
use Rattle.site_core.proofs.requests.compile_request.Goals as goal

pub returns-in_default-clause-made : goal.returns-in_default-clause-made
returns-in_default-clause-made c =
    let none : None ≡ position (has_number c.args.number) c.args.requests.now.items = rw c.deref.ensures.value at c.in_default.ensures in
    (ap refusal_to_compile (none_of c.args.number c.args.requests.now.items none), refl)

pub returns-then-is_some-clause-made : goal.returns-then-is_some-clause-made
returns-then-is_some-clause-made c =
    let found : Some c.in-Some.place ≡ position (has_number c.args.number) c.args.requests.now.items = rw c.deref.ensures.value at c.in-Some.ensures in
    let kept = c.index_mut-request.result.now in
    let has : is_some kept.answer ≡ true = ap (λ (k : Kept). is_some k.answer) (sym c.request.view_is) ∙ sym c.if-is_some.ensures in (
      answered_before c.args.number c.args.requests.now.items c.in-Some.place kept found c.index_mut-request.ensures.value has,
      ap (λ (k : Kept). slice_set c.args.requests.now.items c.in-Some.place k) c.index_mut-request.ensures.value ∙ set-get_or c.args.requests.now.items c.in-Some.place kept,
    )

pub returns-clause-made : goal.returns-clause-made
returns-clause-made c =
    let found : Some c.in-Some.place ≡ position (has_number c.args.number) c.args.requests.now.items = rw c.deref.ensures.value at c.in-Some.ensures in
    let read = rw (← c.request.view_is) at c.index_mut-request.ensures.value in
    let right = rw c.book.ensures at c.compile-answer.ensures.compiled in
    compiled_in c.args.number c.args.requests.now.items c.in-Some.place _ c.compile-answer.result found read (sym c.if-is_some.ensures) right
