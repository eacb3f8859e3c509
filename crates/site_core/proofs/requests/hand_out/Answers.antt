-- The request of the number is the one at the first place that has it.
use Rattle.std.proofs.Common.{◌≡◌, Option, Some, None, refl, sym, ap}
use Rattle.std.specs.List.{position}
use Rattle.site_core.specs.State.{Kept}
use Rattle.site_core.specs.ByCases.Requests.{handed_kept}
use Rattle.site_core.proofs.RequestLemmas.{has_number, none_of, handed, handed_not_yet}
use Rattle.site_core.proofs.requests.hand_out.Goals as goal

pub returns-in_default-clause-made : goal.returns-in_default-clause-made
returns-in_default-clause-made c =
    let none : None ≡ position (has_number c.args.number) c.args.requests.now.items = rw c.deref.ensures.value at c.in_default.ensures in
    (ap (λ (found : Option Kept). handed_kept found c.args.requests.now.items) (none_of c.args.number c.args.requests.now.items none), refl)

pub returns-then-not-is_answered-clause-made : goal.returns-then-not-is_answered-clause-made
returns-then-not-is_answered-clause-made c =
    let found : Some c.in-Some.place ≡ position (has_number c.args.number) c.args.requests.now.items = rw c.deref.ensures.value at c.in-Some.ensures in
    handed_not_yet c.args.number c.args.requests.now.items c.in-Some.place c.index.result.now found c.index.ensures (sym c.if-not-is_answered.ensures)

pub returns-clause-made : goal.returns-clause-made
returns-clause-made c =
    let found : Some c.in-Some.place ≡ position (has_number c.args.number) c.args.requests.now.items = rw c.deref.ensures.value at c.in-Some.ensures in
    rw c.remove-request.ensures.items (handed c.args.number c.args.requests.now.items c.in-Some.place c.remove-request.result c.reply_of.result found c.remove-request.ensures.value c.reply_of.ensures.reply)
