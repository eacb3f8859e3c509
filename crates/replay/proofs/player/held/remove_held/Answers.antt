-- The request is at the index of the first one with its number.
use Rattle.std.proofs.Common.{◌+◌, Some, get_or, take, drop, ◌++◌, ◌∙◌, ap}
use Rattle.replay.specs.declared.player.held.Held.{Held}
use Rattle.replay.proofs.HeldLemmas.{absent, present, no_place, a_place}
use Rattle.replay.proofs.player.held.remove_held.Goals as goal

pub returns-in_err-place-clause-id : goal.returns-in_err-place-clause-id
returns-in_err-place-clause-id c =
    let held = c.args.held.now.items in
    c.from_residual.ensures ∙ (absent c.args.number held (no_place c.args.number held c.in_err-place.ensures)).0

pub returns-in_err-place-clause-left : goal.returns-in_err-place-clause-left
returns-in_err-place-clause-left c =
    let held = c.args.held.now.items in
    (absent c.args.number held (no_place c.args.number held c.in_err-place.ensures)).1

pub returns-clause-id : goal.returns-clause-id
returns-clause-id c =
    let held = c.args.held.now.items in
    let place = a_place c.args.number held c.in_ok-place.place c.in_ok-place.ensures in
    let read = c.remove.ensures.value ∙ ap (λ k. get_or held k c.remove.result) place.1 in
    ap (λ (one : Held). Some one.id) read ∙ (present c.args.number held c.remove.result place.0).0

pub returns-clause-left : goal.returns-clause-left
returns-clause-left c =
    let held = c.args.held.now.items in
    let place = a_place c.args.number held c.in_ok-place.place c.in_ok-place.ensures in
    c.remove.ensures.by_index.2 ∙ ap (λ k. take k held ++ drop (k + 1) held) place.1 ∙ (present c.args.number held c.remove.result place.0).1
