-- The change was made, with its number, or refused.
use Rattle.std.proofs.Common.{Some, ◌∙◌, ap}
use Rattle.journal.specs.Restore.{number_drawn, number_fault}
use Rattle.journal.proofs.RestoreLemmas.{told, leads, leads_refused, step_made, left, no_number}
use Rattle.journal.proofs.restoring.make_change.Goals as goal

pub returns-in-Ok-clause-leads : goal.returns-in-Ok-clause-leads
returns-in-Ok-clause-leads g c =
    let old = c.args.book.now in
    let new = c.make_step.new.self in
    let step = c.args.step in
    let reply = c.in-Ok.reply in
    let makes = c.in-Ok.ensures.calls.makes in
    leads old.present new.present (Some c.args.number) step reply c.compare.result
    (step_made old new step reply makes)
    (λ none. left old new step reply makes (no_number old.present step reply new.present.numbers.version c.requires c.in-Ok.ensures.own none))
    (c.compare.ensures ∙ ap (λ drawn. told (number_fault (Some c.args.number) drawn))
    (c.number_drawn.ensures ∙ ap (λ version. number_drawn reply version) c.version.ensures))

pub returns-in-Err-clause-leads : goal.returns-in-Err-clause-leads
returns-in-Err-clause-leads g c =
    leads_refused c.args.book.now c.make_step.new.self (Some c.args.number) c.args.step c.in-Err.refused.refusal c.from.result
    c.in-Err.ensures.refusal c.from.ensures c.in-Err.ensures.kept.0
