-- The row waits if it has another place.
use Rattle.std.proofs.Common.{◌≡◌, ◌∙◌, ap, sym}
use Rattle.sweep_compiler.specs.ByCases.Running.{RunningBound, due_at}
use Rattle.sweep_compiler.specs.ByCases.Swept.{due_in}
use Rattle.sweep_compiler.proofs.PassedRows.{row_inside, due_of_bound}
use Rattle.sweep_compiler.proofs.Starting.{waits_not, waits_too}
use Rattle.sweep_compiler.proofs.gathering.add_row.Goals as goal

pub due-requires : goal.due-requires
due-requires c = record {
  within = row_inside c.args.bounds.now c.args.bound c.args.row c.index-bounds-bound.result c.requires.has_bound c.requires.has_row c.index-bounds-bound.is;
}

pub returns-in_default : goal.returns-in_default
returns-in_default c =
    let found : due_in c.args.bounds.now c.args.bound c.args.row ≡ c.due.result =
    due_of_bound c.args.bounds.now c.args.bound c.args.row c.index-bounds-bound.result c.requires.has_bound
    ∙ (ap (λ (bound : RunningBound). due_at bound.runs c.args.row) (sym c.index-bounds-bound.is) ∙ sym c.due.ensures) in
    waits_not c.args.bounds.now c.args.bound c.args.row c.args.queue.now c.requires.before (found ∙ c.in_default.is)

pub returns : goal.returns
returns c =
    let found : due_in c.args.bounds.now c.args.bound c.args.row ≡ c.due.result =
    due_of_bound c.args.bounds.now c.args.bound c.args.row c.index-bounds-bound.result c.requires.has_bound
    ∙ (ap (λ (bound : RunningBound). due_at bound.runs c.args.row) (sym c.index-bounds-bound.is) ∙ sym c.due.ensures) in
    waits_too c.args.bounds.now c.args.bound c.args.row c.in-Some.instant c.args.queue.now c.push.new.self c.requires.before (found ∙ c.in-Some.is) c.in_ok-push.ensures
