-- The line notes the step.
use Rattle.std.proofs.Common.{List, ℕ, ◌++◌, string_bytes, ap, ◌∙◌}
use Rattle.site_core.specs.declared.step.Step.TheVariants as steps
use Rattle.site_core.specs.declared.reply.Reply.TheVariants.{LinkLost}
use Rattle.journal.specs.Line.{lost, line_text}
use Rattle.journal.proofs.RestoreLemmas.{step_made}
use Rattle.journal.proofs.LostLemmas.{loses_at, one_loss}
use Rattle.journal.proofs.lost_links.lose.Goals as goal

pub returns-in-Ok-clause-here : goal.returns-in-Ok-clause-here
returns-in-Ok-clause-here g c =
    let old = c.args.book.now in
    let new = c.lost.new.self in
    (loses_at old.present new.present c.args.point c.args.link
    (step_made old new (steps.Lost c.args.point c.args.link) LinkLost c.in-Ok.ensures.makes)).here

pub returns-in-Ok-clause-others : goal.returns-in-Ok-clause-others
returns-in-Ok-clause-others g c =
    let old = c.args.book.now in
    let new = c.lost.new.self in
    (loses_at old.present new.present c.args.point c.args.link
    (step_made old new (steps.Lost c.args.point c.args.link) LinkLost c.in-Ok.ensures.makes)).others

pub returns-in-Ok-clause-lines : goal.returns-in-Ok-clause-lines
returns-in-Ok-clause-lines g c =
    let old = c.args.book.now in
    let new = c.lost.new.self in
    let before = string_bytes c.args.text.now in
    one_loss c.args.moment old.present new.present c.args.point c.args.link before (string_bytes c.push_line.new.text)
    (step_made old new (steps.Lost c.args.point c.args.link) LinkLost c.in-Ok.ensures.makes)
    (c.in_ok-push_line.ensures ∙ ap (λ (point : List ℕ). before ++ line_text (record { moment = c.args.moment; point = point; noted = lost c.args.link })) c.as_str.ensures)
