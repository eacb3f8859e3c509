-- The lines of the taken steps follow those that were there.
use Rattle.std.proofs.Common.{◌++◌, ap, ◌∙◌}
use Rattle.append_log.specs.Log.{contents, history}
use Rattle.journal.specs.Account.{NotedState, texts_of}
use Rattle.journal.proofs.SyncLemmas.{added_so}
use Rattle.journal.proofs.written_steps.WrittenSteps.add_lines.Goals as goal

pub invariant_of-self-2 : goal.invariant_of-self-2
invariant_of-self-2 g c =
    let inside = c.self.inside in
    let taken = inside.taken in
    let lines_are = c.as_bytes.ensures.value ∙ c.in_ok-push_lines.ensures.lines
    ∙ ap (λ t. t ++ texts_of taken.entries) c.new-lines.ensures.bytes in
    added_so (contents inside.accounted.log) (contents c.add.new.self)
    (history inside.accounted.log) (history c.add.new.self) inside.accounted.states
    c.copy.result taken c.reserve.new.self inside.syncs.entries c.as_bytes.result.now
    c.self.invariant c.push_lines.ensures.noted lines_are c.in_ok-add.ensures.ok
    (c.copy.ensures ∙ c.last.ensures)
    (ap (λ (n : NotedState). n.first) (c.reserve.ensures ∙ c.clear.ensures))
