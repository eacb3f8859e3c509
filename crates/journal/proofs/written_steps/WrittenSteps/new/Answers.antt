-- The file has its contents at the start.
use Rattle.std.proofs.Common.{◌++◌, ◌∷◌, [], List, ap, ◌∙◌}
use Rattle.append_log.specs.Contents.{file_of}
use Rattle.append_log.specs.Log.{contents, history}
use Rattle.journal.specs.Account.{FileState, NotedState}
use Rattle.journal.proofs.SyncLemmas.{begun_so}
use Rattle.journal.proofs.written_steps.WrittenSteps.new.Goals as goal

pub invariant_of-result : goal.invariant_of-result
invariant_of-result g c =
    let start : FileState = record { bytes = file_of (contents c.args.log); states = c.args.states } in
    begun_so (contents c.args.log) (history c.args.log) c.args.states c.in_ok-taken.taken c.add_from.new.self.entries
    (c.add_from.ensures ∙ ap (λ (fs : List FileState). fs ++ start ∷ []) c.named-syncs.ensures)
    (ap (λ (n : NotedState). n.first) c.in_ok-taken.ensures ∙ c.copy.ensures)
