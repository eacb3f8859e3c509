-- The case without pending bytes.
use Rattle.append_log.proofs.Writes.{nothing_tried}
use Rattle.append_log.proofs.log.Log.write_and_sync.Goals as goal

pub returns-then-is_empty-clause-any_moment : goal.returns-then-is_empty-clause-any_moment
returns-then-is_empty-clause-any_moment g c =
    let log = c.args.self.now in
    nothing_tried (g.F.AppendedFile.history log.file) log.pending.items log.in_file (log.in_step c.if-self.false)
