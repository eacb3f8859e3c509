-- The bytes that a crash leaves up to the sync.
use Rattle.std.proofs.Common.{false, ◌∙◌, ap}
use Rattle.append_log.specs.Writing.{with_first}
use Rattle.append_log.proofs.Writes.{syncs, sync_fails}
use Rattle.append_log.proofs.log.write_then_sync.Goals as goal

pub returns-in-Ok-clause-any_moment : goal.returns-in-Ok-clause-any_moment
returns-in-Ok-clause-any_moment g c =
    let was = g.F.AppendedFile.history c.args.file.now in
    let bytes = c.args.bytes.now in
    let written = c.in_ok-write_rest.ensures in
    let all = written.now ∙ ap (λ count. with_first was.now bytes count false) written.all in
    syncs was (g.F.AppendedFile.history c.write_rest.new.file) (g.F.AppendedFile.history c.sync.new.self) bytes all written.any_moment c.in-Ok.ensures

pub returns-in-Err-clause-any_moment : goal.returns-in-Err-clause-any_moment
returns-in-Err-clause-any_moment g c =
    let was = g.F.AppendedFile.history c.args.file.now in
    let bytes = c.args.bytes.now in
    let written = c.in_ok-write_rest.ensures in
    let all = written.now ∙ ap (λ count. with_first was.now bytes count false) written.all in
    sync_fails was (g.F.AppendedFile.history c.write_rest.new.file) (g.F.AppendedFile.history c.sync.new.self) bytes all written.any_moment c.in-Err.ensures
