-- Bytes that were synced once are still there.
use Rattle.std.proofs.Common.{sym, subst}
use Rattle.append_log.specs.Contents.{IsFirstPart}
use Rattle.append_log.specs.Log.{contents, history}
use Rattle.journal.specs.Account.{FileState, GoesOn, WrittenState, written_of}
use Rattle.journal.proofs.SyncLemmas.{stands_since}
use Rattle.journal.proofs.written_steps.WrittenSteps.compare.Goals as goal

pub returns-clause-goes_on : goal.returns-clause-goes_on
returns-clause-goes_on g c = λ recorded.
    let inside = c.self.inside in
    let since = stands_since (written_of (contents inside.accounted.log) (history inside.accounted.log)
    inside.accounted.states
    inside.taken inside.syncs.entries) inside.syncs.entries c.args.receipt.now c.self.invariant
    (c.compare.ensures recorded) in
    subst (λ (s : FileState). GoesOn s c.args.receipt.now.synced) (sym since.0) since.1.goes_on

pub returns-clause-stands : goal.returns-clause-stands
returns-clause-stands g c = λ recorded.
    let inside = c.self.inside in
    let since = stands_since (written_of (contents inside.accounted.log) (history inside.accounted.log)
    inside.accounted.states
    inside.taken inside.syncs.entries) inside.syncs.entries c.args.receipt.now c.self.invariant
    (c.compare.ensures recorded) in
    subst (λ (w : WrittenState). IsFirstPart c.args.receipt.now.synced.bytes w.contents.synced)
    c.self.view_is since.1.stands
