-- One line after another is restored, up to the first that can't be.
use Rattle.std.proofs.Common.{refl, arith}
use Rattle.journal.proofs.RestoreLemmas.{keeps_same}
use Rattle.journal.proofs.JournalLemmas.{none_read, more_read, stopped_at, shorter, keeps_on}
use Rattle.journal.proofs.restored.restore.Goals as goal

pub loop-line-init : goal.loop-line-init
loop-line-init g c = record {
  so_far = none_read c.args.book.now.present c.args.text.now;
  few = omega arith;
  pass = keeps_same c.args.pass.now c.args.pass.now refl;
}

pub loop-line-preserved : goal.loop-line-preserved
loop-line-preserved g c =
    let before = c.loop-line.invariant in
    let rest = c.loop-line.rest.now in
    let line = c.in-Some.line.now in
    let others = c.in-Some.others.now in
    let splits = c.in-Some.ensures.split in
    let done = c.in-Ok.ensures in
    record {
      so_far = more_read c.args.book.now.present c.loop-line.book.present c.restore_bytes.new.book.present
          c.args.text.now rest line others c.loop-line.number before.so_far splits done.restored;
      few = omega (arith, before.few, shorter rest line others splits);
      pass = keeps_on c.args.pass.now c.loop-line.pass c.restore_bytes.new.pass before.pass done.pass;
    }

pub returns-in-Err-clause-fault : goal.returns-in-Err-clause-fault
returns-in-Err-clause-fault g c =
    stopped_at c.args.book.now.present c.loop-line.book.present c.restore_bytes.new.book.present
    c.args.text.now c.loop-line.rest.now c.in-Some.line.now c.in-Some.others.now c.loop-line.number c.in-Err.fault
    c.loop-line.invariant.so_far c.in-Some.ensures.split c.in-Err.ensures.fault c.in-Err.ensures.kept
