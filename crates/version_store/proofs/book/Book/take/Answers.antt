-- Only the version refuses a Take as Behind.
use Rattle.version_store.proofs.BehindLemmas.{behind_shown}
use Rattle.version_store.proofs.book.Book.take.Goals as goal

pub returns-in-Err-clause-behind : goal.returns-in-Err-clause-behind
returns-in-Err-clause-behind g c =
    behind_shown c.args.self.now c.args.pass.now (record {
      point = c.args.point;
      connector = c.args.connector;
      start = c.args.start;
      duration = c.args.duration;
      unit = c.args.unit;
      seen = c.seen.result;
    }) c.in-Err.refused.refusal c.seen.ensures c.in-Err.ensures.refusal
