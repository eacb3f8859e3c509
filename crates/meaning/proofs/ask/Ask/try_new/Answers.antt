-- Each return is that of the definition, cause by cause.
use Rattle.std.proofs.Common.{sym, arith}
use Rattle.meaning.proofs.AskLemmas.{none_refused, long_refused, past_refused, ask_made}
use Rattle.meaning.proofs.ask.Ask.try_new.Goals as goal
use Rattle.meaning.proofs.ask.Ask.try_new.Goals.{then-duration-eq0-via-then-duration-eq0, then-duration-eq0-via-else-duration-eq0+then-duration-gt-MAX_DURATION}

pub returns-then-duration-eq0-clause-made : goal.returns-then-duration-eq0-clause-made
returns-then-duration-eq0-clause-made c =
    elim c.then-duration-eq0.branch [
      | then-duration-eq0-via-then-duration-eq0 w ↦ let refused = none_refused c.args.connector c.args.start c.args.duration in grind (arith, refused)
      | then-duration-eq0-via-else-duration-eq0+then-duration-gt-MAX_DURATION w ↦ let refused = long_refused c.args.connector c.args.start c.args.duration in grind (arith, refused)
    ]

pub returns-then-seconds-from-clause-made : goal.returns-then-seconds-from-clause-made
returns-then-seconds-from-clause-made c = sym (past_refused c.args.connector c.args.start c.args.duration (omega arith) (omega arith) (omega arith))

pub returns-clause-made : goal.returns-clause-made
returns-clause-made c = sym (ask_made _)
