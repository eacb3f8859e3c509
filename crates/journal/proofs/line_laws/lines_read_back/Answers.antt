-- A written line is read back.
use Rattle.std.proofs.Common.{Ok, ap, ◌∙◌}
use Rattle.journal.proofs.LineCodec.{line_read, line_feeds}
use Rattle.journal.proofs.line_laws.lines_read_back.Goals as goal

pub returns-clause-read : goal.returns-clause-read
returns-clause-read c line can = line_read c.instant_texts.ensures.again line can

pub returns-clause-same : goal.returns-clause-same
returns-clause-same c line can unbroken =
    line_read c.instant_texts.ensures.again line can ∙ ap Ok unbroken

pub returns-clause-one : goal.returns-clause-one
returns-clause-one c line can = line_feeds line can
