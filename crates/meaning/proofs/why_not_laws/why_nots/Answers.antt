-- The law is proved in `WhyNots`.
use Rattle.meaning.proofs.WhyNots.{why_not_none}
use Rattle.meaning.proofs.why_not_laws.why_nots.Goals as goal

pub returns : goal.returns
returns c = why_not_none
