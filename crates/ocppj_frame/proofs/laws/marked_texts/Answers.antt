-- `Markings` proves the law.
use Rattle.ocppj_frame.proofs.Markings.{marked_by_rules}
use Rattle.ocppj_frame.proofs.laws.marked_texts.Goals as goal

pub returns : goal.returns
returns c = marked_by_rules
