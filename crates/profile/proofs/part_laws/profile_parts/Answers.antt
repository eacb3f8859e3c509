-- The law is proved in `PartLemmas`.
use Rattle.profile.proofs.PartLemmas.{parts_refused, parts_made}
use Rattle.profile.proofs.part_laws.profile_parts.Goals as goal

pub returns-clause-refused : goal.returns-clause-refused
returns-clause-refused c = parts_refused

pub returns-clause-made : goal.returns-clause-made
returns-clause-made c = parts_made
