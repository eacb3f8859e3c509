-- The law is proved in `AskCauses`.
use Rattle.meaning.proofs.AskCauses.{asks_refused, asks_made}
use Rattle.meaning.proofs.ask_laws.asks.Goals as goal

pub returns-clause-refused : goal.returns-clause-refused
returns-clause-refused c = asks_refused

pub returns-clause-made : goal.returns-clause-made
returns-clause-made c = asks_made
